use Rattle.gx_navigator.proofs.Counted.{counted}
use Rattle.gx_navigator.proofs.laws.each_ray_has_a_cost.Goals as goal

pub returns : goal.returns
returns c = counted
