use Rattle.gx_nest.proofs.Found.{each_ray}
use Rattle.gx_nest.proofs.laws.each_ray_has_report.Goals as goal

pub returns : goal.returns
returns c = each_ray
