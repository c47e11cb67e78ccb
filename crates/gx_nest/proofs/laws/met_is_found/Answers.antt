use Rattle.gx_nest.proofs.OneHit.{met_is_found}
use Rattle.gx_nest.proofs.laws.met_is_found.Goals as goal

pub returns : goal.returns
returns c = met_is_found
