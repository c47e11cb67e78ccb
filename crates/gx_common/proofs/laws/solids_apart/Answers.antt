use Rattle.gx_common.proofs.Alternatives.{solids_apart}
use Rattle.gx_common.proofs.laws.solids_apart.Goals as goal

pub returns : goal.returns
returns c = solids_apart
