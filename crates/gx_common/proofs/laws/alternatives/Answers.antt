use Rattle.gx_common.proofs.Alternatives.{alternatives}
use Rattle.gx_common.proofs.laws.alternatives.Goals as goal

pub returns : goal.returns
returns c = alternatives
