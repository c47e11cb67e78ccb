use Rattle.gx_contain.proofs.Containment.{containment}
use Rattle.gx_contain.proofs.laws.containment.Goals as goal

pub returns : goal.returns
returns c = containment
