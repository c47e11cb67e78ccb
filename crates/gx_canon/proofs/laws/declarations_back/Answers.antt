use Rattle.gx_canon.proofs.Declarations.{declarations_back}
use Rattle.gx_canon.proofs.laws.declarations_back.Goals as goal

pub returns : goal.returns
returns c = declarations_back
