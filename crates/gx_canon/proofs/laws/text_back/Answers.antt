use Rattle.gx_canon.proofs.Declarations.{text_back}
use Rattle.gx_canon.proofs.laws.text_back.Goals as goal

pub returns : goal.returns
returns c = text_back
