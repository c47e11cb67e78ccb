use Rattle.gx_canon.proofs.Lines.{lines_back}
use Rattle.gx_canon.proofs.laws.lines_back.Goals as goal

pub returns : goal.returns
returns c = lines_back
