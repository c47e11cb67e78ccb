use Rattle.gx_tree.proofs.Descent.{descent_ends}
use Rattle.gx_tree.proofs.laws.descent_ends.Goals as goal

pub returns : goal.returns
returns c = descent_ends
