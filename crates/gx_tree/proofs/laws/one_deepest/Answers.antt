use Rattle.gx_tree.proofs.Descent.{one_deepest}
use Rattle.gx_tree.proofs.laws.one_deepest.Goals as goal

pub returns : goal.returns
returns c = one_deepest
