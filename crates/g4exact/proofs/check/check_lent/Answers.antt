use Rattle.gx_print.proofs.InRange.{verdicts-in_range}
use Rattle.g4exact.proofs.check.check_lent.Goals as goal

pub check_tree-result-requires : goal.check_tree-result-requires
check_tree-result-requires g c = verdicts-in_range c.args.tree.now
