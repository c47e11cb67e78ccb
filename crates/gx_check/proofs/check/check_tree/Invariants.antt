use Rattle.gx_check.specs.Verdicts.{verdicts}
use Rattle.gx_check.proofs.Giving.{Going}
use Rattle.gx_check.proofs.Left.{mothers_left}
use Rattle.gx_check.proofs.check.check_tree.Given as goal

-- the mothers from a number on are left
abbrev pub invariant-loop-mother : goal.invariant-loop-mother
invariant-loop-mother g l =
    Going g.V.Verdicts.held g.V.Verdicts.items g.V.Verdicts.takes g.V.Verdicts.faults l.fn.out l.out l.selection (verdicts l.tree)
    (mothers_left l.tree l.mother) l.counts
