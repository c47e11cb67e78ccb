use Rattle.gx_check.specs.Verdicts.{verdicts}
use Rattle.gx_check.proofs.Left.{mothers_left}
use Rattle.gx_check.proofs.Seeking.{Seeking}
use Rattle.gx_check.proofs.first.first_refuted.Given as goal

-- none so far refutes
abbrev pub invariant-loop-mother : goal.invariant-loop-mother
invariant-loop-mother l = Seeking (verdicts l.tree) (mothers_left l.tree l.mother)
