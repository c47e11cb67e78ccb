use Rattle.gx_check.specs.Verdicts.{verdicts_with}
use Rattle.gx_check.proofs.Left.{with_left}
use Rattle.gx_check.proofs.Seeking.{Seeking}
use Rattle.gx_check.proofs.first.first_overlap_with.Given as goal

-- none so far refutes
abbrev pub invariant-loop-second : goal.invariant-loop-second
invariant-loop-second l = Seeking (verdicts_with l.mother l.daughters l.first) (with_left l.mother l.daughters l.first l.second)
