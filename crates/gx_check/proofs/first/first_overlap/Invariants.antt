use Rattle.gx_check.specs.Verdicts.{pair_verdicts}
use Rattle.gx_check.proofs.Left.{pairs_left}
use Rattle.gx_check.proofs.Seeking.{Seeking}
use Rattle.gx_check.proofs.first.first_overlap.Given as goal

-- none so far refutes
abbrev pub invariant-loop-first : goal.invariant-loop-first
invariant-loop-first l = Seeking (pair_verdicts l.mother l.daughters) (pairs_left l.mother l.daughters l.first)
