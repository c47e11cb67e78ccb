use Rattle.gx_check.specs.Verdicts.{daughter_verdicts}
use Rattle.gx_check.proofs.Left.{daughters_left}
use Rattle.gx_check.proofs.Seeking.{Seeking}
use Rattle.gx_check.proofs.first.first_outer.Given as goal

-- none so far refutes
abbrev pub invariant-loop-ordinal : goal.invariant-loop-ordinal
invariant-loop-ordinal l = Seeking (daughter_verdicts l.mother l.outer l.daughters) (daughters_left l.mother l.outer l.daughters l.ordinal)
