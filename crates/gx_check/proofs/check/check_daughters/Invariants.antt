use Rattle.gx_check.specs.Verdicts.{daughter_verdicts}
use Rattle.gx_check.proofs.Giving.{Going}
use Rattle.gx_check.proofs.Left.{daughters_left}
use Rattle.gx_check.proofs.check.check_daughters.Given as goal

-- those from an ordinal on are left
abbrev pub invariant-loop-ordinal : goal.invariant-loop-ordinal
invariant-loop-ordinal g l =
    Going g.V.Verdicts.held g.V.Verdicts.items g.V.Verdicts.takes g.V.Verdicts.faults l.fn.out l.out l.selection (daughter_verdicts l.mother l.outer l.daughters)
    (daughters_left l.mother l.outer l.daughters l.ordinal) l.counts
