use Rattle.gx_check.specs.Verdicts.{verdicts_with}
use Rattle.gx_check.proofs.Giving.{Going}
use Rattle.gx_check.proofs.Left.{with_left}
use Rattle.gx_check.proofs.check.check_with.Given as goal

-- those from an ordinal on are left
abbrev pub invariant-loop-second : goal.invariant-loop-second
invariant-loop-second g l =
    Going g.V.Verdicts.held g.V.Verdicts.items g.V.Verdicts.takes g.V.Verdicts.faults l.fn.out l.out l.selection (verdicts_with l.mother l.daughters l.first)
    (with_left l.mother l.daughters l.first l.second) l.counts
