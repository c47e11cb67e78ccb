use Rattle.gx_check.specs.Verdicts.{pair_verdicts}
use Rattle.gx_check.proofs.Giving.{Going}
use Rattle.gx_check.proofs.Left.{pairs_left}
use Rattle.gx_check.proofs.check.check_pairs.Given as goal

-- those from an ordinal on are left
abbrev pub invariant-loop-first : goal.invariant-loop-first
invariant-loop-first g l =
    Going g.V.Verdicts.held g.V.Verdicts.items g.V.Verdicts.takes g.V.Verdicts.faults l.fn.out l.out l.selection (pair_verdicts l.mother l.daughters)
    (pairs_left l.mother l.daughters l.first) l.counts
