use Rattle.std.proofs.Common.{length}
use Rattle.gx_expr.specs.Descent.{IsSigned}
use Rattle.gx_expr.proofs.operator.signs.Given as goal

abbrev pub invariant-loop-sign : goal.invariant-loop-sign
invariant-loop-sign l = IsSigned l.fn.text l.text l.negative

abbrev pub decreases-loop-sign : goal.decreases-loop-sign
decreases-loop-sign l = length l.text
