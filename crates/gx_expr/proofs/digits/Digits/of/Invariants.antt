use Rattle.gx_expr.specs.Digits.{IsDigitsOf}
use Rattle.gx_expr.specs.Eval.{trimmed}
use Rattle.gx_expr.proofs.digits.Digits.of.Given as goal

abbrev pub invariant-loop-digit : goal.invariant-loop-digit
invariant-loop-digit l = IsDigitsOf (trimmed l.yielded) l.digits
