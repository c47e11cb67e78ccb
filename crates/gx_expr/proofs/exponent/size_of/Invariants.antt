use Rattle.std.proofs.Common.{◌≡◌, min, take}
use Rattle.gx_expr.specs.declared.exponent.TheConstants.{MAX_SIZE}
use Rattle.gx_expr.specs.Token.{value_of_digits}
use Rattle.gx_expr.proofs.exponent.size_of.Given as goal

abbrev pub invariant-loop-digit : goal.invariant-loop-digit
invariant-loop-digit l = l.size ≡ min MAX_SIZE (value_of_digits (take l.digit-index l.digits))
