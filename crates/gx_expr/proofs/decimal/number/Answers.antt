use Rattle.std.proofs.Common.{◌∙◌, ◌++◌, length, arith}
use Rattle.gx_expr.proofs.KeptDigits.{value-up, value-down}
use Rattle.gx_expr.proofs.decimal.number.Goals as goal

pub returns-then-exponent-clause-value : goal.returns-then-exponent-clause-value
returns-then-exponent-clause-value c =
    let e = c.exponent-exponent.ensures.power in
    let fraction = c.fraction-fraction.result.now in
    let value = value-down (c.run-whole.result.now ++ fraction) c.of-digits.result c.of-digits.ensures e.magnitude c.exponent-exponent.result.size (length fraction) e.size (omega arith) in
    rw (← c.run-whole.ensures.what, ← c.run-whole.ensures.rest, ← c.fraction-fraction.ensures.what, ← c.fraction-fraction.ensures.rest, e.what, c.if-exponent.true) (c.value_at.ensures ∙ value)

pub returns-else-exponent-clause-value : goal.returns-else-exponent-clause-value
returns-else-exponent-clause-value c =
    let e = c.exponent-exponent.ensures.power in
    let fraction = c.fraction-fraction.result.now in
    let value = value-up (c.run-whole.result.now ++ fraction) c.of-digits.result c.of-digits.ensures e.magnitude c.exponent-exponent.result.size (length fraction) e.size (omega arith) in
    rw (← c.run-whole.ensures.what, ← c.run-whole.ensures.rest, ← c.fraction-fraction.ensures.what, ← c.fraction-fraction.ensures.rest, e.what, c.if-exponent.false) (c.value_at-else-exponent.ensures ∙ value)
