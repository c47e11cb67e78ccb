use Rattle.std.proofs.Common.{◌<◌, ◌+◌, ◌*◌, ◌^◌, ◌-◌, arith}
use Rattle.gx_expr.proofs.Numbers.{digit_range, few_digits, more_digits}
use Rattle.gx_expr.proofs.shift.longer.Goals as goal
use Rattle.gx_expr.proofs.shift.longer.Goals.{After-pow}

below : (c : After-pow) → c.args.value * c.pow.result + (c.args.digit - 48) < 10 ^ 18
below c =
    let range = digit_range c.args.digit c.requires.digit in
    let more = more_digits c.args.value c.args.count c.args.more (c.args.digit - 48) (c.requires.narrow (omega arith)) c.requires.more (omega (arith, range.1)) in
    rw c.pow.ensures (few_digits _ (c.args.count + c.args.more) more c.if-count-more-gt18.false)

pub overflow_mul-result : goal.overflow_mul-result
overflow_mul-result c = omega (arith, below c)

pub overflow_add-result : goal.overflow_add-result
overflow_add-result c = omega (arith, below c)
