use Rattle.gx_expr.proofs.Numbers.{few_digits}
use Rattle.gx_expr.proofs.digits.Digits.value_at.Goals as goal

pub raised-requires : goal.raised-requires
raised-requires c = few_digits c.args.self.now.value c.args.self.now.count (c.args.self.now.narrow c.if-self-gt18.false) c.if-self-gt18.false

pub lowered-requires : goal.lowered-requires
lowered-requires c = few_digits c.args.self.now.value c.args.self.now.count (c.args.self.now.narrow c.if-self-gt18.false) c.if-self-gt18.false
