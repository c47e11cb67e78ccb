use Rattle.std.proofs.Common.{refl}
use Rattle.gx_expr.proofs.KeptDigits.{pushed-first, pushed-zero, pushed-digit}
use Rattle.gx_expr.proofs.digits.Digits.push.Goals as goal

pub returns-else-self-gt0 : goal.returns-else-self-gt0
returns-else-self-gt0 c = λ s kept. rw c.if-digit-eq48.true (pushed-first s c.args.self.now kept c.if-self-gt0.false)

pub returns-then-self-gt0 : goal.returns-then-self-gt0
returns-then-self-gt0 c = λ s kept. rw c.if-digit-eq48.true (pushed-zero s c.args.self.now kept _ c.if-self-gt0.true refl refl refl)

pub returns : goal.returns
returns c = λ s kept.
    pushed-digit s c.args.self.now kept _ c.args.digit c.if-digit-eq48.false c.longer.ensures.value refl refl
