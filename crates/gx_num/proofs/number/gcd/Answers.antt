use Rattle.std.proofs.lemmas.Nat.Gcd.{IsGcd-from_mod, IsGcd-from_zero}
use Rattle.gx_num.proofs.number.gcd.Goals as goal

pub loop-y-preserved : goal.loop-y-preserved
loop-y-preserved c = λ g h. c.loop-y.invariant g (IsGcd-from_mod _ _ _ h)

pub returns-then-y-eq0 : goal.returns-then-y-eq0
returns-then-y-eq0 c = c.loop-y.invariant _ (IsGcd-from_zero _ _ c.if-y-eq0.true)

pub returns : goal.returns
returns c = rw c.from-2.ensures (c.loop-y.invariant _ (IsGcd-from_mod _ _ _ c.short_gcd.ensures))
