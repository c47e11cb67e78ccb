use Rattle.std.proofs.Common.{◌≡◌, ◌+◌, ◌*◌}
use Rattle.std.specs.Ordering.{nat_cmp}
use Rattle.gx_num.proofs.number.cmp_long_products.Given as goal

-- the products compare as the first ones do
abbrev pub invariant-loop-c : goal.invariant-loop-c
invariant-loop-c l = nat_cmp (l.a * l.b) (l.c * l.d) ≡ nat_cmp (l.fn.a * l.fn.b) (l.fn.c * l.fn.d)

abbrev pub decreases-loop-c : goal.decreases-loop-c
decreases-loop-c l = l.b + l.c
