use Rattle.std.proofs.Common.{◌<◌, arith}
use Rattle.gx_plane.specs.Plane.{normal_reach, divisor_of}
use Rattle.gx_plane.proofs.Divisors.{divisor_of-le, IsWithin-primitive}
use Rattle.gx_plane.proofs.Invariants.{IsPlane-with, none-plane_with, some-plane_with}
use borrow.Author.Differences.{ints}
use Rattle.gx_plane.proofs.plane.with_normal.Goals as goal

pub signed-requires : goal.signed-requires
signed-requires c = omega (arith, c.divisor-divisor.ensures, divisor_of-le c.args.normal normal_reach c.requires.normal)

pub product-requires-clause-normal : goal.product-requires-clause-normal
product-requires-clause-normal c = rw c.divided-n.ensures (IsWithin-primitive c.args.normal normal_reach c.requires.normal)

pub invariant_of-result : goal.invariant_of-result
invariant_of-result c =
    let level = c.product.ensures.within in
    let lt : 0 < divisor_of c.args.normal = omega (arith, c.divisor-divisor.ensures, c.if-divisor-eq0.false) in
    IsPlane-with c.args.normal c.divided-n.result _ lt c.requires.normal c.divided-n.ensures (omega (arith, ints, level))

pub returns-then-divisor-eq0 : goal.returns-then-divisor-eq0
returns-then-divisor-eq0 c = none-plane_with c.args.normal c.args.a (omega (arith, c.divisor-divisor.ensures, c.if-divisor-eq0.true))

pub returns : goal.returns
returns c =
    let level = c.product.ensures.within in
    let lt : 0 < divisor_of c.args.normal = omega (arith, c.divisor-divisor.ensures, c.if-divisor-eq0.false) in
    some-plane_with c.args.normal c.args.a c.divided-n.result _ lt c.divided-n.ensures (omega (arith, ints, level, c.product.ensures.value))
