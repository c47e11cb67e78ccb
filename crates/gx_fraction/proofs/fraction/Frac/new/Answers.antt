use Rattle.std.proofs.Common.{◌<◌, ◌/◌, unsigned_abs, arith, to_z, of_z, rules}
use Rattle.std.specs.Int.{w128}
use mir.Val.{SFits}
use Rattle.std.proofs.lemmas.Int.{ints}
use Rattle.gx_fraction.proofs.Reduced.{reduced_by_bits, Reduces}
use Rattle.gx_fraction.proofs.Gcd.{positive_gcd}
use Rattle.gx_fraction.proofs.fraction.Frac.new.Goals as goal
use Rattle.gx_fraction.proofs.fraction.Frac.new.Goals.{After-gcd-divisor, After-with_sign}

divisor_positive : (c : After-gcd-divisor) → 0 < c.gcd-divisor.result
divisor_positive c = positive_gcd c.unsigned_abs-magnitude.result c.unsigned_abs-whole.result _ (omega (arith, ints)) c.gcd-divisor.ensures

made : (c : After-with_sign) → Reduces c.args.num (unsigned_abs c.args.den)
    (record { num = to_z w128 (of_z w128 c.with_sign.result); den = c.unsigned_abs-whole.result / c.gcd-divisor.result })
made c =
    let result : SFits w128 c.with_sign.result = search rules in
    reduced_by_bits c.args.num c.args.den c.with_sign.result _ _ _ c.ranges.num c.ranges.den result c.requires.positive c.requires.num c.requires.den
    c.unsigned_abs-magnitude.ensures.value c.unsigned_abs-whole.ensures.value c.gcd-divisor.ensures c.with_sign.ensures

pub nonzero_div-magnitude : goal.nonzero_div-magnitude
nonzero_div-magnitude c = divisor_positive c

pub nonzero_div-result : goal.nonzero_div-result
nonzero_div-result c = divisor_positive (goal.at.nonzero_div-result c).After-gcd-divisor

pub invariant_of-result : goal.invariant_of-result
invariant_of-result c = (made c).kept

pub returns-clause-lowest : goal.returns-clause-lowest
returns-clause-lowest c = (made c).kept.lowest

pub returns-clause-equal : goal.returns-clause-equal
returns-clause-equal c = (made c).equal

pub returns-clause-value : goal.returns-clause-value
returns-clause-value c = (made c).value
