use Rattle.std.proofs.Common.{◌≡◌, ◌≤◌, ◌^◌, ℤ, pos, neg_ℤ, ◌-ℤ◌, unsigned_abs, to_z, of_z, arith}
use Rattle.std.specs.Int.{w128}
use Rattle.std.proofs.lemmas.Int.{ints, to_z-of_z, fits_signed_from_abs}
use Rattle.gx_fraction.specs.Fraction.{Fraction, IsNormal, opposite}
use Rattle.gx_fraction.proofs.fraction.Frac.neg.Goals as goal

same_opposite : (z : ℤ) → pos 0 -ℤ z ≡ neg_ℤ z
same_opposite z = omega (arith, ints)

abs_opposite : (z : ℤ) → unsigned_abs (neg_ℤ z) ≡ unsigned_abs z
abs_opposite z = omega (arith, ints)

small : (z : ℤ) → unsigned_abs z ≤ 2 ^ 126 → to_z w128 (of_z w128 z) ≡ z
small z h = to_z-of_z w128 z (fits_signed_from_abs w128 z (omega arith))

negated : (z : ℤ) → unsigned_abs z ≤ 2 ^ 126 → to_z w128 (of_z w128 (pos 0 -ℤ to_z w128 (of_z w128 z))) ≡ neg_ℤ z
negated z h = let e = same_opposite z in let a = abs_opposite z in let s = small z h in rw (s, e) (small (neg_ℤ z) (omega (arith, a)))

kept : (f : Fraction) → IsNormal f → IsNormal (opposite f)
kept f k =
    let e = abs_opposite f.num in
    record {
      lowest = record { positive = k.lowest.positive; coprime = rw e k.lowest.coprime };
      num = rw e k.num;
      den = k.den;
    }

pub invariant_of-result : goal.invariant_of-result
invariant_of-result c =
    let f = c.self.inside in
    let e = negated f.num (omega (arith, c.self.invariant.num)) in
    rw e (kept (record { num = f.num; den = f.den }) c.self.invariant)
