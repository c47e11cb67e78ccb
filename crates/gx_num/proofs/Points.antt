-- The common divisor of a point's four numbers, and the point divided by it.
use Rattle.std.proofs.Common.{◌≡◌, ℕ, zero, suc, ◌<◌, ◌≤◌, ◌/◌, ◌*◌, ◌^◌, ◌<ℤ◌, List, [], ◌∷◌, ℤ, pos, negsuc, unsigned_abs, int_div, sym, ap, ◌∙◌, arith, div-le_self, to_z, of_z}
use Rattle.std.specs.Int.{IsGcd, ◌∣◌, w128}
use mir.Val.{SFits}
use Rattle.std.proofs.lemmas.Int.{ints, to_z-of_z}
use Rattle.std.proofs.lemmas.Nat.Gcd.{le_of_dvd, mod-eq-zero_of_dvd}
use Rattle.std.proofs.Math.Nat.{div-add-mod, pos_of_dvd_of_pos}
use Rattle.gx_num.specs.Number.{common_divisor}
use Rattle.gx_num.specs.Vector4.{Vec4, divisor_of4, lowest4, IsLowestPoint}
use Rattle.gx_num.proofs.Divisors.{IsDivisor-cons, IsDivisor-two, IsDivisor-common_divisor, common_divisor-same, common_divisor-divided, unsigned_abs-int_div}

-- the magnitudes of the four numbers
abbrev numbers : Vec4 → List ℕ
numbers v = unsigned_abs v.x ∷ unsigned_abs v.y ∷ unsigned_abs v.z ∷ unsigned_abs v.w ∷ []

-- by greatest common divisors, from the last two on
pub divisor_of4-gcd : (v : Vec4) (last second first : ℕ) → IsGcd (unsigned_abs v.z) (unsigned_abs v.w) last → IsGcd (unsigned_abs v.y) last second → IsGcd (unsigned_abs v.x) second first → first ≡ divisor_of4 v
divisor_of4-gcd v last second first a b c =
    let zw = IsDivisor-two (unsigned_abs v.z) (unsigned_abs v.w) last a in
    let yzw = IsDivisor-cons (unsigned_abs v.y) (unsigned_abs v.z ∷ unsigned_abs v.w ∷ []) last second b zw in
    sym (common_divisor-same (numbers v) first (IsDivisor-cons (unsigned_abs v.x) (unsigned_abs v.y ∷ unsigned_abs v.z ∷ unsigned_abs v.w ∷ []) second first c yzw))

module _ (v : Vec4) (positive : pos 0 <ℤ v.w) where
  divides : divisor_of4 v ∣ unsigned_abs v.w
  divides = (IsDivisor-common_divisor (numbers v)).divides.1.1.1.0

  some : 0 < unsigned_abs v.w
  some = omega (arith, ints, positive)

  pub divisor_of4-pos : 0 < divisor_of4 v
  divisor_of4-pos = pos_of_dvd_of_pos divides some

  pub divisor_of4-le : divisor_of4 v ≤ unsigned_abs v.w
  divisor_of4-le = le_of_dvd some divides

  quotient_positive : (w : ℤ) (d : ℕ) → pos 0 <ℤ w → d ∣ unsigned_abs w → pos 0 <ℤ int_div w (pos d)
  quotient_positive (pos n) d h k = let q = factor d (n / d) n whole (omega (arith, ints, h)) in omega (arith, ints, q)
    where
      whole : d * (n / d) ≡ n
      whole = omega (arith, div-add-mod n d, mod-eq-zero_of_dvd d k)

      factor : (d q n : ℕ) → d * q ≡ n → 0 < n → 0 < q
      factor d zero n e lt = omega (arith, e, lt)
      factor d (suc q) n e lt = omega arith
  quotient_positive (negsuc n) d h k = absurd (omega (arith, ints, h))

  less : (a : ℤ) (bound : ℕ) → unsigned_abs a < bound → unsigned_abs (int_div a (pos (divisor_of4 v))) < bound
  less a bound h = omega (arith, h, unsigned_abs-int_div a (divisor_of4 v), div-le_self (unsigned_abs a) (divisor_of4 v))

  pub IsLowestPoint-lowest4 : unsigned_abs v.x < 2 ^ 126 → unsigned_abs v.y < 2 ^ 126 → unsigned_abs v.z < 2 ^ 126 → unsigned_abs v.w < 2 ^ 126 → IsLowestPoint (lowest4 v)
  IsLowestPoint-lowest4 x y z w = let d = divisor_of4 v in record {
    positive = quotient_positive v.w d positive divides;
    lowest =
        ap common_divisor (λ i. unsigned_abs-int_div v.x d i ∷ unsigned_abs-int_div v.y d i ∷ unsigned_abs-int_div v.z d i ∷ unsigned_abs-int_div v.w d i ∷ [])
        ∙ common_divisor-divided (numbers v) divisor_of4-pos;
    x = less v.x (2 ^ 126) x;
    y = less v.y (2 ^ 126) y;
    z = less v.z (2 ^ 126) z;
    w = less v.w (2 ^ 126) w;
  }

-- a quotient as the code's casts have it
pub quotient_by_bits : (a q : ℤ) (d : ℕ) → SFits w128 a → SFits w128 q → q ≡ int_div (to_z w128 (of_z w128 a)) (pos d) → to_z w128 (of_z w128 q) ≡ int_div a (pos d)
quotient_by_bits a q d fa fq e = to_z-of_z w128 q fq ∙ (e ∙ ap (λ (x : ℤ). int_div x (pos d)) (to_z-of_z w128 a fa))
