-- What division by the greatest common divisor makes of a fraction.
use Rattle.std.proofs.Common.{◌≡◌, ℕ, ℤ, pos, negsuc, neg_ℤ, zero, suc, ◌*◌, ◌/◌, ◌<◌, ◌≤◌, ◌^◌, ◌*ℤ◌, refl, sym, subst, ap, ◌∙◌, arith, unsigned_abs, [], ◌∷◌}
use Rattle.std.specs.Prelude.{if◌then◌else◌, int_lt, nat_lt, false}
use Rattle.std.specs.Int.{IsGcd}
use Rattle.std.proofs.Math.Nat.{div-mul_cancel}
use Rattle.std.proofs.Common.{◌<ℤ◌, to_z, of_z}
use Rattle.std.specs.Int.{w128}
use mir.Val.{SFits}
use Rattle.std.proofs.lemmas.Int.{ints, to_z-of_z}
use Rattle.std.proofs.lemmas.Bool.Decides.{nat_tests}
use Rattle.std.proofs.lemmas.Nat.{mul-le}
use Rattle.std.proofs.lemmas.Nat.Gcd.{IsGcd-swap}
use Rattle.std.specs.Prelude.{int_div}
use Rattle.gx_num.specs.Number.{common_divisor}
use Rattle.gx_num.proofs.Divisors.{common_divisor-same, IsDivisor-two}
use Rattle.gx_fraction.specs.Fraction.{Fraction, IsEqual, IsNormal, lowest}
use Rattle.gx_fraction.proofs.Gcd.{coprime, crossed, positive_gcd, positive_quotient}

factor_le : (m g n : ℕ) → 0 < g → m * g ≡ n → m ≤ n
factor_le m g n h e = omega (arith, mul-le m 1 m g (omega arith) h)

times_negative : (m e : ℕ) → neg_ℤ (pos m) *ℤ pos e ≡ neg_ℤ (pos (m * e))
times_negative zero e = let none : 0 * e ≡ 0 = omega arith in rw none refl
times_negative (suc m) e = refl

same_negative : (m n d e : ℕ) → m * e ≡ n * d → neg_ℤ (pos m) *ℤ pos e ≡ neg_ℤ (pos n) *ℤ pos d
same_negative m n d e h = times_negative m e ∙ ap (λ x. neg_ℤ (pos x)) h ∙ sym (times_negative n d)

sign_abs : (m : ℕ) → unsigned_abs (neg_ℤ (pos m)) ≡ m
sign_abs zero = refl
sign_abs (suc m) = refl

module _ (a den g : ℕ) (positive : 0 < den) (small : a < 2 ^ 126) (few : den < 2 ^ 126) (is : IsGcd a den g) where
  over : den / g * g ≡ den
  over = div-mul_cancel g is.1

  under : a / g * g ≡ a
  under = div-mul_cancel g is.0

  pub kept : (z : ℤ) → unsigned_abs z ≡ a / g → IsNormal (record { num = z; den = den / g })
  kept z e =
      let divides = positive_gcd a den g positive is in
      let n = factor_le (a / g) g a divides under in
      let d = factor_le (den / g) g den divides over in
      record {
        lowest = record {
          positive = positive_quotient a den g positive is;
          coprime = subst (λ (x : ℕ). IsGcd x (den / g) 1) (sym e) (coprime a den g divides is);
        };
        num = omega arith;
        den = omega arith;
      }

pub record Reduces (num : ℤ) (den : ℕ) (f : Fraction) : Type 0 where
  pub kept : IsNormal f
  pub equal : IsEqual f (record { num = num; den = den })
  pub value : f ≡ lowest num den

-- a quotient with the sign of the dividend
signed_quotient : (m g : ℕ) → 0 < g → int_div (negsuc m) (pos g) ≡ neg_ℤ (pos (suc m / g))
signed_quotient m g h = refl

value_is : (num z : ℤ) (den g : ℕ) → common_divisor (den ∷ unsigned_abs num ∷ []) ≡ g → z ≡ int_div num (pos g) → record { num = z; den = den / g } ≡ lowest num den
value_is num z den g e h = rw (e, h) refl

no_less : (n : ℕ) → nat_lt n 0 ≡ false
no_less n = grind (arith, nat_tests)

pub reduced : (num z : ℤ) (den g : ℕ) → 0 < den → unsigned_abs num < 2 ^ 126 → den < 2 ^ 126 → IsGcd (unsigned_abs num) den g
    → z ≡ (if int_lt num (pos 0) then neg_ℤ (pos (unsigned_abs num / g)) else pos (unsigned_abs num / g)) → Reduces num den (record { num = z; den = den / g })
reduced (pos n) z den g p s f is e =
    let whole : z ≡ pos (n / g) = rw (no_less n) at e in
    record {
      kept = kept n den g p s f is z (ap unsigned_abs whole);
      equal = rw whole (ap pos (crossed n den g is));
      value = value_is (pos n) z den g (common_divisor-same (den ∷ n ∷ []) g (IsDivisor-two den n g (IsGcd-swap n den g is))) whole;
    }
reduced (negsuc n) z den g p s f is e = record {
  kept = kept (suc n) den g p s f is z (ap unsigned_abs e ∙ sign_abs (suc n / g));
  equal = rw e (same_negative (suc n / g) (suc n) (den / g) den (crossed (suc n) den g is));
  value = value_is (negsuc n) z den g (common_divisor-same (den ∷ suc n ∷ []) g (IsDivisor-two den (suc n) g (IsGcd-swap (suc n) den g is))) (e ∙ sym (signed_quotient n g (positive_gcd (suc n) den g p is)));
}

-- the same, as the code's casts have it
pub reduced_by_bits : (num den z : ℤ) (m d g : ℕ) → SFits w128 num → SFits w128 den → SFits w128 z → pos 0 <ℤ den → unsigned_abs num < 2 ^ 126 → unsigned_abs den < 2 ^ 126
    → m ≡ unsigned_abs (to_z w128 (of_z w128 num)) → d ≡ unsigned_abs (to_z w128 (of_z w128 den)) → IsGcd m d g
    → z ≡ (if int_lt (to_z w128 (of_z w128 num)) (pos 0) then neg_ℤ (pos (m / g)) else pos (m / g))
    → Reduces num (unsigned_abs den) (record { num = to_z w128 (of_z w128 z); den = d / g })
reduced_by_bits num den z m d g fn fd fz p s f hm hd is e =
    let of_num : m ≡ unsigned_abs num = hm ∙ ap unsigned_abs (to_z-of_z w128 num fn) in
    let of_den : d ≡ unsigned_abs den = hd ∙ ap unsigned_abs (to_z-of_z w128 den fd) in
    let same = to_z-of_z w128 num fn in
    let whole : z ≡ (if int_lt num (pos 0) then neg_ℤ (pos (unsigned_abs num / g)) else pos (unsigned_abs num / g)) = rw (same, of_num) at e in
    let back = to_z-of_z w128 z fz in
    rw (back, of_den) (reduced num z (unsigned_abs den) g (omega (arith, ints)) s f (rw (of_num, of_den) at is) whole)
