-- Ratios in lowest terms or too wide, and powers of ten above 18.
use Rattle.std.proofs.Common.{◌≡◌, ℕ, suc, ◌+◌, ◌-◌, ◌*◌, ◌%◌, ◌^◌, ◌<◌, ◌≤◌, ℤ, pos, negsuc, neg_ℤ, ◌-ℤ◌, false, List, [], ◌∷◌, length, Ok, Err, Result, min, nat_le, refl, sym, ap, ◌∙◌, nat_lt, arith, inl, inr, ◌==◌}
use Rattle.std.specs.Prelude.{IsTrue, if◌then◌else◌, unsigned_abs}
use Rattle.std.proofs.Math.Nat.{div-one, pow-le-pow_right, min-eq_left, min-eq_right}
use Rattle.std.proofs.lemmas.Bool.{leb-true, le-leb, lt-leb, lt-ltb, le-ltb, cases_lt, and_parts}
use Rattle.std.proofs.lemmas.Int.{ints}
use Rattle.std.proofs.lemmas.Nat.{mul-le, pow-add}
use Rattle.std.proofs.lemmas.Nat.Gcd.{IsGcd-from_mod, IsGcd-from_zero, IsGcd-swap}
use Rattle.gx_num.specs.Number.{common_divisor}
use Rattle.gx_num.proofs.Divisors.{common_divisor-same, IsDivisor-two}
use Rattle.gx_fraction.specs.Fraction.{Fraction, lowest}
use Rattle.gx_expr.specs.declared.digits.Digits.{Digits}
use Rattle.gx_expr.specs.declared.exponent.TheConstants.{MAX_SIZE}
use Rattle.gx_expr.specs.declared.fault.ExprFault.{ExprFault}
use Rattle.gx_expr.specs.declared.fault.ExprFault.TheVariants.{TooWide}
use Rattle.gx_expr.specs.Digits.{placed, value_kept}
use Rattle.gx_expr.specs.Eval.{if_short}
use Rattle.gx_expr.specs.Token.{value_of_digits}
use Rattle.std.specs.Char.{is_ascii_digit}
use Rattle.gx_expr.specs.Quantity.{Quantity, ratio, if_narrow}

pub shift_small : (n k : ℕ) → n < 10 ^ 18 → k ≤ 18 → n * 10 ^ k < 2 ^ 125
shift_small n k h g = omega (arith, mul-le n (10 ^ k) (10 ^ 18) (10 ^ 18) (omega arith) (pow-le-pow_right {n = 10} (omega arith) g))

pub digit_range : (b : ℕ) → IsTrue (is_ascii_digit b) → (48 ≤ b) × (b ≤ 57)
digit_range b h = let both = and_parts (nat_le 48 b) (nat_le b 57) h in (leb-true 48 b both.0, leb-true b 57 both.1)

-- one more digit after k - 1 zeros
pub more_digits : (n count k b : ℕ) → n < 10 ^ count → 0 < k → b ≤ 9 → n * 10 ^ k + b < 10 ^ (count + k)
more_digits n count k b h g e =
    let power : 10 ^ (count + k) ≡ 10 ^ count * 10 ^ k = pow-add 10 count k in
    omega (arith, power, mul-le (n + 1) (10 ^ k) (10 ^ count) (10 ^ k) (omega arith) (omega arith), pow-le-pow_right {n = 10} (omega arith) g)

pub few_digits : (n count : ℕ) → n < 10 ^ count → count ≤ 18 → n < 10 ^ 18
few_digits n count h g = omega (arith, pow-le-pow_right {n = 10} (omega arith) g)

-- ---- ratios of which one number is 1

pub common_one : (n : ℕ) → common_divisor (1 ∷ n ∷ []) ≡ 1
common_one n = common_divisor-same (1 ∷ n ∷ []) 1 (IsDivisor-two 1 n 1 (IsGcd-swap n 1 1 (IsGcd-from_mod n 1 1 (IsGcd-from_zero 1 (n % 1) (omega arith)))))

lowest_whole : (n : ℤ) → lowest n 1 ≡ record { num = n; den = 1 }
lowest_whole (pos n) = rw (common_one n) (ap (λ (x : ℕ). let f : Fraction = record { num = pos x; den = 1 } in f) (div-one n))
lowest_whole (negsuc n) = rw (common_one (suc n)) (ap (λ (x : ℕ). let f : Fraction = record { num = neg_ℤ (pos x); den = 1 } in f) (div-one (suc n)))

pub ratio-whole : (n : ℤ) → unsigned_abs n ≤ 2 ^ 62 → ratio n (pos 1) false false ≡ Ok (record { number = record { num = n; den = 1 }; length = false; angle = false })
ratio-whole n h = ap (if_narrow false false) (lowest_whole n) ∙ rw (le-ltb (2 ^ 62) (unsigned_abs n) h) refl

-- ---- a few digits times a power of ten

pub placed_is : (digits : List ℕ) → nat_lt 18 (length digits) ≡ false → (up down : ℕ) → if_short digits (pos up -ℤ pos down) ≡ placed (value_of_digits digits) up down
placed_is digits few up down = elim (cases_lt up down) [
  | inl lt ↦
      let k : pos up -ℤ pos down ≡ negsuc (down - up - 1) = omega (arith, ints, lt) in
      let j : suc (down - up - 1) ≡ down - up = omega (arith, lt) in
      rw (k, few, j, lt-leb down up lt) refl
  | inr le ↦
      let k : pos up -ℤ pos down ≡ pos (up - down) = omega (arith, ints, le) in
      rw (k, few, le-leb down up le) refl
]

-- ---- exponents beyond MAX_SIZE

placed-far : (n up down : ℕ) → down + 18 < up → placed n up down ≡ Err TooWide
placed-far n up down h = rw (le-leb down up (omega arith), lt-ltb 18 (up - down) (omega arith)) refl

placed-low : (n up down : ℕ) → up + 18 < down → placed n up down ≡ Err TooWide
placed-low n up down h = rw (lt-leb down up (omega arith), lt-ltb 18 (down - up) (omega arith)) refl

-- the digits' value at an exponent is that at the exponent up to MAX_SIZE
module _ (d : Digits) where
  shown : (p q : ℕ × ℕ) → placed d.value (p.0 + d.zeros) p.1 ≡ placed d.value (q.0 + d.zeros) q.1 → value_kept d p.0 p.1 ≡ value_kept d q.0 q.1
  shown p q e = ap (λ (x : Result Quantity ExprFault). if d.count == 0 then ratio (pos 0) (pos 1) false false else if nat_lt 18 d.count then Err TooWide else x) e

  pub capped_up : (n places : ℕ) → places < 2 ^ 64 → value_kept d (min MAX_SIZE n) places ≡ value_kept d n places
  capped_up n places h = elim (cases_lt MAX_SIZE n) [
    | inl lt ↦
        let e : min MAX_SIZE n ≡ MAX_SIZE = min-eq_left (omega (arith, lt)) in
        shown (min MAX_SIZE n, places) (n, places) (rw e (placed-far d.value (MAX_SIZE + d.zeros) places (omega arith)) ∙ sym (placed-far d.value (n + d.zeros) places (omega arith)))
    | inr le ↦ let e : min MAX_SIZE n ≡ n = min-eq_right le in ap (λ (x : ℕ). value_kept d x places) e
  ]

  pub capped_down : (n places : ℕ) → d.zeros < 2 ^ 64 → value_kept d 0 (places + min MAX_SIZE n) ≡ value_kept d 0 (places + n)
  capped_down n places h = elim (cases_lt MAX_SIZE n) [
    | inl lt ↦
        let e : min MAX_SIZE n ≡ MAX_SIZE = min-eq_left (omega (arith, lt)) in
        shown (0, places + min MAX_SIZE n) (0, places + n) (rw e (placed-low d.value (0 + d.zeros) (places + MAX_SIZE) (omega arith)) ∙ sym (placed-low d.value (0 + d.zeros) (places + n) (omega arith)))
    | inr le ↦ let e : min MAX_SIZE n ≡ n = min-eq_right le in ap (λ (x : ℕ). value_kept d 0 (places + x)) e
  ]
