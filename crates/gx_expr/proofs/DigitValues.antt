-- The value of digits, and the zeros at both ends.
use Rattle.std.proofs.Common.{◌≡◌, ℕ, ◌+◌, ◌-◌, ◌*◌, ◌<◌, ◌≤◌, ◌^◌, ◌==◌, true, false, cond, List, [], ◌∷◌, ◌++◌, length, take, drop, reverse, fold, refl, ap, ◌∙◌, subst, arith, one-add, add-one, zero-add, inl, inr, length-append, length-take}
use Rattle.std.specs.Prelude.{if◌then◌else◌}
use Rattle.std.specs.List.{list_all, prefix_len}
use Rattle.std.proofs.Math.Nat.{pow-suc, pow-le-pow_right}
use Rattle.std.proofs.lemmas.Bool.{and_parts, cases_Bool, eqb-true}
use Rattle.std.proofs.lemmas.List.{reverse-append, reverse-reverse, take_all, take-append-le}
use Rattle.std.proofs.lemmas.List.Sums.{fold_push}
use Rattle.gx_expr.specs.Eval.{zeros_before, zeros_after, trimmed, front_of}
use Rattle.gx_expr.specs.Token.{value_of_digits}
use Rattle.std.specs.Char.{is_ascii_digit}
use Rattle.gx_expr.proofs.Numbers.{digit_range}

pub ten_more : (k : ℕ) → 10 ^ (k + 1) ≡ 10 ^ k * 10
ten_more k = rw add-one (pow-suc 10 k)

-- ---- the value of digits

abbrev step : ℕ → ℕ → ℕ
step value b = 10 * value + (b - 48)

value-below : (s : List ℕ) (value k : ℕ) → value < 10 ^ k → list_all is_ascii_digit s ≡ true → fold step value s < 10 ^ (length s + k)
value-below [] value k h e = simp (zero-add) h
value-below (b ∷ s) value k h e =
    let both = and_parts (is_ascii_digit b) (list_all is_ascii_digit s) e in
    let range = digit_range b both.0 in
    let more : step value b < 10 ^ (k + 1) = rw (ten_more k) (omega (arith, range.1)) in
    let size : length s + (k + 1) ≡ length (b ∷ s) + k = omega arith in
    rw (← size) (value-below s (step value b) (k + 1) more both.1)

pub digits-below : (s : List ℕ) → list_all is_ascii_digit s ≡ true → value_of_digits s < 10 ^ length s
digits-below s e = subst (λ (k : ℕ). value_of_digits s < 10 ^ k) (omega arith) (value-below s 0 0 (omega arith) e)

-- what a loop has read of a few digits
pub few_more : (s : List ℕ) (i : ℕ) → i < length s → length s ≤ 9 → list_all is_ascii_digit (take i s) ≡ true → value_of_digits (take i s) < 10 ^ 8
few_more s i h few e = omega (arith, digits-below (take i s) e, length-take i s, pow-le-pow_right {n = 10} (omega arith) {i = length (take i s)} {j = 8} (omega (arith, length-take i s)))

-- ---- the zeros at both ends

pub trimmed-cons : (c : ℕ) (s : List ℕ) → trimmed (c ∷ s) ≡ (if c == 48 then trimmed s else c ∷ s)
trimmed-cons c s = elim (c == 48) as (λ z. drop (cond z (1 + zeros_before s) 0) (c ∷ s) ≡ (if z then trimmed s else c ∷ s)) [ true ↦ rw one-add refl | false ↦ refl ]

pub zeros_after-more : (s : List ℕ) (b : ℕ) → zeros_after (s ++ b ∷ []) ≡ cond (b == 48) (1 + zeros_after s) 0
zeros_after-more s b = ap (prefix_len (λ b. b == 48)) (reverse-append s (b ∷ []))

pub front_of-zero : (s : List ℕ) → front_of (s ++ 48 ∷ []) ≡ front_of s
front_of-zero s =
    let more : zeros_after (s ++ 48 ∷ []) ≡ 1 + zeros_after s = zeros_after-more s 48 in
    let size : length (s ++ 48 ∷ []) - zeros_after (s ++ 48 ∷ []) ≡ length s - zeros_after s = omega (arith, more, length-append s (48 ∷ [])) in
    ap (λ (k : ℕ). take k (s ++ 48 ∷ [])) size ∙ take-append-le (length s - zeros_after s) s (48 ∷ []) (omega arith)

pub front_of-digit : (s : List ℕ) (b : ℕ) → b == 48 ≡ false → front_of (s ++ b ∷ []) ≡ s ++ b ∷ []
front_of-digit s b other =
    let none : zeros_after (s ++ b ∷ []) ≡ 0 = zeros_after-more s b ∙ rw other refl in
    take_all (length (s ++ b ∷ []) - zeros_after (s ++ b ∷ [])) (s ++ b ∷ []) (omega (arith, none))

front_value-more : (s : List ℕ) (b : ℕ) → value_of_digits s ≡ value_of_digits (front_of s) * 10 ^ zeros_after s → value_of_digits (s ++ b ∷ []) ≡ value_of_digits (front_of (s ++ b ∷ [])) * 10 ^ zeros_after (s ++ b ∷ [])
front_value-more s b h =
    let whole : value_of_digits (s ++ b ∷ []) ≡ 10 * value_of_digits s + (b - 48) = fold_push step 0 s b in
    elim (cases_Bool (b == 48)) [
      | inl zero ↦
          let more : zeros_after (s ++ b ∷ []) ≡ zeros_after s + 1 = zeros_after-more s b ∙ rw zero (omega arith) in
          let front : front_of (s ++ b ∷ []) ≡ front_of s = rw (eqb-true b 48 zero) (front_of-zero s) in
          rw (front, more, ten_more (zeros_after s)) (whole ∙ omega (arith, h, eqb-true b 48 zero))
      | inr other ↦ let none : zeros_after (s ++ b ∷ []) ≡ 0 = zeros_after-more s b ∙ rw other refl in rw (front_of-digit s b other, none) (omega arith)
    ]

front_value-reversed : (r : List ℕ) → value_of_digits (reverse r) ≡ value_of_digits (front_of (reverse r)) * 10 ^ zeros_after (reverse r)
front_value-reversed [] = refl
front_value-reversed (b ∷ r) = rw (reverse-append (b ∷ []) r) (front_value-more (reverse r) b (front_value-reversed r))

pub front_value : (s : List ℕ) → value_of_digits s ≡ value_of_digits (front_of s) * 10 ^ zeros_after s
front_value s = subst (λ (x : List ℕ). value_of_digits x ≡ value_of_digits (front_of x) * 10 ^ zeros_after x) (reverse-reverse s) (front_value-reversed (reverse s))

pub trimmed_value : (s : List ℕ) → value_of_digits (trimmed s) ≡ value_of_digits s
trimmed_value [] = refl
trimmed_value (c ∷ s) = elim (cases_Bool (c == 48)) [
  | inl zero ↦ let nothing : 0 ≡ 10 * 0 + (c - 48) = omega (arith, eqb-true c 48 zero) in rw (trimmed-cons c s, zero) (trimmed_value s ∙ ap (λ (value : ℕ). fold step value s) nothing)
  | inr other ↦ rw (trimmed-cons c s, other) refl
]
