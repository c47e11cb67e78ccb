-- What is kept of digits that are read one by one.
use Rattle.std.proofs.Common.{◌≡◌, ◌≢◌, ℕ, ◌+◌, ◌-◌, ◌*◌, ◌<◌, ◌≤◌, ◌^◌, ◌==◌, pos, neg_ℤ, ◌+ℤ◌, ◌-ℤ◌, min, true, false, List, [], ◌∷◌, ◌++◌, length, Err, nat_lt, refl, sym, ap, ◌∙◌, subst, arith, inl, inr, length-append, length-take}
use Rattle.std.specs.Prelude.{if◌then◌else◌}
use Rattle.std.proofs.lemmas.Bool.{cases_Bool, ltb-false, ne_eqb}
use Rattle.std.proofs.lemmas.Int.{ints}
use Rattle.std.proofs.lemmas.List.Sums.{fold_push}
use Rattle.gx_expr.specs.declared.digits.Digits.{Digits}
use Rattle.gx_expr.specs.declared.exponent.TheConstants.{MAX_SIZE}
use Rattle.gx_expr.specs.declared.fault.ExprFault.TheVariants.{TooWide}
use Rattle.gx_expr.specs.Digits.{IsDigitsOf, placed, value_kept}
use Rattle.gx_expr.specs.Eval.{zeros_after, trimmed, front_of, if_short, value_of_decimal}
use Rattle.gx_expr.specs.Token.{value_of_digits}
use Rattle.gx_expr.proofs.DigitValues.{trimmed-cons, zeros_after-more, ten_more, front_of-zero, front_of-digit, front_value}
use Rattle.gx_expr.proofs.Numbers.{placed_is, capped_up, capped_down}

-- one more zero after none but zeros
trimmed-zero : (s : List ℕ) → trimmed s ≡ [] → trimmed (s ++ 48 ∷ []) ≡ []
trimmed-zero [] h = refl
trimmed-zero (c ∷ s) h = elim (cases_Bool (c == 48)) [
  | inl z ↦ rw (trimmed-cons c (s ++ 48 ∷ []), z) (trimmed-zero s (rw (trimmed-cons c s, z) at h))
  | inr z ↦ let wrong = rw (trimmed-cons c s, z) at h in cc
]

-- one more digit, which isn't among the zeros in front
trimmed-more : (s : List ℕ) (b : ℕ) → (trimmed s ≡ [] → b == 48 ≡ false) → trimmed (s ++ b ∷ []) ≡ trimmed s ++ b ∷ []
trimmed-more [] b h = rw (trimmed-cons b [], h refl) refl
trimmed-more (c ∷ s) b h = elim (cases_Bool (c == 48)) [
  | inl z ↦ rw (trimmed-cons c (s ++ b ∷ []), trimmed-cons c s, z) (trimmed-more s b (rw (trimmed-cons c s, z) at h))
  | inr z ↦ rw (trimmed-cons c (s ++ b ∷ []), trimmed-cons c s, z) refl
]

-- ---- one more digit

module _ (s : List ℕ) (d e : Digits) (kept : IsDigitsOf s d) where
  kept-zero : 0 < d.count → e.value ≡ d.value → e.count ≡ d.count → e.zeros ≡ d.zeros + 1 → IsDigitsOf (s ++ 48 ∷ []) e
  kept-zero more_than_none value count zeros =
      let more : zeros_after (s ++ 48 ∷ []) ≡ 1 + zeros_after s = zeros_after-more s 48 in
      let longer = length-append s (48 ∷ []) in
      record {
        zeros = omega (arith, more, kept.zeros, zeros);
        count = omega (arith, longer, kept.count, count, zeros);
        none = λ h. absurd (omega (arith, more_than_none, count, h));
        value = λ h. value ∙ kept.value (rw count at h) ∙ sym (ap value_of_digits (front_of-zero s));
      }

  kept-digit : (b : ℕ) → b == 48 ≡ false → (d.count + (d.zeros + 1) ≤ 18 → e.value ≡ d.value * 10 ^ (d.zeros + 1) + (b - 48)) → e.count ≡ d.count + (d.zeros + 1) → e.zeros ≡ 0 → IsDigitsOf (s ++ b ∷ []) e
  kept-digit b other value count zeros =
      let longer = length-append s (b ∷ []) in
      record {
        zeros = zeros ∙ sym (zeros_after-more s b ∙ rw other refl);
        count = omega (arith, longer, kept.count, count, zeros);
        none = λ h. absurd (omega (arith, count, h));
        value = λ h.
            let whole : value_of_digits (s ++ b ∷ []) ≡ 10 * value_of_digits s + (b - 48) = fold_push (λ value b. 10 * value + (b - 48)) 0 s b in
            value (omega (arith, h, count)) ∙ rw (front_of-digit s b other, whole, kept.value (omega (arith, h, count)), ten_more d.zeros, kept.zeros) (omega (arith, front_value s));
      }

module _ (s : List ℕ) (d : Digits) (kept : IsDigitsOf (trimmed s) d) where
  pub pushed-first : d.count ≤ 0 → IsDigitsOf (trimmed (s ++ 48 ∷ [])) d
  pushed-first h =
      let e : trimmed s ≡ [] = kept.none (omega arith) in
      subst (λ (x : List ℕ). IsDigitsOf x d) (e ∙ sym (trimmed-zero s e)) kept

  pub pushed-zero : (e : Digits) → 0 < d.count → e.value ≡ d.value → e.count ≡ d.count → e.zeros ≡ d.zeros + 1 → IsDigitsOf (trimmed (s ++ 48 ∷ [])) e
  pushed-zero e some value count zeros =
      let empty : trimmed s ≡ [] → 48 == 48 ≡ false = λ n. absurd (omega (arith, ap length n, kept.count, some)) in
      rw (trimmed-more s 48 empty) (kept-zero (trimmed s) d e kept some value count zeros)

  pub pushed-digit : (e : Digits) (b : ℕ) → b ≢ 48 → (d.count + (d.zeros + 1) ≤ 18 → e.value ≡ d.value * 10 ^ (d.zeros + 1) + (b - 48)) → e.count ≡ d.count + (d.zeros + 1) → e.zeros ≡ 0 → IsDigitsOf (trimmed (s ++ b ∷ [])) e
  pushed-digit e b other value count zeros =
      rw (trimmed-more s b (λ n. ne_eqb b 48 other)) (kept-digit (trimmed s) d e kept b (ne_eqb b 48 other) value count zeros)

-- ---- the value of all digits

module _ (digits : List ℕ) (d : Digits) (up down : ℕ) (kept : IsDigitsOf (trimmed digits) d) where
  size : length (front_of (trimmed digits)) ≡ d.count
  size = length-take (length (trimmed digits) - zeros_after (trimmed digits)) (trimmed digits) ∙ omega (arith, kept.zeros, kept.count)

  scaled : if_short (front_of (trimmed digits)) ((pos up -ℤ pos down) +ℤ pos (zeros_after (trimmed digits))) ≡ (if nat_lt 18 d.count then Err TooWide else placed d.value (up + d.zeros) down)
  scaled =
      let inner = front_of (trimmed digits) in
      elim (cases_Bool (nat_lt 18 d.count)) [
        | inl long ↦ let many : nat_lt 18 (length inner) ≡ true = rw size long in rw (many, long) refl
        | inr short ↦
            let scale : (pos up -ℤ pos down) +ℤ pos (zeros_after (trimmed digits)) ≡ pos (up + d.zeros) -ℤ pos down = omega (arith, ints, kept.zeros) in
            let value : placed d.value (up + d.zeros) down ≡ placed (value_of_digits inner) (up + d.zeros) down = ap (λ (n : ℕ). placed n (up + d.zeros) down) (kept.value (ltb-false 18 d.count short)) in
            rw short (ap (if_short inner) scale ∙ placed_is inner (rw size short) (up + d.zeros) down ∙ sym value)
      ]

  value-placed : value_of_decimal (record { digits = digits; scale = pos up -ℤ pos down }) ≡ value_kept d up down
  value-placed =
      let none_left : length (front_of (trimmed digits)) == 0 ≡ d.count == 0 = ap (λ (n : ℕ). n == 0) size in
      elim (cases_Bool (d.count == 0)) [ inl none ↦ rw (none_left, none) refl | inr some ↦ rw (none_left, some) scaled ]

-- ---- numbers with an exponent

module _ (digits : List ℕ) (d : Digits) (kept : IsDigitsOf (trimmed digits) d) (n size places : ℕ) (held : size ≡ min MAX_SIZE n) where
  pub value-up : places < 2 ^ 64 → value_kept d size places ≡ value_of_decimal (record { digits = digits; scale = pos n -ℤ pos places })
  value-up h = rw held (capped_up d n places h ∙ sym (value-placed digits d n places kept))

  pub value-down : d.zeros < 2 ^ 64 → value_kept d 0 (places + size) ≡ value_of_decimal (record { digits = digits; scale = neg_ℤ (pos n) -ℤ pos places })
  value-down h =
      let scale : pos 0 -ℤ pos (places + n) ≡ neg_ℤ (pos n) -ℤ pos places = omega (arith, ints) in
      rw (held, ← scale) (capped_down d n places h ∙ sym (value-placed digits d 0 (places + n) kept))
