-- Words that are a few digits, with or without a sign.
use Rattle.std.proofs.Common.{◌≡◌, ℕ, ◌+◌, ◌-◌, ◌*◌, ◌<◌, ◌≤◌, ◌^◌, ◌==◌, pos, neg_ℤ, ℤ, ◌+ℤ◌, Bool, not, ◌&&◌, true, false, List, [], ◌∷◌, length, take, drop, Option, None, Some, nat_lt, refl, sym, ap, ◌∙◌, arith, zero-mul, inl, inr, append-nil, length-drop, length-take}
use Rattle.std.specs.List.{list_all, prefix_len}
use Rattle.std.specs.Option.{option_map}
use Rattle.std.proofs.Math.Nat.{pow-le-pow_right}
use Rattle.std.proofs.lemmas.Bool.{and_parts, cases_Bool, eqb-true, eqb-false, ltb-false, le-ltb, not-true}
use Rattle.std.proofs.lemmas.Int.{ints}
use Rattle.std.proofs.lemmas.List.{take_all, drop_all}
use Rattle.std.proofs.lemmas.Option.{none-some}
use Rattle.gx_expr.specs.declared.operator.SumSign.TheVariants.{Minus}
use Rattle.gx_expr.specs.Descent.{signed, IsSigned}
use Rattle.gx_expr.specs.Digits.{few_digits, plain_number}
use Rattle.gx_expr.specs.Eval.{zeros_before, zeros_after, trimmed, front_of, if_short, value_of_decimal, value_of_word}
use Rattle.gx_expr.specs.Param.{Param}
use Rattle.gx_expr.specs.Token.{value_of_digits, decimal_at, begins_decimal, Decimal, Part}
use Rattle.std.specs.Char.{is_ascii_digit}
use Rattle.gx_expr.specs.Quantity.{ratio}
use Rattle.gx_expr.proofs.Numbers.{ratio-whole}
use Rattle.gx_expr.proofs.Descent.{signs_none, signs_more, factor_reads, term_first, expr_first, word_whole}
use Rattle.gx_expr.proofs.DigitValues.{digits-below, front_value, trimmed_value}
use Rattle.gx_expr.proofs.Leaves.{number_read}

-- ---- a number of digits alone

no_value : (s : List ℕ) → length s ≡ 0 → value_of_digits s ≡ 0
no_value [] e = refl
no_value (b ∷ s) e = absurd (omega arith)

decimal_whole : (s : List ℕ) → length s ≤ 18 → value_of_decimal (record { digits = s; scale = pos 0 }) ≡ ratio (pos (value_of_digits s)) (pos 1) false false
decimal_whole s h =
    let zeros = zeros_after (trimmed s) in
    let inner = front_of (trimmed s) in
    let whole : value_of_digits s ≡ value_of_digits inner * 10 ^ zeros = sym (trimmed_value s) ∙ front_value (trimmed s) in
    let less = length-drop (zeros_before s) s in
    elim (cases_Bool (length inner == 0)) [
      | inl none ↦
          let nothing : 0 ≡ value_of_digits s = let e = no_value inner (eqb-true (length inner) 0 none) in sym (whole ∙ rw e (zero-mul (10 ^ zeros))) in
          rw none (ap (λ (n : ℕ). ratio (pos n) (pos 1) false false) nothing)
      | inr some ↦
          let scale : pos 0 +ℤ pos zeros ≡ pos zeros = omega (arith, ints) in
          let size = length-take (length (trimmed s) - zeros) (trimmed s) in
          let short : nat_lt 18 (length inner) ≡ false = le-ltb 18 (length inner) (omega (arith, size)) in
          let near : nat_lt 18 zeros ≡ false = le-ltb 18 zeros (omega (arith, size, eqb-false (length inner) 0 some)) in
          let value : if_short inner (pos zeros) ≡ ratio (pos (value_of_digits s)) (pos 1) false false = rw (short, near) (ap (λ (n : ℕ). ratio (pos n) (pos 1) false false) (sym whole)) in
          rw some (ap (if_short inner) scale ∙ value)
    ]

all-run : (s : List ℕ) → list_all is_ascii_digit s ≡ true → prefix_len is_ascii_digit s ≡ length s
all-run [] e = refl
all-run (b ∷ s) e = let both = and_parts (is_ascii_digit b) (list_all is_ascii_digit s) e in rw (both.0, all-run s both.1) (omega arith)

digits-decimal : (s : List ℕ) → list_all is_ascii_digit s ≡ true → decimal_at s ≡ record { what = record { digits = s; scale = pos 0 }; size = length s }
digits-decimal s e =
    let taken : take (prefix_len is_ascii_digit s) s ≡ s = take_all (prefix_len is_ascii_digit s) s (omega (arith, all-run s e)) in
    let left : drop (prefix_len is_ascii_digit s) s ≡ [] = drop_all (prefix_len is_ascii_digit s) s (omega (arith, all-run s e)) in
    let size : prefix_len is_ascii_digit s + 0 + 0 ≡ length s = omega (arith, all-run s e) in
    rw (taken, left, append-nil s, size) refl

begins : (b : ℕ) (s : List ℕ) → is_ascii_digit b ≡ true → begins_decimal (b ∷ s) ≡ true
begins b [] e = e
begins b (c ∷ s) e = rw e refl

-- ---- a word of digits alone, or with a sign

record IsFew (s : List ℕ) (n : ℕ) : Type 0 where
  some : 0 < length s
  few : length s ≤ 9
  digits : list_all is_ascii_digit s ≡ true
  value : value_of_digits s ≡ n

few_parts : (s : List ℕ) (n : ℕ) → few_digits s ≡ Some n → IsFew s n
few_parts s n e = elim (cases_Bool (not (length s == 0) && not (nat_lt 9 (length s)) && list_all is_ascii_digit s)) [
  | inl all ↦
      let both = and_parts (not (length s == 0) && not (nat_lt 9 (length s))) (list_all is_ascii_digit s) all in
      let size = and_parts (not (length s == 0)) (not (nat_lt 9 (length s))) both.0 in
      let value : Some (value_of_digits s) ≡ Some n = rw all at e in
      record { some = omega (arith, eqb-false (length s) 0 (not-true (length s == 0) size.0)); few = ltb-false 9 (length s) (not-true (nat_lt 9 (length s)) size.1); digits = both.1; value = cc }
  | inr other ↦ absurd (none-some n (rw other at e))
]

module _ (params : List Param) (word : List ℕ) (negative : Bool) (n : ℕ) where
  few_read : (s : List ℕ) → IsSigned word s negative → IsFew s n → signed negative (ratio (pos n) (pos 1) false false) ≡ value_of_word params word
  few_read [] signs few = absurd (omega (arith, few.some))
  few_read (b ∷ s) signs few =
      let decimal = digits-decimal (b ∷ s) few.digits in
      let value : ratio (pos n) (pos 1) false false ≡ value_of_decimal (decimal_at (b ∷ s)).what =
      sym (ap (λ (part : Part Decimal). value_of_decimal part.what) decimal ∙ decimal_whole (b ∷ s) (omega (arith, few.few)) ∙ ap (λ (k : ℕ). ratio (pos k) (pos 1) false false) few.value) in
      let read = number_read 0 params (b ∷ s) [] (ratio (pos n) (pos 1) false false) (begins b s (and_parts (is_ascii_digit b) (list_all is_ascii_digit s) few.digits).0) value (sym (ap (λ (part : Part Decimal). drop part.size (b ∷ s)) decimal ∙ drop_all (length (b ∷ s)) (b ∷ s) (omega arith))) in
      word_whole params word _ (expr_first 0 params word [] _ (term_first 0 params word [] _ (factor_reads 0 params word (b ∷ s) [] negative _ signs read)))

few_small : (s : List ℕ) (n : ℕ) → IsFew s n → n ≤ 2 ^ 62
few_small s n few = omega (arith, few.few, few.value, digits-below s few.digits, pow-le-pow_right {n = 10} (omega arith) few.few)

opposite-whole : (n : ℕ) → n ≤ 2 ^ 62 → ratio (neg_ℤ (pos n)) (pos 1) false false ≡ signed true (ratio (pos n) (pos 1) false false)
opposite-whole n h = ratio-whole (neg_ℤ (pos n)) (omega (arith, ints)) ∙ sym (ap (signed true) (ratio-whole (pos n) h))

mapped : (f : ℕ → ℤ) (o : Option ℕ) (z : ℤ) → option_map f o ≡ Some z → (n : ℕ) × (o ≡ Some n) × (f n ≡ z)
mapped f None z e = absurd (none-some z e)
mapped f (Some n) z e = (n, refl, cc)

pub plain_word : (params : List Param) (word : List ℕ) (z : ℤ) → plain_number word ≡ Some z → ratio z (pos 1) false false ≡ value_of_word params word
plain_word params [] z e = absurd (none-some z e)
plain_word params (b ∷ s) z e = elim (cases_Bool (b == 45)) [
  | inl minus ↦
      let part = mapped (λ n. neg_ℤ (pos n)) (few_digits s) z (rw minus at e) in
      let few = few_parts s part.0 part.1 in
      let signs = signs_more (b ∷ s) (b ∷ s) s false Minus (signs_none (b ∷ s)) (ap (λ (c : ℕ). c ∷ s) (eqb-true b 45 minus)) in
      rw (← part.2) (opposite-whole part.0 (few_small s part.0 few) ∙ few_read params (b ∷ s) true part.0 s signs few)
  | inr other ↦
      let part = mapped pos (few_digits (b ∷ s)) z (rw other at e) in
      rw (← part.2) (few_read params (b ∷ s) false part.0 (b ∷ s) (signs_none (b ∷ s)) (few_parts (b ∷ s) part.0 part.1))
]
