-- Printed numbers, read: what they are worth.
use Rattle.std.proofs.Common.{◌≡◌, ℕ, suc, ◌+◌, ◌-◌, ◌*◌, ◌^◌, ◌<◌, ◌≤◌, ◌==◌, ℤ, pos, negsuc, neg_ℤ, ◌+ℤ◌, ◌*ℤ◌, unsigned_abs, Bool, true, false, List, [], ◌∷◌, ◌++◌, length, drop, fold, Some, Ok, nat_lt, refl, sym, ap, ◌∙◌, arith, rules, zero-mul, one-add, inl, inr, length-drop, length-take, append-nil}
use Rattle.std.specs.Prelude.{if◌then◌else◌, int_div, int_lt, int_le, nat_le}
use Rattle.std.specs.Ordering.{int_eq}
use Rattle.std.specs.Fmt.{decimal, signed_decimal}
use Rattle.std.specs.Char.{is_ascii_digit}
use Rattle.std.specs.List.{list_all, prefix_len}
use Rattle.std.proofs.Math.Seq.{take-append_seam, drop-append_seam}
use Rattle.std.proofs.lemmas.Bool.{and_parts, cases_Bool, eqb-true, eqb-false, le-ltb}
use Rattle.std.proofs.lemmas.Fmt.{digits_decimal, digits_value-decimal, decimal_nonempty, length-decimal-le}
use Rattle.std.proofs.lemmas.Int.{ints}
use Rattle.std.proofs.lemmas.Bool.Decides.{nat_tests}
use Rattle.std.proofs.lemmas.Nat.Gcd.{IsGcd-swap}
use Rattle.std.proofs.Math.Nat.{div-one}
use Rattle.std.proofs.lemmas.Str.Parse.{IsNumeralModel, numerals_by_fold}
use Rattle.gx_num.specs.Number.{IsLowest, common_divisor}
use Rattle.gx_num.proofs.Divisors.{common_divisor-same, IsDivisor-two}
use Rattle.gx_num.specs.declared.vector.TheConstants.{M}
use Rattle.gx_fraction.specs.Fraction.{Fraction, lowest}
use Rattle.gx_expr.specs.declared.operator.SumSign.TheVariants.{Minus}
use Rattle.gx_expr.specs.declared.operator.ProductSign.TheVariants.{Over}
use Rattle.gx_expr.specs.Convert.{whole_ratio, steps, count}
use Rattle.gx_expr.specs.Descent.{anywhere, IsRead}
use Rattle.gx_expr.specs.Eval.{zeros_before, zeros_after, trimmed, front_of, if_short, value_of_decimal, value_of_word}
use Rattle.gx_expr.specs.Param.{Param}
use Rattle.gx_expr.specs.Quantity.{Quantity, ratio, if_narrow, quotient_of}
use Rattle.gx_expr.specs.Token.{value_of_digits, Decimal, Part, fraction_at, exponent_at, no_exponent, decimal_at, begins_decimal}
use Rattle.gx_expr.proofs.Descent.{signs_none, signs_more, factor_reads, term_first, term_more, expr_first, word_whole}
use Rattle.gx_expr.proofs.DigitValues.{front_value, trimmed_value}
use Rattle.gx_expr.proofs.Leaves.{number_read}
use Rattle.gx_expr.proofs.Numbers.{ratio-whole}
use Rattle.gx_expr.proofs.Quotient.{exact}
use Rattle.gx_canon.specs.Canonical.{millimetre}

-- ---- the digits of a number

own : IsNumeralModel (λ ds. list_all is_ascii_digit ds ≡ true) value_of_digits
own = numerals_by_fold _ (search rules) (λ n ds. fold (λ value b. 10 * value + (b - 48)) n ds) (search rules)

pub decimal_digits : (n : ℕ) → n < 2 ^ 64 → list_all is_ascii_digit (decimal n) ≡ true
decimal_digits n h = digits_decimal own n h

decimal_value : (n : ℕ) → n < 2 ^ 64 → value_of_digits (decimal n) ≡ n
decimal_value n h = digits_value-decimal own n h

no_value : (s : List ℕ) → length s ≡ 0 → value_of_digits s ≡ 0
no_value [] e = refl
no_value (b ∷ s) e = absurd (omega arith)

-- digits alone are worth their number
digits_worth : (s : List ℕ) → length s ≤ 18 → value_of_decimal (record { digits = s; scale = pos 0 }) ≡ ratio (pos (value_of_digits s)) (pos 1) false false
digits_worth s h =
    let zeros = zeros_after (trimmed s) in
    let inner = front_of (trimmed s) in
    let whole : value_of_digits s ≡ value_of_digits inner * 10 ^ zeros = sym (trimmed_value s) ∙ front_value (trimmed s) in
    let less = length-drop (zeros_before s) s in
    elim (cases_Bool (length inner == 0)) [
      | inl none ↦
          let nothing : 0 ≡ value_of_digits s = let e = no_value inner (eqb-true (length inner) 0 none) in sym (whole ∙ rw e (zero-mul (10 ^ zeros))) in
          rw none (ap (λ (n : ℕ). ratio (pos n) (pos 1) false false) nothing)
      | inr some ↦
          let scale : pos 0 +ℤ pos zeros ≡ pos zeros = omega (arith, ints) in
          let size = length-take (length (trimmed s) - zeros) (trimmed s) in
          let short : nat_lt 18 (length inner) ≡ false = le-ltb 18 (length inner) (omega (arith, size)) in
          let near : nat_lt 18 zeros ≡ false = le-ltb 18 zeros (omega (arith, size, eqb-false (length inner) 0 some)) in
          let value : if_short inner (pos zeros) ≡ ratio (pos (value_of_digits s)) (pos 1) false false = rw (short, near) (ap (λ (n : ℕ). ratio (pos n) (pos 1) false false) (sym whole)) in
          rw some (ap (if_short inner) scale ∙ value)
    ]

-- ---- a number at the front of a text

-- the text goes on with no part of a number
pub record EndsNumber (rest : List ℕ) : Type 0 where
  pub digits : prefix_len is_ascii_digit rest ≡ 0
  pub fraction : fraction_at rest ≡ record { what = []; size = 0 }
  pub exponent : exponent_at rest ≡ no_exponent

run : (ds rest : List ℕ) → list_all is_ascii_digit ds ≡ true → prefix_len is_ascii_digit rest ≡ 0 → prefix_len is_ascii_digit (ds ++ rest) ≡ length ds
run [] rest h none = none
run (d ∷ ds) rest h none =
    let parts = and_parts (is_ascii_digit d) (list_all is_ascii_digit ds) h in
    rw parts.0 (ap (λ (k : ℕ). 1 + k) (run ds rest parts.1 none) ∙ one-add (length ds))

decimal_front : (ds rest : List ℕ) → list_all is_ascii_digit ds ≡ true → EndsNumber rest → decimal_at (ds ++ rest) ≡ record { what = record { digits = ds; scale = pos 0 }; size = length ds }
decimal_front ds rest h e =
    let size : length ds + 0 + 0 ≡ length ds = omega arith in
    rw (run ds rest h e.digits, take-append_seam ds rest, drop-append_seam ds rest, e.fraction, e.exponent, append-nil ds, size) refl

begins : (ds rest : List ℕ) → 0 < length ds → list_all is_ascii_digit ds ≡ true → begins_decimal (ds ++ rest) ≡ true
begins [] rest some h = absurd (omega (arith, some))
begins (b ∷ []) [] some h = (and_parts (is_ascii_digit b) true h).0
begins (b ∷ []) (c ∷ rest) some h = rw (and_parts (is_ascii_digit b) true h).0 refl
begins (b ∷ c ∷ ds) rest some h = rw (and_parts (is_ascii_digit b) (list_all is_ascii_digit (c ∷ ds)) h).0 refl

-- without a mark
abbrev pub plain : Fraction → Quantity
plain f = record { number = f; length = false; angle = false }

abbrev pub whole : ℤ → Quantity
whole z = plain (record { num = z; den = 1 })

module _ (params : List Param) (rest : List ℕ) (e : EndsNumber rest) where
  digits_read : (n : ℕ) → n < 10 ^ 18 → IsRead anywhere 0 params (decimal n ++ rest) (Ok (whole (pos n))) rest
  digits_read n h =
      let digits = decimal_digits n (omega arith) in
      let front = decimal_front (decimal n) rest digits e in
      let value : value_of_decimal (decimal_at (decimal n ++ rest)).what ≡ Ok (whole (pos n)) =
      ap (λ (part : Part Decimal). value_of_decimal part.what) front ∙ digits_worth (decimal n) (length-decimal-le 18 n (omega arith) h (omega arith))
      ∙ ap (λ (k : ℕ). ratio (pos k) (pos 1) false false) (decimal_value n (omega arith)) ∙ ratio-whole (pos n) (omega arith) in
      number_read 0 params (decimal n ++ rest) rest (Ok (whole (pos n))) (begins (decimal n) rest (decimal_nonempty n (omega arith)) digits) (sym value)
      (sym (ap (λ (part : Part Decimal). drop part.size (decimal n ++ rest)) front ∙ drop-append_seam (decimal n) rest))

  number_front : (z : ℤ) → unsigned_abs z < 10 ^ 18 → IsRead anywhere 0 params (signed_decimal z ++ rest) (Ok (whole z)) rest
  number_front (pos n) h = digits_read n h
  number_front (negsuc n) h =
      let text = decimal (suc n) ++ rest in
      factor_reads 0 params (45 ∷ text) text rest true (Ok (whole (pos (suc n)))) (signs_more (45 ∷ text) (45 ∷ text) text false Minus (signs_none (45 ∷ text)) refl) (digits_read (suc n) h)

at_end : EndsNumber []
at_end = record { digits = refl; fraction = refl; exponent = refl }

-- a printed whole number is worth itself
pub whole_back : (params : List Param) (z : ℤ) → unsigned_abs z < 10 ^ 18 → value_of_word params (signed_decimal z) ≡ Ok (whole z)
whole_back params z h =
    let word = signed_decimal z ++ [] in
    ap (value_of_word params) (sym (append-nil (signed_decimal z)))
    ∙ sym (word_whole params word (Ok (whole z)) (expr_first 0 params word [] (Ok (whole z)) (term_first 0 params word [] (Ok (whole z)) (number_front params [] at_end z h))))

-- ---- fractions

int_div-one : (z : ℤ) → int_div z (pos 1) ≡ z
int_div-one (pos n) = ap pos (div-one n)
int_div-one (negsuc n) = ap (λ (k : ℕ). neg_ℤ (pos k)) (div-one (suc n))

lowest-same : (z : ℤ) (d : ℕ) → IsLowest (unsigned_abs z) d → lowest z d ≡ record { num = z; den = d }
lowest-same z d h =
    let one : common_divisor (d ∷ unsigned_abs z ∷ []) ≡ 1 = common_divisor-same (d ∷ unsigned_abs z ∷ []) 1 (IsDivisor-two d (unsigned_abs z) 1 (IsGcd-swap (unsigned_abs z) d 1 h.coprime)) in
    rw one (rw (int_div-one z, div-one d) refl)

ratio_same : (z : ℤ) (d : ℕ) → IsLowest (unsigned_abs z) d → unsigned_abs z ≤ 2 ^ 62 → d ≤ 2 ^ 62 → ratio z (pos d) false false ≡ Ok (plain (record { num = z; den = d }))
ratio_same z d h near few =
    let p = h.positive in
    let some : int_eq (pos d) (pos 0) ≡ false = grind (arith, nat_tests) in
    let above : int_lt (pos d) (pos 0) ≡ false = grind (arith, nat_tests) in
    rw (some, above) (ap (if_narrow false false) (lowest-same z d h) ∙ rw (le-ltb (2 ^ 62) (unsigned_abs z) near, le-ltb (2 ^ 62) d few) refl)

quotient_same : (z : ℤ) (d : ℕ) → quotient_of (whole z) (whole (pos d)) ≡ ratio z (pos d) false false
quotient_same z d =
    let over : z *ℤ pos 1 ≡ z = omega (arith, ints) in
    let under : pos d *ℤ pos 1 ≡ pos d = omega (arith, ints) in
    ap (λ (n : ℤ). ratio n (pos d *ℤ pos 1) false false) over ∙ ap (λ (n : ℤ). ratio z n false false) under

fraction_worth : (params : List Param) (z : ℤ) (d : ℕ) → IsLowest (unsigned_abs z) d → unsigned_abs z < 10 ^ 18 → d < 10 ^ 18 → value_of_word params (signed_decimal z ++ 47 ∷ decimal d) ≡ Ok (plain (record { num = z; den = d }))
fraction_worth params z d h near few =
    let under = decimal d ++ [] in
    let word = signed_decimal z ++ 47 ∷ under in
    let over : EndsNumber (47 ∷ under) = record { digits = refl; fraction = refl; exponent = refl } in
    let first = term_first 0 params word (47 ∷ under) (Ok (whole z)) (number_front params (47 ∷ under) over z near) in
    let both = term_more 0 params word (47 ∷ under) under [] Over (Ok (whole z)) (Ok (whole (pos d))) first refl (number_front params [] at_end (pos d) few) in
    ap (λ (s : List ℕ). value_of_word params (signed_decimal z ++ 47 ∷ s)) (sym (append-nil (decimal d)))
    ∙ sym (word_whole params word _ (expr_first 0 params word [] _ both)) ∙ quotient_same z d ∙ ratio_same z d h (omega arith) (omega arith)

pub scale_by : (params : List Param) (z : ℤ) (d : ℕ) (t : Bool) → d == 1 ≡ t → IsLowest (unsigned_abs z) d → unsigned_abs z < 10 ^ 18 → d < 10 ^ 18
    → value_of_word params (if t then signed_decimal z else signed_decimal z ++ 47 ∷ decimal d) ≡ Ok (plain (record { num = z; den = d }))
scale_by params z d true e h near few = rw (eqb-true d 1 e) (whole_back params z near)
scale_by params z d false e h near few = fraction_worth params z d h near few

-- ---- steps of the grid 1, and counts

ratio_one : (z : ℤ) → whole_ratio (record { num = z; den = 1 }) millimetre ≡ Some z
ratio_one z = (exact (z *ℤ pos 1) (pos 1) z (omega (arith, ints))).1 refl

pub steps_whole : (z : ℤ) → unsigned_abs z ≤ unsigned_abs M → steps (whole z) millimetre ≡ Ok z
unfolding steps
steps_whole z h =
    let near : nat_le (unsigned_abs z) (unsigned_abs M) ≡ true = grind (arith, nat_tests, h) in
    rw (ratio_one z, near) refl

pub count_whole : (z low high : ℤ) → int_le low z ≡ true → int_le z high ≡ true → count (whole z) low high ≡ Ok z
count_whole z low high a b = rw (ratio_one z, a, b) refl
