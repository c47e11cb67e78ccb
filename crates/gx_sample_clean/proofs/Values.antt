-- What the words of a sample text are worth.
use Rattle.std.proofs.Common.{◌≡◌, ℕ, ◌^◌, ◌≤◌, ℤ, pos, neg_ℤ, ◌+ℤ◌, ◌-ℤ◌, ◌*ℤ◌, unsigned_abs, false, codes, List, [], ◌∷◌, Ok, refl, ap, ◌∙◌, arith}
use Rattle.std.specs.Fmt.{signed_decimal}
use Rattle.std.proofs.lemmas.Int.{ints}
use Rattle.gx_num.specs.Number.{common_divisor}
use Rattle.gx_expr.specs.Eval.{value_of_word}
use Rattle.gx_expr.specs.Param.{Param}
use Rattle.gx_expr.specs.Quantity.{ratio, sum_of, difference_of}
use Rattle.gx_expr.proofs.Numbers.{ratio-whole}
use Rattle.gx_canon.proofs.Numbers.{whole, whole_back}
use Rattle.gx_sample_clean.specs.Sample.{half, first, start}

-- ---- whole numbers

whole_ratio : (a b : ℤ) → a ≡ b → unsigned_abs b ≤ 2 ^ 62 → ratio a (pos 1) false false ≡ Ok (whole b)
whole_ratio a b same near = ap (λ (z : ℤ). ratio z (pos 1) false false) same ∙ ratio-whole b near

sum-whole : (a b : ℤ) → unsigned_abs (a +ℤ b) ≤ 2 ^ 62 → sum_of (whole a) (whole b) ≡ Ok (whole (a +ℤ b))
sum-whole a b near = whole_ratio (a *ℤ pos 1 +ℤ b *ℤ pos 1) (a +ℤ b) (omega (arith, ints)) near

difference-whole : (a b : ℤ) → unsigned_abs (a -ℤ b) ≤ 2 ^ 62 → difference_of (whole a) (whole b) ≡ Ok (whole (a -ℤ b))
difference-whole a b near = whole_ratio (a *ℤ pos 1 -ℤ b *ℤ pos 1) (a -ℤ b) (omega (arith, ints)) near

-- ---- parameters

abbrev pub param : List ℕ → ℤ → Param
param name z = record { name = name; value = whole z }

-- after the second line, and after the third
abbrev pub one : ℕ → List Param
one n = param (codes "n") (pos n) ∷ []

abbrev pub both : ℕ → List Param
both n = param (codes "n") (pos n) ∷ param (codes "half") (half n) ∷ []

-- ---- words

pub half_word : (n : ℕ) → n ≤ 64 → value_of_word (one n) (codes "10*$n") ≡ Ok (whole (half n))
unfolding value_of_word common_divisor
half_word n few = whole_ratio (pos 10 *ℤ pos n) (half n) (omega (arith, ints)) (omega (arith, few))

pub count_word : (n : ℕ) → value_of_word (both n) (codes "$n") ≡ Ok (whole (pos n))
unfolding value_of_word
count_word n = refl

pub wide_word : (n : ℕ) → n ≤ 64 → value_of_word (both n) (codes "$half+20") ≡ Ok (whole (half n +ℤ pos 20))
unfolding value_of_word common_divisor
wide_word n few = sum-whole (half n) (pos 20) (omega (arith, ints, few))

pub first_word : (n : ℕ) → n ≤ 64 → value_of_word (both n) (codes "10-$half") ≡ Ok (whole (first n))
unfolding value_of_word common_divisor
first_word n few = difference-whole (pos 10) (half n) (omega (arith, ints, few))

pub start_word : (n : ℕ) → n ≤ 64 → value_of_word (both n) (codes "-$half-30") ≡ Ok (whole (start n))
unfolding value_of_word common_divisor
start_word n few = difference-whole (neg_ℤ (half n)) (pos 30) (omega (arith, ints, few))

-- a number alone
pub number_word : (params : List Param) (z : ℤ) → unsigned_abs z ≤ 1000 → value_of_word params (signed_decimal z) ≡ Ok (whole z)
number_word params z near = whole_back params z (omega (arith, near))
