-- Whole numbers: signs, common divisors and lowest terms (any text on arithmetic).
use Rattle.std.specs.Prelude.{ℕ, ℤ, pos, negsuc, zero, suc, ◌%◌, ◌<◌, Bool, ◌==◌, if◌then◌else◌, List, [], ◌∷◌}
use Rattle.std.specs.List.{list_all}
use Rattle.std.specs.Int.{IsGcd}

-- -1, 0 or 1, as the number is below, at or above 0
abbrev pub sign_of : ℤ → ℤ
sign_of (pos zero) = pos 0
sign_of (pos (suc n)) = pos 1
sign_of (negsuc n) = negsuc 0

-- the greatest number up to a bound that passes the test; 0 where none does
abbrev pub greatest_up_to : ℕ → (ℕ → Bool) → ℕ
greatest_up_to zero test = 0
greatest_up_to (suc n) test = if test (suc n) then suc n else greatest_up_to n test

-- the first of them that isn't 0; where all are, 0
abbrev pub first_nonzero : List ℕ → ℕ
first_nonzero [] = 0
first_nonzero (zero ∷ ns) = first_nonzero ns
first_nonzero (suc n ∷ ns) = suc n

-- the greatest number that divides them all; of zeros alone it is 0
unfoldable pub common_divisor : List ℕ → ℕ
common_divisor ns = greatest_up_to (first_nonzero ns) (λ d. list_all (λ n. n % d == 0) ns)

-- num/den is in lowest terms: den is above 0, and no number above 1 divides both
pub record IsLowest (num den : ℕ) : Type 0 where
  pub positive : 0 < den
  pub coprime : IsGcd num den 1
