-- Fractions: equality, lowest terms and order, by products crosswise (any text on arithmetic).
use Rattle.std.specs.Prelude.{◌≡◌, ℕ, ℤ, ◌<◌, ◌^◌, ◌*ℤ◌, ◌/◌, int_div, pos, neg_ℤ, unsigned_abs, if◌then◌else◌, [], ◌∷◌}
use Rattle.gx_num.specs.Number.{common_divisor, IsLowest}
use Rattle.gx_num.specs.Ray.{RayParameter}
use Rattle.std.specs.Ordering.{int_cmp, is_lt, is_gt}
use Rattle.std.specs.declared.cmp.Ordering.{Ordering}

-- num/den; den is above 0
pub record Fraction : Type 0 where
  pub num : ℤ
  pub den : ℕ

-- a/b and c/d are one number: a*d = c*b
abbrev pub IsEqual : Fraction → Fraction → Type 0
IsEqual a b = a.num *ℤ pos b.den ≡ b.num *ℤ pos a.den

-- num/den in lowest terms
abbrev pub lowest : ℤ → ℕ → Fraction
lowest num den =
    let divisor = common_divisor (den ∷ unsigned_abs num ∷ []) in record { num = int_div num (pos divisor); den = den / divisor }

abbrev pub opposite : Fraction → Fraction
opposite f = record { num = neg_ℤ f.num; den = f.den }

-- a/b against c/d: a*d against c*b
abbrev pub compare : Fraction → Fraction → Ordering
compare a b = int_cmp (a.num *ℤ pos b.den) (b.num *ℤ pos a.den)

abbrev pub greater : Fraction → Fraction → Fraction
greater a b = if is_lt (compare a b) then b else a

abbrev pub smaller : Fraction → Fraction → Fraction
smaller a b = if is_gt (compare a b) then b else a

-- a fraction that isn't negative, as a parameter of a ray
abbrev pub parameter_of : Fraction → RayParameter
parameter_of f = record { num = unsigned_abs f.num; den = f.den }

-- what every fraction here is: in lowest terms, with numbers that fit
pub record IsNormal (f : Fraction) : Type 0 where
  pub lowest : IsLowest (unsigned_abs f.num) f.den
  pub num : unsigned_abs f.num < 2 ^ 126
  pub den : f.den < 2 ^ 126
