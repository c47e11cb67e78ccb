-- Parameters of a ray in any terms. No public contract stands on this file.
use Rattle.std.specs.Prelude.{◌≡◌, ◌*◌, ◌<◌, ◌≤ℤ◌, ◌^◌, pos, Bool, nat_lt, if◌then◌else◌}
use Rattle.gx_num.specs.Number.{IsLowest}
use Rattle.gx_num.specs.Ray.{RayParameter}
use Rattle.gx_fraction.specs.Fraction.{Fraction, parameter_of}

-- the denominator is above 0, and the numbers fit
pub record IsHeld (t : RayParameter) : Type 0 where
  pub positive : 0 < t.den
  pub num : t.num < 2 ^ 126
  pub den : t.den < 2 ^ 126

-- s < t
abbrev pub is_below : RayParameter → RayParameter → Bool
is_below s t = nat_lt (s.num * t.den) (t.num * s.den)

abbrev pub lesser : RayParameter → RayParameter → RayParameter
lesser s t = if is_below t s then t else s

abbrev pub greater : RayParameter → RayParameter → RayParameter
greater s t = if is_below s t then t else s

-- the fraction is the same number in lowest terms, and isn't negative
pub record IsLowestForm (t : RayParameter) (f : Fraction) : Type 0 where
  pub den : 0 < t.den
  pub sign : pos 0 ≤ℤ f.num
  pub lowest : IsLowest (parameter_of f).num f.den
  pub same : (parameter_of f).num * t.den ≡ t.num * f.den
