-- Lesser and greater parameters, and parameters in lowest terms.
use Rattle.std.proofs.Common.{◌≡◌, pos, ◌/◌, ◌<◌, ◌↔◌, refl, arith, true, false, Bool, cond}
use Rattle.std.specs.Prelude.{if◌then◌else◌}
use Rattle.std.proofs.lemmas.Bool.Decides.{nat_tests}
use Rattle.std.proofs.lemmas.Int.{ints}
use Rattle.gx_num.specs.Ray.{RayParameter, IsBelow, IsUpTo}
use Rattle.gx_num.proofs.Order.{le_lt, lt_le, lt_lt}
use Rattle.gx_fraction.specs.Fraction.{Fraction, parameter_of}
use Rattle.gx_fraction.proofs.Gcd.{divisor, coprime, crossed, positive_gcd, positive_quotient}
use Rattle.gx_clip.specs.Parameter.{is_below, lesser, greater, IsLowestForm}

-- what a comparison chooses
pub by_below : (P : RayParameter → Type 0) (s t a b : RayParameter) → (IsBelow s t → P a) → (IsUpTo t s → P b) → P (if is_below s t then a else b)
by_below P s t a b less more = go (is_below s t) refl
  where
    go : (c : Bool) → is_below s t ≡ c → P (cond c a b)
    go true e = less (grind (arith, nat_tests))
    go false e = more (grind (arith, nat_tests))

pub below-lesser : (t a b : RayParameter) → 0 < t.den → 0 < b.den → IsBelow t (lesser a b) ↔ (IsBelow t a × IsBelow t b)
below-lesser t a b dt db =
    by_below (λ m. IsBelow t m ↔ (IsBelow t a × IsBelow t b)) b a b a
    (λ less. (λ h. (lt_lt t b a dt h less, h), λ h. h.1))
    (λ up. (λ h. (h, lt_le t a b db h up), λ h. h.0))

pub greater-below : (a b t : RayParameter) → 0 < a.den → 0 < b.den → IsBelow (greater a b) t ↔ (IsBelow a t × IsBelow b t)
greater-below a b t da db =
    by_below (λ m. IsBelow m t ↔ (IsBelow a t × IsBelow b t)) a b b a
    (λ less. (λ h. (lt_lt a b t da less h, h), λ h. h.1))
    (λ up. (λ h. (h, le_lt b a t db up h), λ h. h.0))

-- ---- lowest terms keep the order
module _ (s t : RayParameter) (f : Fraction) (form : IsLowestForm s f) where
  pub form-below : IsBelow (parameter_of f) t ↔ IsBelow s t
  form-below = (
    le_lt s (parameter_of f) t form.den (omega (arith, form.same)),
    le_lt (parameter_of f) s t form.lowest.positive (omega (arith, form.same)),
  )

  pub below-form : IsBelow t (parameter_of f) ↔ IsBelow t s
  below-form = (
    λ h. lt_le t (parameter_of f) s form.den h (omega (arith, form.same)),
    λ h. lt_le t s (parameter_of f) form.lowest.positive h (omega (arith, form.same)),
  )

pub form-below_form : (s t : RayParameter) (f g : Fraction) → IsLowestForm s f → IsLowestForm t g → IsBelow s t → IsBelow (parameter_of f) (parameter_of g)
form-below_form s t f g p q h = (below-form t (parameter_of f) g q).1 ((form-below s t f p).1 h)

-- each parameter has them
pub lowest_form : (s : RayParameter) → 0 < s.den → (f : Fraction) × IsLowestForm s f
lowest_form s h =
    let g = divisor s.num s.den in
    let positive = positive_gcd s.num s.den g.greatest h g.is in (
      record { num = pos (s.num / g.greatest); den = s.den / g.greatest },
      record {
        den = h;
        sign = omega (arith, ints);
        lowest = record { positive = positive_quotient s.num s.den g.greatest h g.is; coprime = coprime s.num s.den g.greatest positive g.is };
        same = crossed s.num s.den g.greatest g.is;
      },
    )
