-- What the tests of numbers, planes and points decide.
use Rattle.std.proofs.Common.{◌≡◌, Bool, true, ℤ, ◌*ℤ◌, ◌≤ℤ◌, ◌<ℤ◌, int_le, int_lt, pos, List, All, refl, arith}
use Rattle.std.specs.Bool.{Decides}
use Rattle.std.proofs.lemmas.Bool.Decides.{Decides-by_and}
use Rattle.gx_num.specs.Space.{HalfSpace, is_in, is_inside, normal_dot}
use Rattle.gx_num.specs.Vector4.{Vec4}
use Rattle.gx_num.specs.declared.vector.V3.{V3}
use Rattle.gx_plane.specs.Plane.{side_of}
use Rattle.gx_plane.proofs.PlaneFacts.{Decides-int_le}
use Rattle.gx_convex.specs.Hull.{IsAtMost}
use borrow.Author.Differences.{ints}

pub Decides-itself : (b : Bool) → Decides b (b ≡ true)
Decides-itself b = (λ e. e, λ e. e)

pub Decides-int_lt : (a b : ℤ) → Decides (int_lt a b) (a <ℤ b)
Decides-int_lt a b = (λ e. omega (arith, ints, e), λ lt. grind (arith, ints))

pub Decides-is_in : (solid : List HalfSpace) (p : Vec4) → Decides (is_in solid p) (All (λ h. IsAtMost h p) solid)
Decides-is_in solid p =
    Decides-by_and (λ h. int_le (normal_dot h p) (h.e *ℤ p.w)) (λ h. IsAtMost h p) (λ hs. is_in hs p) (λ h. Decides-int_le (normal_dot h p) (h.e *ℤ p.w)) refl (λ _ _. refl) solid

pub Decides-is_inside : (solid : List HalfSpace) (p : Vec4) → Decides (is_inside solid p) (All (λ h. normal_dot h p <ℤ (h.e *ℤ p.w)) solid)
Decides-is_inside solid p =
    Decides-by_and (λ h. int_lt (normal_dot h p) (h.e *ℤ p.w)) (λ h. normal_dot h p <ℤ (h.e *ℤ p.w)) (λ hs. is_inside hs p) (λ h. Decides-int_lt (normal_dot h p) (h.e *ℤ p.w)) refl (λ _ _. refl) solid

-- no point is beyond the plane, point by point
abbrev pub AreBehind : HalfSpace → List V3 → Type 0
AreBehind h points = All (λ p. side_of h p ≤ℤ pos 0) points
