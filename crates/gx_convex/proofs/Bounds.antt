-- Inequalities of solids, as facts.
use Rattle.std.proofs.Common.{◌≡◌, ◌≢◌, true, false, IsTrue, ℤ, pos, ◌*ℤ◌, int_le, List, All, ap, ◌∙◌, arith}
use Rattle.std.proofs.lemmas.List.Elements.{All-weaker}
use Rattle.std.proofs.lemmas.List.Sums.{AllPass-from_list_all}
use Rattle.gx_num.specs.declared.vector.V3.{V3}
use Rattle.gx_num.specs.Vector.{dot_of}
use Rattle.gx_num.specs.Space.{HalfSpace, is_in, normal_dot}
use Rattle.gx_num.specs.Vector4.{Vec4}
use Rattle.gx_plane.specs.Plane.{is_zero}
use Rattle.gx_plane.proofs.Divisors.{zero-is_zero}
use Rattle.gx_convex.specs.Hull.{IsAtMost}
use Rattle.gx_convex.proofs.Distinct.{by_bool}
use borrow.Author.Differences.{ints}

pub All-is_in : (solid : List HalfSpace) (p : Vec4) → IsTrue (is_in solid p) → All (λ h. IsAtMost h p) solid
All-is_in solid p e =
    All-weaker (λ h. int_le (normal_dot h p) (h.e *ℤ p.w) ≡ true) (λ h. IsAtMost h p) (λ h e. omega (arith, ints, e)) solid
    (AllPass-from_list_all (λ h. int_le (normal_dot h p) (h.e *ℤ p.w)) solid e)

-- a vector whose product with another isn't 0
pub not_is_zero : (n d : V3) → dot_of n d ≢ pos 0 → is_zero n ≡ false
not_is_zero n d h =
    by_bool (is_zero n) (λ e. absurd (h (ap (λ (v : V3). dot_of v d) (zero-is_zero n e) ∙ nothing d.x d.y d.z))) (λ e. e)
  where
    nothing : (x y z : ℤ) → dot_of (record { x = pos 0; y = pos 0; z = pos 0 }) (record { x = x; y = y; z = z }) ≡ pos 0
    nothing x y z = omega (arith, ints)
