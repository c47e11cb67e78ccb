-- Planes that are known from outside.
use Rattle.std.proofs.Common.{◌≡◌, ℕ, pred, ℤ, pos, negsuc, List, [], ◌∷◌, ◌++◌, find, Some, None, refl}
use Rattle.gx_num.specs.declared.vector.V3.{V3}
use Rattle.gx_num.specs.Number.{common_divisor}
use Rattle.gx_plane.specs.Plane.{divisor_of, plane_through}
use Rattle.gx_plane.specs.Between.{is_between, candidates}

abbrev at : ℤ → ℤ → ℤ → V3
at x y z = record { x = x; y = y; z = z }

abbrev minus : ℕ → ℤ
minus n = negsuc (pred n)

divisor_known : divisor_of (at (pos 12) (minus 18) (pos 0)) ≡ 6
unfolding common_divisor
divisor_known = refl

collinear_known : plane_through (at (pos 0) (pos 0) (pos 0)) (at (pos 1) (pos 2) (pos 3)) (at (pos 2) (pos 4) (pos 6)) ≡ None
collinear_known = refl

-- two tetrahedra that no face parts
abbrev first_solid : List V3
first_solid = at (minus 10) (pos 0) (minus 10) ∷ at (pos 10) (pos 0) (pos 10) ∷ at (pos 0) (minus 3) (minus 13) ∷ at (pos 0) (pos 3) (minus 7) ∷ []

abbrev second_solid : List V3
second_solid = at (pos 0) (minus 10) (minus 9) ∷ at (pos 0) (pos 10) (pos 11) ∷ at (minus 3) (pos 0) (pos 8) ∷ at (pos 3) (pos 0) (pos 14) ∷ []

between_known : find (is_between first_solid second_solid) (candidates (first_solid ++ second_solid)) ≡ Some (record { n = at (minus 10) (minus 9) (pos 10); e = pos 0 })
unfolding common_divisor
between_known = refl
