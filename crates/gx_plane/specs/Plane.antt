-- Planes of whole numbers with primitive normals: the points where n . p = e.
use Rattle.std.specs.Prelude.{◌≡◌, ℕ, ◌*◌, ◌≤◌, ℤ, pos, ◌-ℤ◌, int_le, int_div, unsigned_abs, Bool, ◌&&◌, ◌==◌, if◌then◌else◌, Option, Some, None, List, [], ◌∷◌}
use Rattle.std.specs.List.{list_all}
use Rattle.gx_num.specs.declared.vector.V3.{V3}
use Rattle.gx_num.specs.declared.vector.TheConstants.{M}
use Rattle.gx_num.specs.Number.{common_divisor}
use Rattle.gx_num.specs.Vector.{IsWithin, dot_of, cross_of, difference_of, opposite_of}
use Rattle.gx_num.specs.Space.{HalfSpace}

-- the greatest magnitude of a coordinate here: corners of a solid that is placed
abbrev pub reach : ℕ
reach = 2 * unsigned_abs M

-- the greatest magnitudes in the normal of a plane through three points, and of its e
abbrev pub normal_reach : ℕ
normal_reach = 8 * (reach * reach)

abbrev pub offset_reach : ℕ
offset_reach = 24 * (reach * reach * reach)

-- the greatest common divisor of the components; of the zero vector it is 0
abbrev pub divisor_of : V3 → ℕ
divisor_of v = common_divisor (unsigned_abs v.x ∷ unsigned_abs v.y ∷ unsigned_abs v.z ∷ [])

-- the components divided by their common divisor
abbrev pub primitive : V3 → V3
primitive v = record {
  x = int_div v.x (pos (divisor_of v));
  y = int_div v.y (pos (divisor_of v));
  z = int_div v.z (pos (divisor_of v));
}

-- the vector is not zero, and no number above 1 divides all its components
pub record IsPrimitive (v : V3) : Type 0 where
  pub divisor : divisor_of v ≡ 1

-- how far p is beyond the plane, times the length of the normal
abbrev pub side_of : HalfSpace → V3 → ℤ
side_of h p = dot_of h.n p -ℤ h.e

-- no point is beyond the plane
abbrev pub supports : HalfSpace → List V3 → Bool
supports h points = list_all (λ p. int_le (side_of h p) (pos 0)) points

-- the same plane with the opposite normal
abbrev pub flipped : HalfSpace → HalfSpace
flipped h = record { n = opposite_of h.n; e = pos 0 -ℤ h.e }

-- orthogonal to the plane of three points; zero exactly where they are collinear
abbrev pub normal_of : V3 → V3 → V3 → V3
normal_of a b c = cross_of (difference_of b a) (difference_of c a)

-- the plane with this normal through a
abbrev pub plane_from : V3 → V3 → HalfSpace
plane_from n a = record { n = n; e = dot_of n a }

-- the same with the normal made primitive
abbrev pub plane_at : V3 → V3 → HalfSpace
plane_at n a = plane_from (primitive n) a

abbrev pub is_zero : V3 → Bool
is_zero v = unsigned_abs v.x == 0 && (unsigned_abs v.y == 0 && unsigned_abs v.z == 0)

-- the plane with a normal along n through a; None where n is zero
abbrev pub plane_with : V3 → V3 → Option HalfSpace
plane_with n a = if is_zero n then None else Some (plane_at n a)

-- the plane of three points; None where they are collinear
abbrev pub plane_through : V3 → V3 → V3 → Option HalfSpace
plane_through a b c = plane_with (normal_of a b c) a

-- 1 where it is the given axis, of 0, 1 and 2 for x, y and z
abbrev pub on_axis : ℕ → ℕ → ℤ
on_axis axis this = if axis == this then pos 1 else pos 0

abbrev pub unit_along : ℕ → V3
unit_along axis = record { x = on_axis axis 0; y = on_axis axis 1; z = on_axis axis 2 }

-- the plane through a coordinate of an axis, with the normal along the axis or against it
abbrev pub plane_along : ℕ → Bool → ℤ → HalfSpace
plane_along axis positive at =
    let along : HalfSpace = record { n = unit_along axis; e = at } in if positive then along else flipped along

-- what each plane here keeps
pub record IsPlane (h : HalfSpace) : Type 0 where
  pub primitive : IsPrimitive h.n
  pub within : IsWithin normal_reach h.n
  pub offset_within : unsigned_abs h.e ≤ offset_reach
