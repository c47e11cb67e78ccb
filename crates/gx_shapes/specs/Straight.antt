-- BOX, TRD and TET: their inequalities and their vertices (the Geant4 Book for Application Developers, geometry, solids: G4Box and
-- G4Trd, half-lengths; G4Tet). The order of vertices is this project's own.
use Rattle.std.specs.Prelude.{ℤ, pos, neg_ℤ, ◌+ℤ◌, ◌-ℤ◌, ◌*ℤ◌, int_lt, List, [], ◌∷◌, ◌++◌, if◌then◌else◌}
use Rattle.gx_num.specs.declared.vector.V3.{V3}
use Rattle.gx_num.specs.Space.{HalfSpace}
use Rattle.gx_plane.specs.Plane.{normal_of, side_of, flipped, plane_from}
use Rattle.gx_shapes.specs.Space.{point, half_space}

-- |x| <= hx, |y| <= hy, |z| <= hz
abbrev pub box : ℤ → ℤ → ℤ → List HalfSpace
box hx hy hz =
    half_space (pos 1) (pos 0) (pos 0) hx ∷ half_space (neg_ℤ (pos 1)) (pos 0) (pos 0) hx
    ∷ half_space (pos 0) (pos 1) (pos 0) hy ∷ half_space (pos 0) (neg_ℤ (pos 1)) (pos 0) hy
    ∷ half_space (pos 0) (pos 0) (pos 1) hz ∷ half_space (pos 0) (pos 0) (neg_ℤ (pos 1)) hz ∷ []

-- 2*dz*|x| <= (dx1+dx2)*dz + (dx2-dx1)*z, the same for y with dy, and |z| <= dz
abbrev pub trapezoid : ℤ → ℤ → ℤ → ℤ → ℤ → List HalfSpace
trapezoid dx1 dx2 dy1 dy2 dz =
    half_space (pos 2 *ℤ dz) (pos 0) (dx1 -ℤ dx2) ((dx1 +ℤ dx2) *ℤ dz)
    ∷ half_space (neg_ℤ (pos 2 *ℤ dz)) (pos 0) (dx1 -ℤ dx2) ((dx1 +ℤ dx2) *ℤ dz)
    ∷ half_space (pos 0) (pos 2 *ℤ dz) (dy1 -ℤ dy2) ((dy1 +ℤ dy2) *ℤ dz)
    ∷ half_space (pos 0) (neg_ℤ (pos 2 *ℤ dz)) (dy1 -ℤ dy2) ((dy1 +ℤ dy2) *ℤ dz)
    ∷ half_space (pos 0) (pos 0) (pos 1) dz ∷ half_space (pos 0) (pos 0) (neg_ℤ (pos 1)) dz ∷ []

-- the side of the plane of a, b and c on which d is
abbrev pub inner : V3 → V3 → V3 → V3 → HalfSpace
inner a b c d =
    let plane = plane_from (normal_of a b c) a in
    if int_lt (pos 0) (side_of plane d) then flipped plane else plane

-- on the inner side of, or on, each plane through three of the points
abbrev pub tetrahedron : V3 → V3 → V3 → V3 → List HalfSpace
tetrahedron a b c d = inner a b c d ∷ inner a b d c ∷ inner a c d b ∷ inner b c d a ∷ []

-- ---- the vertices

-- the corners of a rectangle at height z: y from minus to plus, and within it x from minus to plus
abbrev pub corners : ℤ → ℤ → ℤ → List V3
corners x y z = point (neg_ℤ x) (neg_ℤ y) z ∷ point x (neg_ℤ y) z ∷ point (neg_ℤ x) y z ∷ point x y z ∷ []

-- those of two rectangles, at -dz and at dz
abbrev pub frustum : ℤ → ℤ → ℤ → ℤ → ℤ → List V3
frustum dx1 dx2 dy1 dy2 dz = corners dx1 dy1 (neg_ℤ dz) ++ corners dx2 dy2 dz
