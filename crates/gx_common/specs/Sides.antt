-- Vertices with their sides against planes, and the crossings that the sides alone tell to be in all the planes. For private functions.
use Rattle.std.specs.Prelude.{ℕ, ℤ, pos, ◌+ℤ◌, ◌*ℤ◌, int_le, int_lt, unsigned_abs, Bool, ◌&&◌, if◌then◌else◌, List, [], ◌∷◌, ◌++◌, map, filter_map, flat_map, Option, Some, None}
use Rattle.std.specs.List.{list_all, list_any, zip}
use Rattle.gx_num.specs.declared.vector.V3.{V3}
use Rattle.gx_num.specs.Space.{HalfSpace}
use Rattle.gx_num.specs.Vector4.{Vec4}
use Rattle.gx_plane.specs.Plane.{side_of}
use Rattle.gx_common.specs.Common.{mixed}

-- A point with its sides against planes.
pub record Sided : Type 0 where
  pub point : V3
  pub sides : List ℤ

abbrev pub sided : List HalfSpace → V3 → Sided
sided planes p = record { point = p; sides = map (λ h. side_of h p) planes }

-- the point (k p + l q) / (k + l) is in all the planes, by the sides of p and q
abbrev pub is_mixed_in : ℕ → List ℤ → ℕ → List ℤ → Bool
is_mixed_in k sides l others = list_all (λ t. int_le (pos k *ℤ t.0 +ℤ pos l *ℤ t.1) (pos 0)) (zip sides others)

-- both points are beyond one of the planes
abbrev pub are_beyond : List ℤ → List ℤ → Bool
are_beyond sides others = list_any (λ t. int_lt (pos 0) t.0 && int_lt (pos 0) t.1) (zip sides others)

-- the crossing with the plane against which these are the sides, where it is in all the planes
abbrev pub crossing_in : Sided → Sided → ℤ × ℤ → Option Vec4
crossing_in u v t =
    if int_lt (t.0 *ℤ t.1) (pos 0) && is_mixed_in (unsigned_abs t.1) u.sides (unsigned_abs t.0) v.sides then Some (mixed (unsigned_abs t.1) u.point (unsigned_abs t.0) v.point) else None

-- the crossings of two of the points, in the order of the planes
abbrev pub crossings_of_two : Sided → Sided → List Vec4
crossings_of_two u v = filter_map (crossing_in u v) (zip u.sides v.sides)

-- those of one point with each of others
abbrev pub crossings_with : Sided → List Sided → List Vec4
crossings_with u vs = flat_map (crossings_of_two u) vs

-- those of each two of the points
abbrev pub crossings_in : List Sided → List Vec4
crossings_in [] = []
crossings_in (u ∷ us) = crossings_with u us ++ crossings_in us
