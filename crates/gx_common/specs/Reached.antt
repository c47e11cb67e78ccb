-- Quick answers: extents that have no inside in common, and faces with no vertex strictly inside.
use Rattle.std.specs.Prelude.{pos, int_le, int_lt, Bool, ◌||◌, List}
use Rattle.std.specs.List.{list_all, list_any}
use Rattle.gx_num.specs.declared.vector.V3.{V3}
use Rattle.gx_num.specs.declared.extent.Extent.{Extent}
use Rattle.gx_num.specs.Space.{HalfSpace}
use Rattle.gx_plane.specs.Plane.{side_of}

-- on some axis the first coordinate is at most the second
abbrev pub is_any_at_most : V3 → V3 → Bool
is_any_at_most p q = int_le p.x q.x || (int_le p.y q.y || int_le p.z q.z)

-- on some axis the one ends where the other begins, or before
abbrev pub are_extents_apart : Extent → Extent → Bool
are_extents_apart a b = is_any_at_most a.high b.low || is_any_at_most b.high a.low

-- for each plane one of the points is strictly inside it
abbrev pub are_reached_by : List HalfSpace → List V3 → Bool
are_reached_by planes points = list_all (λ h. list_any (λ p. int_lt (side_of h p) (pos 0)) points) planes
