-- EXTRUDED: a convex polygon, scaled and moved at two heights (the Geant4 Book for Application Developers, geometry, solids:
-- G4ExtrudedSolid with two sections). The faults and the order of vertices are this project's own.
use Rattle.std.specs.Prelude.{ℤ, pos, neg_ℤ, ◌+ℤ◌, ◌-ℤ◌, ◌*ℤ◌, int_div, int_rem, List, ◌∷◌, ◌++◌, map, Bool, ◌&&◌}
use Rattle.std.specs.List.{list_all}
use Rattle.std.specs.Ordering.{int_eq}
use Rattle.gx_num.specs.declared.vector.V3.{V3}
use Rattle.gx_num.specs.Space.{HalfSpace}
use Rattle.gx_polygon.specs.Polygon.{edges_of}
use Rattle.gx_shapes.specs.declared.section.Scale.{Scale}
use Rattle.gx_shapes.specs.declared.section.Section.{Section}
use Rattle.gx_shapes.specs.Space.{point, half_space}

-- k times the scale, where that is whole
abbrev pub scaled : Scale → ℤ → ℤ
scaled s k = int_div (s.num *ℤ k) s.den

-- k times the scale is whole
abbrev pub is_whole : Scale → ℤ → Bool
is_whole s k = int_eq (int_rem (s.num *ℤ k) s.den) (pos 0)

-- all corners times the scale are whole
abbrev pub are_whole : Scale → List V3 → Bool
are_whole s corners = list_all (λ c. is_whole s c.x && is_whole s c.y) corners

-- a corner of the polygon, in the section
abbrev pub corner : Section → V3 → V3
corner s c = point (s.x +ℤ scaled s.scale c.x) (s.y +ℤ scaled s.scale c.y) s.z

-- The sum a*x + b*y at an edge in the section, with (a, b) the edge's outward normal. With c = a*X + b*Y at the edge of the polygon
-- it is the scale times c, and a and b times the section's move; by its first corner it is free of fractions.
abbrev pub level : Section → V3 × V3 → ℤ
level s e = (e.1.y -ℤ e.0.y) *ℤ (corner s e.0).x +ℤ (e.0.x -ℤ e.1.x) *ℤ (corner s e.0).y

-- (z2-z1)*(a*x + b*y) <= (z2-z)*(level in the first) + (z-z1)*(level in the second)
abbrev pub side : Section → Section → V3 × V3 → HalfSpace
side s t e =
    half_space ((t.z -ℤ s.z) *ℤ (e.1.y -ℤ e.0.y)) ((t.z -ℤ s.z) *ℤ (e.0.x -ℤ e.1.x)) (level s e -ℤ level t e) (t.z *ℤ level s e -ℤ s.z *ℤ level t e)

-- z1 <= z <= z2, and one for each edge
abbrev pub extrusion : Section → Section → List V3 → List HalfSpace
extrusion s t corners =
    half_space (pos 0) (pos 0) (pos 1) t.z ∷ half_space (pos 0) (pos 0) (neg_ℤ (pos 1)) (neg_ℤ s.z) ∷ map (side s t) (edges_of corners)

-- the corners in the first section, and then those in the second
abbrev pub extrusion_vertices : Section → Section → List V3 → List V3
extrusion_vertices s t corners = map (corner s) corners ++ map (corner t) corners
