-- TESSELLATED: facets of three or four corners, anticlockwise from outside (the Geant4 Book for Application Developers, geometry,
-- solids: G4TessellatedSolid). The faults and the order of vertices are this project's own.
use Rattle.std.specs.Prelude.{pos, int_le, Bool, false, ◌&&◌, ◌==◌, not, List, [], ◌∷◌, map, flat_map, filter, length, Option, Some, None}
use Rattle.std.specs.List.{list_all, list_any}
use Rattle.std.specs.Ordering.{int_eq}
use Rattle.gx_num.specs.declared.vector.V3.{V3}
use Rattle.gx_num.specs.Vector.{is_same, dot_of, cross_of, difference_of}
use Rattle.gx_num.specs.Space.{HalfSpace}
use Rattle.gx_plane.specs.Plane.{is_zero, side_of, normal_of, plane_from, plane_through, supports}
use Rattle.gx_convex.specs.Faces.{is_same_plane}
use Rattle.gx_polygon.specs.Around.{around}
use Rattle.gx_shapes.specs.declared.facet.Facet.{Facet}

abbrev pub fourth : Option V3 → List V3
fourth None = []
fourth (Some d) = d ∷ []

-- the corners of a facet, in their order
abbrev pub corners_of : Facet → List V3
corners_of f = f.a ∷ f.b ∷ f.c ∷ fourth f.d

-- n . (x - a) <= 0 with n = (b-a) x (c-a)
abbrev pub inward : Facet → HalfSpace
inward f = plane_from (normal_of f.a f.b f.c) f.a

-- the solid's inequalities: one for each facet
abbrev pub tessellation : List Facet → List HalfSpace
tessellation facets = map inward facets

-- its vertices; repeated points are there as often as they come
abbrev pub tessellation_vertices : List Facet → List V3
tessellation_vertices facets = flat_map corners_of facets

-- ---- the faults

-- there is a normal, and all corners are on the plane
abbrev pub is_planar : Facet → Bool
is_planar f = not (is_zero (inward f).n) && list_all (λ p. int_eq (side_of (inward f) p) (pos 0)) (corners_of f)

-- an edge and the one after it turn no other way than the facet
abbrev pub turns_well : HalfSpace → (V3 × V3) × (V3 × V3) → Bool
turns_well h t = int_le (pos 0) (dot_of h.n (cross_of (difference_of t.0.1 t.0.0) (difference_of t.1.1 t.1.0)))

-- no point is beyond the facet, and the facet has no turn the other way
abbrev pub is_outer : List V3 → Facet → Bool
is_outer points f = supports (inward f) points && list_all (turns_well (inward f)) (around (around (corners_of f)))

abbrev pub is_plane : HalfSpace → Option HalfSpace → Bool
is_plane face None = false
is_plane face (Some h) = is_same_plane face h

-- the face is in the facet's plane
abbrev pub covers : HalfSpace → Facet → Bool
covers face f = is_plane face (plane_through f.a f.b f.c)

-- the face is in some facet's plane
abbrev pub is_covered : List Facet → HalfSpace → Bool
is_covered facets face = list_any (covers face) facets

abbrev pub is_same_edge : V3 × V3 → V3 × V3 → Bool
is_same_edge d e = is_same d.0 e.0 && is_same d.1 e.1

-- the edge joins two points, stands once, and its reverse stands
abbrev pub is_joined : List (V3 × V3) → V3 × V3 → Bool
is_joined edges e = not (is_same e.0 e.1) && length (filter (is_same_edge e) edges) == 1 && list_any (is_same_edge (e.1, e.0)) edges

-- the directed edges of all facets
abbrev pub facet_edges : List Facet → List (V3 × V3)
facet_edges facets = flat_map (λ f. around (corners_of f)) facets
