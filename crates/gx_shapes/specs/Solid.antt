-- What a figure stands for: its inequalities, its vertices, and the fault of the whole.
use Rattle.std.specs.Prelude.{Bool, not, nat_lt, List, [], ◌∷◌, length, Option, None, Some, if◌then◌else◌}
use Rattle.std.specs.List.{list_all}
use Rattle.gx_num.specs.declared.vector.V3.{V3}
use Rattle.gx_num.specs.Space.{HalfSpace}
use Rattle.gx_table.specs.declared.fault.FaultName.{FaultName}
use Rattle.gx_table.specs.declared.fault.FaultName.TheVariants.{Vertices, Flat, NotPlanar, NotConvex, MissingFace, OpenEdge}
use Rattle.gx_convex.specs.Points.{distinct, are_coplanar}
use Rattle.gx_convex.specs.Faces.{faces_of}
use Rattle.gx_polygon.specs.Polygon.{is_straight, is_convex}
use Rattle.gx_shapes.specs.declared.facet.Facet.{Facet}
use Rattle.gx_shapes.specs.declared.figure.Figure.{Figure}
use Rattle.gx_shapes.specs.declared.figure.Figure.TheVariants as figure
use Rattle.gx_shapes.specs.declared.kind.SolidKind.{SolidKind}
use Rattle.gx_shapes.specs.declared.kind.SolidKind.TheVariants as kind
use Rattle.gx_shapes.specs.Straight.{box, trapezoid, tetrahedron, frustum}
use Rattle.gx_shapes.specs.Extrusion.{extrusion, extrusion_vertices}
use Rattle.gx_shapes.specs.Tessellation.{tessellation, tessellation_vertices, is_planar, is_outer, is_covered, is_joined, facet_edges}

abbrev pub kind_of : Figure → SolidKind
kind_of (figure.Cuboid hx hy hz) = kind.Cuboid
kind_of (figure.Trd dx1 dx2 dy1 dy2 dz) = kind.Trd
kind_of (figure.Tet a b c d) = kind.Tet
kind_of (figure.Extruded corners s t) = kind.Extruded
kind_of (figure.Tessellated facets) = kind.Tessellated

-- the inequalities of a solid: a point is in it where all hold, and inside where all hold strictly
abbrev pub solid_of : Figure → List HalfSpace
solid_of (figure.Cuboid hx hy hz) = box hx hy hz
solid_of (figure.Trd dx1 dx2 dy1 dy2 dz) = trapezoid dx1 dx2 dy1 dy2 dz
solid_of (figure.Tet a b c d) = tetrahedron a b c d
solid_of (figure.Extruded corners s t) = extrusion s t corners
solid_of (figure.Tessellated facets) = tessellation facets

-- its vertices in their order; repeated points are there as often as they come
abbrev pub vertices_of : Figure → List V3
vertices_of (figure.Cuboid hx hy hz) = frustum hx hx hy hy hz
vertices_of (figure.Trd dx1 dx2 dy1 dy2 dz) = frustum dx1 dx2 dy1 dy2 dz
vertices_of (figure.Tet a b c d) = a ∷ b ∷ c ∷ d ∷ []
vertices_of (figure.Extruded corners s t) = extrusion_vertices s t corners
vertices_of (figure.Tessellated facets) = tessellation_vertices facets

-- ---- the faults of the whole

-- the first name whose test holds
abbrev pub first_true : List (Bool × FaultName) → Option FaultName
first_true [] = None
first_true (row ∷ rows) = if row.0 then Some row.1 else first_true rows

-- of facets with these distinct points, where the points have a hull
abbrev pub facet_faults : List Facet → List V3 → List (Bool × FaultName)
facet_faults facets points =
    (not (list_all is_planar facets), NotPlanar)
    ∷ (not (list_all (is_outer points) facets), NotConvex)
    ∷ (not (list_all (is_covered facets) (faces_of points)), MissingFace)
    ∷ (not (list_all (is_joined (facet_edges facets)) (facet_edges facets)), OpenEdge)
    ∷ []

abbrev pub tessellation_faults : List Facet → List V3 → List (Bool × FaultName)
tessellation_faults facets points = (nat_lt 32 (length points), Vertices) ∷ (are_coplanar points, Flat) ∷ facet_faults facets points

-- the fault of the whole solid
abbrev pub whole_fault : Figure → Option FaultName
whole_fault (figure.Cuboid hx hy hz) = None
whole_fault (figure.Trd dx1 dx2 dy1 dy2 dz) = None
whole_fault (figure.Tet a b c d) = first_true ((are_coplanar (vertices_of (figure.Tet a b c d)), Flat) ∷ [])
whole_fault (figure.Extruded corners s t) = first_true ((is_straight corners, Flat) ∷ (not (is_convex corners), NotConvex) ∷ [])
whole_fault (figure.Tessellated facets) = first_true (tessellation_faults facets (distinct (tessellation_vertices facets)))
