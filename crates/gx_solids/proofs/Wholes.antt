-- The fault of a whole figure by the hull of its vertices.
use Rattle.std.proofs.Common.{◌≡◌, Bool, true, false, cond, List, length, Option, None, Some, Ok, Err, refl, ◌∙◌, arith}
use Rattle.std.specs.Prelude.{nat_lt, Result}
use Rattle.std.proofs.lemmas.Bool.Decides.{nat_tests}
use Rattle.gx_num.specs.declared.vector.V3.{V3}
use Rattle.gx_table.specs.declared.fault.FaultName.{FaultName}
use Rattle.gx_table.specs.declared.fault.FaultName.TheVariants.{Vertices as VerticesName, Flat as FlatName}
use Rattle.gx_convex.specs.Points.{distinct, are_coplanar}
use Rattle.gx_convex.proofs.Distinct.{length-distinct_le}
use Rattle.gx_convex.proofs.Coplanar.{are_coplanar-distinct}
use Rattle.gx_shapes.specs.declared.figure.Figure.{Figure}
use Rattle.gx_shapes.specs.declared.figure.Figure.TheVariants.{Cuboid, Trd, Tet, Extruded, Tessellated}
use Rattle.gx_shapes.specs.Solid.{vertices_of, whole_fault}
use Rattle.gx_shapes.specs.Accepted.{IsFigure, IsSolid}
use Rattle.gx_hull.specs.declared.fault.HullFault.{HullFault}
use Rattle.gx_hull.specs.declared.fault.HullFault.TheVariants.{Vertices, Flat, NoMemory}
use Rattle.gx_hull.specs.Hull.{hull_of}
use Rattle.gx_solids.specs.Whole.{polygon_fault, facet_fault}
use Rattle.gx_shapes.proofs.Solids.{whole_hull}

-- the fault of a hull, and else another
abbrev pub hull_fault_or : Option FaultName → Result (List V3) HullFault → Option FaultName
hull_fault_or other (Ok hull) = other
hull_fault_or other (Err Vertices) = Some VerticesName
hull_fault_or other (Err Flat) = Some FlatName
hull_fault_or other (Err NoMemory) = None

abbrev hull_by : List V3 → Bool → Bool → Result (List V3) HullFault
hull_by points many flat = cond many (Err Vertices) (cond flat (Err Flat) (Ok points))

fault_by : (other : Option FaultName) (points : List V3) (many flat : Bool) → cond many (Some VerticesName) (cond flat (Some FlatName) other) ≡ hull_fault_or other (hull_by points many flat)
fault_by other points true flat = refl
fault_by other points false true = refl
fault_by other points false false = refl

points_by : (points : List V3) (many flat : Bool) (hull : List V3) → hull_by points many flat ≡ Ok hull → hull ≡ points
points_by points true flat hull e = absurd cc
points_by points false true hull e = absurd cc
points_by points false false hull e = cc

pub hull_points : (points hull : List V3) → hull_of points ≡ Ok hull → hull ≡ distinct points
hull_points points hull e = points_by (distinct points) (nat_lt 32 (length (distinct points))) (are_coplanar (distinct points)) hull e

-- a solid's vertices have a hull
has_hull : (figure : Figure) → IsSolid figure → (other : Option FaultName) → other ≡ hull_fault_or other (hull_of (vertices_of figure))
has_hull figure is other =
    let whole = whole_hull figure is in
    let few : nat_lt 32 (length (distinct (vertices_of figure))) ≡ false = grind (arith, nat_tests, whole.1) in
    rw (few, whole.0) refl

pub whole_by_hull : (figure : Figure) → IsFigure figure → polygon_fault figure ≡ None → whole_fault figure ≡ hull_fault_or (facet_fault figure) (hull_of (vertices_of figure))
whole_by_hull (Cuboid hx hy hz) is none = has_hull (Cuboid hx hy hz) (record { values = is; whole = refl }) None
whole_by_hull (Trd dx1 dx2 dy1 dy2 dz) is none = has_hull (Trd dx1 dx2 dy1 dy2 dz) (record { values = is; whole = refl }) None
whole_by_hull (Tet a b c d) is none =
    let points = vertices_of (Tet a b c d) in
    let less = length-distinct_le points in
    let few : nat_lt 32 (length (distinct points)) ≡ false = grind (arith, nat_tests, less) in
    rw (few, are_coplanar-distinct points) (fault_by None (distinct points) false (are_coplanar points))
whole_by_hull (Extruded corners s t) is none = none ∙ has_hull (Extruded corners s t) (record { values = is; whole = none }) None
whole_by_hull (Tessellated facets) is none =
    let points = distinct (vertices_of (Tessellated facets)) in
    fault_by (facet_fault (Tessellated facets)) points (nat_lt 32 (length points)) (are_coplanar points)
