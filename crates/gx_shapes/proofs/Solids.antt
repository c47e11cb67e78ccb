-- Every kind: the vertices of a solid are its vertices, aren't coplanar, and are few and near; its faces are the solid.
use Rattle.std.proofs.Common.{◌≡◌, ◌≤◌, true, false, not, Option, None, Some, List, [], ◌∷◌, map, length, ℤ, pos, neg_ℤ, ◌<ℤ◌, unsigned_abs, All, ◌∙◌, arith, length-append}
use Rattle.std.proofs.lemmas.List.{length-map}
use Rattle.std.specs.Prelude.{nat_le}
use Rattle.std.proofs.lemmas.List.Elements.{All-nil, All-cons, All-head, All-tail, All-append, All-map, All-weaker}
use Rattle.std.proofs.lemmas.List.Sums.{AllPass-from_list_all}
use Rattle.std.proofs.lemmas.Bool.{and_parts, not-false}
use Rattle.gx_num.specs.declared.vector.V3.{V3}
use Rattle.gx_num.specs.Vector.{IsWithin}
use Rattle.gx_algebra.proofs.Lists.{All-four}
use Rattle.gx_convex.specs.Points.{distinct, are_coplanar}
use Rattle.gx_convex.specs.Hull.{IsHullOf}
use Rattle.gx_convex.proofs.Distinct.{IsHullOf-distinct, length-distinct_le}
use Rattle.gx_convex.proofs.Coplanar.{are_coplanar-distinct}
use Rattle.gx_convex.proofs.Cutting.{faces_are_the_solid}
use Rattle.gx_polygon.specs.Polygon.{is_straight, is_convex}
use Rattle.gx_table.specs.declared.fault.FaultName.TheVariants.{Flat, NotConvex}
use Rattle.gx_shapes.specs.declared.facet.Facet.{Facet}
use Rattle.gx_shapes.specs.declared.section.Section.{Section}
use Rattle.gx_shapes.specs.declared.figure.Figure.{Figure}
use Rattle.gx_shapes.specs.declared.figure.Figure.TheVariants as figure
use Rattle.gx_shapes.specs.Space.{point}
use Rattle.gx_shapes.specs.Straight.{corners, frustum}
use Rattle.gx_shapes.specs.Extrusion.{corner, extrusion_vertices}
use Rattle.gx_shapes.specs.Tessellation.{corners_of, fourth, tessellation_vertices}
use Rattle.gx_shapes.specs.Figure.{is_near}
use Rattle.gx_shapes.specs.Solid.{solid_of, vertices_of, whole_fault}
use Rattle.gx_shapes.specs.Accepted.{IsFigure, IsSolid}
use Rattle.gx_shapes.specs.Laws.{FacesAreTheSolid}
use Rattle.gx_shapes.proofs.Given.{bound, IsNear, IsHalf, IsWidths, IsSection, IsCorner, IsFourth, IsFacet, IsGiven, given, near_value}
use Rattle.gx_shapes.proofs.Extrusions.{extrusion_hull, extrusion_solid}
use Rattle.gx_shapes.proofs.Tessellations.{first_true-none, tessellation_hull, tessellation_solid, tessellation_few}
use Rattle.gx_shapes.proofs.Tetrahedra.{tetrahedron_hull, tetrahedron_apart}
use Rattle.gx_shapes.proofs.Trapezoids.{IsFrustum, box_hull, trapezoid_hull, frustum_solid}
use borrow.Author.Differences.{ints}

-- ---- half-lengths
box_frustum : {x y z : ℤ} → IsHalf x → IsHalf y → IsHalf z → IsFrustum x x y y z
box_frustum {x} {y} {z} hx hy hz =
    let ax = hx.above in
    let ay = hy.above in
    record {
      x = record { first = omega (arith, ints, ax); second = omega (arith, ints, ax); some = omega (arith, ints, ax) };
      y = record { first = omega (arith, ints, ay); second = omega (arith, ints, ay); some = omega (arith, ints, ay) };
      z = hz.above;
    }

trapezoid_frustum : {x1 x2 y1 y2 z : ℤ} → IsWidths x1 x2 → IsWidths y1 y2 → IsHalf z → IsFrustum x1 x2 y1 y2 z
trapezoid_frustum hx hy hz = record { x = hx.width; y = hy.width; z = hz.above }

-- ---- the vertices are those of the solid, and aren't coplanar
hull_by : (f : Figure) → IsGiven f → whole_fault f ≡ None → IsHullOf (solid_of f) (vertices_of f) × (are_coplanar (vertices_of f) ≡ false)
hull_by (figure.Cuboid x y z) is whole =
    let frustum = box_frustum is.0 is.1 is.2 in
    (box_hull x y z frustum, frustum_solid x x y y z frustum)
hull_by (figure.Trd x1 x2 y1 y2 z) is whole =
    let frustum = trapezoid_frustum is.0 is.1 is.2 in
    (trapezoid_hull x1 x2 y1 y2 z frustum, frustum_solid x1 x2 y1 y2 z frustum)
hull_by (figure.Tet a b c d) is whole =
    let apart = first_true-none ((are_coplanar (a ∷ b ∷ c ∷ d ∷ []), Flat) ∷ []) whole 0 (true, Flat) (omega arith) in
    (tetrahedron_hull a b c d (tetrahedron_apart a b c d apart), apart)
hull_by (figure.Extruded cs s t) is whole =
    let none = first_true-none ((is_straight cs, Flat) ∷ (not (is_convex cs), NotConvex) ∷ []) whole in
    let bent = none 0 (true, Flat) (omega arith) in
    let convex = not-false (is_convex cs) (none 1 (true, Flat) (omega arith)) in
    let flat = All-weaker IsCorner (λ (c : V3). c.z ≡ pos 0) (λ c h. h.flat) cs is.each in (
      extrusion_hull s t cs is.above is.first.scale is.second.scale flat bent convex,
      extrusion_solid s t cs is.above is.first.scale bent,
    )
hull_by (figure.Tessellated facets) is whole = (tessellation_hull facets whole, tessellation_solid facets whole)

pub faces_are_the_solid_of : FacesAreTheSolid
faces_are_the_solid_of f is =
    let hull = hull_by f (given f is.values) is.whole in
    faces_are_the_solid (solid_of f) (distinct (vertices_of f)) (are_coplanar-distinct (vertices_of f) ∙ hull.1) (IsHullOf-distinct (solid_of f) (vertices_of f) hull.0)

-- ---- the vertices are near
opposite_near : (a : ℤ) → IsNear a → IsNear (neg_ℤ a)
opposite_near a h = omega (arith, ints)

corners_within : (x y z : ℤ) → IsNear x → IsNear y → IsNear z → All (IsWithin bound) (corners x y z)
corners_within x y z hx hy hz =
    All-four (IsWithin bound) (point (neg_ℤ x) (neg_ℤ y) z) (point x (neg_ℤ y) z) (point (neg_ℤ x) y z) (point x y z)
    (record { x = opposite_near x hx; y = opposite_near y hy; z = hz })
    (record { x = hx; y = opposite_near y hy; z = hz })
    (record { x = opposite_near x hx; y = hy; z = hz })
    (record { x = hx; y = hy; z = hz })

frustum_within : (x1 x2 y1 y2 z : ℤ) → IsNear x1 → IsNear x2 → IsNear y1 → IsNear y2 → IsNear z → All (IsWithin bound) (frustum x1 x2 y1 y2 z)
frustum_within x1 x2 y1 y2 z hx1 hx2 hy1 hy2 hz =
    All-append (IsWithin bound) (corners x1 y1 (neg_ℤ z)) (corners x2 y2 z)
    (corners_within x1 y1 (neg_ℤ z) hx1 hy1 (opposite_near z hz)) (corners_within x2 y2 z hx2 hy2 hz)

is_near-within : (s : Section) → IsNear s.z → (c : V3) → is_near (corner s c) ≡ true → IsWithin bound (corner s c)
is_near-within s hz c e =
    let p = corner s c in
    let both = and_parts (nat_le (unsigned_abs p.x) bound) (nat_le (unsigned_abs p.y) bound) e in
    record { x = near_value p.x both.0; y = near_value p.y both.1; z = hz }

section_within : (cs : List V3) (s : Section) → IsSection cs s → All (IsWithin bound) (map (corner s) cs)
section_within cs s is =
    All-map (IsWithin bound) (corner s) cs
    (All-weaker (λ (c : V3). is_near (corner s c) ≡ true) (λ (c : V3). IsWithin bound (corner s c)) (is_near-within s is.z) cs (AllPass-from_list_all (λ c. is_near (corner s c)) cs is.near))

fourth_within : (d : Option V3) → IsFourth d → All (IsWithin bound) (fourth d)
fourth_within None h = All-nil (IsWithin bound)
fourth_within (Some d) h = All-cons (IsWithin bound) d [] h (All-nil (IsWithin bound))

facet_within : (f : Facet) → IsFacet f → All (IsWithin bound) (corners_of f)
facet_within f is =
    All-cons (IsWithin bound) f.a (f.b ∷ f.c ∷ fourth f.d) is.a
    (All-cons (IsWithin bound) f.b (f.c ∷ fourth f.d) is.b (All-cons (IsWithin bound) f.c (fourth f.d) is.c (fourth_within f.d is.d)))

facets_within : (facets : List Facet) → All IsFacet facets → All (IsWithin bound) (tessellation_vertices facets)
facets_within [] h = All-nil (IsWithin bound)
facets_within (f ∷ fs) h = All-append (IsWithin bound) (corners_of f) (tessellation_vertices fs) (facet_within f (All-head IsFacet f fs h)) (facets_within fs (All-tail IsFacet f fs h))

within_by : (f : Figure) → IsGiven f → All (IsWithin bound) (vertices_of f)
within_by (figure.Cuboid x y z) is = frustum_within x x y y z is.0.near is.0.near is.1.near is.1.near is.2.near
within_by (figure.Trd x1 x2 y1 y2 z) is = frustum_within x1 x2 y1 y2 z is.0.near_first is.0.near_second is.1.near_first is.1.near_second is.2.near
within_by (figure.Tet a b c d) is = All-four (IsWithin bound) a b c d is.0 is.1 is.2 is.3
within_by (figure.Extruded cs s t) is = All-append (IsWithin bound) (map (corner s) cs) (map (corner t) cs) (section_within cs s is.first) (section_within cs t is.second)
within_by (figure.Tessellated facets) is = facets_within facets is

pub vertices_within : (f : Figure) → IsFigure f → All (IsWithin bound) (vertices_of f)
vertices_within f is = within_by f (given f is)

pub polygon_within : (cs : List V3) (s t : Section) → IsFigure (figure.Extruded cs s t) → All (IsWithin bound) cs
polygon_within cs s t is = All-weaker IsCorner (IsWithin bound) (λ c h. h.within) cs (given (figure.Extruded cs s t) is).each

pub scales_positive : (cs : List V3) (s t : Section) → IsFigure (figure.Extruded cs s t) → (pos 0 <ℤ s.scale.den) × (pos 0 <ℤ t.scale.den)
scales_positive cs s t is = let extrusion = given (figure.Extruded cs s t) is in (extrusion.first.scale.den, extrusion.second.scale.den)

-- ---- and few
few_by : (f : Figure) → IsGiven f → whole_fault f ≡ None → length (distinct (vertices_of f)) ≤ 32
few_by (figure.Cuboid x y z) is whole = omega (arith, length-distinct_le (frustum x x y y z))
few_by (figure.Trd x1 x2 y1 y2 z) is whole = omega (arith, length-distinct_le (frustum x1 x2 y1 y2 z))
few_by (figure.Tet a b c d) is whole = omega (arith, length-distinct_le (a ∷ b ∷ c ∷ d ∷ []))
few_by (figure.Extruded cs s t) is whole =
    let few = is.few in
    omega (arith, few, length-distinct_le (extrusion_vertices s t cs), length-append (map (corner s) cs) (map (corner t) cs), length-map cs (corner s), length-map cs (corner t))
few_by (figure.Tessellated facets) is whole = tessellation_few facets whole

-- the vertices have a hull
pub whole_hull : (f : Figure) → IsSolid f → (are_coplanar (distinct (vertices_of f)) ≡ false) × (length (distinct (vertices_of f)) ≤ 32)
whole_hull f is = (are_coplanar-distinct (vertices_of f) ∙ (hull_by f (given f is.values) is.whole).1, few_by f (given f is.values) is.whole)
