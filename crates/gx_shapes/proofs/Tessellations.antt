-- TESSELLATED: the corners of facets without a fault are the vertices of the solid.
use Rattle.std.proofs.Common.{get_or, ◌≡◌, ◌≤◌, Bool, true, false, not, cond, Option, None, Some, List, [], ◌∷◌, All, ℤ, pos, ◌*ℤ◌, ◌-ℤ◌, ◌≤ℤ◌, length, refl, sym, subst, ◌∙◌, arith, true≢false}
use Rattle.std.specs.List.{list_all}
use Rattle.std.specs.Ordering.{int_eq}
use Rattle.std.proofs.lemmas.Bool.{and_parts, not-false, not-true}
use Rattle.std.proofs.lemmas.Bool.Decides.{nat_tests}
use Rattle.std.proofs.lemmas.List.Elements.{All-map, All-weaker, All-nil, All-cons}
use Rattle.std.proofs.lemmas.List.Folds.{Any-from_list_any}
use Rattle.std.proofs.lemmas.List.Sums.{AllPass-from_list_all}
use Rattle.gx_num.specs.declared.vector.V3.{V3}
use Rattle.gx_num.specs.Vector.{dot_of, times3}
use Rattle.gx_num.specs.Vector4.{Vec4}
use Rattle.gx_num.specs.Space.{HalfSpace, normal_dot}
use Rattle.gx_algebra.proofs.Terms as term
use Rattle.gx_algebra.proofs.Terms.{◌≣◌, ◌⊖◌, ◌⊗◌}
use Rattle.gx_algebra.proofs.Identity.{identity, number, vector3, vector4}
use Rattle.gx_algebra.proofs.Lists.{All-from_map}
use Rattle.gx_algebra.proofs.Order.{le_of_mul-le-left}
use Rattle.gx_plane.specs.Plane.{is_zero, side_of, supports, normal_of, divisor_of, primitive, plane_from, plane_through}
use Rattle.gx_plane.proofs.PlaneFacts.{Decides-supports, times3-primitive, plane_through_some}
use Rattle.gx_convex.specs.Points.{distinct, are_coplanar}
use Rattle.gx_convex.specs.Hull.{IsAtMost, IsBound, IsHullOf}
use Rattle.gx_convex.specs.Faces.{faces_of}
use Rattle.gx_convex.proofs.Bounds.{All-is_in}
use Rattle.gx_convex.proofs.Coplanar.{are_coplanar-distinct}
use Rattle.gx_convex.proofs.Distinct.{All-distinct, All-from_distinct}
use Rattle.gx_convex.proofs.Truth.{Decides-is_in}
use Rattle.gx_convex.proofs.FaceFacts.{is_same_plane-same, implied}
use Rattle.gx_table.specs.declared.fault.FaultName.{FaultName}
use Rattle.gx_table.specs.declared.fault.FaultName.TheVariants.{Vertices}
use Rattle.gx_shapes.specs.declared.facet.Facet.{Facet}
use Rattle.gx_shapes.specs.Tessellation.{inward, corners_of, tessellation, tessellation_vertices, is_planar, is_outer, turns_well, is_plane, covers, is_covered}
use Rattle.gx_shapes.specs.Solid.{first_true, tessellation_faults}
use Rattle.gx_polygon.specs.Around.{around}
use borrow.Author.Differences.{ints}

-- ---- no test holds where none has a name
pub first_true-none : (rows : List (Bool × FaultName)) → first_true rows ≡ None → All (λ row. row.0 ≡ false) rows
first_true-none [] e = All-nil (λ row. row.0 ≡ false)
first_true-none (row ∷ rows) e = go row.0 refl e (first_true-none rows)
  where
    go : (b : Bool) → row.0 ≡ b → cond b (Some row.1) (first_true rows) ≡ None → (first_true rows ≡ None → All (λ row. row.0 ≡ false) rows) → All (λ row. row.0 ≡ false) (row ∷ rows)
    go true t none rest = cc
    go false t none rest = All-cons (λ row. row.0 ≡ false) row rows t (rest none)

passed : {X : Type 0} (test : X → Bool) (xs : List X) → not (list_all test xs) ≡ false → All (λ x. test x ≡ true) xs
passed test xs e = AllPass-from_list_all test xs (not-false (list_all test xs) e)

-- ---- a point at a facet's inequality is at that of the facet's plane, and so at a face in it
multiple : (d : ℤ) (n a : V3) (p : Vec4) → normal_dot (plane_from (times3 d n) a) p -ℤ dot_of (times3 d n) a *ℤ p.w ≡ d *ℤ normal_dot (plane_from n a) p -ℤ d *ℤ (dot_of n a *ℤ p.w)
multiple = identity (number ∷ vector3 ∷ vector3 ∷ vector4 ∷ []) (λ d n a p. term.normal_dot (record { n = term.times3 d n; e = term.dot_of (term.times3 d n) a }) p ⊖ term.dot_of (term.times3 d n) a ⊗ p.w ≣ d ⊗ term.normal_dot (record { n = n; e = term.dot_of n a }) p ⊖ d ⊗ (term.dot_of n a ⊗ p.w)) tt

within_plane : (f : Facet) (h : HalfSpace) (p : Vec4) → plane_through f.a f.b f.c ≡ Some h → IsAtMost (inward f) p → IsAtMost h p
within_plane f h p e at =
    let n = normal_of f.a f.b f.c in
    let d = pos (divisor_of n) in
    let plane = plane_from (primitive n) f.a in
    let through = plane_through_some f.a f.b f.c h e in
    let multiple_at : IsAtMost (plane_from (times3 d (primitive n)) f.a) p = subst (λ (m : V3). IsAtMost (plane_from m f.a) p) (sym (times3-primitive n)) at in
    subst (λ (h : HalfSpace). IsAtMost h p) (sym through.same)
    (le_of_mul-le-left d (normal_dot plane p) (plane.e *ℤ p.w) (omega (arith, ints, through.apart))
    (omega (arith, ints, multiple d (primitive n) f.a p, multiple_at)))

covered : (facets : List Facet) (face : HalfSpace) (p : Vec4) → All (λ f. IsAtMost (inward f) p) facets → is_covered facets face ≡ true → IsAtMost face p
covered facets face p all e =
    let some = Any-from_list_any (covers face) facets e in
    let f = some.1 in
    at f (plane_through f.a f.b f.c) refl some.4 (subst (λ (f : Facet). IsAtMost (inward f) p) some.3 (all some.0 f some.2))
  where
    at : (f : Facet) (o : Option HalfSpace) → plane_through f.a f.b f.c ≡ o → is_plane face o ≡ true → IsAtMost (inward f) p → IsAtMost face p
    at f None through e k = absurd (true≢false (sym e))
    at f (Some h) through e k =
        subst (λ (h : HalfSpace). IsAtMost h p) (sym (is_same_plane-same face h e)) (within_plane f h p through k)

-- ---- what facets without a fault are
module _ (facets : List Facet) (accepted : first_true (tessellation_faults facets (distinct (tessellation_vertices facets))) ≡ None) where
  abbrev vertices : List V3
  vertices = tessellation_vertices facets

  no_fault : All (λ row. row.0 ≡ false) (tessellation_faults facets (distinct vertices))
  no_fault = first_true-none (tessellation_faults facets (distinct vertices)) accepted

  pub tessellation_few : length (distinct vertices) ≤ 32
  tessellation_few = grind (arith, nat_tests, no_fault 0 (true, Vertices) (omega arith))

  solid : are_coplanar (distinct vertices) ≡ false
  solid = no_fault 1 (true, Vertices) (omega arith)

  pub tessellation_solid : are_coplanar vertices ≡ false
  tessellation_solid = sym (are_coplanar-distinct vertices) ∙ solid

  pub tessellation_hull : IsHullOf (tessellation facets) vertices
  tessellation_hull = record {
    bounds = All-map (IsBound vertices) inward facets (λ k d lt. bound (get_or facets k d) (passed is_planar facets (no_fault 2 (true, Vertices) (omega arith)) k d lt) (passed (is_outer (distinct vertices)) facets (no_fault 3 (true, Vertices) (omega arith)) k d lt));
    bounded = λ h s p w e.
        let all = All-from_map (λ h. IsAtMost h p) inward facets (All-is_in (tessellation facets) p e) in
        implied (distinct vertices) solid h (to_distinct h s) p
        ((Decides-is_in (faces_of (distinct vertices)) p).1 (All-weaker (λ face. is_covered facets face ≡ true) (λ face. IsAtMost face p) (λ face c. covered facets face p all c) (faces_of (distinct vertices)) (passed (is_covered facets) (faces_of (distinct vertices)) (no_fault 4 (true, Vertices) (omega arith)))));
  }
    where
      from_distinct : (h : HalfSpace) → supports h (distinct vertices) ≡ true → supports h vertices ≡ true
      from_distinct h s =
          (Decides-supports h vertices).1 (All-from_distinct (λ p. side_of h p ≤ℤ pos 0) vertices ((Decides-supports h (distinct vertices)).0 s))

      to_distinct : (h : HalfSpace) → supports h vertices ≡ true → supports h (distinct vertices) ≡ true
      to_distinct h s =
          (Decides-supports h (distinct vertices)).1 (All-distinct (λ p. side_of h p ≤ℤ pos 0) vertices ((Decides-supports h vertices).0 s))

      bound : (f : Facet) → is_planar f ≡ true → is_outer (distinct vertices) f ≡ true → IsBound vertices (inward f)
      bound f p o = record {
        plane = not-true (is_zero (inward f).n) (and_parts (not (is_zero (inward f).n)) (list_all (λ p. int_eq (side_of (inward f) p) (pos 0)) (corners_of f)) p).0;
        supports = from_distinct (inward f) (and_parts (supports (inward f) (distinct vertices)) (list_all (turns_well (inward f)) (around (around (corners_of f)))) o).0;
      }
