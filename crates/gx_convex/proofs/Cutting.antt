-- Two lists of half-spaces that imply each other have the same points, and the same points inside.
use Rattle.std.proofs.Common.{◌≡◌, true, false, ℤ, pos, ◌-ℤ◌, ◌*ℤ◌, ◌≤ℤ◌, ◌<ℤ◌, List, [], ◌∷◌, All, refl, arith}
use Rattle.std.specs.Int.{int_min, int_max}
use Rattle.std.proofs.lemmas.List.Elements.{All-weaker}
use Rattle.std.proofs.lemmas.Bool.Decides.{same_from_decides}
use Rattle.gx_num.specs.declared.vector.V3.{V3}
use Rattle.gx_num.specs.Vector.{dot_of}
use Rattle.gx_num.specs.Space.{HalfSpace, is_in, is_inside, normal_dot}
use Rattle.gx_num.specs.Vector4.{Vec4}
use Rattle.gx_algebra.proofs.Terms as term
use Rattle.gx_algebra.proofs.Terms.{◌≣◌, ◌⊖◌, ◌⊗◌, none}
use Rattle.gx_algebra.proofs.Identity.{identity, number, vector3, vector4}
use Rattle.gx_plane.specs.Plane.{is_zero, side_of, flipped, unit_along}
use Rattle.gx_plane.proofs.PlaneFacts.{side_of-flipped}
use Rattle.gx_convex.specs.Hull.{IsAtMost, IsBound, IsHullOf}
use Rattle.gx_convex.specs.Extent.{lower, upper, extent_of}
use Rattle.gx_convex.specs.Faces.{faces_of}
use Rattle.gx_convex.specs.Laws.{IsBetween, FacesAreTheSolid}
use Rattle.gx_plane.proofs.PlaneFacts.{Decides-supports}
use Rattle.gx_convex.proofs.Truth.{Decides-itself, Decides-is_in, Decides-is_inside}
use Rattle.gx_convex.proofs.Strict.{strict}
use Rattle.gx_convex.proofs.FaceFacts.{faces_bound, implied}
use Rattle.gx_convex.proofs.Extents.{low_below, high_above}
use borrow.Author.Differences.{ints}

-- a plane's half-space that has every point in the solid
record IsImplied (solid : List HalfSpace) (h : HalfSpace) : Type 0 where
  plane : is_zero h.n ≡ false
  everywhere : (p : Vec4) → pos 0 <ℤ p.w → is_in solid p ≡ true → IsAtMost h p

all_in : (solid other : List HalfSpace) → All (IsImplied solid) other → (p : Vec4) → pos 0 <ℤ p.w → is_in solid p ≡ true → is_in other p ≡ true
all_in solid other h p w e =
    (Decides-is_in other p).1 (All-weaker (IsImplied solid) (λ h. IsAtMost h p) (λ h i. i.everywhere p w e) other h)

all_inside : (solid other : List HalfSpace) → All (IsImplied solid) other → (p : Vec4) → pos 0 <ℤ p.w → is_inside solid p ≡ true → is_inside other p ≡ true
all_inside solid other h p w e =
    (Decides-is_inside other p).1 (All-weaker (IsImplied solid) (λ h. normal_dot h p <ℤ (h.e *ℤ p.w)) (λ h i. strict solid h i.plane i.everywhere p w e) other h)

-- A coordinate of vertices and points, as a direction gives it: at the points inside it is strictly within the extent.
between : (solid : List HalfSpace) (vertices : List V3) → IsHullOf solid vertices → (u : V3) (of : V3 → ℤ) (at : Vec4 → ℤ) → is_zero u ≡ false → is_zero (flipped (record { n = u; e = pos 0 })).n ≡ false → ((q : V3) → dot_of u q ≡ of q) → ((p : Vec4) → normal_dot (record { n = u; e = pos 0 }) p ≡ at p) → ((a b : V3) → of (lower a b) ≡ int_min (of a) (of b)) → ((a b : V3) → of (upper a b) ≡ int_max (of a) (of b)) → (p : Vec4) → pos 0 <ℤ p.w → is_inside solid p ≡ true → IsBetween (of (extent_of vertices).low) (of (extent_of vertices).high) (at p) p.w
between solid vertices hull u of at plane other same same_at min max p w inside =
    let low = of (extent_of vertices).low in
    let high = of (extent_of vertices).high in
    let up : HalfSpace = record { n = u; e = high } in
    let down : HalfSpace = record { n = u; e = low } in
    record {
      above = omega (arith, ints, same_at p, normal_dot-flipped u low p, strict solid (flipped down) other (hull.bounded (flipped down) ((Decides-supports (flipped down) vertices).1 (All-weaker (λ q. low ≤ℤ of q) (λ q. side_of (flipped down) q ≤ℤ pos 0) (λ q k. omega (arith, ints, k, same q, side_of-flipped down q)) vertices (low_below of min vertices)))) p w inside);
      below = omega (arith, ints, same_at p, strict solid up plane (hull.bounded up ((Decides-supports up vertices).1 (All-weaker (λ q. of q ≤ℤ high) (λ q. side_of up q ≤ℤ pos 0) (λ q k. omega (arith, ints, k, same q)) vertices (high_above of max vertices)))) p w inside);
    }
  where
    normal_dot-flipped : (u : V3) (low : ℤ) (p : Vec4) → normal_dot (flipped (record { n = u; e = low })) p -ℤ (pos 0 -ℤ low) *ℤ p.w ≡ low *ℤ p.w -ℤ normal_dot (record { n = u; e = low }) p
    normal_dot-flipped = identity (vector3 ∷ number ∷ vector4 ∷ []) (λ u low p. term.normal_dot (record { n = record { x = none ⊖ u.x; y = none ⊖ u.y; z = none ⊖ u.z }; e = none ⊖ low }) p ⊖ (none ⊖ low) ⊗ p.w ≣ low ⊗ p.w ⊖ term.normal_dot (record { n = u; e = low }) p) tt

pub faces_are_the_solid : FacesAreTheSolid
faces_are_the_solid solid vertices apart hull = record {
  same_in = λ p w. same_from_decides (is_in solid p) (is_in (faces_of vertices) p) (all_in solid (faces_of vertices) faces p w, all_in (faces_of vertices) solid bounds p w) (Decides-itself (is_in (faces_of vertices) p));
  same_inside = λ p w. same_from_decides (is_inside solid p) (is_inside (faces_of vertices) p) (all_inside solid (faces_of vertices) faces p w, all_inside (faces_of vertices) solid bounds p w) (Decides-itself (is_inside (faces_of vertices) p));
  bounded = hull.bounded;
  extent = λ p w inside. record {
    x = between solid vertices hull (unit_along 0) (λ q. q.x) (λ p. p.x) refl refl (λ q. omega (arith, ints)) (λ p. omega (arith, ints)) (λ a b. refl) (λ a b. refl) p w inside;
    y = between solid vertices hull (unit_along 1) (λ q. q.y) (λ p. p.y) refl refl (λ q. omega (arith, ints)) (λ p. omega (arith, ints)) (λ a b. refl) (λ a b. refl) p w inside;
    z = between solid vertices hull (unit_along 2) (λ q. q.z) (λ p. p.z) refl refl (λ q. omega (arith, ints)) (λ p. omega (arith, ints)) (λ a b. refl) (λ a b. refl) p w inside;
  };
}
  where
    faces : All (IsImplied solid) (faces_of vertices)
    faces = All-weaker (IsBound vertices) (IsImplied solid) (λ h b. record { plane = b.plane; everywhere = hull.bounded h b.supports }) (faces_of vertices) (faces_bound vertices)

    bounds : All (IsImplied (faces_of vertices)) solid
    bounds = All-weaker (IsBound vertices) (IsImplied (faces_of vertices)) (λ h b. record { plane = b.plane; everywhere = λ p w. implied vertices apart h b.supports p }) solid hull.bounds
