-- TET: the solid of four points that aren't coplanar, by the volumes that a point has with three of them.
use Rattle.std.proofs.Common.{◌≡◌, ◌≢◌, ◌↔◌, true, false, ℤ, pos, ◌+ℤ◌, ◌-ℤ◌, ◌*ℤ◌, neg_ℤ, ◌≤ℤ◌, ◌<ℤ◌, int_lt, List, [], ◌∷◌, true≢false, sym, ap, ◌∙◌, subst, arith}
use Rattle.std.proofs.lemmas.Bool.{cond_both}
use Rattle.gx_num.specs.declared.vector.V3.{V3}
use Rattle.gx_num.specs.Vector.{difference_of}
use Rattle.gx_num.specs.Space.{HalfSpace, normal_dot}
use Rattle.gx_num.specs.Vector4.{Vec4}
use Rattle.gx_algebra.proofs.Ring.{Term}
use Rattle.gx_algebra.proofs.Terms as term
use Rattle.gx_algebra.proofs.Terms.{Term3, Term4, TermHalfSpace, ◌≣◌, ◌⊕◌, ◌⊖◌, ◌⊗◌, none}
use Rattle.gx_algebra.proofs.Identity.{identity, number, vector3, vector4, half_space}
use Rattle.gx_algebra.proofs.Order.{mul_nonneg, mul_nonneg_nonpos, neg-mul-neg, square_pos, le_of_mul-le-left}
use Rattle.gx_plane.proofs.PlaneFacts.{dot_of-opposite_of}
use Rattle.gx_plane.specs.Plane.{side_of, flipped, normal_of, plane_from, is_zero}
use Rattle.gx_plane.proofs.PlaneFacts.{side_of-flipped}
use Rattle.gx_convex.specs.Points.{are_coplanar}
use Rattle.gx_shapes.specs.Straight.{inner, tetrahedron}
use Rattle.gx_convex.specs.Hull.{IsAtMost, IsBound, IsHullOf}
use Rattle.gx_convex.proofs.Bounds.{All-is_in, not_is_zero}
use Rattle.gx_plane.proofs.Candidates.{normal_term}
use Rattle.gx_convex.proofs.Coplanar.{volume, volume_term, volume_swap_third, AreInPlane, Decides-triples}
use Rattle.gx_algebra.proofs.Lists.{All-four}
use Rattle.gx_plane.proofs.PlaneFacts.{Decides-supports}
use borrow.Author.Differences.{ints}

abbrev plane_of : V3 → V3 → V3 → HalfSpace
plane_of a b c = plane_from (normal_of a b c) a

abbrev plane_term : Term3 → Term3 → Term3 → TermHalfSpace
plane_term a b c = record { n = normal_term a b c; e = term.dot_of (normal_term a b c) a }

-- how far a point is beyond a plane, times the length of the normal and the point's w
abbrev excess : HalfSpace → Vec4 → ℤ
excess h p = normal_dot h p -ℤ (h.e *ℤ p.w)

abbrev excess_term : TermHalfSpace → Term4 → Term
excess_term h p = term.normal_dot h p ⊖ (h.e ⊗ p.w)

-- ---- volumes of four points
volume_first : (a b c : V3) → volume a b c a ≡ pos 0
volume_first = identity (vector3 ∷ vector3 ∷ vector3 ∷ []) (λ a b c. volume_term a b c a ≣ none) tt

volume_second : (a b c : V3) → volume a b c b ≡ pos 0
volume_second = identity (vector3 ∷ vector3 ∷ vector3 ∷ []) (λ a b c. volume_term a b c b ≣ none) tt

volume_third : (a b c : V3) → volume a b c c ≡ pos 0
volume_third = identity (vector3 ∷ vector3 ∷ vector3 ∷ []) (λ a b c. volume_term a b c c ≣ none) tt

volume_acdb : (a b c d : V3) → volume a c d b ≡ volume a b c d
volume_acdb = identity (vector3 ∷ vector3 ∷ vector3 ∷ vector3 ∷ []) (λ a b c d. volume_term a c d b ≣ volume_term a b c d) tt

volume_bcda : (a b c d : V3) → volume b c d a ≡ pos 0 -ℤ volume a b c d
volume_bcda = identity (vector3 ∷ vector3 ∷ vector3 ∷ vector3 ∷ []) (λ a b c d. volume_term b c d a ≣ none ⊖ volume_term a b c d) tt

opposite_zero : {v u : ℤ} → u ≡ pos 0 -ℤ v → u ≡ pos 0 ↔ v ≡ pos 0
opposite_zero e = (λ k. omega (arith, ints), λ k. omega (arith, ints))

side_of-plane_of : (a b c p : V3) → side_of (plane_of a b c) p ≡ volume a b c p
side_of-plane_of = identity (vector3 ∷ vector3 ∷ vector3 ∷ vector3 ∷ []) (λ a b c p. term.dot_of (plane_term a b c).n p ⊖ (plane_term a b c).e ≣ volume_term a b c p) tt

-- ---- the plane of three points, with the fourth behind it
record IsInner (a b c d : V3) (h : HalfSpace) : Type 0 where
  first : side_of h a ≡ pos 0
  second : side_of h b ≡ pos 0
  third : side_of h c ≡ pos 0
  fourth : side_of h d ≤ℤ pos 0
  plane : volume a b c d ≢ pos 0 → is_zero h.n ≡ false
  same_side : (p : Vec4) → IsAtMost h p → pos 0 ≤ℤ (volume a b c d *ℤ excess (plane_of a b c) p)

excess-flipped : (h : HalfSpace) (p : Vec4) → excess (flipped h) p ≡ pos 0 -ℤ excess h p
excess-flipped = identity (half_space ∷ vector4 ∷ []) (λ h p. excess_term (record { n = record { x = none ⊖ h.n.x; y = none ⊖ h.n.y; z = none ⊖ h.n.z }; e = none ⊖ h.e }) p ≣ none ⊖ excess_term h p) tt

mul_nonpos_nonpos : (v s : ℤ) → v ≤ℤ pos 0 → s ≤ℤ pos 0 → pos 0 ≤ℤ (v *ℤ s)
mul_nonpos_nonpos v s h k = omega (arith, ints, mul_nonneg (neg_ℤ v) (neg_ℤ s) (omega (arith, ints)) (omega (arith, ints)), neg-mul-neg v s)

IsInner-plane_of : (a b c d : V3) → volume a b c d ≤ℤ pos 0 → IsInner a b c d (plane_of a b c)
IsInner-plane_of a b c d low = record {
  first = side_of-plane_of a b c a ∙ volume_first a b c;
  second = side_of-plane_of a b c b ∙ volume_second a b c;
  third = side_of-plane_of a b c c ∙ volume_third a b c;
  fourth = subst (λ (v : ℤ). v ≤ℤ pos 0) (sym (side_of-plane_of a b c d)) low;
  plane = not_is_zero (normal_of a b c) (difference_of d a);
  same_side = λ p k. mul_nonpos_nonpos (volume a b c d) (excess (plane_of a b c) p) low (omega (arith, ints));
}

IsInner-flipped : (a b c d : V3) → pos 0 <ℤ volume a b c d → IsInner a b c d (flipped (plane_of a b c))
IsInner-flipped a b c d high = record {
  first = on a (volume_first a b c);
  second = on b (volume_second a b c);
  third = on c (volume_third a b c);
  fourth = omega (arith, ints, side_of-flipped h d, side_of-plane_of a b c d);
  plane = λ ne. not_is_zero (flipped h).n (difference_of d a) (λ e. ne (omega (arith, ints, e, dot_of-opposite_of (normal_of a b c) (difference_of d a))));
  same_side = λ p k. mul_nonneg (volume a b c d) (excess h p) (omega (arith, ints)) (omega (arith, ints, excess-flipped h p));
}
  where
    h : HalfSpace
    h = plane_of a b c

    on : (p : V3) → volume a b c p ≡ pos 0 → side_of (flipped h) p ≡ pos 0
    on p e = side_of-flipped h p ∙ ap (λ (v : ℤ). pos 0 -ℤ v) (side_of-plane_of a b c p ∙ e)

IsInner-inner : (a b c d : V3) → IsInner a b c d (inner a b c d)
IsInner-inner a b c d =
    cond_both (int_lt (pos 0) (side_of (plane_of a b c) d)) (flipped (plane_of a b c)) (plane_of a b c) (IsInner a b c d)
    (λ e. IsInner-flipped a b c d (subst (λ (v : ℤ). pos 0 <ℤ v) (side_of-plane_of a b c d) (beyond (side_of (plane_of a b c) d) e)))
    (λ e. IsInner-plane_of a b c d (subst (λ (v : ℤ). v ≤ℤ pos 0) (side_of-plane_of a b c d) (within (side_of (plane_of a b c) d) e)))
  where
    beyond : (v : ℤ) → int_lt (pos 0) v ≡ true → pos 0 <ℤ v
    beyond v e = omega (arith, ints)

    within : (v : ℤ) → int_lt (pos 0) v ≡ false → v ≤ℤ pos 0
    within v e = omega (arith, ints)

-- ---- what bounds the vertices bounds the points
-- the excess at a point is a mean of those at the vertices, weighted by volumes
barycentric : (a b c d : V3) (h : HalfSpace) (p : Vec4) → volume a b c d *ℤ excess h p ≡ (((pos 0 -ℤ excess (plane_of b c d) p) *ℤ side_of h a +ℤ excess (plane_of a c d) p *ℤ side_of h b) +ℤ (pos 0 -ℤ excess (plane_of a b d) p) *ℤ side_of h c) +ℤ excess (plane_of a b c) p *ℤ side_of h d
barycentric = identity (vector3 ∷ vector3 ∷ vector3 ∷ vector3 ∷ half_space ∷ vector4 ∷ []) (λ a b c d h p. volume_term a b c d ⊗ excess_term h p ≣ (((none ⊖ excess_term (plane_term b c d) p) ⊗ side_term h a ⊕ excess_term (plane_term a c d) p ⊗ side_term h b) ⊕ (none ⊖ excess_term (plane_term a b d) p) ⊗ side_term h c) ⊕ excess_term (plane_term a b c) p ⊗ side_term h d) tt
  where
    side_term : TermHalfSpace → Term3 → Term
    side_term h p = term.dot_of h.n p ⊖ h.e

-- a mean of numbers that aren't above 0 isn't above 0
mean : (v x s1 s2 s3 s4 v1 v2 v3 v4 : ℤ) → v ≢ pos 0 → v *ℤ x ≡ ((v1 *ℤ s1 +ℤ v2 *ℤ s2) +ℤ v3 *ℤ s3) +ℤ v4 *ℤ s4 → pos 0 ≤ℤ (v *ℤ v1) → pos 0 ≤ℤ (v *ℤ v2) → pos 0 ≤ℤ (v *ℤ v3) → pos 0 ≤ℤ (v *ℤ v4) → s1 ≤ℤ pos 0 → s2 ≤ℤ pos 0 → s3 ≤ℤ pos 0 → s4 ≤ℤ pos 0 → x ≤ℤ pos 0
mean v x s1 s2 s3 s4 v1 v2 v3 v4 ne e h1 h2 h3 h4 k1 k2 k3 k4 =
    le_of_mul-le-left (v *ℤ v) x (pos 0) (square_pos v ne)
    (omega (arith, ints, ap (λ (t : ℤ). v *ℤ t) e, left v x, right v s1 s2 s3 s4 v1 v2 v3 v4, mul_nonneg_nonpos (v *ℤ v1) s1 h1 k1, mul_nonneg_nonpos (v *ℤ v2) s2 h2 k2, mul_nonneg_nonpos (v *ℤ v3) s3 h3 k3, mul_nonneg_nonpos (v *ℤ v4) s4 h4 k4))
  where
    left : (v x : ℤ) → (v *ℤ v) *ℤ x ≡ v *ℤ (v *ℤ x)
    left = identity (number ∷ number ∷ []) (λ v x. (v ⊗ v) ⊗ x ≣ v ⊗ (v ⊗ x)) tt

    right : (v s1 s2 s3 s4 v1 v2 v3 v4 : ℤ) → v *ℤ (((v1 *ℤ s1 +ℤ v2 *ℤ s2) +ℤ v3 *ℤ s3) +ℤ v4 *ℤ s4) ≡ (((v *ℤ v1) *ℤ s1 +ℤ (v *ℤ v2) *ℤ s2) +ℤ (v *ℤ v3) *ℤ s3) +ℤ (v *ℤ v4) *ℤ s4
    right = identity (number ∷ number ∷ number ∷ number ∷ number ∷ number ∷ number ∷ number ∷ number ∷ []) (λ v s1 s2 s3 s4 v1 v2 v3 v4. v ⊗ (((v1 ⊗ s1 ⊕ v2 ⊗ s2) ⊕ v3 ⊗ s3) ⊕ v4 ⊗ s4) ≣ (((v ⊗ v1) ⊗ s1 ⊕ (v ⊗ v2) ⊗ s2) ⊕ (v ⊗ v3) ⊗ s3) ⊕ (v ⊗ v4) ⊗ s4) tt

other_sign : (v u m : ℤ) → u ≡ pos 0 -ℤ v → pos 0 ≤ℤ (u *ℤ m) → pos 0 ≤ℤ (v *ℤ (pos 0 -ℤ m))
other_sign v u m e h = omega (arith, ints, h, ap (λ (t : ℤ). t *ℤ m) e, turn v m)
  where
    turn : (v m : ℤ) → v *ℤ (pos 0 -ℤ m) ≡ (pos 0 -ℤ v) *ℤ m
    turn = identity (number ∷ number ∷ []) (λ v m. v ⊗ (none ⊖ m) ≣ (none ⊖ v) ⊗ m) tt

abbrev pub four : V3 → V3 → V3 → V3 → List V3
four a b c d = a ∷ b ∷ c ∷ d ∷ []

pub tetrahedron_hull : (a b c d : V3) → volume a b c d ≢ pos 0 → IsHullOf (tetrahedron a b c d) (four a b c d)
tetrahedron_hull a b c d ne =
    let on_d = IsInner-inner a b c d in
    let on_c = IsInner-inner a b d c in
    let on_b = IsInner-inner a c d b in
    let on_a = IsInner-inner b c d a in
    record {
      bounds = All-four (IsBound (four a b c d)) (inner a b c d) (inner a b d c) (inner a c d b) (inner b c d a)
          (bound (inner a b c d) (on_d.plane ne) (zero on_d.first) (zero on_d.second) (zero on_d.third) on_d.fourth)
          (bound (inner a b d c) (on_c.plane (λ e. ne ((opposite_zero (volume_swap_third a b c d)).0 e))) (zero on_c.first) (zero on_c.second) on_c.fourth (zero on_c.third))
          (bound (inner a c d b) (on_b.plane (λ e. ne (sym (volume_acdb a b c d) ∙ e))) (zero on_b.first) on_b.fourth (zero on_b.second) (zero on_b.third))
          (bound (inner b c d a) (on_a.plane (λ e. ne ((opposite_zero (volume_bcda a b c d)).0 e))) on_a.fourth (zero on_a.first) (zero on_a.second) (zero on_a.third));
      bounded = λ h s p w e.
          let all = All-is_in (tetrahedron a b c d) p e in
          let behind = (Decides-supports h (four a b c d)).0 s in
          most (normal_dot h p) (h.e *ℤ p.w)
          (mean (volume a b c d) (excess h p) (side_of h a) (side_of h b) (side_of h c) (side_of h d) (pos 0 -ℤ excess (plane_of b c d) p) (excess (plane_of a c d) p) (pos 0 -ℤ excess (plane_of a b d) p) (excess (plane_of a b c) p) ne (barycentric a b c d h p)
          (other_sign (volume a b c d) (volume b c d a) (excess (plane_of b c d) p) (volume_bcda a b c d) (on_a.same_side p (all 3 h (omega arith))))
          (subst (λ (v : ℤ). pos 0 ≤ℤ (v *ℤ excess (plane_of a c d) p)) (volume_acdb a b c d) (on_b.same_side p (all 2 h (omega arith))))
          (other_sign (volume a b c d) (volume a b d c) (excess (plane_of a b d) p) (volume_swap_third a b c d) (on_c.same_side p (all 1 h (omega arith))))
          (on_d.same_side p (all 0 h (omega arith)))
          (behind 0 a (omega arith)) (behind 1 a (omega arith)) (behind 2 a (omega arith)) (behind 3 a (omega arith)));
    }
  where
    bound : (h : HalfSpace) → is_zero h.n ≡ false → side_of h a ≤ℤ pos 0 → side_of h b ≤ℤ pos 0 → side_of h c ≤ℤ pos 0 → side_of h d ≤ℤ pos 0 → IsBound (four a b c d) h
    bound h plane at_a at_b at_c at_d = record {
      plane = plane;
      supports = (Decides-supports h (four a b c d)).1 (All-four (λ p. side_of h p ≤ℤ pos 0) a b c d at_a at_b at_c at_d);
    }

    zero : {x : ℤ} → x ≡ pos 0 → x ≤ℤ pos 0
    zero e = omega (arith, ints)

    most : (x y : ℤ) → (x -ℤ y) ≤ℤ pos 0 → x ≤ℤ y
    most x y h = omega (arith, ints)

-- ---- the volume isn't 0 where the points aren't coplanar
pub tetrahedron_apart : (a b c d : V3) → are_coplanar (four a b c d) ≡ false → volume a b c d ≢ pos 0
tetrahedron_apart a b c d solid e =
    let flat = All-four (λ (t : V3 × V3 × V3). AreInPlane (four a b c d) t.0 t.1 t.2) (a, b, c) (a, b, d) (a, c, d) (b, c, d)
    (level a b c (volume_first a b c) (volume_second a b c) (volume_third a b c) e)
    (level a b d (volume_first a b d) (volume_second a b d) ((opposite_zero (volume_swap_third a b c d)).1 e) (volume_third a b d))
    (level a c d (volume_first a c d) (volume_acdb a b c d ∙ e) (volume_second a c d) (volume_third a c d))
    (level b c d ((opposite_zero (volume_bcda a b c d)).1 e) (volume_first b c d) (volume_second b c d) (volume_third b c d)) in
    true≢false (sym ((Decides-triples (four a b c d)).1 flat) ∙ solid)
  where
    level : (p q r : V3) → volume p q r a ≡ pos 0 → volume p q r b ≡ pos 0 → volume p q r c ≡ pos 0 → volume p q r d ≡ pos 0 → AreInPlane (four a b c d) p q r
    level p q r at_a at_b at_c at_d = All-four (λ s. volume p q r s ≡ pos 0) a b c d at_a at_b at_c at_d
