-- EXTRUDED: its vertices are those of its solid, and aren't in one plane.
use Rattle.std.proofs.Common.{get_or, ◌≡◌, true, false, ◌&&◌, IsTrue, List, [], ◌∷◌, map, All, Contains, ℤ, pos, neg_ℤ, ◌*ℤ◌, ◌-ℤ◌, ◌+ℤ◌, ◌≤ℤ◌, ◌<ℤ◌, refl, sym, ap, ◌∙◌, subst, arith, true≢false}
use Rattle.std.specs.Prelude.{int_rem}
use Rattle.std.specs.Ordering.{int_eq}
use Rattle.std.proofs.lemmas.Bool.Decides.{Decides-int_eq, Decides-and}
use Rattle.std.proofs.lemmas.Int.{quot-rem}
use Rattle.std.proofs.lemmas.List.Elements.{All-cons, All-tail, All-append, All-map, All-contains, All-contains_itself, All-weaker, Contains-append_left, Contains-append_right}
use Rattle.std.proofs.lemmas.List.Sums.{AllPass-from_list_all, list_all-from_AllPass}
use Rattle.gx_num.specs.declared.vector.V3.{V3}
use Rattle.gx_num.specs.Vector.{dot_of}
use Rattle.gx_num.specs.Vector4.{Vec4}
use Rattle.gx_num.specs.Space.{HalfSpace, normal_dot, is_in}
use Rattle.gx_algebra.proofs.Ring.{Term}
use Rattle.gx_algebra.proofs.Laws.{neg-mul, mul-zero}
use Rattle.gx_algebra.proofs.Terms as term
use Rattle.gx_algebra.proofs.Terms.{Term3, Term4, TermHalfSpace, ◌≣◌, ◌⊕◌, ◌⊖◌, ◌⊗◌, none}
use Rattle.gx_algebra.proofs.Identity.{identity, number, vector3, vector4, half_space as half_space_kind}
use Rattle.gx_algebra.proofs.Lists.{All-append_parts, All-from_map, Contains-map}
use Rattle.gx_algebra.proofs.Order.{mul_nonneg, mul_nonneg_nonpos, mul_pos, zero_of_mul, le_of_mul-le-left}
use Rattle.gx_plane.specs.Plane.{is_zero, side_of, supports}
use Rattle.gx_plane.specs.Between.{triples_of}
use Rattle.gx_plane.proofs.PlaneFacts.{Decides-supports}
use Rattle.gx_plane.proofs.TripleFacts.{All-triples_of}
use Rattle.gx_convex.specs.Hull.{IsAtMost, IsBound, IsHullOf}
use Rattle.gx_convex.specs.Points.{are_coplanar}
use Rattle.gx_convex.proofs.Bounds.{All-is_in, not_is_zero}
use Rattle.gx_convex.proofs.Distinct.{by_bool}
use Rattle.gx_convex.proofs.Coplanar.{volume, volume_term, AreInPlane, IsCoplanar, Decides-are_coplanar}
use Rattle.gx_polygon.specs.Polygon.{turn, is_straight, edges_of, is_convex}
use Rattle.gx_polygon.proofs.Corners.{IsConvex, IsCorner, along, along_term, turn_term, corner as extreme_corner}
use Rattle.gx_polygon.proofs.Convex.{convex}
use Rattle.gx_shapes.specs.declared.section.Scale.{Scale}
use Rattle.gx_shapes.specs.declared.section.Section.{Section}
use Rattle.gx_shapes.specs.Space.{point, half_space}
use Rattle.gx_shapes.specs.Extrusion.{scaled, is_whole, are_whole, corner, level, side, extrusion, extrusion_vertices}
use borrow.Author.Differences.{ints}

-- the scale is above 0, and all corners times it are whole
pub record IsScaled (s : Section) (corners : List V3) : Type 0 where
  pub num : pos 0 <ℤ s.scale.num
  pub den : pos 0 <ℤ s.scale.den
  pub whole : are_whole s.scale corners ≡ true

-- ---- a corner in a section
record IsWhole (s : Scale) (c : V3) : Type 0 where
  x : s.den *ℤ scaled s c.x ≡ s.num *ℤ c.x
  y : s.den *ℤ scaled s c.y ≡ s.num *ℤ c.y

All-whole : (s : Scale) (corners : List V3) → are_whole s corners ≡ true → All (IsWhole s) corners
All-whole s corners e =
    All-weaker (λ c. (is_whole s c.x && is_whole s c.y) ≡ true) (IsWhole s) both corners (AllPass-from_list_all (λ c. is_whole s c.x && is_whole s c.y) corners e)
  where
    one : (k : ℤ) → int_rem (s.num *ℤ k) s.den ≡ pos 0 → s.den *ℤ scaled s k ≡ s.num *ℤ k
    one k e = omega (arith, ints, quot-rem (s.num *ℤ k) s.den, e)

    both : (c : V3) → (is_whole s c.x && is_whole s c.y) ≡ true → IsWhole s c
    both c e =
        let parts = (Decides-and (is_whole s c.x) (is_whole s c.y) (Decides-int_eq (int_rem (s.num *ℤ c.x) s.den) (pos 0)) (Decides-int_eq (int_rem (s.num *ℤ c.y) s.den) (pos 0))).0 e in
        record { x = one c.x parts.0; y = one c.y parts.1 }

-- how far a corner is beyond an edge in a section
abbrev beyond : Section → V3 × V3 → V3 → ℤ
beyond s e q =
    ((e.1.y -ℤ e.0.y) *ℤ (corner s q).x +ℤ (e.0.x -ℤ e.1.x) *ℤ (corner s q).y) -ℤ level s e

beyond_is : (s : Section) (a b q : V3) → IsWhole s.scale a → IsWhole s.scale q → s.scale.den *ℤ beyond s (a, b) q ≡ pos 0 -ℤ s.scale.num *ℤ turn a b q
beyond_is s a b q wa wq =
    let u = b.y -ℤ a.y in
    let v = a.x -ℤ b.x in
    omega (
      arith,
      ints,
      spread s.scale.den u v s.x s.y (scaled s.scale q.x) (scaled s.scale q.y) (scaled s.scale a.x) (scaled s.scale a.y),
      ap (λ (t : ℤ). u *ℤ t) (apart wq.x wa.x),
      ap (λ (t : ℤ). v *ℤ t) (apart wq.y wa.y),
      gather s.scale.num a b q,
    )
  where
    apart : {f g i j : ℤ} → f ≡ i → g ≡ j → f -ℤ g ≡ i -ℤ j
    apart e f = omega (arith, ints)

    spread : (d u v x y f g i j : ℤ) → d *ℤ ((u *ℤ (x +ℤ f) +ℤ v *ℤ (y +ℤ g)) -ℤ (u *ℤ (x +ℤ i) +ℤ v *ℤ (y +ℤ j))) ≡ u *ℤ (d *ℤ f -ℤ d *ℤ i) +ℤ v *ℤ (d *ℤ g -ℤ d *ℤ j)
    spread = identity (number ∷ number ∷ number ∷ number ∷ number ∷ number ∷ number ∷ number ∷ number ∷ []) (λ d u v x y f g i j. d ⊗ ((u ⊗ (x ⊕ f) ⊕ v ⊗ (y ⊕ g)) ⊖ (u ⊗ (x ⊕ i) ⊕ v ⊗ (y ⊕ j))) ≣ u ⊗ (d ⊗ f ⊖ d ⊗ i) ⊕ v ⊗ (d ⊗ g ⊖ d ⊗ j)) tt

    gather : (n : ℤ) (a b q : V3) → (b.y -ℤ a.y) *ℤ (n *ℤ q.x -ℤ n *ℤ a.x) +ℤ (a.x -ℤ b.x) *ℤ (n *ℤ q.y -ℤ n *ℤ a.y) ≡ pos 0 -ℤ n *ℤ turn a b q
    gather = identity (number ∷ vector3 ∷ vector3 ∷ vector3 ∷ []) (λ n a b q. (b.y ⊖ a.y) ⊗ (n ⊗ q.x ⊖ n ⊗ a.x) ⊕ (a.x ⊖ b.x) ⊗ (n ⊗ q.y ⊖ n ⊗ a.y) ≣ none ⊖ n ⊗ turn_term a b q) tt

-- ---- half-spaces at a point
-- how far the point is beyond, times its w
abbrev excess : HalfSpace → Vec4 → ℤ
excess h p = normal_dot h p -ℤ h.e *ℤ p.w

abbrev excess_term : TermHalfSpace → Term4 → Term
excess_term h p = term.normal_dot h p ⊖ h.e ⊗ p.w

abbrev side_term : TermHalfSpace → Term3 → Term
side_term h q = term.dot_of h.n q ⊖ h.e

abbrev point_term : Term → Term → Term → Term3
point_term x y z = record { x = x; y = y; z = z }

-- that of an edge with outward normal (u, v), by its levels at the two heights
abbrev sloped : ℤ → ℤ → ℤ → ℤ → ℤ → ℤ → HalfSpace
sloped z1 z2 u v l h = half_space ((z2 -ℤ z1) *ℤ u) ((z2 -ℤ z1) *ℤ v) (l -ℤ h) (z2 *ℤ l -ℤ z1 *ℤ h)

abbrev sloped_term : Term → Term → Term → Term → Term → Term → TermHalfSpace
sloped_term z1 z2 u v l h = record { n = point_term ((z2 ⊖ z1) ⊗ u) ((z2 ⊖ z1) ⊗ v) (l ⊖ h); e = z2 ⊗ l ⊖ z1 ⊗ h }

side_of-sloped_first : (z1 z2 u v l h x y : ℤ) → side_of (sloped z1 z2 u v l h) (point x y z1) ≡ (z2 -ℤ z1) *ℤ ((u *ℤ x +ℤ v *ℤ y) -ℤ l)
side_of-sloped_first = identity (number ∷ number ∷ number ∷ number ∷ number ∷ number ∷ number ∷ number ∷ []) (λ z1 z2 u v l h x y. side_term (sloped_term z1 z2 u v l h) (point_term x y z1) ≣ (z2 ⊖ z1) ⊗ ((u ⊗ x ⊕ v ⊗ y) ⊖ l)) tt

side_of-sloped_second : (z1 z2 u v l h x y : ℤ) → side_of (sloped z1 z2 u v l h) (point x y z2) ≡ (z2 -ℤ z1) *ℤ ((u *ℤ x +ℤ v *ℤ y) -ℤ h)
side_of-sloped_second = identity (number ∷ number ∷ number ∷ number ∷ number ∷ number ∷ number ∷ number ∷ []) (λ z1 z2 u v l h x y. side_term (sloped_term z1 z2 u v l h) (point_term x y z2) ≣ (z2 ⊖ z1) ⊗ ((u ⊗ x ⊕ v ⊗ y) ⊖ h)) tt

-- and by its points at the two heights
abbrev through : ℤ → ℤ → ℤ → ℤ → V3 → V3 → HalfSpace
through z1 z2 u v b d = sloped z1 z2 u v (u *ℤ b.x +ℤ v *ℤ b.y) (u *ℤ d.x +ℤ v *ℤ d.y)

abbrev through_term : Term → Term → Term → Term → Term3 → Term3 → TermHalfSpace
through_term z1 z2 u v b d = sloped_term z1 z2 u v (u ⊗ b.x ⊕ v ⊗ b.y) (u ⊗ d.x ⊕ v ⊗ d.y)

weighted : (z1 z2 i j u0 v0 u1 v1 : ℤ) (b d : V3) (p : Vec4) → i *ℤ excess (through z1 z2 u0 v0 b d) p +ℤ j *ℤ excess (through z1 z2 u1 v1 b d) p ≡ excess (through z1 z2 (i *ℤ u0 +ℤ j *ℤ u1) (i *ℤ v0 +ℤ j *ℤ v1) b d) p
weighted = identity (number ∷ number ∷ number ∷ number ∷ number ∷ number ∷ number ∷ number ∷ vector3 ∷ vector3 ∷ vector4 ∷ []) (λ z1 z2 i j u0 v0 u1 v1 b d p. i ⊗ excess_term (through_term z1 z2 u0 v0 b d) p ⊕ j ⊗ excess_term (through_term z1 z2 u1 v1 b d) p ≣ excess_term (through_term z1 z2 (i ⊗ u0 ⊕ j ⊗ u1) (i ⊗ v0 ⊕ j ⊗ v1) b d) p) tt

-- any half-space, by that through points at the two heights and by its own sides there
by_sides : (z1 z2 k : ℤ) (h : HalfSpace) (bx by_ dx dy : ℤ) (p : Vec4) → (k *ℤ (z2 -ℤ z1)) *ℤ excess h p ≡ (excess (through z1 z2 (k *ℤ h.n.x) (k *ℤ h.n.y) (point bx by_ z1) (point dx dy z2)) p +ℤ (k *ℤ (z2 *ℤ p.w -ℤ p.z)) *ℤ side_of h (point bx by_ z1)) +ℤ (k *ℤ (p.z -ℤ z1 *ℤ p.w)) *ℤ side_of h (point dx dy z2)
by_sides = identity (number ∷ number ∷ number ∷ half_space_kind ∷ number ∷ number ∷ number ∷ number ∷ vector4 ∷ []) (λ z1 z2 k h bx by_ dx dy p. (k ⊗ (z2 ⊖ z1)) ⊗ excess_term h p ≣ (excess_term (through_term z1 z2 (k ⊗ h.n.x) (k ⊗ h.n.y) (point_term bx by_ z1) (point_term dx dy z2)) p ⊕ (k ⊗ (z2 ⊗ p.w ⊖ p.z)) ⊗ side_term h (point_term bx by_ z1)) ⊕ (k ⊗ (p.z ⊖ z1 ⊗ p.w)) ⊗ side_term h (point_term dx dy z2)) tt

-- ---- the solid
abbrev top : Section → HalfSpace
top t = half_space (pos 0) (pos 0) (pos 1) t.z

abbrev bottom : Section → HalfSpace
bottom s = half_space (pos 0) (pos 0) (neg_ℤ (pos 1)) (neg_ℤ s.z)

-- `extrusion`, by its edges
abbrev solid_of : Section → Section → List (V3 × V3) → List HalfSpace
solid_of s t edges = top t ∷ bottom s ∷ map (side s t) edges

module _ (s t : Section) (corners : List V3) (edges : List (V3 × V3)) (tall : s.z <ℤ t.z) (low : IsScaled s corners) (high : IsScaled t corners) (is : IsConvex corners edges) where
  inward : (r : Section) → IsScaled r corners → (e : V3 × V3) → Contains edges e → All (λ q. beyond r e q ≤ℤ pos 0) corners
  inward r scale e in_e k d lt =
      let q = get_or corners k d in
      let whole = All-whole r.scale corners scale.whole in
      le_of_mul-le-left r.scale.den (beyond r e q) (pos 0) scale.den
      (omega (arith, ints, beyond_is r e.0 e.1 q (All-contains (IsWhole r.scale) corners e.0 whole (All-contains (λ e. Contains corners e.0 × Contains corners e.1) edges e is.ends in_e).0) (whole k d lt), mul_nonneg r.scale.num (turn e.0 e.1 q) (omega (arith, ints, scale.num)) (All-contains (λ e. All (λ q. pos 0 ≤ℤ turn e.0 e.1 q) corners) edges e is.left in_e k d lt)))

  -- an edge is at one level at both its ends
  level_end : (r : Section) → IsScaled r corners → (e : V3 × V3) → Contains edges e → beyond r e e.1 ≡ pos 0
  level_end r scale e in_e =
      let ends = All-contains (λ e. Contains corners e.0 × Contains corners e.1) edges e is.ends in_e in
      let whole = All-whole r.scale corners scale.whole in
      zero_of_mul r.scale.den (beyond r e e.1) scale.den
      (omega (arith, ints, beyond_is r e.0 e.1 e.1 (All-contains (IsWhole r.scale) corners e.0 whole ends.0) (All-contains (IsWhole r.scale) corners e.1 whole ends.1), on r.scale.num e.0 e.1))
    where
      on : (n : ℤ) (a b : V3) → n *ℤ turn a b b ≡ pos 0
      on = identity (number ∷ vector3 ∷ vector3 ∷ []) (λ n a b. n ⊗ turn_term a b b ≣ none) tt

  -- ---- each inequality bounds the vertices
  bound : (h : HalfSpace) → is_zero h.n ≡ false → All (λ q. side_of h (corner s q) ≤ℤ pos 0) corners → All (λ q. side_of h (corner t q) ≤ℤ pos 0) corners → IsBound (extrusion_vertices s t corners) h
  bound h plane below above = record {
    plane = plane;
    supports = (Decides-supports h (extrusion_vertices s t corners)).1
        (All-append (λ p. side_of h p ≤ℤ pos 0) (map (corner s) corners) (map (corner t) corners)
        (All-map (λ p. side_of h p ≤ℤ pos 0) (corner s) corners below)
        (All-map (λ p. side_of h p ≤ℤ pos 0) (corner t) corners above));
  }

  ends : IsBound (extrusion_vertices s t corners) (top t) × IsBound (extrusion_vertices s t corners) (bottom s)
  ends = (
    bound (top t) refl (λ k d lt. under (corner s (get_or corners k d)) (omega (arith, ints, tall))) (λ k d lt. under (corner t (get_or corners k d)) (omega (arith, ints))),
    bound (bottom s) refl (λ k d lt. over (corner s (get_or corners k d)) (omega (arith, ints))) (λ k d lt. over (corner t (get_or corners k d)) (omega (arith, ints, tall))),
  )
    where
      under : (q : V3) → q.z ≤ℤ t.z → side_of (top t) q ≤ℤ pos 0
      under q le = omega (arith, ints, le)

      over : (q : V3) → s.z ≤ℤ q.z → side_of (bottom s) q ≤ℤ pos 0
      over q le = omega (arith, ints, le)

  side_bound : (e : V3 × V3) → Contains edges e → IsBound (extrusion_vertices s t corners) (side s t e)
  side_bound e in_e =
      let z = t.z -ℤ s.z in
      bound (side s t e)
      (not_is_zero (side s t e).n (point (e.1.y -ℤ e.0.y) (e.0.x -ℤ e.1.x) (pos 0))
      (λ zero. omega (arith, ints, zero, length z (level s e -ℤ level t e) e.0 e.1, mul_pos z (along e.0 e.1 e.0 e.1) (omega (arith, ints, tall)) (All-contains (λ e. pos 0 <ℤ along e.0 e.1 e.0 e.1) edges e is.long in_e))))
      (λ k d lt. omega (arith, ints, mul_nonneg_nonpos z (beyond s e (get_or corners k d)) (omega (arith, ints, tall)) (inward s low e in_e k d lt), side_of-sloped_first s.z t.z (e.1.y -ℤ e.0.y) (e.0.x -ℤ e.1.x) (level s e) (level t e) (corner s (get_or corners k d)).x (corner s (get_or corners k d)).y))
      (λ k d lt. omega (arith, ints, mul_nonneg_nonpos z (beyond t e (get_or corners k d)) (omega (arith, ints, tall)) (inward t high e in_e k d lt), side_of-sloped_second s.z t.z (e.1.y -ℤ e.0.y) (e.0.x -ℤ e.1.x) (level s e) (level t e) (corner t (get_or corners k d)).x (corner t (get_or corners k d)).y))
    where
      length : (z m : ℤ) (a b : V3) → dot_of (point (z *ℤ (b.y -ℤ a.y)) (z *ℤ (a.x -ℤ b.x)) m) (point (b.y -ℤ a.y) (a.x -ℤ b.x) (pos 0)) ≡ z *ℤ along a b a b
      length = identity (number ∷ number ∷ vector3 ∷ vector3 ∷ []) (λ z m a b. term.dot_of (point_term (z ⊗ (b.y ⊖ a.y)) (z ⊗ (a.x ⊖ b.x)) m) (point_term (b.y ⊖ a.y) (a.x ⊖ b.x) none) ≣ z ⊗ along_term a b a b) tt

  bounds : All (IsBound (extrusion_vertices s t corners)) (solid_of s t edges)
  bounds =
      All-cons (IsBound (extrusion_vertices s t corners)) (top t) (bottom s ∷ map (side s t) edges) ends.0
      (All-cons (IsBound (extrusion_vertices s t corners)) (bottom s) (map (side s t) edges) ends.1
      (All-map (IsBound (extrusion_vertices s t corners)) (side s t) edges (All-weaker (Contains edges) (λ e. IsBound (extrusion_vertices s t corners) (side s t e)) side_bound edges (All-contains_itself edges))))

  -- ---- what bounds the vertices bounds the points
  -- the inequality of an edge, by its levels at a point of the edge
  side_at : (p : Vec4) → All (λ h. IsAtMost h p) (solid_of s t edges) → (e : V3 × V3) → Contains edges e → (x : V3) → beyond s e x ≡ pos 0 → beyond t e x ≡ pos 0 → IsAtMost (through s.z t.z (e.1.y -ℤ e.0.y) (e.0.x -ℤ e.1.x) (corner s x) (corner t x)) p
  side_at p inside e in_e x es et =
      let u = e.1.y -ℤ e.0.y in
      let v = e.0.x -ℤ e.1.x in
      let sides = All-from_map (λ h. IsAtMost h p) (side s t) edges (All-tail (λ h. IsAtMost h p) (bottom s) (map (side s t) edges) (All-tail (λ h. IsAtMost h p) (top t) (bottom s ∷ map (side s t) edges) inside)) in
      subst (λ (l : ℤ). IsAtMost (sloped s.z t.z u v l (u *ℤ (corner t x).x +ℤ v *ℤ (corner t x).y)) p) (same (u *ℤ (corner s x).x +ℤ v *ℤ (corner s x).y) (level s e) es)
      (subst (λ (l : ℤ). IsAtMost (sloped s.z t.z u v (level s e) l) p) (same (u *ℤ (corner t x).x +ℤ v *ℤ (corner t x).y) (level t e) et)
      (All-contains (λ e. IsAtMost (side s t e) p) edges e sides in_e))
    where
      same : (a b : ℤ) → a -ℤ b ≡ pos 0 → b ≡ a
      same a b e = omega (arith, ints)

  bounded : (h : HalfSpace) → IsTrue (supports h (extrusion_vertices s t corners)) → (p : Vec4) → IsTrue (is_in (solid_of s t edges) p) → (x : V3) × Contains corners x × IsCorner edges h.n x → IsAtMost h p
  bounded h supported p inside (x, in_x, c) =
      let all = All-is_in (solid_of s t edges) p inside in
      let o = half_space (pos 0) (pos 0) (pos 0) (pos 0) in
      let z = t.z -ℤ s.z in
      let u0 = x.y -ℤ c.before.y in
      let v0 = c.before.x -ℤ x.x in
      let u1 = c.after.y -ℤ x.y in
      let v1 = x.x -ℤ c.after.x in
      let b = corner s x in
      let d = corner t x in
      let parts = All-append_parts (λ q. side_of h q ≤ℤ pos 0) (map (corner s) corners) (map (corner t) corners) ((Decides-supports h (extrusion_vertices s t corners)).0 supported) in
      let at_b = All-contains (λ q. side_of h (corner s q) ≤ℤ pos 0) corners x (All-from_map (λ q. side_of h q ≤ℤ pos 0) (corner s) corners parts.0) in_x in
      let at_d = All-contains (λ q. side_of h (corner t q) ≤ℤ pos 0) corners x (All-from_map (λ q. side_of h q ≤ℤ pos 0) (corner t) corners parts.1) in_x in
      let first = side_at p all (c.before, x) c.enters x (level_end s low (c.before, x) c.enters) (level_end t high (c.before, x) c.enters) in
      let second = side_at p all (x, c.after) c.leaves x (nothing (level s (x, c.after))) (nothing (level t (x, c.after))) in
      let gradient : excess (through s.z t.z (c.a *ℤ u0 +ℤ c.b *ℤ u1) (c.a *ℤ v0 +ℤ c.b *ℤ v1) b d) p ≡ excess (through s.z t.z (c.k *ℤ h.n.x) (c.k *ℤ h.n.y) b d) p = λ i. excess (through s.z t.z (sym c.x_is i) (sym c.y_is i) b d) p in
      at_most (normal_dot h p) (h.e *ℤ p.w)
      (le_of_mul-le-left (c.k *ℤ z) (excess h p) (pos 0) (mul_pos c.k z c.positive (omega (arith, ints, tall)))
      (omega (
        arith,
        ints,
        weighted s.z t.z c.a c.b u0 v0 u1 v1 b d p,
        gradient,
        by_sides s.z t.z c.k h b.x b.y d.x d.y p,
        mul_nonneg_nonpos c.a (excess (through s.z t.z u0 v0 b d) p) c.first (omega (arith, ints, first)),
        mul_nonneg_nonpos c.b (excess (through s.z t.z u1 v1 b d) p) c.second (omega (arith, ints, second)),
        mul_nonneg_nonpos (c.k *ℤ (t.z *ℤ p.w -ℤ p.z)) (side_of h b) (mul_nonneg c.k (t.z *ℤ p.w -ℤ p.z) (omega (arith, ints, c.positive)) (omega (arith, ints, all 0 o (omega arith)))) at_b,
        mul_nonneg_nonpos (c.k *ℤ (p.z -ℤ s.z *ℤ p.w)) (side_of h d) (mul_nonneg c.k (p.z -ℤ s.z *ℤ p.w) (omega (arith, ints, c.positive)) (omega (arith, ints, all 1 o (omega arith), neg-mul s.z p.w))) at_d,
      )))
    where
      nothing : (a : ℤ) → a -ℤ a ≡ pos 0
      nothing a = omega (arith, ints)

      at_most : (a b : ℤ) → (a -ℤ b) ≤ℤ pos 0 → a ≤ℤ b
      at_most a b h = omega (arith, ints)

pub extrusion_hull : (s t : Section) (corners : List V3) → s.z <ℤ t.z → IsScaled s corners → IsScaled t corners → All (λ c. c.z ≡ pos 0) corners → is_straight corners ≡ false → is_convex corners ≡ true → IsHullOf (extrusion s t corners) (extrusion_vertices s t corners)
extrusion_hull s t [] tall low high flat wide e = absurd (true≢false wide)
extrusion_hull s t (c ∷ corners) tall low high flat wide e =
    let edges = edges_of (c ∷ corners) in
    let is = convex (c ∷ corners) flat wide e in
    record {
      bounds = bounds s t (c ∷ corners) edges tall low high is;
      bounded = λ h supported p w inside. bounded s t (c ∷ corners) edges tall low high is h supported p inside (extreme_corner c corners edges is h.n);
    }

-- ---- the vertices aren't in one plane
-- three corners below and one above
volume_is : (a b c : V3) (x y z1 z2 num den ax ay bx by_ cx cy tx ty : ℤ) → den *ℤ ax ≡ num *ℤ a.x → den *ℤ ay ≡ num *ℤ a.y → den *ℤ bx ≡ num *ℤ b.x → den *ℤ by_ ≡ num *ℤ b.y → den *ℤ cx ≡ num *ℤ c.x → den *ℤ cy ≡ num *ℤ c.y → (den *ℤ den) *ℤ volume (point (x +ℤ ax) (y +ℤ ay) z1) (point (x +ℤ bx) (y +ℤ by_) z1) (point (x +ℤ cx) (y +ℤ cy) z1) (point tx ty z2) ≡ ((z2 -ℤ z1) *ℤ (num *ℤ num)) *ℤ turn a b c
volume_is a b c x y z1 z2 num den ax ay bx by_ cx cy tx ty eax eay ebx eby ecx ecy =
    spread x y z1 z2 den ax ay bx by_ cx cy tx ty ∙ (λ i. (z2 -ℤ z1) *ℤ ((ebx i -ℤ eax i) *ℤ (ecy i -ℤ eay i) -ℤ (eby i -ℤ eay i) *ℤ (ecx i -ℤ eax i))) ∙ gather (z2 -ℤ z1) num a b c
  where
    spread : (x y z1 z2 den ax ay bx by_ cx cy tx ty : ℤ) → (den *ℤ den) *ℤ volume (point (x +ℤ ax) (y +ℤ ay) z1) (point (x +ℤ bx) (y +ℤ by_) z1) (point (x +ℤ cx) (y +ℤ cy) z1) (point tx ty z2) ≡ (z2 -ℤ z1) *ℤ ((den *ℤ bx -ℤ den *ℤ ax) *ℤ (den *ℤ cy -ℤ den *ℤ ay) -ℤ (den *ℤ by_ -ℤ den *ℤ ay) *ℤ (den *ℤ cx -ℤ den *ℤ ax))
    spread = identity (number ∷ number ∷ number ∷ number ∷ number ∷ number ∷ number ∷ number ∷ number ∷ number ∷ number ∷ number ∷ number ∷ []) (λ x y z1 z2 den ax ay bx by_ cx cy tx ty. (den ⊗ den) ⊗ volume_term (point_term (x ⊕ ax) (y ⊕ ay) z1) (point_term (x ⊕ bx) (y ⊕ by_) z1) (point_term (x ⊕ cx) (y ⊕ cy) z1) (point_term tx ty z2) ≣ (z2 ⊖ z1) ⊗ ((den ⊗ bx ⊖ den ⊗ ax) ⊗ (den ⊗ cy ⊖ den ⊗ ay) ⊖ (den ⊗ by_ ⊖ den ⊗ ay) ⊗ (den ⊗ cx ⊖ den ⊗ ax))) tt

    gather : (z n : ℤ) (a b c : V3) → z *ℤ ((n *ℤ b.x -ℤ n *ℤ a.x) *ℤ (n *ℤ c.y -ℤ n *ℤ a.y) -ℤ (n *ℤ b.y -ℤ n *ℤ a.y) *ℤ (n *ℤ c.x -ℤ n *ℤ a.x)) ≡ (z *ℤ (n *ℤ n)) *ℤ turn a b c
    gather = identity (number ∷ number ∷ vector3 ∷ vector3 ∷ vector3 ∷ []) (λ z n a b c. z ⊗ ((n ⊗ b.x ⊖ n ⊗ a.x) ⊗ (n ⊗ c.y ⊖ n ⊗ a.y) ⊖ (n ⊗ b.y ⊖ n ⊗ a.y) ⊗ (n ⊗ c.x ⊖ n ⊗ a.x)) ≣ (z ⊗ (n ⊗ n)) ⊗ turn_term a b c) tt

pub extrusion_solid : (s t : Section) (corners : List V3) → s.z <ℤ t.z → IsScaled s corners → is_straight corners ≡ false → are_coplanar (extrusion_vertices s t corners) ≡ false
extrusion_solid s t corners tall scale wide =
    by_bool (are_coplanar vertices) (λ e. absurd (true≢false (sym (straight ((Decides-are_coplanar vertices).0 e)) ∙ wide))) (λ e. e)
  where
    vertices : List V3
    vertices = extrusion_vertices s t corners

    straight : IsCoplanar (extrusion_vertices s t corners) → is_straight corners ≡ true
    straight flat =
        list_all-from_AllPass (λ (t : V3 × V3 × V3). int_eq (turn t.0 t.1 t.2) (pos 0)) (triples_of corners)
        (All-weaker (λ t. Contains corners t.0 × Contains corners t.1 × Contains corners t.2) (λ t. int_eq (turn t.0 t.1 t.2) (pos 0) ≡ true) (λ t are. (Decides-int_eq (turn t.0 t.1 t.2) (pos 0)).1 (on t.0 t.1 t.2 are.0 are.1 are.2)) (triples_of corners)
        (All-triples_of (Contains corners) corners (All-contains_itself corners)))
      where
        low : (a : V3) → Contains corners a → Contains vertices (corner s a)
        low a h = Contains-append_left (map (corner s) corners) (map (corner t) corners) (corner s a) (Contains-map (corner s) corners a h)

        high : (a : V3) → Contains corners a → Contains vertices (corner t a)
        high a h = Contains-append_right (map (corner s) corners) (map (corner t) corners) (corner t a) (Contains-map (corner t) corners a h)

        none_of : (a b c : V3) → Contains corners a → Contains corners b → Contains corners c → volume (corner s a) (corner s b) (corner s c) (corner t a) ≡ pos 0
        none_of a b c in_a in_b in_c =
            All-contains (λ p. volume (corner s a) (corner s b) (corner s c) p ≡ pos 0) vertices (corner t a)
            (All-contains (AreInPlane vertices (corner s a) (corner s b)) vertices (corner s c)
            (All-contains (λ b. All (AreInPlane vertices (corner s a) b) vertices) vertices (corner s b)
            (All-contains (λ a. All (λ b. All (AreInPlane vertices a b) vertices) vertices) vertices (corner s a) flat (low a in_a)) (low b in_b)) (low c in_c)) (high a in_a)

        on : (a b c : V3) → Contains corners a → Contains corners b → Contains corners c → turn a b c ≡ pos 0
        on a b c in_a in_b in_c =
            let whole = All-whole s.scale corners scale.whole in
            let at_a = All-contains (IsWhole s.scale) corners a whole in_a in
            let at_b = All-contains (IsWhole s.scale) corners b whole in_b in
            let at_c = All-contains (IsWhole s.scale) corners c whole in_c in
            zero_of_mul ((t.z -ℤ s.z) *ℤ (s.scale.num *ℤ s.scale.num)) (turn a b c) (mul_pos (t.z -ℤ s.z) (s.scale.num *ℤ s.scale.num) (omega (arith, ints, tall)) (mul_pos s.scale.num s.scale.num scale.num scale.num))
            (sym (volume_is a b c s.x s.y s.z t.z s.scale.num s.scale.den (scaled s.scale a.x) (scaled s.scale a.y) (scaled s.scale b.x) (scaled s.scale b.y) (scaled s.scale c.x) (scaled s.scale c.y) (corner t a).x (corner t a).y at_a.x at_a.y at_b.x at_b.y at_c.x at_c.y) ∙ ap (λ (v : ℤ). (s.scale.den *ℤ s.scale.den) *ℤ v) (none_of a b c in_a in_b in_c) ∙ mul-zero (s.scale.den *ℤ s.scale.den))
