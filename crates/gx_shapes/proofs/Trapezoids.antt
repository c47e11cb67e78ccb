-- BOX and TRD: the solid between two rectangles at heights -c and c.
use Rattle.std.proofs.Common.{◌≡◌, ◌≢◌, ◌⊎◌, inl, inr, suc, false, IsTrue, ℤ, pos, negsuc, ◌+ℤ◌, ◌-ℤ◌, ◌*ℤ◌, neg_ℤ, ◌≤ℤ◌, ◌<ℤ◌, unsigned_abs, [], ◌∷◌, refl, sym, ap, arith}
use Rattle.std.proofs.lemmas.List.Elements.{All-append, All-from_recursion}
use Rattle.gx_num.specs.declared.vector.V3.{V3}
use Rattle.gx_num.specs.Vector.{dot_of}
use Rattle.gx_num.specs.Space.{HalfSpace, is_in}
use Rattle.gx_num.specs.Vector4.{Vec4}
use Rattle.gx_algebra.proofs.Ring.{Term, num, opp}
use Rattle.gx_algebra.proofs.Terms.{Term3, ◌≣◌, ◌⊕◌, ◌⊖◌, ◌⊗◌}
use Rattle.gx_algebra.proofs.Identity.{identity, number}
use Rattle.gx_algebra.proofs.Order.{mul_pos, mul-neg, neg-mul-neg, mul-le-left, le_of_mul-le-left}
use Rattle.gx_algebra.proofs.Laws.{neg-mul}
use Rattle.gx_plane.specs.Plane.{side_of}
use Rattle.gx_plane.proofs.PlaneFacts.{Decides-supports}
use Rattle.gx_convex.proofs.Truth.{AreBehind}
use Rattle.gx_convex.specs.Points.{are_coplanar}
use Rattle.gx_shapes.specs.Space.{half_space, point}
use Rattle.gx_shapes.specs.Straight.{box, trapezoid, corners, frustum}
use Rattle.gx_convex.specs.Hull.{IsAtMost, IsBound, IsHullOf}
use Rattle.gx_convex.proofs.Bounds.{All-is_in, not_is_zero}
use Rattle.gx_convex.proofs.Distinct.{by_bool}
use Rattle.gx_convex.proofs.Coplanar.{volume, volume_term, IsCoplanar, Decides-are_coplanar}
use Rattle.gx_algebra.proofs.Lists.{All-four, All-append_parts}
use borrow.Author.Differences.{ints}

-- the absolute value
abbrev magnitude : ℤ → ℤ
magnitude n = pos (unsigned_abs n)

-- ---- a linear function on a rectangle
at_most_magnitude : (n x r : ℤ) → x ≤ℤ r → neg_ℤ x ≤ℤ r → (n *ℤ x) ≤ℤ (magnitude n *ℤ r)
at_most_magnitude (pos a) x r h k = mul-le-left (pos a) x r (omega (arith, ints)) h
at_most_magnitude (negsuc a) x r h k =
    omega (arith, ints, mul-le-left (pos (suc a)) (neg_ℤ x) r (omega (arith, ints)) k, neg-mul-neg (pos (suc a)) x, mul-neg (pos (suc a)) x)

magnitude_reached : (n x : ℤ) → (magnitude n *ℤ x ≡ n *ℤ x) ⊎ (magnitude n *ℤ x ≡ n *ℤ neg_ℤ x)
magnitude_reached (pos a) x = inl refl
magnitude_reached (negsuc a) x = inr (sym (neg-mul-neg (pos (suc a)) x))

-- its greatest value at the corners
corners_reach : (nx ny nz e x y z : ℤ) → AreBehind (half_space nx ny nz e) (corners x y z) → ((magnitude nx *ℤ x +ℤ magnitude ny *ℤ y) +ℤ nz *ℤ z) ≤ℤ e
corners_reach nx ny nz e x y z s = go (magnitude_reached nx x) (magnitude_reached ny y)
  where
    p : V3
    p = point x y z

    go : (magnitude nx *ℤ x ≡ nx *ℤ x) ⊎ (magnitude nx *ℤ x ≡ nx *ℤ neg_ℤ x) → (magnitude ny *ℤ y ≡ ny *ℤ y) ⊎ (magnitude ny *ℤ y ≡ ny *ℤ neg_ℤ y) → ((magnitude nx *ℤ x +ℤ magnitude ny *ℤ y) +ℤ nz *ℤ z) ≤ℤ e
    go (inr h) (inr k) = omega (arith, ints, h, k, s 0 p (omega arith))
    go (inl h) (inr k) = omega (arith, ints, h, k, s 1 p (omega arith))
    go (inr h) (inl k) = omega (arith, ints, h, k, s 2 p (omega arith))
    go (inl h) (inl k) = omega (arith, ints, h, k, s 3 p (omega arith))

corners_support : (nx ny nz e x y z : ℤ) → pos 0 ≤ℤ x → pos 0 ≤ℤ y → ((magnitude nx *ℤ x +ℤ magnitude ny *ℤ y) +ℤ nz *ℤ z) ≤ℤ e → AreBehind (half_space nx ny nz e) (corners x y z)
corners_support nx ny nz e x y z hx hy h =
    All-four (λ p. side_of (half_space nx ny nz e) p ≤ℤ pos 0) (point (neg_ℤ x) (neg_ℤ y) z) (point x (neg_ℤ y) z) (point (neg_ℤ x) y z) (point x y z)
    (omega (arith, ints, h, low nx x hx, low ny y hy))
    (omega (arith, ints, h, high nx x hx, low ny y hy))
    (omega (arith, ints, h, low nx x hx, high ny y hy))
    (omega (arith, ints, h, high nx x hx, high ny y hy))
  where
    high : (n a : ℤ) → pos 0 ≤ℤ a → (n *ℤ a) ≤ℤ (magnitude n *ℤ a)
    high n a le = at_most_magnitude n a a (omega (arith, ints)) (omega (arith, ints))

    low : (n a : ℤ) → pos 0 ≤ℤ a → (n *ℤ neg_ℤ a) ≤ℤ (magnitude n *ℤ a)
    low n a le = at_most_magnitude n (neg_ℤ a) a (omega (arith, ints)) (omega (arith, ints))

-- ---- what bounds the vertices bounds the points
-- the point is at a height from -c to c, and there within the rectangle between the two
record IsBetween (a1 a2 b1 b2 c : ℤ) (p : Vec4) : Type 0 where
  low : neg_ℤ p.z ≤ℤ (c *ℤ p.w)
  high : p.z ≤ℤ (c *ℤ p.w)
  left : neg_ℤ ((pos 2 *ℤ c) *ℤ p.x) ≤ℤ (a1 *ℤ (c *ℤ p.w -ℤ p.z) +ℤ a2 *ℤ (c *ℤ p.w +ℤ p.z))
  right : ((pos 2 *ℤ c) *ℤ p.x) ≤ℤ (a1 *ℤ (c *ℤ p.w -ℤ p.z) +ℤ a2 *ℤ (c *ℤ p.w +ℤ p.z))
  front : neg_ℤ ((pos 2 *ℤ c) *ℤ p.y) ≤ℤ (b1 *ℤ (c *ℤ p.w -ℤ p.z) +ℤ b2 *ℤ (c *ℤ p.w +ℤ p.z))
  back : ((pos 2 *ℤ c) *ℤ p.y) ≤ℤ (b1 *ℤ (c *ℤ p.w -ℤ p.z) +ℤ b2 *ℤ (c *ℤ p.w +ℤ p.z))

-- a function at a point, times 2c, by its terms
scaled : (c nx ny nz x y z : ℤ) → (pos 2 *ℤ c) *ℤ ((nx *ℤ x +ℤ ny *ℤ y) +ℤ nz *ℤ z) ≡ (nx *ℤ ((pos 2 *ℤ c) *ℤ x) +ℤ ny *ℤ ((pos 2 *ℤ c) *ℤ y)) +ℤ (pos 2 *ℤ c) *ℤ (nz *ℤ z)
scaled = identity (number ∷ number ∷ number ∷ number ∷ number ∷ number ∷ number ∷ []) (λ c nx ny nz x y z. (num (pos 2) ⊗ c) ⊗ ((nx ⊗ x ⊕ ny ⊗ y) ⊕ nz ⊗ z) ≣ (nx ⊗ ((num (pos 2) ⊗ c) ⊗ x) ⊕ ny ⊗ ((num (pos 2) ⊗ c) ⊗ y)) ⊕ (num (pos 2) ⊗ c) ⊗ (nz ⊗ z)) tt

-- its greatest value at a height, by those at -c and c
weighted : (mx my nz a1 a2 b1 b2 c z w : ℤ) → (mx *ℤ (a1 *ℤ (c *ℤ w -ℤ z) +ℤ a2 *ℤ (c *ℤ w +ℤ z)) +ℤ my *ℤ (b1 *ℤ (c *ℤ w -ℤ z) +ℤ b2 *ℤ (c *ℤ w +ℤ z))) +ℤ (pos 2 *ℤ c) *ℤ (nz *ℤ z) ≡ (c *ℤ w -ℤ z) *ℤ ((mx *ℤ a1 +ℤ my *ℤ b1) +ℤ nz *ℤ neg_ℤ c) +ℤ (c *ℤ w +ℤ z) *ℤ ((mx *ℤ a2 +ℤ my *ℤ b2) +ℤ nz *ℤ c)
weighted = identity (number ∷ number ∷ number ∷ number ∷ number ∷ number ∷ number ∷ number ∷ number ∷ number ∷ []) (λ mx my nz a1 a2 b1 b2 c z w. (mx ⊗ (a1 ⊗ (c ⊗ w ⊖ z) ⊕ a2 ⊗ (c ⊗ w ⊕ z)) ⊕ my ⊗ (b1 ⊗ (c ⊗ w ⊖ z) ⊕ b2 ⊗ (c ⊗ w ⊕ z))) ⊕ (num (pos 2) ⊗ c) ⊗ (nz ⊗ z) ≣ (c ⊗ w ⊖ z) ⊗ ((mx ⊗ a1 ⊕ my ⊗ b1) ⊕ nz ⊗ opp c) ⊕ (c ⊗ w ⊕ z) ⊗ ((mx ⊗ a2 ⊕ my ⊗ b2) ⊕ nz ⊗ c)) tt

weights : (c e z w : ℤ) → (pos 2 *ℤ c) *ℤ (e *ℤ w) ≡ (c *ℤ w -ℤ z) *ℤ e +ℤ (c *ℤ w +ℤ z) *ℤ e
weights = identity (number ∷ number ∷ number ∷ number ∷ []) (λ c e z w. (num (pos 2) ⊗ c) ⊗ (e ⊗ w) ≣ (c ⊗ w ⊖ z) ⊗ e ⊕ (c ⊗ w ⊕ z) ⊗ e) tt

frustum_bounded : (a1 a2 b1 b2 c : ℤ) (h : HalfSpace) (p : Vec4) → pos 0 <ℤ c → AreBehind h (frustum a1 a2 b1 b2 c) → IsBetween a1 a2 b1 b2 c p → IsAtMost h p
frustum_bounded a1 a2 b1 b2 c h p hc s is =
    let parts = All-append_parts (λ q. side_of h q ≤ℤ pos 0) (corners a1 b1 (neg_ℤ c)) (corners a2 b2 c) s in
    let u = c *ℤ p.w -ℤ p.z in
    let v = c *ℤ p.w +ℤ p.z in
    let mx = magnitude h.n.x in
    let my = magnitude h.n.y in
    let x = at_most_magnitude h.n.x ((pos 2 *ℤ c) *ℤ p.x) (a1 *ℤ u +ℤ a2 *ℤ v) is.right is.left in
    let y = at_most_magnitude h.n.y ((pos 2 *ℤ c) *ℤ p.y) (b1 *ℤ u +ℤ b2 *ℤ v) is.back is.front in
    let bottom = mul-le-left u ((mx *ℤ a1 +ℤ my *ℤ b1) +ℤ h.n.z *ℤ neg_ℤ c) h.e (omega (arith, ints, is.high)) (corners_reach h.n.x h.n.y h.n.z h.e a1 b1 (neg_ℤ c) parts.0) in
    let top = mul-le-left v ((mx *ℤ a2 +ℤ my *ℤ b2) +ℤ h.n.z *ℤ c) h.e (omega (arith, ints, is.low)) (corners_reach h.n.x h.n.y h.n.z h.e a2 b2 c parts.1) in
    le_of_mul-le-left (pos 2 *ℤ c) ((h.n.x *ℤ p.x +ℤ h.n.y *ℤ p.y) +ℤ h.n.z *ℤ p.z) (h.e *ℤ p.w) (omega (arith, ints))
    (omega (arith, ints, x, y, bottom, top, scaled c h.n.x h.n.y h.n.z p.x p.y p.z, weighted mx my h.n.z a1 a2 b1 b2 c p.z p.w, weights c h.e p.z p.w))

-- the half-width at a height, times 2c, as the inequalities of a TRD say it
half_width : (a1 a2 c z w : ℤ) → a1 *ℤ (c *ℤ w -ℤ z) +ℤ a2 *ℤ (c *ℤ w +ℤ z) ≡ ((a1 +ℤ a2) *ℤ c) *ℤ w -ℤ ((a1 -ℤ a2) *ℤ z)
half_width = identity (number ∷ number ∷ number ∷ number ∷ number ∷ []) (λ a1 a2 c z w. a1 ⊗ (c ⊗ w ⊖ z) ⊕ a2 ⊗ (c ⊗ w ⊕ z) ≣ ((a1 ⊕ a2) ⊗ c) ⊗ w ⊖ ((a1 ⊖ a2) ⊗ z)) tt

-- and those of a BOX
same_width : (a c z w : ℤ) → a *ℤ (c *ℤ w -ℤ z) +ℤ a *ℤ (c *ℤ w +ℤ z) ≡ (pos 2 *ℤ c) *ℤ (a *ℤ w)
same_width = identity (number ∷ number ∷ number ∷ number ∷ []) (λ a c z w. a ⊗ (c ⊗ w ⊖ z) ⊕ a ⊗ (c ⊗ w ⊕ z) ≣ (num (pos 2) ⊗ c) ⊗ (a ⊗ w)) tt

trapezoid_between : (a1 a2 b1 b2 c : ℤ) (p : Vec4) → IsTrue (is_in (trapezoid a1 a2 b1 b2 c) p) → IsBetween a1 a2 b1 b2 c p
trapezoid_between a1 a2 b1 b2 c p e =
    let all = All-is_in (trapezoid a1 a2 b1 b2 c) p e in
    let o : HalfSpace = half_space (pos 0) (pos 0) (pos 0) (pos 0) in
    let width_x = half_width a1 a2 c p.z p.w in
    let width_y = half_width b1 b2 c p.z p.w in
    record {
      right = omega (arith, ints, all 0 o (omega arith), width_x);
      left = omega (arith, ints, all 1 o (omega arith), width_x, neg-mul (pos 2 *ℤ c) p.x);
      back = omega (arith, ints, all 2 o (omega arith), width_y);
      front = omega (arith, ints, all 3 o (omega arith), width_y, neg-mul (pos 2 *ℤ c) p.y);
      high = omega (arith, ints, all 4 o (omega arith));
      low = omega (arith, ints, all 5 o (omega arith));
    }

box_between : (a b c : ℤ) (p : Vec4) → pos 0 <ℤ c → IsTrue (is_in (box a b c) p) → IsBetween a a b b c p
box_between a b c p hc e =
    let all = All-is_in (box a b c) p e in
    let o : HalfSpace = half_space (pos 0) (pos 0) (pos 0) (pos 0) in
    let times = λ (x r : ℤ) (h : x ≤ℤ r). mul-le-left (pos 2 *ℤ c) x r (omega (arith, ints)) h in
    record {
      right = omega (arith, ints, times p.x (a *ℤ p.w) (omega (arith, ints, all 0 o (omega arith))), same_width a c p.z p.w);
      left = omega (arith, ints, times (neg_ℤ p.x) (a *ℤ p.w) (omega (arith, ints, all 1 o (omega arith))), mul-neg (pos 2 *ℤ c) p.x, same_width a c p.z p.w);
      back = omega (arith, ints, times p.y (b *ℤ p.w) (omega (arith, ints, all 2 o (omega arith))), same_width b c p.z p.w);
      front = omega (arith, ints, times (neg_ℤ p.y) (b *ℤ p.w) (omega (arith, ints, all 3 o (omega arith))), mul-neg (pos 2 *ℤ c) p.y, same_width b c p.z p.w);
      high = omega (arith, ints, all 4 o (omega arith));
      low = omega (arith, ints, all 5 o (omega arith));
    }

-- ---- each inequality bounds the vertices
-- the half-lengths of one direction, at the two ends
pub record IsWidth (a b : ℤ) : Type 0 where
  pub first : pos 0 ≤ℤ a
  pub second : pos 0 ≤ℤ b
  pub some : pos 0 <ℤ (a +ℤ b)

pub record IsFrustum (a1 a2 b1 b2 c : ℤ) : Type 0 where
  pub x : IsWidth a1 a2
  pub y : IsWidth b1 b2
  pub z : pos 0 <ℤ c

-- one that isn't broken at the corners, with a normal whose product with some vector isn't 0
frustum_bound : (a1 a2 b1 b2 c nx ny nz e : ℤ) (d : V3) → IsFrustum a1 a2 b1 b2 c → dot_of (point nx ny nz) d ≢ pos 0 → ((magnitude nx *ℤ a1 +ℤ magnitude ny *ℤ b1) +ℤ nz *ℤ neg_ℤ c) ≤ℤ e → ((magnitude nx *ℤ a2 +ℤ magnitude ny *ℤ b2) +ℤ nz *ℤ c) ≤ℤ e → IsBound (frustum a1 a2 b1 b2 c) (half_space nx ny nz e)
frustum_bound a1 a2 b1 b2 c nx ny nz e d is ne low high = record {
  plane = not_is_zero (point nx ny nz) d ne;
  supports = (Decides-supports (half_space nx ny nz e) (frustum a1 a2 b1 b2 c)).1 (All-append (λ p. side_of (half_space nx ny nz e) p ≤ℤ pos 0) (corners a1 b1 (neg_ℤ c)) (corners a2 b2 c)
      (corners_support nx ny nz e a1 b1 (neg_ℤ c) is.x.first is.y.first low)
      (corners_support nx ny nz e a2 b2 c is.x.second is.y.second high));
}

abbrev unit_x : V3
unit_x = point (pos 1) (pos 0) (pos 0)

abbrev unit_y : V3
unit_y = point (pos 0) (pos 1) (pos 0)

abbrev unit_z : V3
unit_z = point (pos 0) (pos 0) (pos 1)

low_width : (a1 a2 c : ℤ) → (pos 2 *ℤ c) *ℤ a1 +ℤ (a1 -ℤ a2) *ℤ neg_ℤ c ≡ (a1 +ℤ a2) *ℤ c
low_width = identity (number ∷ number ∷ number ∷ []) (λ a1 a2 c. (num (pos 2) ⊗ c) ⊗ a1 ⊕ (a1 ⊖ a2) ⊗ opp c ≣ (a1 ⊕ a2) ⊗ c) tt

high_width : (a1 a2 c : ℤ) → (pos 2 *ℤ c) *ℤ a2 +ℤ (a1 -ℤ a2) *ℤ c ≡ (a1 +ℤ a2) *ℤ c
high_width = identity (number ∷ number ∷ number ∷ []) (λ a1 a2 c. (num (pos 2) ⊗ c) ⊗ a2 ⊕ (a1 ⊖ a2) ⊗ c ≣ (a1 ⊕ a2) ⊗ c) tt

magnitude_is : (k m : ℤ) → pos 0 ≤ℤ m → (k ≡ m) ⊎ (k ≡ neg_ℤ m) → magnitude k ≡ m
magnitude_is k m h (inl e) = omega (arith, ints)
magnitude_is k m h (inr e) = omega (arith, ints)

side_x : (a1 a2 b1 b2 c k : ℤ) → IsFrustum a1 a2 b1 b2 c → (k ≡ pos 2 *ℤ c) ⊎ (k ≡ neg_ℤ (pos 2 *ℤ c)) → IsBound (frustum a1 a2 b1 b2 c) (half_space k (pos 0) (a1 -ℤ a2) ((a1 +ℤ a2) *ℤ c))
side_x a1 a2 b1 b2 c k is s =
    let tall = is.z in
    let same = magnitude_is k (pos 2 *ℤ c) (omega (arith, ints)) s in
    frustum_bound a1 a2 b1 b2 c k (pos 0) (a1 -ℤ a2) ((a1 +ℤ a2) *ℤ c) unit_x is (λ e. omega (arith, ints, same))
    (omega (arith, ints, ap (λ (m : ℤ). m *ℤ a1) same, low_width a1 a2 c))
    (omega (arith, ints, ap (λ (m : ℤ). m *ℤ a2) same, high_width a1 a2 c))

side_y : (a1 a2 b1 b2 c k : ℤ) → IsFrustum a1 a2 b1 b2 c → (k ≡ pos 2 *ℤ c) ⊎ (k ≡ neg_ℤ (pos 2 *ℤ c)) → IsBound (frustum a1 a2 b1 b2 c) (half_space (pos 0) k (b1 -ℤ b2) ((b1 +ℤ b2) *ℤ c))
side_y a1 a2 b1 b2 c k is s =
    let tall = is.z in
    let same = magnitude_is k (pos 2 *ℤ c) (omega (arith, ints)) s in
    frustum_bound a1 a2 b1 b2 c (pos 0) k (b1 -ℤ b2) ((b1 +ℤ b2) *ℤ c) unit_y is (λ e. omega (arith, ints, same))
    (omega (arith, ints, ap (λ (m : ℤ). m *ℤ b1) same, low_width b1 b2 c))
    (omega (arith, ints, ap (λ (m : ℤ). m *ℤ b2) same, high_width b1 b2 c))

-- top and bottom
caps : (a1 a2 b1 b2 c : ℤ) → IsFrustum a1 a2 b1 b2 c → IsBound (frustum a1 a2 b1 b2 c) (half_space (pos 0) (pos 0) (pos 1) c) × IsBound (frustum a1 a2 b1 b2 c) (half_space (pos 0) (pos 0) (neg_ℤ (pos 1)) c)
caps a1 a2 b1 b2 c is =
    let tall = is.z in (
      frustum_bound a1 a2 b1 b2 c (pos 0) (pos 0) (pos 1) c unit_z is (λ e. omega (arith, ints)) (omega (arith, ints)) (omega (arith, ints)),
      frustum_bound a1 a2 b1 b2 c (pos 0) (pos 0) (neg_ℤ (pos 1)) c unit_z is (λ e. omega (arith, ints)) (omega (arith, ints)) (omega (arith, ints)),
    )

pub trapezoid_hull : (a1 a2 b1 b2 c : ℤ) → IsFrustum a1 a2 b1 b2 c → IsHullOf (trapezoid a1 a2 b1 b2 c) (frustum a1 a2 b1 b2 c)
trapezoid_hull a1 a2 b1 b2 c is =
    let ends = caps a1 a2 b1 b2 c is in
    record {
      bounds = All-from_recursion (IsBound (frustum a1 a2 b1 b2 c)) (trapezoid a1 a2 b1 b2 c)
          (side_x a1 a2 b1 b2 c (pos 2 *ℤ c) is (inl refl), (side_x a1 a2 b1 b2 c (neg_ℤ (pos 2 *ℤ c)) is (inr refl), (side_y a1 a2 b1 b2 c (pos 2 *ℤ c) is (inl refl), (side_y a1 a2 b1 b2 c (neg_ℤ (pos 2 *ℤ c)) is (inr refl), (ends.0, (ends.1, tt))))));
      bounded = λ h s p w e. frustum_bounded a1 a2 b1 b2 c h p is.z ((Decides-supports h (frustum a1 a2 b1 b2 c)).0 s) (trapezoid_between a1 a2 b1 b2 c p e);
    }

pub box_hull : (a b c : ℤ) → IsFrustum a a b b c → IsHullOf (box a b c) (frustum a a b b c)
box_hull a b c is =
    let ends = caps a a b b c is in
    record {
      bounds = All-from_recursion (IsBound (frustum a a b b c)) (box a b c)
          (face (pos 1) (pos 0) a unit_x (λ e. omega (arith, ints)) (omega (arith, ints)), (face (neg_ℤ (pos 1)) (pos 0) a unit_x (λ e. omega (arith, ints)) (omega (arith, ints)), (face (pos 0) (pos 1) b unit_y (λ e. omega (arith, ints)) (omega (arith, ints)), (face (pos 0) (neg_ℤ (pos 1)) b unit_y (λ e. omega (arith, ints)) (omega (arith, ints)), (ends.0, (ends.1, tt))))));
      bounded = λ h s p w e. frustum_bounded a a b b c h p is.z ((Decides-supports h (frustum a a b b c)).0 s) (box_between a b c p is.z e);
    }
  where
    face : (nx ny e : ℤ) (d : V3) → dot_of (point nx ny (pos 0)) d ≢ pos 0 → (magnitude nx *ℤ a +ℤ magnitude ny *ℤ b) ≤ℤ e → IsBound (frustum a a b b c) (half_space nx ny (pos 0) e)
    face nx ny e d ne h = frustum_bound a a b b c nx ny (pos 0) e d is ne (omega (arith, ints, h)) (omega (arith, ints, h))

-- ---- the vertices aren't coplanar
-- four volumes, each of an edge along x and one along y: p, q and r are a corner and its neighbours below, s, t and u above
abbrev volumes : V3 → V3 → V3 → V3 → V3 → V3 → ℤ
volumes p q r s t u = ((volume p q r s -ℤ volume p q s u) +ℤ volume p r s t) -ℤ volume s t u p

abbrev volumes_term : Term3 → Term3 → Term3 → Term3 → Term3 → Term3 → Term
volumes_term p q r s t u = ((volume_term p q r s ⊖ volume_term p q s u) ⊕ volume_term p r s t) ⊖ volume_term s t u p

abbrev point_term : Term → Term → Term → Term3
point_term x y z = record { x = x; y = y; z = z }

volumes_are : (a1 a2 b1 b2 c : ℤ) → volumes (point (neg_ℤ a1) (neg_ℤ b1) (neg_ℤ c)) (point a1 (neg_ℤ b1) (neg_ℤ c)) (point (neg_ℤ a1) b1 (neg_ℤ c)) (point (neg_ℤ a2) (neg_ℤ b2) c) (point a2 (neg_ℤ b2) c) (point (neg_ℤ a2) b2 c) ≡ pos 8 *ℤ ((a1 +ℤ a2) *ℤ ((b1 +ℤ b2) *ℤ c))
volumes_are = identity (number ∷ number ∷ number ∷ number ∷ number ∷ []) (λ a1 a2 b1 b2 c. volumes_term (point_term (opp a1) (opp b1) (opp c)) (point_term a1 (opp b1) (opp c)) (point_term (opp a1) b1 (opp c)) (point_term (opp a2) (opp b2) c) (point_term a2 (opp b2) c) (point_term (opp a2) b2 c) ≣ num (pos 8) ⊗ ((a1 ⊕ a2) ⊗ ((b1 ⊕ b2) ⊗ c))) tt

pub frustum_solid : (a1 a2 b1 b2 c : ℤ) → IsFrustum a1 a2 b1 b2 c → are_coplanar (frustum a1 a2 b1 b2 c) ≡ false
frustum_solid a1 a2 b1 b2 c is = by_bool (are_coplanar (frustum a1 a2 b1 b2 c)) (λ e. absurd (never ((Decides-are_coplanar (frustum a1 a2 b1 b2 c)).0 e))) (λ e. e)
  where
    o : V3
    o = point (pos 0) (pos 0) (pos 0)

    never : IsCoplanar (frustum a1 a2 b1 b2 c) → ⊥
    never flat = omega (arith, ints, volumes_are a1 a2 b1 b2 c, flat 0 o (omega arith) 1 o (omega arith) 2 o (omega arith) 4 o (omega arith), flat 0 o (omega arith) 1 o (omega arith) 4 o (omega arith) 6 o (omega arith), flat 0 o (omega arith) 2 o (omega arith) 4 o (omega arith) 5 o (omega arith), flat 4 o (omega arith) 5 o (omega arith) 6 o (omega arith) 0 o (omega arith), mul_pos (a1 +ℤ a2) ((b1 +ℤ b2) *ℤ c) is.x.some (mul_pos (b1 +ℤ b2) c is.y.some is.z))
