-- A linear function on the points of a convex polygon is greatest at a corner where two edges meet, of whose outward normals its
-- gradient is a sum.
use Rattle.std.proofs.Common.{get_or, ◌≡◌, ◌⊎◌, inl, inr, List, [], ◌∷◌, All, Contains, ℤ, pos, ◌+ℤ◌, ◌-ℤ◌, ◌*ℤ◌, ◌≤ℤ◌, ◌<ℤ◌, ap, ⊎_elim, arith}
use Rattle.std.proofs.lemmas.Int.{by_lt_z}
use Rattle.std.proofs.lemmas.List.Elements.{All-nil, All-cons, All-weaker, All-contains}
use Rattle.gx_num.specs.declared.vector.V3.{V3}
use Rattle.gx_algebra.proofs.Lists.{Contains-head, Contains-tail}
use Rattle.gx_algebra.proofs.Ring.{Term}
use Rattle.gx_algebra.proofs.Terms.{Term3, ◌≣◌, ◌⊕◌, ◌⊖◌, ◌⊗◌, none}
use Rattle.gx_algebra.proofs.Identity.{identity, vector3}
use Rattle.gx_algebra.proofs.Order.{mul_nonneg, mul_nonneg_nonpos, mul_pos, by_sign, square_nonneg, zero_of_mul, mul_pos_neg, mul-eq-zero}
use Rattle.gx_plane.proofs.Candidates.{normal_term}
use Rattle.gx_polygon.specs.Polygon.{turn}
use borrow.Author.Differences.{ints}

-- ---- an element that is greatest in an order
module _ {X : Type 0} (R : X → X → Type 0) (total : (a b : X) → R a b ⊎ R b a) (trans : (a b c : X) → R a b → R b c → R a c) where
  greatest : (x : X) (xs : List X) → (m : X) × Contains (x ∷ xs) m × All (λ y. R y m) (x ∷ xs)
  greatest x [] = (x, Contains-head x [], All-cons (λ y. R y x) x [] (⊎_elim (λ r. r) (λ r. r) (total x x)) (All-nil (λ y. R y x)))
  greatest x (y ∷ ys) = go (greatest y ys)
    where
      go : (m : X) × Contains (y ∷ ys) m × All (λ z. R z m) (y ∷ ys) → (m : X) × Contains (x ∷ y ∷ ys) m × All (λ z. R z m) (x ∷ y ∷ ys)
      go (m, in_m, all) = pick (total x m)
        where
          pick : R x m ⊎ R m x → (m : X) × Contains (x ∷ y ∷ ys) m × All (λ z. R z m) (x ∷ y ∷ ys)
          pick (inl r) = (m, Contains-tail x (y ∷ ys) m in_m, All-cons (λ z. R z m) x (y ∷ ys) r all)
          pick (inr r) = (x, Contains-head x (y ∷ ys), All-cons (λ z. R z x) x (y ∷ ys) (⊎_elim (λ r. r) (λ r. r) (total x x)) (All-weaker (λ z. R z m) (λ z. R z x) (λ z s. trans z m x s r) (y ∷ ys) all))

-- ---- products in the plane
abbrev dot2 : V3 → V3 → ℤ
dot2 a b = a.x *ℤ b.x +ℤ a.y *ℤ b.y

-- with n turned by a quarter
abbrev cross2 : V3 → V3 → ℤ
cross2 a b = a.x *ℤ b.y -ℤ a.y *ℤ b.x

abbrev dot2_term : Term3 → Term3 → Term
dot2_term a b = a.x ⊗ b.x ⊕ a.y ⊗ b.y

abbrev cross2_term : Term3 → Term3 → Term
cross2_term a b = a.x ⊗ b.y ⊖ a.y ⊗ b.x

-- n . (b - a)
abbrev rise : V3 → V3 → V3 → ℤ
rise n a b = dot2 n b -ℤ dot2 n a

abbrev rise_term : Term3 → Term3 → Term3 → Term
rise_term n a b = dot2_term n b ⊖ dot2_term n a

abbrev drift : V3 → V3 → V3 → ℤ
drift n a b = cross2 n b -ℤ cross2 n a

abbrev drift_term : Term3 → Term3 → Term3 → Term
drift_term n a b = cross2_term n b ⊖ cross2_term n a

abbrev pub turn_term : Term3 → Term3 → Term3 → Term
turn_term a b c = (normal_term a b c).z

-- (b - a) . (d - c)
abbrev pub along : V3 → V3 → V3 → V3 → ℤ
along a b c d = (b.x -ℤ a.x) *ℤ (d.x -ℤ c.x) +ℤ (b.y -ℤ a.y) *ℤ (d.y -ℤ c.y)

abbrev pub along_term : Term3 → Term3 → Term3 → Term3 → Term
along_term a b c d = (b.x ⊖ a.x) ⊗ (d.x ⊖ c.x) ⊕ (b.y ⊖ a.y) ⊗ (d.y ⊖ c.y)

-- ---- identities of an edge from w to x and an edge from x to y
gradient_x : (n w x y : V3) → turn w x y *ℤ n.x ≡ (pos 0 -ℤ rise n x y) *ℤ (x.y -ℤ w.y) +ℤ rise n w x *ℤ (y.y -ℤ x.y)
gradient_x = identity (vector3 ∷ vector3 ∷ vector3 ∷ vector3 ∷ []) (λ n w x y. turn_term w x y ⊗ n.x ≣ (none ⊖ rise_term n x y) ⊗ (x.y ⊖ w.y) ⊕ rise_term n w x ⊗ (y.y ⊖ x.y)) tt

gradient_y : (n w x y : V3) → turn w x y *ℤ n.y ≡ (pos 0 -ℤ rise n x y) *ℤ (w.x -ℤ x.x) +ℤ rise n w x *ℤ (x.x -ℤ y.x)
gradient_y = identity (vector3 ∷ vector3 ∷ vector3 ∷ vector3 ∷ []) (λ n w x y. turn_term w x y ⊗ n.y ≣ (none ⊖ rise_term n x y) ⊗ (w.x ⊖ x.x) ⊕ rise_term n w x ⊗ (x.x ⊖ y.x)) tt

-- what an edge takes from the one before it
next_rise : (n w x y : V3) → along w x w x *ℤ rise n x y ≡ along w x x y *ℤ rise n w x +ℤ turn w x y *ℤ (pos 0 -ℤ drift n w x)
next_rise = identity (vector3 ∷ vector3 ∷ vector3 ∷ vector3 ∷ []) (λ n w x y. along_term w x w x ⊗ rise_term n x y ≣ along_term w x x y ⊗ rise_term n w x ⊕ turn_term w x y ⊗ (none ⊖ drift_term n w x)) tt

next_drift : (n w x y : V3) → along w x w x *ℤ drift n x y ≡ along w x x y *ℤ drift n w x +ℤ turn w x y *ℤ rise n w x
next_drift = identity (vector3 ∷ vector3 ∷ vector3 ∷ vector3 ∷ []) (λ n w x y. along_term w x w x ⊗ drift_term n x y ≣ along_term w x x y ⊗ drift_term n w x ⊕ turn_term w x y ⊗ rise_term n w x) tt

next_turn : (w x y q : V3) → along w x w x *ℤ turn x y q ≡ along w x x y *ℤ turn w x q +ℤ turn w x y *ℤ (pos 0 -ℤ along w x x q)
next_turn = identity (vector3 ∷ vector3 ∷ vector3 ∷ vector3 ∷ []) (λ w x y q. along_term w x w x ⊗ turn_term x y q ≣ along_term w x x y ⊗ turn_term w x q ⊕ turn_term w x y ⊗ (none ⊖ along_term w x x q)) tt

lagrange : (w x y : V3) → along w x w x *ℤ along x y x y ≡ along w x x y *ℤ along w x x y +ℤ turn w x y *ℤ turn w x y
lagrange = identity (vector3 ∷ vector3 ∷ vector3 ∷ []) (λ w x y. along_term w x w x ⊗ along_term x y x y ≣ along_term w x x y ⊗ along_term w x x y ⊕ turn_term w x y ⊗ turn_term w x y) tt

lengths : (n w x : V3) → dot2 n n *ℤ along w x w x ≡ rise n w x *ℤ rise n w x +ℤ drift n w x *ℤ drift n w x
lengths = identity (vector3 ∷ vector3 ∷ vector3 ∷ []) (λ n w x. dot2_term n n ⊗ along_term w x w x ≣ rise_term n w x ⊗ rise_term n w x ⊕ drift_term n w x ⊗ drift_term n w x) tt

-- ---- convex polygons
-- Points with edges between them, where every point is left of every edge line, or on it.
pub record IsConvex (points : List V3) (edges : List (V3 × V3)) : Type 0 where
  pub ends : All (λ e. Contains points e.0 × Contains points e.1) edges
  pub long : All (λ e. pos 0 <ℤ along e.0 e.1 e.0 e.1) edges
  pub entered : All (λ p. (q : V3) × Contains edges (q, p)) points
  pub left_at : All (λ p. (q : V3) × Contains edges (p, q)) points
  pub left : All (λ e. All (λ q. pos 0 ≤ℤ turn e.0 e.1 q) points) edges
  pub wide : All (λ e. ¬ (All (λ q. turn e.0 e.1 q ≡ pos 0) points)) edges

-- a corner where two edges meet, and n as a sum of the normals of these edges that point outward
pub record IsCorner (edges : List (V3 × V3)) (n x : V3) : Type 0 where
  pub before : V3
  pub after : V3
  pub enters : Contains edges (before, x)
  pub leaves : Contains edges (x, after)
  pub k : ℤ
  pub a : ℤ
  pub b : ℤ
  pub positive : pos 0 <ℤ k
  pub first : pos 0 ≤ℤ a
  pub second : pos 0 ≤ℤ b
  pub x_is : k *ℤ n.x ≡ a *ℤ (x.y -ℤ before.y) +ℤ b *ℤ (after.y -ℤ x.y)
  pub y_is : k *ℤ n.y ≡ a *ℤ (before.x -ℤ x.x) +ℤ b *ℤ (x.x -ℤ after.x)

-- along n, and where it is equal there across n
abbrev IsBelow : V3 → V3 → V3 → Type 0
IsBelow n y x = (dot2 n y ≤ℤ dot2 n x) × (dot2 n y ≡ dot2 n x → cross2 n y ≤ℤ cross2 n x)

total : (n a b : V3) → IsBelow n a b ⊎ IsBelow n b a
total n a b =
    by_sign (dot2 n a -ℤ dot2 n b)
    (λ lt. inl (omega (arith, ints), λ e. absurd (omega (arith, ints))))
    (λ e. by_lt_z (cross2 n a) (cross2 n b) (λ lt. inl (omega (arith, ints), λ _. omega (arith, ints))) (λ le. inr (omega (arith, ints), λ _. le)))
    (λ lt. inr (omega (arith, ints), λ e. absurd (omega (arith, ints))))

trans : (n a b c : V3) → IsBelow n a b → IsBelow n b c → IsBelow n a c
trans n a b c h k = (omega (arith, ints, h.0, k.0), λ e. omega (arith, ints, h.1 (omega (arith, ints, h.0, k.0, e)), k.1 (omega (arith, ints, h.0, k.0, e))))

-- ---- two edges at a corner
-- s b = k a with a not below and b not above 0
both_zero : (s k a b : ℤ) → pos 0 <ℤ s → pos 0 <ℤ k → s *ℤ b ≡ k *ℤ a → pos 0 ≤ℤ a → b ≤ℤ pos 0 → (a ≡ pos 0) × (b ≡ pos 0)
both_zero s k a b hs hk e ha hb =
    let low = mul_nonneg_nonpos s b (omega (arith, ints)) hb in
    let high = mul_nonneg k a (omega (arith, ints)) ha in
    (zero_of_mul k a hk (omega (arith, ints, low, high, e)), zero_of_mul s b hs (omega (arith, ints, low, high, e)))

vanish : (t a b c : ℤ) → t ≡ pos 0 → a ≡ b +ℤ t *ℤ c → a ≡ b
vanish t a b c e h = omega (arith, ints, h, ap (λ (t : ℤ). t *ℤ c) e)

-- edges in one direction at the greatest point: n is 0
one_way : (n w x y : V3) → pos 0 <ℤ along w x w x → turn w x y ≡ pos 0 → pos 0 <ℤ along w x x y → IsBelow n w x → IsBelow n y x → dot2 n n ≡ pos 0
one_way n w x y long flat forward bw by_ =
    let s = along w x w x in
    let k = along w x x y in
    let rises = both_zero s k (rise n w x) (rise n x y) long forward (vanish (turn w x y) (s *ℤ rise n x y) (k *ℤ rise n w x) (pos 0 -ℤ drift n w x) flat (next_rise n w x y)) (omega (arith, ints, bw.0)) (omega (arith, ints, by_.0)) in
    let drifts = both_zero s k (drift n w x) (drift n x y) long forward (vanish (turn w x y) (s *ℤ drift n x y) (k *ℤ drift n w x) (rise n w x) flat (next_drift n w x y)) (omega (arith, ints, bw.1 (omega (arith, ints, rises.0)))) (omega (arith, ints, by_.1 (omega (arith, ints, rises.1)))) in
    zero_of_mul s (dot2 n n) long (omega (arith, ints, lengths n w x, ap (λ (t : ℤ). t *ℤ rise n w x) rises.0, ap (λ (t : ℤ). t *ℤ drift n w x) drifts.0))

-- edges there and back: all points are on their line
there_and_back : (points : List V3) (w x y : V3) → pos 0 <ℤ along w x w x → turn w x y ≡ pos 0 → along w x x y <ℤ pos 0 → All (λ q. pos 0 ≤ℤ turn w x q) points → All (λ q. pos 0 ≤ℤ turn x y q) points → All (λ q. turn w x q ≡ pos 0) points
there_and_back points w x y long flat back first second k d lt = go (get_or points k d) (first k d lt) (second k d lt)
  where
    go : (q : V3) → pos 0 ≤ℤ turn w x q → pos 0 ≤ℤ turn x y q → turn w x q ≡ pos 0
    go q h g =
        let s = along w x w x in
        let c = along w x x y in
        let e : s *ℤ turn x y q ≡ c *ℤ turn w x q = vanish (turn w x y) (s *ℤ turn x y q) (c *ℤ turn w x q) (pos 0 -ℤ along w x x q) flat (next_turn w x y q) in
        by_lt_z (pos 0) (turn w x q) (λ lt. absurd (omega (arith, ints, e, mul_nonneg s (turn x y q) (omega (arith, ints)) g, mul_pos_neg (turn w x q) c lt back))) (λ le. omega (arith, ints))

not_both : (w x y : V3) → pos 0 <ℤ along w x w x → pos 0 <ℤ along x y x y → turn w x y ≡ pos 0 → along w x x y ≡ pos 0 → ⊥
not_both w x y h k flat e =
    omega (arith, ints, lagrange w x y, mul_pos (along w x w x) (along x y x y) h k, ap (λ (t : ℤ). t *ℤ turn w x y) flat, ap (λ (t : ℤ). t *ℤ along w x x y) e)

-- ---- the law
-- a linear function with gradient n is greatest at such a corner
pub corner : (p : V3) (ps : List V3) (edges : List (V3 × V3)) → IsConvex (p ∷ ps) edges → (n : V3) → (x : V3) × Contains (p ∷ ps) x × IsCorner edges n x
corner p ps edges is n = at (greatest (IsBelow n) (total n) (trans n) p ps)
  where
    points : List V3
    points = p ∷ ps

    at : (x : V3) × Contains points x × All (λ y. IsBelow n y x) points → (x : V3) × Contains points x × IsCorner edges n x
    at (x, in_x, top) = meet (All-contains (λ p. (q : V3) × Contains edges (q, p)) points x is.entered in_x) (All-contains (λ p. (q : V3) × Contains edges (p, q)) points x is.left_at in_x)
      where
        meet : (q : V3) × Contains edges (q, x) → (q : V3) × Contains edges (x, q) → (x : V3) × Contains points x × IsCorner edges n x
        meet (w, enters) (y, leaves) = (x, in_x, turns)
          where
            long_in : pos 0 <ℤ along w x w x
            long_in = All-contains (λ e. pos 0 <ℤ along e.0 e.1 e.0 e.1) edges (w, x) is.long enters

            long_out : pos 0 <ℤ along x y x y
            long_out = All-contains (λ e. pos 0 <ℤ along e.0 e.1 e.0 e.1) edges (x, y) is.long leaves

            left_in : All (λ q. pos 0 ≤ℤ turn w x q) points
            left_in = All-contains (λ e. All (λ q. pos 0 ≤ℤ turn e.0 e.1 q) points) edges (w, x) is.left enters

            left_out : All (λ q. pos 0 ≤ℤ turn x y q) points
            left_out = All-contains (λ e. All (λ q. pos 0 ≤ℤ turn e.0 e.1 q) points) edges (x, y) is.left leaves

            wide_in : ¬ (All (λ q. turn w x q ≡ pos 0) points)
            wide_in = All-contains (λ e. ¬ (All (λ q. turn e.0 e.1 q ≡ pos 0) points)) edges (w, x) is.wide enters

            below_w : IsBelow n w x
            below_w = All-contains (λ y. IsBelow n y x) points w top (All-contains (λ e. Contains points e.0 × Contains points e.1) edges (w, x) is.ends enters).0

            below_y : IsBelow n y x
            below_y = All-contains (λ y. IsBelow n y x) points y top (All-contains (λ e. Contains points e.0 × Contains points e.1) edges (x, y) is.ends leaves).1

            none : dot2 n n ≡ pos 0 → IsCorner edges n x
            none e =
                let zeros = squares n.x n.y e in
                record { before = w; after = y; enters = enters; leaves = leaves; k = pos 1; a = pos 0; b = pos 0; positive = omega (arith, ints); first = omega (arith, ints); second = omega (arith, ints); x_is = omega (arith, ints, zeros.0); y_is = omega (arith, ints, zeros.1) }
              where
                squares : (a b : ℤ) → a *ℤ a +ℤ b *ℤ b ≡ pos 0 → (a ≡ pos 0) × (b ≡ pos 0)
                squares a b e = (root a (omega (arith, ints, e, square_nonneg a, square_nonneg b)), root b (omega (arith, ints, e, square_nonneg a, square_nonneg b)))
                  where
                    root : (a : ℤ) → a *ℤ a ≡ pos 0 → a ≡ pos 0
                    root a e = ⊎_elim (λ z. z) (λ z. z) (mul-eq-zero a a e)

            turns : IsCorner edges n x
            turns =
                by_sign (turn w x y)
                (λ lt. absurd (omega (arith, ints, lt, All-contains (λ q. pos 0 ≤ℤ turn w x q) points y left_in (All-contains (λ e. Contains points e.0 × Contains points e.1) edges (x, y) is.ends leaves).1)))
                (λ flat.
                by_sign (along w x x y)
                (λ back. absurd (wide_in (there_and_back points w x y long_in flat back left_in left_out)))
                (λ e. absurd (not_both w x y long_in long_out flat e))
                (λ forward. none (one_way n w x y long_in flat forward below_w below_y)))
                (λ lt. record {
                  before = w;
                  after = y;
                  enters = enters;
                  leaves = leaves;
                  k = turn w x y;
                  a = pos 0 -ℤ rise n x y;
                  b = rise n w x;
                  positive = lt;
                  first = omega (arith, ints, below_y.0);
                  second = omega (arith, ints, below_w.0);
                  x_is = gradient_x n w x y;
                  y_is = gradient_y n w x y;
                })
