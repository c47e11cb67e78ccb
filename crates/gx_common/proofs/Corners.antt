-- Where a common point is strictly inside a face, so is a candidate point: the point moves to one on three independent faces; of these
-- two belong to one solid, whose vertices in the point's mean are on both, so that the point is one of them, or between two of them.
use Rattle.std.proofs.Common.{◌≡◌, ◌⊎◌, inl, inr, ℕ, true, false, cond, Some, None, ℤ, pos, ◌+ℤ◌, ◌-ℤ◌, ◌*ℤ◌, ◌≤ℤ◌, ◌<ℤ◌, int_lt, unsigned_abs, List, [], ◌∷◌, ◌++◌, map, filter, filter_map, All, Contains, sym, ap, ◌∙◌, subst, arith}
use Rattle.std.proofs.lemmas.Int.{by_lt_z}
use Rattle.std.proofs.lemmas.List.Elements.{All-nil, All-cons, All-head, All-tail, All-weaker, All-contains, All-contains_itself, Contains-append_left, Contains-append_right, Contains-append_cases}
use Rattle.gx_num.specs.declared.vector.V3.{V3}
use Rattle.gx_num.specs.Space.{HalfSpace, is_in}
use Rattle.gx_num.specs.Vector4.{Vec4, origin, dot4, times4, opposite4, minors}
use Rattle.gx_algebra.proofs.Terms as term
use Rattle.gx_algebra.proofs.Terms.{Term3, Term4, ◌≣◌, ◌≣⁴◌, ◌⊕◌, ◌⊖◌, ◌⊗◌, none}
use Rattle.gx_algebra.proofs.Identity.{identity, identity4, number, natural, vector3, vector4}
use Rattle.gx_algebra.proofs.Identities.{dot4_comm, dot4-plus4, dot4-times4, dot4-opposite4, dot4-origin, dot4-minors_first, dot4-minors_second, dot4-minors_third}
use Rattle.gx_algebra.proofs.Lists.{All-append_parts, Contains-unmap, Contains-map, Contains-flat_map}
use Rattle.gx_plane.proofs.Candidates.{AreAPair, AreAPair-any}
use Rattle.gx_common.proofs.Lists.{every_or, Contains-filter, Contains-filter_map}
use Rattle.gx_algebra.proofs.Laws.{mul_comm, mul-zero}
use Rattle.gx_algebra.proofs.Order.{by_sign, mul_nonneg, mul_pos, mul_pos_neg, nonneg_of_mul, pos_of_mul}
use Rattle.gx_plane.specs.Laws.{IsAbove, IsBeyond, IsFromThree}
use Rattle.gx_plane.specs.Plane.{side_of}
use Rattle.gx_plane.specs.Between.{pairs_of}
use Rattle.gx_plane.proofs.ExtremeRays.{tilted, at_three, unit_w}
use Rattle.gx_convex.specs.Points.{are_coplanar}
use Rattle.gx_convex.specs.Faces.{faces_of}
use Rattle.gx_common.specs.Common.{point_of, mixed, crossing, crossings, candidate_points}
use Rattle.gx_common.proofs.Mixes.{against, point_term, total, IsMix, mix_of, proper_or_zero, dot4-against_point, above_vertex, in_from_above}
use Rattle.gx_common.proofs.Apart.{members, Spans-members}
use borrow.Author.Differences.{ints}

-- ---- a corner: a point on three independent members
record IsCorner (q m1 m2 m3 : Vec4) : Type 0 where
  first : dot4 m1 q ≡ pos 0
  second : dot4 m2 q ≡ pos 0
  third : dot4 m3 q ≡ pos 0
  alone : (x g p : Vec4) → dot4 m1 x ≡ pos 0 → dot4 m2 x ≡ pos 0 → dot4 m3 x ≡ pos 0 → dot4 g q *ℤ dot4 p x ≡ dot4 p q *ℤ dot4 g x

corner_of : (ms : List Vec4) (q : Vec4) (t : IsFromThree ms q) → IsCorner q t.first t.second t.third
corner_of ms q t = go t.same
  where
    n : Vec4
    n = minors t.first t.second t.third

    IsAt : Vec4 → Type 0
    IsAt v = IsCorner v t.first t.second t.third

    corner : IsAt n
    corner = record {
      first = dot4-minors_first t.first t.second t.third;
      second = dot4-minors_second t.first t.second t.third;
      third = dot4-minors_third t.first t.second t.third;
      alone = λ x g p. at_three t.first t.second t.third g p x;
    }

    opposite : IsAt (opposite4 n)
    opposite = record {
      first = omega (arith, ints, dot4-opposite4 t.first n, corner.first);
      second = omega (arith, ints, dot4-opposite4 t.second n, corner.second);
      third = omega (arith, ints, dot4-opposite4 t.third n, corner.third);
      alone = λ x g p e1 e2 e3. omega (arith, ints, flip g n p x, flip p n g x, corner.alone x g p e1 e2 e3);
    }
      where
        flip : (g n p x : Vec4) → dot4 g (opposite4 n) *ℤ dot4 p x ≡ pos 0 -ℤ dot4 g n *ℤ dot4 p x
        flip = identity (vector4 ∷ vector4 ∷ vector4 ∷ vector4 ∷ []) (λ g n p x. term.dot4 g (term.opposite4 n) ⊗ term.dot4 p x ≣ none ⊖ term.dot4 g n ⊗ term.dot4 p x) tt

    go : (q ≡ n) ⊎ (q ≡ opposite4 n) → IsAt q
    go (inl e) = subst IsAt (sym e) corner
    go (inr e) = subst IsAt (sym e) opposite

-- the three in another order
turn_corner : (q m1 m2 m3 : Vec4) → IsCorner q m1 m2 m3 → IsCorner q m2 m3 m1
turn_corner q m1 m2 m3 c = record { first = c.second; second = c.third; third = c.first; alone = λ x g p e2 e3 e1. c.alone x g p e1 e2 e3 }

-- at least 0 with all members, and above 0 with g
record IsGood (ms : List Vec4) (g x : Vec4) : Type 0 where
  above : IsAbove ms x
  strict : pos 0 <ℤ dot4 g x

w_is : (x : Vec4) → dot4 unit_w x ≡ x.w
w_is x = omega (arith, ints)

-- a proper point on the same three members is as the corner is
same_ray : (ms : List Vec4) (g q m1 m2 m3 x : Vec4) → IsCorner q m1 m2 m3 → IsBeyond ms g q → pos 0 <ℤ q.w → pos 0 <ℤ x.w → dot4 m1 x ≡ pos 0 → dot4 m2 x ≡ pos 0 → dot4 m3 x ≡ pos 0 → IsGood ms g x
same_ray ms g q m1 m2 m3 x c is qw xw e1 e2 e3 = record {
  above = All-weaker (λ m. pos 0 ≤ℤ dot4 m q) (λ m. pos 0 ≤ℤ dot4 m x) (λ m k. nonneg_of_mul (dot4 g q) (dot4 m x) is.beyond (omega (arith, ints, c.alone x g m e1 e2 e3, mul_nonneg (dot4 m q) (dot4 g x) k (omega (arith, ints, up))))) ms is.above;
  strict = up;
}
  where
    product : dot4 g q *ℤ x.w ≡ q.w *ℤ dot4 g x
    product = ap (λ (z : ℤ). dot4 g q *ℤ z) (sym (w_is x)) ∙ c.alone x g unit_w e1 e2 e3 ∙ ap (λ (z : ℤ). z *ℤ dot4 g x) (w_is q)

    up : pos 0 <ℤ dot4 g x
    up = pos_of_mul q.w (dot4 g x) (omega (arith, ints, qw)) (omega (arith, ints, product, mul_pos (dot4 g q) x.w is.beyond xw))

-- ---- the parts of a mean
total-cons : (m : Vec4) (p : V3) (ps : List V3) → dot4 m (total (p ∷ ps)) ≡ dot4 m (point_of p) +ℤ dot4 m (total ps)
total-cons m p ps = dot4-plus4 m (point_of p) (total ps)

pub total_nonneg : (m : Vec4) (ps : List V3) → All (λ p. pos 0 ≤ℤ dot4 m (point_of p)) ps → pos 0 ≤ℤ dot4 m (total ps)
total_nonneg m [] h = omega (arith, ints, dot4-origin m)
total_nonneg m (p ∷ ps) h =
    omega (arith, ints, total-cons m p ps, All-head (λ p. pos 0 ≤ℤ dot4 m (point_of p)) p ps h, total_nonneg m ps (All-tail (λ p. pos 0 ≤ℤ dot4 m (point_of p)) p ps h))

-- where none is below 0 and the sum is 0, all are 0
all_zero : (m : Vec4) (ps : List V3) → All (λ p. pos 0 ≤ℤ dot4 m (point_of p)) ps → dot4 m (total ps) ≡ pos 0 → All (λ p. dot4 m (point_of p) ≡ pos 0) ps
all_zero m [] h e = All-nil (λ p. dot4 m (point_of p) ≡ pos 0)
all_zero m (p ∷ ps) h e =
    let P : V3 → Type 0 = λ p. pos 0 ≤ℤ dot4 m (point_of p) in
    let one = All-head P p ps h in
    let rest = All-tail P p ps h in
    let sum = total_nonneg m ps rest in
    let split = total-cons m p ps in
    All-cons (λ p. dot4 m (point_of p) ≡ pos 0) p ps (omega (arith, ints, one, sum, split, e)) (all_zero m ps rest (omega (arith, ints, one, sum, split, e)))

-- where the sum is 0, some part is not above 0
some_low : (m : Vec4) (p : V3) (ps : List V3) → dot4 m (total (p ∷ ps)) ≡ pos 0 → (u : V3) × Contains (p ∷ ps) u × (dot4 m (point_of u) ≤ℤ pos 0)
some_low m p ps e = go (every_or P ((u : V3) × Contains (p ∷ ps) u × (dot4 m (point_of u) ≤ℤ pos 0)) (p ∷ ps) (λ u c. by_lt_z (pos 0) (dot4 m (point_of u)) (λ lt. inl lt) (λ le. inr (u, c, le))))
  where
    P : V3 → Type 0
    P u = pos 0 <ℤ dot4 m (point_of u)

    go : All P (p ∷ ps) ⊎ ((u : V3) × Contains (p ∷ ps) u × (dot4 m (point_of u) ≤ℤ pos 0)) → (u : V3) × Contains (p ∷ ps) u × (dot4 m (point_of u) ≤ℤ pos 0)
    go (inr w) = w
    go (inl all) =
        absurd (omega (arith, ints, e, total-cons m p ps, All-head P p ps all, total_nonneg m ps (All-weaker P (λ u. pos 0 ≤ℤ dot4 m (point_of u)) (λ u lt. omega (arith, ints, lt)) ps (All-tail P p ps all))))

-- ---- candidates
crossing_swap : (h : HalfSpace) (p q : V3) → crossing h p q ≡ crossing h q p
crossing_swap h p q = same (side_of h p) (side_of h q)
  where
    mixed_swap : (k l : ℕ) (p q : V3) → mixed k p l q ≡ mixed l q k p
    mixed_swap = identity4 (natural ∷ natural ∷ vector3 ∷ vector3 ∷ []) (λ k l p q. record { x = k ⊗ p.x ⊕ l ⊗ q.x; y = k ⊗ p.y ⊕ l ⊗ q.y; z = k ⊗ p.z ⊕ l ⊗ q.z; w = k ⊕ l } ≣⁴ record { x = l ⊗ q.x ⊕ k ⊗ p.x; y = l ⊗ q.y ⊕ k ⊗ p.y; z = l ⊗ q.z ⊕ k ⊗ p.z; w = l ⊕ k }) tt

    same : (s t : ℤ) → cond (int_lt (s *ℤ t) (pos 0)) (Some (mixed (unsigned_abs t) p (unsigned_abs s) q)) None ≡ cond (int_lt (t *ℤ s) (pos 0)) (Some (mixed (unsigned_abs s) q (unsigned_abs t) p)) None
    same s t =
        ap (λ (z : ℤ). cond (int_lt z (pos 0)) (Some (mixed (unsigned_abs t) p (unsigned_abs s) q)) None) (mul_comm s t) ∙ ap (λ (v : Vec4). cond (int_lt (t *ℤ s) (pos 0)) (Some v) None) (mixed_swap (unsigned_abs t) (unsigned_abs s) p q)

crossing_some : (h : HalfSpace) (p q : V3) → (side_of h p *ℤ side_of h q) <ℤ pos 0 → crossing h p q ≡ Some (mixed (unsigned_abs (side_of h q)) p (unsigned_abs (side_of h p)) q)
crossing_some h p q lt =
    ap (λ t. cond t (Some (mixed (unsigned_abs (side_of h q)) p (unsigned_abs (side_of h p)) q)) None) yes
  where
    yes : int_lt (side_of h p *ℤ side_of h q) (pos 0) ≡ true
    yes = grind (arith, ints)

Contains-crossings : (ps : List V3) (hs : List HalfSpace) (u v : V3) (h : HalfSpace) (x : Vec4) → Contains ps u → Contains ps v → (u ≡ v → ⊥) → Contains hs h → crossing h u v ≡ Some x → Contains (crossings ps hs) x
Contains-crossings ps hs u v h x cu cv apart ch e = go (AreAPair-any ps u v cu cv)
  where
    at : (t : V3 × V3) → Contains (pairs_of ps) t → crossing h t.0 t.1 ≡ Some x → Contains (crossings ps hs) x
    at t k s = Contains-flat_map (λ (t : V3 × V3). filter_map (λ h. crossing h t.0 t.1) hs) (pairs_of ps) t x k (Contains-filter_map (λ h. crossing h t.0 t.1) hs h x ch s)

    go : AreAPair ps u v → Contains (crossings ps hs) x
    go (inl same) = absurd (apart same)
    go (inr (inl k)) = at (u, v) k e
    go (inr (inr k)) = at (v, u) k (crossing_swap h v u ∙ e)

-- ---- a corner on two members that are at least 0 at all vertices of one solid
pub dot4-mixed : (m : Vec4) (k : ℕ) (p : V3) (l : ℕ) (q : V3) → dot4 m (mixed k p l q) ≡ pos k *ℤ dot4 m (point_of p) +ℤ pos l *ℤ dot4 m (point_of q)
dot4-mixed = identity (vector4 ∷ natural ∷ vector3 ∷ natural ∷ vector3 ∷ []) (λ m k p l q. term.dot4 m (record { x = k ⊗ p.x ⊕ l ⊗ q.x; y = k ⊗ p.y ⊕ l ⊗ q.y; z = k ⊗ p.z ⊕ l ⊗ q.z; w = k ⊕ l }) ≣ k ⊗ term.dot4 m (point_term p) ⊕ l ⊗ term.dot4 m (point_term q)) tt

-- the point where the segment of u and v meets the plane
abbrev met : HalfSpace → V3 → V3 → Vec4
met h u v = mixed (unsigned_abs (side_of h v)) u (unsigned_abs (side_of h u)) v

record IsMet (a : List V3) (ms : List Vec4) (g : Vec4) (h : HalfSpace) : Type 0 where
  u : V3
  v : V3
  in_u : Contains a u
  in_v : Contains a v
  over : pos 0 <ℤ side_of h u
  under : side_of h v <ℤ pos 0
  good : IsGood ms g (met h u v)

abbrev IsOnEdge : List V3 → List Vec4 → Vec4 → HalfSpace → Type 0
IsOnEdge a ms g h = ((u : V3) × Contains a u × IsGood ms g (point_of u)) ⊎ IsMet a ms g h

mixed_zero : (m : Vec4) (k : ℕ) (p : V3) (l : ℕ) (q : V3) → dot4 m (point_of p) ≡ pos 0 → dot4 m (point_of q) ≡ pos 0 → dot4 m (mixed k p l q) ≡ pos 0
mixed_zero m k p l q e f =
    omega (arith, ints, dot4-mixed m k p l q, ap (λ (z : ℤ). pos k *ℤ z) e, ap (λ (z : ℤ). pos l *ℤ z) f, mul-zero (pos k), mul-zero (pos l))

met_zero : (h : HalfSpace) (u v : V3) → pos 0 <ℤ side_of h u → side_of h v <ℤ pos 0 → dot4 (against h) (met h u v) ≡ pos 0
met_zero h u v lt gt = dot4-mixed (against h) (unsigned_abs (side_of h v)) u (unsigned_abs (side_of h u)) v ∙ rw (dot4-against_point h u, dot4-against_point h v) (cancel (side_of h u) (side_of h v) lt gt)
  where
    nothing : (s t : ℤ) → (pos 0 -ℤ t) *ℤ (pos 0 -ℤ s) +ℤ s *ℤ (pos 0 -ℤ t) ≡ pos 0
    nothing = identity (number ∷ number ∷ []) (λ s t. (none ⊖ t) ⊗ (none ⊖ s) ⊕ s ⊗ (none ⊖ t) ≣ none) tt

    cancel : (s t : ℤ) → pos 0 <ℤ s → t <ℤ pos 0 → pos (unsigned_abs t) *ℤ (pos 0 -ℤ s) +ℤ pos (unsigned_abs s) *ℤ (pos 0 -ℤ t) ≡ pos 0
    cancel s t hs ht =
        let e : pos (unsigned_abs t) ≡ pos 0 -ℤ t = omega (arith, ints) in
        let f : pos (unsigned_abs s) ≡ s = omega (arith, ints) in
        rw (e, f) (nothing s t)

on_edge : (a : List V3) (ms : List Vec4) (g q m1 m2 : Vec4) (h : HalfSpace) → All (λ p. pos 0 ≤ℤ dot4 m1 (point_of p)) a → All (λ p. pos 0 ≤ℤ dot4 m2 (point_of p)) a → IsCorner q m1 m2 (against h) → IsBeyond ms g q → pos 0 <ℤ q.w → IsMix a q → IsOnEdge a ms g h
on_edge a ms g q m1 m2 h above1 above2 c is qw mix = go mix.parts mix.in_list mix.sum
  where
    k : ℤ
    k = pos mix.multiple

    positive : pos 0 <ℤ k
    positive = omega (arith, ints, mix.positive)

    none_of : (m : Vec4) (ps : List V3) → times4 k q ≡ total ps → dot4 m q ≡ pos 0 → dot4 m (total ps) ≡ pos 0
    none_of m ps e z = omega (arith, ints, ap (dot4 m) e, dot4-times4 k m q, ap (λ (t : ℤ). k *ℤ t) z, mul-zero k)

    parts_above : (m : Vec4) (ps : List V3) → All (λ p. pos 0 ≤ℤ dot4 m (point_of p)) a → All (Contains a) ps → All (λ p. pos 0 ≤ℤ dot4 m (point_of p)) ps
    parts_above m ps h in_list = All-weaker (Contains a) (λ p. pos 0 ≤ℤ dot4 m (point_of p)) (λ p c. All-contains (λ p. pos 0 ≤ℤ dot4 m (point_of p)) a p h c) ps in_list

    go : (ps : List V3) → All (Contains a) ps → times4 k q ≡ total ps → IsOnEdge a ms g h
    go [] in_list e = absurd (omega (arith, ints, mul_pos k q.w positive qw, ap (λ (v : Vec4). v.w) e))
    go (p ∷ ps) in_list e =
        by_sign (dot4 (against h) (point_of low.0))
        (λ lt. by_sign (dot4 (against h) (point_of high.0))
        (λ no. absurd (omega (arith, ints, no, high_side)))
        (λ z. inl (at_vertex high.0 high.1 z))
        (λ gt. inr (at_crossing lt gt)))
        (λ z. inl (at_vertex low.0 low.1 z))
        (λ gt. absurd (omega (arith, ints, gt, low.2)))
      where
        zero1 : All (λ u. dot4 m1 (point_of u) ≡ pos 0) (p ∷ ps)
        zero1 = all_zero m1 (p ∷ ps) (parts_above m1 (p ∷ ps) above1 in_list) (none_of m1 (p ∷ ps) e c.first)

        zero2 : All (λ u. dot4 m2 (point_of u) ≡ pos 0) (p ∷ ps)
        zero2 = all_zero m2 (p ∷ ps) (parts_above m2 (p ∷ ps) above2 in_list) (none_of m2 (p ∷ ps) e c.second)

        low : (u : V3) × Contains (p ∷ ps) u × (dot4 (against h) (point_of u) ≤ℤ pos 0)
        low = some_low (against h) p ps (none_of (against h) (p ∷ ps) e c.third)

        other : dot4 (opposite4 (against h)) (total (p ∷ ps)) ≡ pos 0
        other = none_of (opposite4 (against h)) (p ∷ ps) e (omega (arith, ints, c.third, dot4_comm (opposite4 (against h)) q, dot4-opposite4 q (against h), dot4_comm (against h) q))

        high : (u : V3) × Contains (p ∷ ps) u × (dot4 (opposite4 (against h)) (point_of u) ≤ℤ pos 0)
        high = some_low (opposite4 (against h)) p ps other

        high_side : pos 0 ≤ℤ dot4 (against h) (point_of high.0)
        high_side =
            omega (arith, ints, high.2, dot4_comm (opposite4 (against h)) (point_of high.0), dot4-opposite4 (point_of high.0) (against h), dot4_comm (against h) (point_of high.0))

        in_a : (u : V3) → Contains (p ∷ ps) u → Contains a u
        in_a u cu = All-contains (Contains a) (p ∷ ps) u in_list cu

        first_zero : (u : V3) → Contains (p ∷ ps) u → dot4 m1 (point_of u) ≡ pos 0
        first_zero u cu = All-contains (λ u. dot4 m1 (point_of u) ≡ pos 0) (p ∷ ps) u zero1 cu

        second_zero : (u : V3) → Contains (p ∷ ps) u → dot4 m2 (point_of u) ≡ pos 0
        second_zero u cu = All-contains (λ u. dot4 m2 (point_of u) ≡ pos 0) (p ∷ ps) u zero2 cu

        at_vertex : (u : V3) → Contains (p ∷ ps) u → dot4 (against h) (point_of u) ≡ pos 0 → (u : V3) × Contains a u × IsGood ms g (point_of u)
        at_vertex u cu z = (u, in_a u cu, same_ray ms g q m1 m2 (against h) (point_of u) c is qw (omega (arith, ints)) (first_zero u cu) (second_zero u cu) z)

        at_crossing : dot4 (against h) (point_of low.0) <ℤ pos 0 → pos 0 <ℤ dot4 (against h) (point_of high.0) → IsMet a ms g h
        at_crossing lt gt =
            let over : pos 0 <ℤ side_of h low.0 = omega (arith, ints, lt, dot4-against_point h low.0) in
            let under : side_of h high.0 <ℤ pos 0 = omega (arith, ints, gt, dot4-against_point h high.0) in
            record {
              u = low.0;
              v = high.0;
              in_u = in_a low.0 low.1;
              in_v = in_a high.0 high.1;
              over = over;
              under = under;
              good = same_ray ms g q m1 m2 (against h) (met h low.0 high.0) c is qw (omega (arith, ints, over, under))
                  (mixed_zero m1 (unsigned_abs (side_of h high.0)) low.0 (unsigned_abs (side_of h low.0)) high.0 (first_zero low.0 low.1) (first_zero high.0 high.1))
                  (mixed_zero m2 (unsigned_abs (side_of h high.0)) low.0 (unsigned_abs (side_of h low.0)) high.0 (second_zero low.0 low.1) (second_zero high.0 high.1))
                  (met_zero h low.0 high.0 over under);
            }

-- ---- its place among the candidates
-- a face's own solid has no vertex over it
not_over : (a : List V3) (h : HalfSpace) (u : V3) → Contains a u → Contains (faces_of a) h → pos 0 <ℤ side_of h u → ⊥
not_over a h u cu ch lt =
    let k : pos 0 ≤ℤ dot4 (against h) (point_of u) = All-contains (λ m. pos 0 ≤ℤ dot4 m (point_of u)) (map against (faces_of a)) (against h) (above_vertex a u cu) (Contains-map against (faces_of a) h ch) in
    omega (arith, ints, lt, k, dot4-against_point h u)

abbrev pub edge_points : List V3 → List V3 → List Vec4
edge_points a b = filter (is_in (faces_of b)) (crossings a (faces_of b))

abbrev pub vertices_in : List V3 → List V3 → List Vec4
vertices_in a b = filter (is_in (faces_of b)) (map point_of a)

pub record IsFound (points : List Vec4) (g : Vec4) : Type 0 where
  pub point : Vec4
  pub in_list : Contains points point
  pub strict : pos 0 <ℤ dot4 g point

among : (a b : List V3) (ms : List Vec4) (g : Vec4) (h : HalfSpace) → ((x : Vec4) → IsAbove ms x → IsAbove (map against (faces_of b)) x) → Contains (faces_of a) h ⊎ Contains (faces_of b) h → IsOnEdge a ms g h → IsFound (vertices_in a b) g ⊎ IsFound (edge_points a b) g
among a b ms g h part ch (inl (u, cu, good)) = inl (record {
  point = point_of u;
  in_list = Contains-filter (is_in (faces_of b)) (map point_of a) (point_of u) (Contains-map point_of a u cu) (in_from_above (faces_of b) (point_of u) (part (point_of u) good.above));
  strict = good.strict;
})
among a b ms g h part (inl ch) (inr m) = absurd (not_over a h m.u m.in_u ch m.over)
among a b ms g h part (inr ch) (inr m) = inr (record {
  point = met h m.u m.v;
  in_list = Contains-filter (is_in (faces_of b)) (crossings a (faces_of b)) (met h m.u m.v)
      (Contains-crossings a (faces_of b) m.u m.v h (met h m.u m.v) m.in_u m.in_v
      (λ same. omega (arith, ints, m.over, m.under, ap (side_of h) same)) ch
      (crossing_some h m.u m.v (mul_pos_neg (side_of h m.u) (side_of h m.v) m.over m.under)))
      (in_from_above (faces_of b) (met h m.u m.v) (part (met h m.u m.v) m.good.above));
  strict = m.good.strict;
})

-- ---- the candidate
abbrev IsOf : List V3 → Vec4 → Type 0
IsOf a m = (h : HalfSpace) × Contains (faces_of a) h × (against h ≡ m)

pub candidate_inside : (a b : List V3) → are_coplanar a ≡ false → are_coplanar b ≡ false → (g p : Vec4) → IsBeyond (members a b) g p → IsFound (candidate_points a b) g
candidate_inside a b solid_a solid_b g p is = from (tilted (members a b) g (Spans-members a b solid_a) p is)
  where
    part_a : (x : Vec4) → IsAbove (members a b) x → IsAbove (map against (faces_of a)) x
    part_a x k = (All-append_parts (λ m. pos 0 ≤ℤ dot4 m x) (map against (faces_of a)) (map against (faces_of b)) k).0

    part_b : (x : Vec4) → IsAbove (members a b) x → IsAbove (map against (faces_of b)) x
    part_b x k = (All-append_parts (λ m. pos 0 ≤ℤ dot4 m x) (map against (faces_of a)) (map against (faces_of b)) k).1

    placed : (xs ys : List Vec4) → ((x : Vec4) → Contains xs x → Contains (candidate_points a b) x) → ((x : Vec4) → Contains ys x → Contains (candidate_points a b) x) → IsFound xs g ⊎ IsFound ys g → IsFound (candidate_points a b) g
    placed xs ys f h (inl r) = record { point = r.point; in_list = f r.point r.in_list; strict = r.strict }
    placed xs ys f h (inr r) = record { point = r.point; in_list = h r.point r.in_list; strict = r.strict }

    all_above : (c : List V3) (m : Vec4) → IsOf c m → All (λ v. pos 0 ≤ℤ dot4 m (point_of v)) c
    all_above c m (h, ch, e) = All-weaker (Contains c) (λ v. pos 0 ≤ℤ dot4 m (point_of v)) (λ v cv. subst (λ (n : Vec4). pos 0 ≤ℤ dot4 n (point_of v)) e (All-contains (λ n. pos 0 ≤ℤ dot4 n (point_of v)) (map against (faces_of c)) (against h) (above_vertex c v cv) (Contains-map against (faces_of c) h ch))) c (All-contains_itself c)

    from : (q : Vec4) × IsBeyond (members a b) g q × IsFromThree (members a b) q → IsFound (candidate_points a b) g
    from (q, beyond, three) = go (kind three.first three.first_in) (kind three.second three.second_in) (kind three.third three.third_in)
      where
        corner : IsCorner q three.first three.second three.third
        corner = corner_of (members a b) q three

        corner2 : IsCorner q three.second three.third three.first
        corner2 = turn_corner q three.first three.second three.third corner

        corner3 : IsCorner q three.third three.first three.second
        corner3 = turn_corner q three.second three.third three.first corner2

        kind : (m : Vec4) → Contains (members a b) m → IsOf a m ⊎ IsOf b m
        kind m c = which (Contains-append_cases (map against (faces_of a)) (map against (faces_of b)) m c)
          where
            which : Contains (map against (faces_of a)) m ⊎ Contains (map against (faces_of b)) m → IsOf a m ⊎ IsOf b m
            which (inl k) = inl (Contains-unmap against (faces_of a) m k)
            which (inr k) = inr (Contains-unmap against (faces_of b) m k)

        mix_a : IsMix a q
        mix_a = mix_of a solid_a q (part_a q beyond.above)

        mix_b : IsMix b q
        mix_b = mix_of b solid_b q (part_b q beyond.above)

        proper : pos 0 <ℤ q.w
        proper = which (proper_or_zero a q mix_a)
          where
            which : (q ≡ origin) ⊎ (pos 0 <ℤ q.w) → pos 0 <ℤ q.w
            which (inl e) = absurd (omega (arith, ints, beyond.beyond, ap (dot4 g) e, dot4-origin g))
            which (inr lt) = lt

        edge : (c : List V3) (m1 m2 : Vec4) (h : HalfSpace) → IsMix c q → IsOf c m1 → IsOf c m2 → (m3 : Vec4) → against h ≡ m3 → IsCorner q m1 m2 m3 → IsOnEdge c (members a b) g h
        edge c m1 m2 h mix i j m3 e k =
            on_edge c (members a b) g q m1 m2 h (all_above c m1 i) (all_above c m2 j) (subst (IsCorner q m1 m2) (sym e) k) beyond proper mix

        with_two : (c d : List V3) → IsMix c q → ((x : Vec4) → IsAbove (members a b) x → IsAbove (map against (faces_of d)) x) → (IsFound (vertices_in c d) g ⊎ IsFound (edge_points c d) g → IsFound (candidate_points a b) g) → (m1 m2 m3 : Vec4) → IsCorner q m1 m2 m3 → IsOf c m1 → IsOf c m2 → IsOf c m3 ⊎ IsOf d m3 → IsFound (candidate_points a b) g
        with_two c d mix part place m1 m2 m3 k i j (inl (h, ch, e)) =
            place (among c d (members a b) g h part (inl ch) (edge c m1 m2 h mix i j m3 e k))
        with_two c d mix part place m1 m2 m3 k i j (inr (h, ch, e)) =
            place (among c d (members a b) g h part (inr ch) (edge c m1 m2 h mix i j m3 e k))

        with_a : (m1 m2 m3 : Vec4) → IsCorner q m1 m2 m3 → IsOf a m1 → IsOf a m2 → IsOf a m3 ⊎ IsOf b m3 → IsFound (candidate_points a b) g
        with_a =
            with_two a b mix_a part_b (placed (vertices_in a b) (edge_points a b)
            (λ x c. Contains-append_left (vertices_in a b) (vertices_in b a ++ (edge_points a b ++ edge_points b a)) x c)
            (λ x c. Contains-append_right (vertices_in a b) (vertices_in b a ++ (edge_points a b ++ edge_points b a)) x (Contains-append_right (vertices_in b a) (edge_points a b ++ edge_points b a) x (Contains-append_left (edge_points a b) (edge_points b a) x c))))

        with_b : (m1 m2 m3 : Vec4) → IsCorner q m1 m2 m3 → IsOf b m1 → IsOf b m2 → IsOf b m3 ⊎ IsOf a m3 → IsFound (candidate_points a b) g
        with_b =
            with_two b a mix_b part_a (placed (vertices_in b a) (edge_points b a)
            (λ x c. Contains-append_right (vertices_in a b) (vertices_in b a ++ (edge_points a b ++ edge_points b a)) x (Contains-append_left (vertices_in b a) (edge_points a b ++ edge_points b a) x c))
            (λ x c. Contains-append_right (vertices_in a b) (vertices_in b a ++ (edge_points a b ++ edge_points b a)) x (Contains-append_right (vertices_in b a) (edge_points a b ++ edge_points b a) x (Contains-append_right (edge_points a b) (edge_points b a) x c))))

        go : IsOf a three.first ⊎ IsOf b three.first → IsOf a three.second ⊎ IsOf b three.second → IsOf a three.third ⊎ IsOf b three.third → IsFound (candidate_points a b) g
        go (inl i) (inl j) t = with_a three.first three.second three.third corner i j t
        go (inl i) (inr j) (inl k) = with_a three.third three.first three.second corner3 k i (inr j)
        go (inl i) (inr j) (inr k) = with_b three.second three.third three.first corner2 j k (inr i)
        go (inr i) (inl j) (inl k) = with_a three.second three.third three.first corner2 j k (inr i)
        go (inr i) (inl j) (inr k) = with_b three.third three.first three.second corner3 k i (inr j)
        go (inr i) (inr j) (inl k) = with_b three.first three.second three.third corner i j (inr k)
        go (inr i) (inr j) (inr k) = with_b three.first three.second three.third corner i j (inl k)
