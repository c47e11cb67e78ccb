-- The faces of points that aren't coplanar bound the points, and imply each half-space that does.
use Rattle.std.proofs.Common.{get_or, ◌≡◌, Bool, true, false, cond, Option, Some, None, List, [], ◌∷◌, ◌++◌, flat_map, filter, find, All, pos, ◌+◌, ◌-ℤ◌, ◌*ℤ◌, ◌<ℤ◌, int_le, refl, sym, ap, ◌∙◌, arith, true≢false}
use Rattle.std.specs.List.{cons_option}
use Rattle.std.specs.Ordering.{int_eq}
use Rattle.std.specs.Bool.{Decides}
use Rattle.std.proofs.lemmas.Bool.Decides.{Decides-int_eq, Decides-and, Decides-like}
use Rattle.std.proofs.lemmas.Int.{by_lt_z}
use Rattle.std.proofs.lemmas.List.Elements.{All-nil, All-cons, All-head, All-tail, All-append, All-map, All-weaker, All-contains, filter-append}
use Rattle.std.proofs.lemmas.List.Sums.{AllPass-from_list_all}
use Rattle.gx_num.specs.Vector.{is_same}
use Rattle.gx_num.specs.declared.vector.V3.{V3}
use Rattle.gx_num.specs.Space.{HalfSpace, is_in, normal_dot}
use Rattle.gx_num.specs.Vector4.{Vec4, dot4}
use Rattle.gx_num.specs.Vector.{IsWithin, dot_of, difference_of, opposite_of}
use Rattle.gx_plane.specs.Plane.{reach, normal_reach, IsPlane, primitive, divisor_of, is_zero, supports, flipped, normal_of, plane_through}
use Rattle.gx_plane.specs.Between.{triples_of, both_ways, candidates}
use Rattle.gx_plane.proofs.Sizes.{IsWithin-difference_of, IsWithin-cross_of, IsWithin-opposite_of, dot_of-within}
use Rattle.gx_plane.proofs.Invariants.{IsPlane-with, IsPlane-opposite}
use Rattle.gx_plane.proofs.Divisors.{IsWithin-primitive, unsigned_abs-opposite, divisor_of-opposite, not_zero-divisor_of, IsPrimitive-primitive}
use Rattle.gx_plane.proofs.PlaneFacts.{plane_through_some, side_of-flipped}
use Rattle.gx_plane.proofs.TripleFacts.{planes_of, All-triples_of}
use Rattle.gx_plane.proofs.Complete.{lifted, within, dot4-within, tilted_supporting}
use Rattle.gx_convex.specs.Points.{are_coplanar}
use Rattle.gx_convex.specs.Faces.{is_same_plane, faces_of}
use Rattle.gx_convex.specs.Hull.{IsAtMost, IsBound}
use Rattle.gx_convex.proofs.Distinct.{Decides-is_same, All-distinct_by, All-from_distinct_by}
use Rattle.gx_plane.proofs.PlaneFacts.{Decides-int_le, Decides-supports}
use Rattle.gx_convex.proofs.Spanning.{broken_by, dot4-broken_by, Spans-within}
use borrow.Author.Differences.{ints}

-- ---- each plane once
pub same_half_space : (a b : HalfSpace) → a.n ≡ b.n → a.e ≡ b.e → a ≡ b
same_half_space a b p q = λ i. record { n = p i; e = q i }

pub Decides-is_same_plane : (a b : HalfSpace) → Decides (is_same_plane a b) (a ≡ b)
Decides-is_same_plane a b =
    Decides-like {P = (a.n ≡ b.n) × (a.e ≡ b.e)} (is_same_plane a b)
    (λ e. same_half_space a b e.0 e.1)
    (λ e. (ap (λ (h : HalfSpace). h.n) e, ap (λ (h : HalfSpace). h.e) e))
    (Decides-and (is_same a.n b.n) (int_eq a.e b.e) (Decides-is_same a.n b.n) (Decides-int_eq a.e b.e))

pub is_same_plane-same : (a b : HalfSpace) → is_same_plane a b ≡ true → a ≡ b
is_same_plane-same a b e = (Decides-is_same_plane a b).0 e

-- ---- what holds of all elements that pass a test
module _ {X : Type 0} (P : X → Type 0) (test : X → Bool) where
  pub All-filter : (xs : List X) → All (λ x. test x ≡ true → P x) xs → All P (filter test xs)
  All-filter [] h = All-nil P
  All-filter (x ∷ xs) h =
      go (test x) (All-head (λ x. test x ≡ true → P x) x xs h) (All-filter xs (All-tail (λ x. test x ≡ true → P x) x xs h))
    where
      go : (b : Bool) → (b ≡ true → P x) → All P (filter test xs) → All P (cond b (x ∷ filter test xs) (filter test xs))
      go true one rest = All-cons P x (filter test xs) (one refl) rest
      go false one rest = rest

  pub All-from_filter : (xs : List X) → All P (filter test xs) → All (λ x. test x ≡ true → P x) xs
  All-from_filter [] h = All-nil (λ x. test x ≡ true → P x)
  All-from_filter (x ∷ xs) h = go (test x) refl h (All-from_filter xs)
    where
      go : (b : Bool) → test x ≡ b → All P (cond b (x ∷ filter test xs) (filter test xs)) → (All P (filter test xs) → All (λ x. test x ≡ true → P x) xs) → All (λ x. test x ≡ true → P x) (x ∷ xs)
      go true e k rest = All-cons (λ x. test x ≡ true → P x) x xs (λ _. All-head P x (filter test xs) k) (rest (All-tail P x (filter test xs) k))
      go false e k rest = All-cons (λ x. test x ≡ true → P x) x xs (λ t. cc) (rest k)

-- ---- each face is a plane that bounds the points
proper_ways : (t : V3 × V3 × V3) (o : Option HalfSpace) → plane_through t.0 t.1 t.2 ≡ o → All (λ h. is_zero h.n ≡ false) (both_ways o)
proper_ways t None e = All-nil (λ h. is_zero h.n ≡ false)
proper_ways t (Some k) e =
    let through = plane_through_some t.0 t.1 t.2 k e in
    let one : divisor_of k.n ≡ 1 = ap (λ (g : HalfSpace). divisor_of g.n) through.same ∙ (IsPrimitive-primitive (normal_of t.0 t.1 t.2) through.apart).divisor in
    All-cons (λ h. is_zero h.n ≡ false) k (flipped k ∷ []) (not_zero-divisor_of k.n (omega arith))
    (All-cons (λ h. is_zero h.n ≡ false) (flipped k) [] (not_zero-divisor_of (flipped k).n (omega (arith, divisor_of-opposite k.n))) (All-nil (λ h. is_zero h.n ≡ false)))

pub proper_candidates : (points : List V3) → All (λ h. is_zero h.n ≡ false) (candidates points)
proper_candidates points = over (triples_of points)
  where
    over : (ts : List (V3 × V3 × V3)) → All (λ h. is_zero h.n ≡ false) (flat_map (λ t. both_ways (plane_through t.0 t.1 t.2)) ts)
    over [] = All-nil (λ h. is_zero h.n ≡ false)
    over (t ∷ ts) =
        All-append (λ h. is_zero h.n ≡ false) (both_ways (plane_through t.0 t.1 t.2)) (flat_map (λ t. both_ways (plane_through t.0 t.1 t.2)) ts) (proper_ways t (plane_through t.0 t.1 t.2) refl) (over ts)

pub faces_bound : (points : List V3) → All (IsBound points) (faces_of points)
faces_bound points =
    All-distinct_by is_same_plane (IsBound points) [] (filter (λ h. supports h points) (candidates points))
    (All-filter (IsBound points) (λ h. supports h points) (candidates points)
    (All-weaker (λ h. is_zero h.n ≡ false) (λ h. supports h points ≡ true → IsBound points h) (λ h z s. record { plane = z; supports = s }) (candidates points) (proper_candidates points)))

-- ---- each face of points within reach keeps what planes keep
plane_ways : (t : V3 × V3 × V3) (o : Option HalfSpace) → plane_through t.0 t.1 t.2 ≡ o → IsWithin reach t.0 × IsWithin reach t.1 × IsWithin reach t.2 → All IsPlane (both_ways o)
plane_ways t None e h = All-nil IsPlane
plane_ways t (Some k) e h =
    let n = normal_of t.0 t.1 t.2 in
    let through = plane_through_some t.0 t.1 t.2 k e in
    let within : IsWithin normal_reach n = IsWithin-cross_of (reach + reach) (difference_of t.1 t.0) (difference_of t.2 t.0) (IsWithin-difference_of reach t.1 t.0 h.1 h.0) (IsWithin-difference_of reach t.2 t.0 h.2 h.0) in
    let level = dot_of-within normal_reach reach (primitive n) t.0 (IsWithin-primitive n normal_reach within) h.0 in
    let plane : IsPlane k = rw through.same (IsPlane-with n (primitive n) (dot_of (primitive n) t.0) through.apart within refl (omega (arith, level))) in
    let turned : IsPlane (flipped k) = IsPlane-opposite k (opposite_of k.n) (pos 0 -ℤ k.e) refl (IsWithin-opposite_of normal_reach k.n plane.within) (omega (arith, unsigned_abs-opposite k.e, plane.offset_within)) plane in
    All-cons IsPlane k (flipped k ∷ []) plane (All-cons IsPlane (flipped k) [] turned (All-nil IsPlane))

IsPlane-candidates : (points : List V3) → All (IsWithin reach) points → All IsPlane (candidates points)
IsPlane-candidates points h = over (triples_of points) (All-triples_of (IsWithin reach) points h)
  where
    over : (ts : List (V3 × V3 × V3)) → All (λ t. IsWithin reach t.0 × IsWithin reach t.1 × IsWithin reach t.2) ts → All IsPlane (flat_map (λ t. both_ways (plane_through t.0 t.1 t.2)) ts)
    over [] k = All-nil IsPlane
    over (t ∷ ts) k =
        let P : V3 × V3 × V3 → Type 0 = λ t. IsWithin reach t.0 × IsWithin reach t.1 × IsWithin reach t.2 in
        All-append IsPlane (both_ways (plane_through t.0 t.1 t.2)) (flat_map (λ t. both_ways (plane_through t.0 t.1 t.2)) ts) (plane_ways t (plane_through t.0 t.1 t.2) refl (All-head P t ts k)) (over ts (All-tail P t ts k))

pub IsPlane-faces_of : (points : List V3) → All (IsWithin reach) points → All IsPlane (faces_of points)
IsPlane-faces_of points h =
    All-distinct_by is_same_plane IsPlane [] (filter (λ h. supports h points) (candidates points))
    (All-filter IsPlane (λ h. supports h points) (candidates points)
    (All-weaker IsPlane (λ k. supports k points ≡ true → IsPlane k) (λ k p _. p) (candidates points) (IsPlane-candidates points h)))

-- ---- a point that the faces hold at breaks no half-space that bounds the points: it would break a candidate that does
pub implied : (vertices : List V3) → are_coplanar vertices ≡ false → (h : HalfSpace) → supports h vertices ≡ true → (p : Vec4) → is_in (faces_of vertices) p ≡ true → IsAtMost h p
implied vertices solid h s p inside = by_lt_z (h.e *ℤ p.w) (normal_dot h p) (λ lt. absurd (no lt)) (λ le. le)
  where
    -- each candidate that bounds the points holds at the point
    hold : All (λ k. supports k vertices ≡ true → int_le (normal_dot k p) (k.e *ℤ p.w) ≡ true) (candidates vertices)
    hold =
        All-from_filter (λ k. int_le (normal_dot k p) (k.e *ℤ p.w) ≡ true) (λ k. supports k vertices) (candidates vertices)
        (All-from_distinct_by is_same_plane is_same_plane-same (λ k. int_le (normal_dot k p) (k.e *ℤ p.w) ≡ true) [] (filter (λ k. supports k vertices) (candidates vertices)) (All-nil (λ k. int_le (normal_dot k p) (k.e *ℤ p.w) ≡ true))
        (AllPass-from_list_all (λ k. int_le (normal_dot k p) (k.e *ℤ p.w)) (faces_of vertices) inside))

    no : (h.e *ℤ p.w) <ℤ normal_dot h p → ⊥
    no lt =
        let t = tilted_supporting vertices h (broken_by p) (Spans-within vertices solid) s (omega (arith, ints, lt, dot4-broken_by h p)) in
        let k = t.0 in
        let holds = All-contains (λ k. supports k vertices ≡ true → int_le (normal_dot k p) (k.e *ℤ p.w) ≡ true) (candidates vertices) k hold t.1.candidate t.1.supporting in
        omega (arith, ints, t.1.beyond, dot4-broken_by k p, (Decides-int_le (normal_dot k p) (k.e *ℤ p.w)).0 holds)

-- ---- at most one way of a plane bounds points that aren't coplanar
not_both : (points : List V3) → are_coplanar points ≡ false → (h : HalfSpace) → is_zero h.n ≡ false → supports h points ≡ true → supports (flipped h) points ≡ true → ⊥
not_both points solid h proper s t =
    let behind = (Decides-supports h points).0 s in
    let before = (Decides-supports (flipped h) points).0 t in
    let zero = Spans-within points solid (lifted h)
    (All-map (λ m. dot4 m (lifted h) ≡ pos 0) within points (λ k d lt. omega (arith, ints, behind k d lt, before k d lt, side_of-flipped h (get_or points k d), dot4-within h (get_or points k d)))) in
    true≢false (sym (ap (λ (v : Vec4). is_zero (record { x = v.x; y = v.y; z = v.z })) zero) ∙ proper)

-- so of a triple's plane, both ways, those that bound the points are the first that does
pub filter-planes : (points : List V3) → are_coplanar points ≡ false → (a b c : V3) (rest triples : List (V3 × V3 × V3)) (o : Option HalfSpace) → triples ≡ (a, b, c) ∷ rest → o ≡ find (λ h. supports h points) (both_ways (plane_through a b c)) → filter (λ h. supports h points) (planes_of triples) ≡ cons_option o (filter (λ h. supports h points) (planes_of rest))
filter-planes points solid a b c rest triples o steps found =
    ap (λ ts. filter (λ h. supports h points) (planes_of ts)) steps ∙ filter-append (λ h. supports h points) (both_ways (plane_through a b c)) (planes_of rest) ∙ ways (plane_through a b c) (proper_ways (a, b, c) (plane_through a b c) refl) ∙ ap (λ (p : Option HalfSpace). cons_option p (filter (λ h. supports h points) (planes_of rest))) (sym found)
  where
    ways : (p : Option HalfSpace) → All (λ h. is_zero h.n ≡ false) (both_ways p) → filter (λ h. supports h points) (both_ways p) ++ filter (λ h. supports h points) (planes_of rest) ≡ cons_option (find (λ h. supports h points) (both_ways p)) (filter (λ h. supports h points) (planes_of rest))
    ways None proper = refl
    ways (Some h) proper = go (supports h points) (supports (flipped h) points) (not_both points solid h (All-head (λ h. is_zero h.n ≡ false) h (flipped h ∷ []) proper))
      where
        go : (s t : Bool) → (s ≡ true → t ≡ true → ⊥) → cond s (h ∷ cond t (flipped h ∷ []) []) (cond t (flipped h ∷ []) []) ++ filter (λ h. supports h points) (planes_of rest) ≡ cons_option (cond s (Some h) (cond t (Some (flipped h)) None)) (filter (λ h. supports h points) (planes_of rest))
        go true true never = absurd (never refl refl)
        go true false never = refl
        go false true never = refl
        go false false never = refl
