-- A polygon that the tests accept is convex.
use Rattle.std.proofs.Common.{get_or, ◌≡◌, ◌≢◌, true, false, ◌&&◌, not, List, [], ◌∷◌, map, All, Contains, ℤ, pos, ◌*ℤ◌, ◌-ℤ◌, ◌≤ℤ◌, ◌<ℤ◌, int_le, refl, sym, ap, ◌∙◌, ⊎_elim, arith, true≢false}
use Rattle.std.specs.List.{list_all}
use Rattle.std.specs.Ordering.{int_eq}
use Rattle.std.proofs.lemmas.Bool.{cond_both}
use Rattle.std.proofs.lemmas.Bool.Decides.{Decides-int_eq, Decides-and}
use Rattle.std.proofs.lemmas.Int.{by_lt_z}
use Rattle.std.proofs.lemmas.List.Elements.{All-weaker, All-map, All-contains_itself}
use Rattle.std.proofs.lemmas.List.Sums.{AllPass-from_list_all, list_all-from_AllPass}
use Rattle.gx_num.specs.declared.vector.V3.{V3}
use Rattle.gx_num.specs.Vector.{is_same}
use Rattle.gx_algebra.proofs.Laws.{mul-zero}
use Rattle.gx_algebra.proofs.Lists.{Contains-map}
use Rattle.gx_algebra.proofs.Terms.{◌≣◌, ◌⊖◌, ◌⊗◌}
use Rattle.gx_algebra.proofs.Identity.{identity, vector3}
use Rattle.gx_algebra.proofs.Identities.{same3}
use Rattle.gx_algebra.proofs.Order.{square_nonneg, zero_of_mul, mul-eq-zero}
use Rattle.gx_plane.specs.Between.{pairs_of, triples_of}
use Rattle.gx_plane.proofs.TripleFacts.{All-triples_of}
use Rattle.gx_polygon.specs.Around.{around}
use Rattle.gx_polygon.specs.Polygon.{turn, is_straight, are_distinct, are_left, edges_of, is_convex}
use Rattle.gx_polygon.proofs.Corners.{IsConvex, along, along_term, turn_term}
use Rattle.gx_polygon.proofs.Rounds.{Starts, Ends, around_starts, around_ends, around_pairs, around_apart}
use borrow.Author.Differences.{ints}

-- ---- edges, in either orientation
abbrev pub backwards : V3 × V3 → V3 × V3
backwards e = (e.1, e.0)

abbrev IsLong : V3 → V3 → Type 0
IsLong a b = pos 0 <ℤ along a b a b

IsLong-backwards : (a b : V3) → IsLong a b → IsLong b a
IsLong-backwards a b h = omega (arith, ints, h, same a b)
  where
    same : (a b : V3) → along a b a b ≡ along b a b a
    same = identity (vector3 ∷ vector3 ∷ []) (λ a b. along_term a b a b ≣ along_term b a b a) tt

-- two different points at height 0
IsLong-different : (a b : V3) → a.z ≡ pos 0 → b.z ≡ pos 0 → a ≢ b → IsLong a b
IsLong-different a b ea eb apart =
    by_lt_z (pos 0) (along a b a b) (λ lt. lt)
    (λ le.
    let x = square_nonneg (b.x -ℤ a.x) in
    let y = square_nonneg (b.y -ℤ a.y) in
    absurd (apart (same3 a b (root a.x b.x (omega (arith, ints, le, x, y))) (root a.y b.y (omega (arith, ints, le, x, y))) (ea ∙ sym eb))))
  where
    root : (a b : ℤ) → (b -ℤ a) *ℤ (b -ℤ a) ≡ pos 0 → a ≡ b
    root a b e = ⊎_elim (λ z. omega (arith, ints, z)) (λ z. omega (arith, ints, z)) (mul-eq-zero (b -ℤ a) (b -ℤ a) e)

different : (a b : V3) → not (is_same a b) ≡ true → a ≢ b
different a b e same = true≢false (sym e ∙ ap (λ (c : V3). not (is_same a c)) (sym same) ∙ ap not itself)
  where
    itself : is_same a a ≡ true
    itself =
        (Decides-and (int_eq a.x a.x && int_eq a.y a.y) (int_eq a.z a.z) (Decides-and (int_eq a.x a.x) (int_eq a.y a.y) (Decides-int_eq a.x a.x) (Decides-int_eq a.y a.y)) (Decides-int_eq a.z a.z)).1 ((refl, refl), refl)

-- edges between points, each of which one enters and one leaves
record AreAround (points : List V3) (edges : List (V3 × V3)) : Type 0 where
  ends : All (λ e. Contains points e.0 × Contains points e.1) edges
  long : All (λ e. IsLong e.0 e.1) edges
  entered : All (Ends edges) points
  left_at : All (Starts edges) points

AreAround-around : (p q : V3) (points : List V3) → All (λ p. p.z ≡ pos 0) (p ∷ q ∷ points) → are_distinct (p ∷ q ∷ points) ≡ true → AreAround (p ∷ q ∷ points) (around (p ∷ q ∷ points))
AreAround-around p q points level e = record {
  ends = around_pairs (Contains all) all (All-contains_itself all);
  long = λ k d lt. let e = get_or (around all) k d in IsLong-different e.0 e.1 (levels k d lt).0 (levels k d lt).1 (apart k d lt);
  entered = around_ends all;
  left_at = around_starts all;
}
  where
    all : List V3
    all = p ∷ q ∷ points

    levels : All (λ e. (e.0.z ≡ pos 0) × (e.1.z ≡ pos 0)) (around all)
    levels = around_pairs (λ p. p.z ≡ pos 0) all level

    apart : All (λ e. e.0 ≢ e.1) (around all)
    apart =
        around_apart (λ a b. a ≢ b) (λ a b h e. h (sym e)) p q points
        (All-weaker (λ t. not (is_same t.0 t.1) ≡ true) (λ t. t.0 ≢ t.1) (λ t. different t.0 t.1) (pairs_of all) (AllPass-from_list_all (λ (t : V3 × V3). not (is_same t.0 t.1)) (pairs_of all) e))

AreAround-backwards : (points : List V3) (edges : List (V3 × V3)) → AreAround points edges → AreAround points (map backwards edges)
AreAround-backwards points edges is = record {
  ends = All-map (λ e. Contains points e.0 × Contains points e.1) backwards edges (All-weaker (λ e. Contains points e.0 × Contains points e.1) (λ e. Contains points e.1 × Contains points e.0) (λ e h. (h.1, h.0)) edges is.ends);
  long = All-map (λ e. IsLong e.0 e.1) backwards edges (All-weaker (λ e. IsLong e.0 e.1) (λ e. IsLong e.1 e.0) (λ e. IsLong-backwards e.0 e.1) edges is.long);
  entered = All-weaker (Starts edges) (Ends (map backwards edges)) (λ p h. (h.0, Contains-map backwards edges (p, h.0) h.1)) points is.left_at;
  left_at = All-weaker (Ends edges) (Starts (map backwards edges)) (λ p h. (h.0, Contains-map backwards edges (h.0, p) h.1)) points is.entered;
}

-- ---- no edge has all points on its line
three_on : (w x a b c : V3) → along w x w x *ℤ turn a b c ≡ (along w x a b *ℤ (turn w x c -ℤ turn w x a)) -ℤ (along w x a c *ℤ (turn w x b -ℤ turn w x a))
three_on = identity (vector3 ∷ vector3 ∷ vector3 ∷ vector3 ∷ vector3 ∷ []) (λ w x a b c. along_term w x w x ⊗ turn_term a b c ≣ (along_term w x a b ⊗ (turn_term w x c ⊖ turn_term w x a)) ⊖ (along_term w x a c ⊗ (turn_term w x b ⊖ turn_term w x a))) tt

straight_on : (points : List V3) (w x : V3) → IsLong w x → All (λ q. turn w x q ≡ pos 0) points → is_straight points ≡ true
straight_on points w x long h =
    list_all-from_AllPass (λ (t : V3 × V3 × V3). int_eq (turn t.0 t.1 t.2) (pos 0)) (triples_of points)
    (All-weaker (λ t. (turn w x t.0 ≡ pos 0) × (turn w x t.1 ≡ pos 0) × (turn w x t.2 ≡ pos 0)) (λ t. int_eq (turn t.0 t.1 t.2) (pos 0) ≡ true) (λ t e. on t.0 t.1 t.2 e.0 e.1 e.2) (triples_of points)
    (All-triples_of (λ q. turn w x q ≡ pos 0) points h))
  where
    times : (k a b : ℤ) → a ≡ pos 0 → b ≡ pos 0 → k *ℤ (a -ℤ b) ≡ pos 0
    times k a b ea eb = ap (λ (t : ℤ). k *ℤ t) (omega (arith, ints)) ∙ mul-zero k

    on : (a b c : V3) → turn w x a ≡ pos 0 → turn w x b ≡ pos 0 → turn w x c ≡ pos 0 → int_eq (turn a b c) (pos 0) ≡ true
    on a b c ea eb ec =
        (Decides-int_eq (turn a b c) (pos 0)).1
        (zero_of_mul (along w x w x) (turn a b c) long
        (omega (arith, ints, three_on w x a b c, times (along w x a b) (turn w x c) (turn w x a) ec ea, times (along w x a c) (turn w x b) (turn w x a) eb ea)))

-- ---- the tests
convex_around : (points : List V3) (edges : List (V3 × V3)) → AreAround points edges → is_straight points ≡ false → are_left edges points ≡ true → IsConvex points edges
convex_around points edges is wide left = record {
  ends = is.ends;
  long = is.long;
  entered = is.entered;
  left_at = is.left_at;
  left = All-weaker (λ e. list_all (λ p. int_le (pos 0) (turn e.0 e.1 p)) points ≡ true) (λ e. All (λ q. pos 0 ≤ℤ turn e.0 e.1 q) points)
      (λ e h. All-weaker (λ q. int_le (pos 0) (turn e.0 e.1 q) ≡ true) (λ q. pos 0 ≤ℤ turn e.0 e.1 q) (λ q h. omega (arith, ints, h)) points (AllPass-from_list_all (λ p. int_le (pos 0) (turn e.0 e.1 p)) points h))
      edges (AllPass-from_list_all (λ (e : V3 × V3). list_all (λ p. int_le (pos 0) (turn e.0 e.1 p)) points) edges left);
  wide = All-weaker (λ e. IsLong e.0 e.1) (λ e. ¬ (All (λ q. turn e.0 e.1 q ≡ pos 0) points)) (λ e long h. true≢false (sym (straight_on points e.0 e.1 long h) ∙ wide)) edges is.long;
}

pub convex : (points : List V3) → All (λ p. p.z ≡ pos 0) points → is_straight points ≡ false → is_convex points ≡ true → IsConvex points (edges_of points)
convex [] level wide e = absurd (true≢false wide)
convex (p ∷ []) level wide e = absurd (true≢false wide)
convex (p ∷ q ∷ points) level wide e =
    cond_both (are_left (around all) all) (around all) (map backwards (around all)) (λ edges. are_left edges all ≡ true → IsConvex all edges)
    (λ _. convex_around all (around all) is wide)
    (λ _. convex_around all (map backwards (around all)) (AreAround-backwards all (around all) is) wide)
    both.1
  where
    all : List V3
    all = p ∷ q ∷ points

    both : (are_distinct all ≡ true) × (are_left (edges_of all) all ≡ true)
    both = (Decides-and (are_distinct all) (are_left (edges_of all) all) (λ e. e, λ e. e) (λ e. e, λ e. e)).0 e

    is : AreAround all (around all)
    is = AreAround-around p q points level both.0
