-- A tessellation without a fault has at most 341 facets: its directed edges stand once each, between at most 32 points.
use Rattle.std.proofs.Common.{◌≡◌, ℕ, ◌*◌, ◌≤◌, Bool, true, false, cond, List, [], ◌∷◌, map, flat_map, filter, length, All, Contains, Option, Some, None, refl, arith, length-append}
use Rattle.std.specs.Prelude.{not, ◌&&◌, ◌==◌}
use Rattle.std.specs.Cmp.{IsEquivalence, and_equiv, on_equiv, int_eq_equiv}
use Rattle.std.specs.List.{list_any, AllByRecursion, IsDistinct}
use Rattle.std.proofs.lemmas.Bool.{and_parts, not-false, eqb-true}
use Rattle.std.proofs.lemmas.List.{length-map}
use Rattle.std.proofs.lemmas.List.Elements.{All-nil, All-head, All-tail, All-append, All-weaker, All-contains, All-contains_itself}
use Rattle.std.proofs.lemmas.Nat.{mul-le}
use Rattle.std.proofs.lemmas.List.Sums.{AllPass-from_list_all}
use Rattle.std.proofs.lemmas.Map.Made.{length-le_from_is_member}
use Rattle.std.proofs.lemmas.Map.Views.{Contains-from_any, list_any-from_Contains}
use Rattle.gx_num.specs.declared.vector.V3.{V3}
use Rattle.gx_num.specs.Vector.{is_same}
use Rattle.gx_algebra.proofs.Lists.{All-append_parts, Contains-map, Contains-flat_map}
use Rattle.gx_convex.specs.Points.{distinct}
use Rattle.gx_convex.proofs.Distinct.{Decides-is_same, All-from_distinct}
use Rattle.gx_polygon.specs.Around.{around}
use Rattle.gx_polygon.proofs.Rounds.{around_pairs}
use Rattle.gx_table.specs.declared.fault.FaultName.TheVariants.{OpenEdge}
use Rattle.gx_shapes.specs.declared.facet.Facet.{Facet}
use Rattle.gx_shapes.specs.declared.figure.Figure.TheVariants.{Tessellated}
use Rattle.gx_shapes.specs.Accepted.{IsSolid}
use Rattle.gx_shapes.specs.Solid.{tessellation_faults}
use Rattle.gx_shapes.specs.Tessellation.{fourth, corners_of, tessellation_vertices, is_same_edge, is_joined, facet_edges}
use Rattle.gx_shapes.proofs.Tessellations.{first_true-none, tessellation_few}

-- ---- elements that stand once are distinct

-- no more than one element is the same
abbrev IsOnce : {X : Type 0} → (X → X → Bool) → List X → X → Type 0
IsOnce same xs x = length (filter (same x) xs) ≤ 1

module _ {X : Type 0} (same : X → X → Bool) (itself : (x : X) → same x x ≡ true) where
  none_by : (y x : X) (xs : List X) (t : Bool) → same y x ≡ t → length (cond t (x ∷ filter (same y) xs) (filter (same y) xs)) ≤ 0 → (same y x ≡ false) × (length (filter (same y) xs) ≤ 0)
  none_by y x xs true e h = absurd (omega arith)
  none_by y x xs false e h = (e, h)

  none_same : (y : X) (xs : List X) → length (filter (same y) xs) ≤ 0 → AllByRecursion (λ x. same y x ≡ false) xs
  none_same y [] h = tt
  none_same y (x ∷ xs) h = let parts = none_by y x xs (same y x) refl h in (parts.0, none_same y xs parts.1)

  fewer : (y x : X) (xs : List X) (t : Bool) → length (cond t (x ∷ filter (same y) xs) (filter (same y) xs)) ≤ 1 → length (filter (same y) xs) ≤ 1
  fewer y x xs true h = omega arith
  fewer y x xs false h = h

  distinct_once : (xs : List X) → All (IsOnce same xs) xs → IsDistinct same xs
  unfolding IsDistinct
  distinct_once [] h = tt
  distinct_once (x ∷ xs) h =
      let first : length (filter (same x) xs) ≤ 0 = let one = All-head (IsOnce same (x ∷ xs)) x xs h in let two = rw (itself x) at one in omega (arith, two) in
      (none_same x xs first, distinct_once xs (All-weaker (IsOnce same (x ∷ xs)) (IsOnce same xs) (λ y less. fewer y x xs (same y x) less) xs (All-tail (IsOnce same (x ∷ xs)) x xs h)))

-- ---- directed edges

is_same-equivalence : IsEquivalence is_same
is_same-equivalence = and_equiv (and_equiv (on_equiv (λ (v : V3). v.x) int_eq_equiv) (on_equiv (λ (v : V3). v.y) int_eq_equiv)) (on_equiv (λ (v : V3). v.z) int_eq_equiv)

is_same_edge-equivalence : IsEquivalence is_same_edge
is_same_edge-equivalence = and_equiv (on_equiv (λ (e : V3 × V3). e.0) is_same-equivalence) (on_equiv (λ (e : V3 × V3). e.1) is_same-equivalence)

same_edge : (d e : V3 × V3) → is_same_edge d e ≡ true → d ≡ e
same_edge d e h =
    let both = and_parts (is_same d.0 e.0) (is_same d.1 e.1) h in
    λ i. ((Decides-is_same d.0 e.0).0 both.0 i, (Decides-is_same d.1 e.1).0 both.1 i)

edge_itself : (e : V3 × V3) → is_same_edge e e ≡ true
edge_itself e = rw ((Decides-is_same e.0 e.0).1 refl, (Decides-is_same e.1 e.1).1 refl) refl

-- each point with each
abbrev pairs : List V3 → List V3 → List (V3 × V3)
pairs ps qs = flat_map (λ (p : V3). map (λ (q : V3). (p, q)) qs) ps

length-pairs : (ps qs : List V3) → length (pairs ps qs) ≡ length ps * length qs
length-pairs [] qs = omega arith
length-pairs (p ∷ ps) qs = omega (arith, length-append (map (λ (q : V3). (p, q)) qs) (pairs ps qs), length-map {B = V3 × V3} qs (λ q. (p, q)), length-pairs ps qs)

abbrev AreAmong : List V3 → V3 × V3 → Type 0
AreAmong points e = Contains points e.0 × Contains points e.1

among_pairs : (points : List V3) (e : V3 × V3) → AreAmong points e → Contains (pairs points points) e
among_pairs points e h = Contains-flat_map (λ (p : V3). map (λ (q : V3). (p, q)) points) points e.0 e h.0 (Contains-map (λ (q : V3). (e.0, q)) points e.1 h.1)

few_edges : (points : List V3) (edges : List (V3 × V3)) → All (IsOnce is_same_edge edges) edges → All (AreAmong points) edges → length edges ≤ length points * length points
few_edges points edges once among =
    let all : (q : V3 × V3) → list_any (is_same_edge q) edges ≡ true → list_any (is_same_edge q) (pairs points points) ≡ true =
    λ q any. list_any-from_Contains is_same_edge-equivalence q (pairs points points) (among_pairs points q (All-contains (AreAmong points) edges q among (Contains-from_any same_edge q edges any))) in
    let less = length-le_from_is_member is_same_edge-equivalence edges (pairs points points) (distinct_once is_same_edge edge_itself edges once) all in
    omega (arith, less, length-pairs points points)

-- ---- facets

edges_by : (a b c : V3) (d : Option V3) → 3 ≤ length (around (a ∷ b ∷ c ∷ fourth d))
edges_by a b c None = omega arith
edges_by a b c (Some d) = omega arith

three_edges : (facets : List Facet) → 3 * length facets ≤ length (facet_edges facets)
three_edges [] = omega arith
three_edges (f ∷ facets) = omega (arith, edges_by f.a f.b f.c f.d, three_edges facets, length-append (around (corners_of f)) (facet_edges facets))

edges_among : (points : List V3) (facets : List Facet) → All (Contains points) (tessellation_vertices facets) → All (AreAmong points) (facet_edges facets)
edges_among points [] h = All-nil (AreAmong points)
edges_among points (f ∷ facets) h =
    let parts = All-append_parts (Contains points) (corners_of f) (tessellation_vertices facets) h in
    All-append (AreAmong points) (around (corners_of f)) (facet_edges facets) (around_pairs (Contains points) (corners_of f) parts.0) (edges_among points facets parts.1)

joined_once : (edges : List (V3 × V3)) (e : V3 × V3) → is_joined edges e ≡ true → IsOnce is_same_edge edges e
joined_once edges e h =
    let first = and_parts (not (is_same e.0 e.1) && length (filter (is_same_edge e) edges) == 1) _ h in
    let once = eqb-true (length (filter (is_same_edge e) edges)) 1 (and_parts (not (is_same e.0 e.1)) _ first.0).1 in
    omega (arith, once)

square : (n : ℕ) → n ≤ 32 → n * n ≤ 1024
square n h = omega (arith, mul-le n n 32 32 h h)

pub few_facets : (facets : List Facet) → IsSolid (Tessellated facets) → length facets ≤ 341
few_facets facets is =
    let points = distinct (tessellation_vertices facets) in
    let edges = facet_edges facets in
    let among = All-from_distinct (Contains points) (tessellation_vertices facets) (All-contains_itself points) in
    let joined = not-false _ (first_true-none (tessellation_faults facets points) is.whole 5 (true, OpenEdge) (omega arith)) in
    let once = All-weaker (λ e. is_joined edges e ≡ true) (IsOnce is_same_edge edges) (joined_once edges) edges (AllPass-from_list_all (is_joined edges) edges joined) in
    let less = few_edges points edges once (edges_among points facets among) in
    omega (arith, three_edges facets, less, square (length points) (tessellation_few facets is.whole))
