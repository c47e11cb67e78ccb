-- By the counts of edges: which edges are joined.
use Rattle.std.proofs.Common.{◌≡◌, ◌≤◌, ℕ, suc, min, Bool, true, false, cond, ◌&&◌, ◌||◌, not, nat_lt, ◌==◌, Option, Some, None, List, [], ◌∷◌, ◌++◌, map, flat_map, filter, length, slice_index, All, Contains, refl, sym, ap, subst, ◌∙◌, arith}
use Rattle.std.specs.Option.{IfSome}
use Rattle.std.specs.List.{list_all, list_any}
use Rattle.std.proofs.lemmas.Bool.Decides.{nat_tests, Decides-eqb, Decides-like, same_from_decides}
use Rattle.std.proofs.lemmas.List.{map-append}
use Rattle.std.proofs.lemmas.List.Elements.{All-nil, All-head, All-tail, All-append, All-from_recursion, All-weaker}
use Rattle.std.proofs.lemmas.List.Folds.{list_all-append, list_all-map}
use Rattle.gx_num.specs.declared.vector.V3.{V3}
use Rattle.gx_num.specs.Vector.{is_same}
use Rattle.gx_algebra.proofs.Lists.{All-four}
use Rattle.gx_convex.proofs.Distinct.{Decides-is_same}
use Rattle.gx_polygon.specs.Around.{around}
use Rattle.gx_shapes.specs.declared.facet.Facet.{Facet}
use Rattle.gx_shapes.specs.Tessellation.{fourth, corners_of, facet_edges, is_same_edge, is_joined}
use Rattle.gx_facets.specs.Facets.{EachCorner}
use Rattle.gx_facets.specs.Edges.{number_of, numbered_edges, place_of, AreCounts, is_joined_by}
use Rattle.gx_facets.proofs.Numbers.{number_of-lt, number_of-same}

-- ---- lists
list_all-agree : {X : Type 0} (p q : X → Bool) (xs : List X) → All (λ x. p x ≡ q x) xs → list_all p xs ≡ list_all q xs
list_all-agree p q [] h = refl
list_all-agree p q (x ∷ xs) h =
    λ i. All-head (λ x. p x ≡ q x) x xs h i && list_all-agree p q xs (All-tail (λ x. p x ≡ q x) x xs h) i

list_all-flat_map : {X Y : Type 0} (p : Y → Bool) (f : X → List Y) (xs : List X) → list_all (λ x. list_all p (f x)) xs ≡ list_all p (flat_map f xs)
list_all-flat_map p f [] = refl
list_all-flat_map p f (x ∷ xs) =
    ap (λ b. list_all p (f x) && b) (list_all-flat_map p f xs) ∙ sym (list_all-append p (f x) (flat_map f xs))

filter-any : {X : Type 0} (p : X → Bool) (xs : List X) → nat_lt 0 (min (length (filter p xs)) 255) ≡ list_any p xs
filter-any p [] = refl
filter-any p (x ∷ xs) = go (p x) (filter-any p xs)
  where
    go : (b : Bool) → nat_lt 0 (min (length (filter p xs)) 255) ≡ list_any p xs → nat_lt 0 (min (length (cond b (x ∷ filter p xs) (filter p xs))) 255) ≡ (b || list_any p xs)
    go true h = grind (arith, nat_tests)
    go false h = h

-- ---- edges by numbers
module _ (points : List V3) where
  abbrev number : V3 × V3 → ℕ × ℕ
  number e = (number_of points e.0, number_of points e.1)

  record AreAmong (e : V3 × V3) : Type 0 where
    from : Contains points e.0
    to : Contains points e.1

  same_number : (p q : V3) → Contains points p → Contains points q → (number_of points p == number_of points q) ≡ is_same p q
  same_number p q m n =
      same_from_decides (number_of points p == number_of points q) (is_same p q)
      (Decides-like (number_of points p == number_of points q) (number_of-same points p q m n) (ap (number_of points)) (Decides-eqb (number_of points p) (number_of points q)))
      (Decides-is_same p q)

  -- the edges with an edge's numbers are those with its ends
  same_count : (e : V3 × V3) (edges : List (V3 × V3)) → AreAmong e → All AreAmong edges → length (filter (λ x. (number e).0 == x.0 && (number e).1 == x.1) (map number edges)) ≡ length (filter (is_same_edge e) edges)
  same_count e [] m all = refl
  same_count e (x ∷ edges) m all =
      let n = All-head AreAmong x edges all in
      ap (λ (b : Bool). length (cond b (number x ∷ filter (λ x. (number e).0 == x.0 && (number e).1 == x.1) (map number edges)) (filter (λ x. (number e).0 == x.0 && (number e).1 == x.1) (map number edges))))
      (λ i. same_number e.0 x.0 m.from n.from i && same_number e.1 x.1 m.to n.to i)
      ∙ go (is_same_edge e x) (same_count e edges m (All-tail AreAmong x edges all))
    where
      go : (b : Bool) → length (filter (λ x. (number e).0 == x.0 && (number e).1 == x.1) (map number edges)) ≡ length (filter (is_same_edge e) edges) → length (cond b (number x ∷ filter (λ x. (number e).0 == x.0 && (number e).1 == x.1) (map number edges)) (filter (λ x. (number e).0 == x.0 && (number e).1 == x.1) (map number edges))) ≡ length (cond b (x ∷ filter (is_same_edge e) edges) (filter (is_same_edge e) edges))
      go true h = ap suc h
      go false h = h

  numbered : (facets : List Facet) → flat_map (numbered_edges points) facets ≡ map number (facet_edges facets)
  numbered [] = refl
  numbered (f ∷ facets) =
      (λ i. go f.d i ++ numbered facets i) ∙ sym (map-append number (around (corners_of f)) (facet_edges facets))
    where
      go : (d : Option V3) → around (map (number_of points) (f.a ∷ f.b ∷ f.c ∷ fourth d)) ≡ map number (around (f.a ∷ f.b ∷ f.c ∷ fourth d))
      go None = refl
      go (Some d) = refl

  edges_among : (facets : List Facet) → All (EachCorner (Contains points)) facets → All AreAmong (facet_edges facets)
  edges_among [] all = All-nil AreAmong
  edges_among (f ∷ facets) all =
      All-append AreAmong (around (corners_of f)) (facet_edges facets) (go f.d corners.d) (edges_among facets (All-tail (EachCorner (Contains points)) f facets all))
    where
      corners : EachCorner (Contains points) f
      corners = All-head (EachCorner (Contains points)) f facets all

      edge : {p q : V3} → Contains points p → Contains points q → AreAmong (p, q)
      edge m n = record { from = m; to = n }

      go : (d : Option V3) → IfSome d (Contains points) → All AreAmong (around (f.a ∷ f.b ∷ f.c ∷ fourth d))
      go None m =
          All-from_recursion AreAmong ((f.a, f.b) ∷ (f.b, f.c) ∷ (f.c, f.a) ∷ []) (edge corners.a corners.b, (edge corners.b corners.c, (edge corners.c corners.a, tt)))
      go (Some d) m =
          All-four AreAmong (f.a, f.b) (f.b, f.c) (f.c, d) (d, f.a) (edge corners.a corners.b) (edge corners.b corners.c) (edge corners.c m) (edge m corners.a)

  -- ---- so the counts decide
  module _ (edges : List (V3 × V3)) (counts : List ℕ) (few : length points ≤ 32) (are : AreCounts (map number edges) counts) (all : All AreAmong edges) where
    count_at : (e : V3 × V3) → AreAmong e → slice_index counts (place_of (number e)) ≡ min (length (filter (is_same_edge e) edges)) 255
    count_at e m =
        are (number e).0 (number e).1 (omega (arith, few, number_of-lt points e.0 m.from)) (omega (arith, few, number_of-lt points e.1 m.to))
        ∙ ap (λ (n : ℕ). min n 255) (same_count e edges m all)

    joined : (e : V3 × V3) → AreAmong e → is_joined_by counts (number e) ≡ is_joined edges e
    joined e m = λ i. not (same_number e.0 e.1 m.from m.to i) && once i && back i
      where
        once : (slice_index counts (place_of (number e)) == 1) ≡ (length (filter (is_same_edge e) edges) == 1)
        once = ap (λ (n : ℕ). n == 1) (count_at e m) ∙ at_one (length (filter (is_same_edge e) edges))
          where
            at_one : (n : ℕ) → (min n 255 == 1) ≡ (n == 1)
            at_one n = grind (arith, nat_tests)

        back : nat_lt 0 (slice_index counts (place_of (number (e.1, e.0)))) ≡ list_any (is_same_edge (e.1, e.0)) edges
        back = ap (nat_lt 0) (count_at (e.1, e.0) (record { from = m.to; to = m.from })) ∙ filter-any (is_same_edge (e.1, e.0)) edges

  pub all_joined : (facets : List Facet) (counts : List ℕ) → length points ≤ 32 → AreCounts (flat_map (numbered_edges points) facets) counts → All (EachCorner (Contains points)) facets → list_all (λ f. list_all (is_joined_by counts) (numbered_edges points f)) facets ≡ list_all (is_joined (facet_edges facets)) (facet_edges facets)
  all_joined facets counts few are corners =
      let edges = facet_edges facets in
      let among = edges_among facets corners in
      list_all-flat_map (is_joined_by counts) (numbered_edges points) facets ∙ ap (list_all (is_joined_by counts)) (numbered facets) ∙ list_all-map (is_joined_by counts) number edges
      ∙ list_all-agree (λ e. is_joined_by counts (number e)) (is_joined edges) edges (All-weaker AreAmong (λ e. is_joined_by counts (number e) ≡ is_joined edges e) (joined edges counts few (subst (λ es. AreCounts es counts) (numbered facets) are) among) edges among)
