-- Going round a list: each element is the first of a pair and the second of one, and what holds of elements holds of pairs.
use Rattle.std.proofs.Common.{List, [], ◌∷◌, map, All, Contains}
use Rattle.std.proofs.lemmas.List.Elements.{All-nil, All-cons, All-head, All-tail, All-weaker}
use Rattle.gx_num.specs.declared.vector.V3.{V3}
use Rattle.gx_algebra.proofs.Lists.{All-append_parts, All-from_map, Contains-head, Contains-tail}
use Rattle.gx_plane.specs.Between.{pairs_of}
use Rattle.gx_polygon.specs.Around.{around_to, around}

module _ {X : Type 0} where
  abbrev pub Starts : List (X × X) → X → Type 0
  Starts edges x = (y : X) × Contains edges (x, y)

  abbrev pub Ends : List (X × X) → X → Type 0
  Ends edges x = (y : X) × Contains edges (y, x)

  Starts-tail : (e : X × X) (edges : List (X × X)) (x : X) → Starts edges x → Starts (e ∷ edges) x
  Starts-tail e edges x (y, h) = (y, Contains-tail e edges (x, y) h)

  Ends-tail : (e : X × X) (edges : List (X × X)) (x : X) → Ends edges x → Ends (e ∷ edges) x
  Ends-tail e edges x (y, h) = (y, Contains-tail e edges (y, x) h)

  starts : (first : X) (xs : List X) → All (Starts (around_to first xs)) xs
  starts first [] = All-nil (Starts [])
  starts first (x ∷ []) = All-cons (Starts ((x, first) ∷ [])) x [] (first, Contains-head (x, first) []) (All-nil (Starts ((x, first) ∷ [])))
  starts first (x ∷ y ∷ ys) =
      All-cons (Starts (around_to first (x ∷ y ∷ ys))) x (y ∷ ys) (y, Contains-head (x, y) (around_to first (y ∷ ys)))
      (All-weaker (Starts (around_to first (y ∷ ys))) (Starts (around_to first (x ∷ y ∷ ys))) (Starts-tail (x, y) (around_to first (y ∷ ys))) (y ∷ ys) (starts first (y ∷ ys)))

  -- the first to come is entered, and each after the first of the list
  ends : (first x : X) (xs : List X) → Ends (around_to first (x ∷ xs)) first × All (Ends (around_to first (x ∷ xs))) xs
  ends first x [] = ((x, Contains-head (x, first) []), All-nil (Ends ((x, first) ∷ [])))
  ends first x (y ∷ ys) =
      let rest = ends first y ys in
      let edges = around_to first (y ∷ ys) in (
        Ends-tail (x, y) edges first rest.0,
        All-cons (Ends ((x, y) ∷ edges)) y ys (x, Contains-head (x, y) edges) (All-weaker (Ends edges) (Ends ((x, y) ∷ edges)) (Ends-tail (x, y) edges) ys rest.1),
      )

  pub around_starts : (xs : List X) → All (Starts (around xs)) xs
  around_starts [] = All-nil (Starts [])
  around_starts (x ∷ xs) = starts x (x ∷ xs)

  pub around_ends : (xs : List X) → All (Ends (around xs)) xs
  around_ends [] = All-nil (Ends [])
  around_ends (x ∷ xs) =
      let h = ends x x xs in
      All-cons (Ends (around (x ∷ xs))) x xs h.0 h.1

  pairs : (P : X → Type 0) (first : X) (xs : List X) → P first → All P xs → All (λ e. P e.0 × P e.1) (around_to first xs)
  pairs P first [] one h = All-nil (λ e. P e.0 × P e.1)
  pairs P first (x ∷ []) one h = All-cons (λ e. P e.0 × P e.1) (x, first) [] (All-head P x [] h, one) (All-nil (λ e. P e.0 × P e.1))
  pairs P first (x ∷ y ∷ ys) one h =
      let rest = All-tail P x (y ∷ ys) h in
      All-cons (λ e. P e.0 × P e.1) (x, y) (around_to first (y ∷ ys)) (All-head P x (y ∷ ys) h, All-head P y ys rest) (pairs P first (y ∷ ys) one rest)

  -- what holds of the elements holds of both of each pair
  pub around_pairs : (P : X → Type 0) (xs : List X) → All P xs → All (λ e. P e.0 × P e.1) (around xs)
  around_pairs P [] h = All-nil (λ e. P e.0 × P e.1)
  around_pairs P (x ∷ xs) h = pairs P x (x ∷ xs) (All-head P x xs h) h

-- ---- what holds of any two points at different places
module _ (R : V3 → V3 → Type 0) (swap : (a b : V3) → R a b → R b a) where
  steps : (first x : V3) (xs : List V3) → R x first → All (λ y. R y first) xs → All (λ t. R t.0 t.1) (pairs_of (x ∷ xs)) → All (λ e. R e.0 e.1) (around_to first (x ∷ xs))
  steps first x [] one h k = All-cons (λ e. R e.0 e.1) (x, first) [] one (All-nil (λ e. R e.0 e.1))
  steps first x (y ∷ ys) one h k =
      let parts = All-append_parts (λ t. R t.0 t.1) (map (λ q. (x, q)) (y ∷ ys)) (pairs_of (y ∷ ys)) k in
      All-cons (λ e. R e.0 e.1) (x, y) (around_to first (y ∷ ys)) (All-head (λ t. R t.0 t.1) (x, y) (map (λ q. (x, q)) ys) parts.0)
      (steps first y ys (All-head (λ y. R y first) y ys h) (All-tail (λ y. R y first) y ys h) parts.1)

  -- holds of each pair that goes round
  pub around_apart : (x y : V3) (ys : List V3) → All (λ t. R t.0 t.1) (pairs_of (x ∷ y ∷ ys)) → All (λ e. R e.0 e.1) (around (x ∷ y ∷ ys))
  around_apart x y ys k =
      let parts = All-append_parts (λ t. R t.0 t.1) (map (λ q. (x, q)) (y ∷ ys)) (pairs_of (y ∷ ys)) k in
      let row = All-from_map {Y = V3} (λ t. R t.0 t.1) (λ q. (x, q)) (y ∷ ys) parts.0 in
      let column = All-weaker (R x) (λ z. R z x) (λ z. swap x z) (y ∷ ys) row in
      All-cons (λ e. R e.0 e.1) (x, y) (around_to x (y ∷ ys)) (All-head (R x) y ys row)
      (steps x y ys (All-head (λ z. R z x) y ys column) (All-tail (λ z. R z x) y ys column) parts.1)
