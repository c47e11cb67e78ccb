-- The triples of points that are still to come, and what holds of the points of all of them.
use Rattle.std.proofs.Common.{◌≡◌, List, [], ◌∷◌, ◌++◌, map, flat_map, find, Bool, Option, Some, None, All, sym, ap, ◌∙◌, subst, append_assoc}
use Rattle.std.specs.Option.{option_or}
use Rattle.std.proofs.lemmas.List.{map-append}
use Rattle.std.proofs.lemmas.List.Elements.{All-nil, All-head, All-tail, All-append, All-map, All-weaker}
use Rattle.std.proofs.lemmas.List.Folds.{find-append}
use Rattle.std.proofs.lemmas.Simd.{map-map}
use Rattle.gx_num.specs.declared.vector.V3.{V3}
use Rattle.gx_num.specs.Space.{HalfSpace}
use Rattle.gx_plane.specs.Plane.{plane_through}
use Rattle.gx_plane.specs.Between.{pairs_of, triples_of, triples_left, both_ways}

-- with a further second point, all behind it may stand third
pub triples_left-second : (p s q : V3) (thirds seconds qs firsts : List V3) (ts : List (V3 × V3 × V3)) → thirds ≡ [] → seconds ≡ q ∷ qs → triples_left p s thirds seconds firsts ≡ ts → triples_left p q qs qs firsts ≡ ts
triples_left-second p s q thirds seconds qs firsts ts none is e = sym parts ∙ (rw (none, is) at e)
  where
    two : V3 × V3 → V3 × V3 × V3
    two t = (p, t.0, t.1)

    one : V3 → V3 × V3
    one r = (q, r)

    parts : map two (map one qs ++ pairs_of qs) ++ triples_of firsts ≡ map (λ r. (p, q, r)) qs ++ (map two (pairs_of qs) ++ triples_of firsts)
    parts = simp (map-append, map-map, append_assoc)

-- ---- what holds of all points holds of those of each triple
pub All-pairs_of : (P : V3 → Type 0) (points : List V3) → All P points → All (λ t. P t.0 × P t.1) (pairs_of points)
All-pairs_of P [] h = All-nil (λ t. P t.0 × P t.1)
All-pairs_of P (q ∷ qs) h =
    let first : P q = All-head P q qs h in
    let rest : All P qs = All-tail P q qs h in
    All-append (λ t. P t.0 × P t.1) (map (λ r. (q, r)) qs) (pairs_of qs)
    (All-map (λ t. P t.0 × P t.1) (λ r. (q, r)) qs (All-weaker P (λ r. P q × P r) (λ r k. (first, k)) qs rest))
    (All-pairs_of P qs rest)

pub All-triples_of : (P : V3 → Type 0) (points : List V3) → All P points → All (λ t. P t.0 × P t.1 × P t.2) (triples_of points)
All-triples_of P [] h = All-nil (λ t. P t.0 × P t.1 × P t.2)
All-triples_of P (p ∷ ps) h =
    let first : P p = All-head P p ps h in
    let rest : All P ps = All-tail P p ps h in
    All-append (λ t. P t.0 × P t.1 × P t.2) (map (λ (t : V3 × V3). (p, t.0, t.1)) (pairs_of ps)) (triples_of ps)
    (All-map (λ t. P t.0 × P t.1 × P t.2) (λ (t : V3 × V3). (p, t.0, t.1)) (pairs_of ps) (All-weaker (λ t. P t.0 × P t.1) (λ t. P p × P t.0 × P t.1) (λ t k. (first, k.0, k.1)) (pairs_of ps) (All-pairs_of P ps rest)))
    (All-triples_of P ps rest)

-- the three points of a first triple, and all triples behind it
pub All-first : (P : V3 → Type 0) (p q r : V3) (triples rest : List (V3 × V3 × V3)) → triples ≡ (p, q, r) ∷ rest → All (λ t. P t.0 × P t.1 × P t.2) triples → P p × P q × P r × All (λ t. P t.0 × P t.1 × P t.2) rest
All-first P p q r triples rest is h =
    let all = subst (All (λ (t : V3 × V3 × V3). P t.0 × P t.1 × P t.2)) is h in
    let first = All-head (λ (t : V3 × V3 × V3). P t.0 × P t.1 × P t.2) (p, q, r) rest all in
    (first.0, first.1, first.2, All-tail (λ (t : V3 × V3 × V3). P t.0 × P t.1 × P t.2) (p, q, r) rest all)

-- ---- the first plane of triples that passes a test
abbrev pub planes_of : List (V3 × V3 × V3) → List HalfSpace
planes_of triples = flat_map (λ t. both_ways (plane_through t.0 t.1 t.2)) triples

first-planes : (test : HalfSpace → Bool) (p q r : V3) (triples rest : List (V3 × V3 × V3)) → triples ≡ (p, q, r) ∷ rest → find test (planes_of triples) ≡ option_or (find test (both_ways (plane_through p q r))) (find test (planes_of rest))
first-planes test p q r triples rest is =
    ap (λ ts. find test (planes_of ts)) is ∙ find-append test (both_ways (plane_through p q r)) (planes_of rest)

-- what is found at a triple is the first of all from there
pub found_here : (test : HalfSpace → Bool) (p q r : V3) (triples rest : List (V3 × V3 × V3)) (h : HalfSpace) → triples ≡ (p, q, r) ∷ rest → Some h ≡ find test (both_ways (plane_through p q r)) → Some h ≡ find test (planes_of triples)
found_here test p q r triples rest h is found =
    sym (first-planes test p q r triples rest is ∙ ap (λ (o : Option HalfSpace). option_or o (find test (planes_of rest))) (sym found))

-- where nothing is found at it, the first is behind it
pub none_here : (test : HalfSpace → Bool) (p q r : V3) (triples rest : List (V3 × V3 × V3)) → triples ≡ (p, q, r) ∷ rest → None ≡ find test (both_ways (plane_through p q r)) → find test (planes_of rest) ≡ find test (planes_of triples)
none_here test p q r triples rest is missing =
    sym (first-planes test p q r triples rest is ∙ ap (λ (o : Option HalfSpace). option_or o (find test (planes_of rest))) (sym missing))
