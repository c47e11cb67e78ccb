-- How many faces hulls have at most, and common points.
use Rattle.std.proofs.Common.{◌≡◌, suc, ◌*◌, ◌≤◌, ◌^◌, Bool, true, false, cond, Option, Some, None, List, [], ◌∷◌, ◌++◌, map, flat_map, filter, find, length, length-append, refl, ap, arith}
use Rattle.std.proofs.lemmas.List.{length-map}
use Rattle.std.specs.Option.{option_map, option_and_then}
use Rattle.std.specs.List.{list_any}
use Rattle.gx_num.specs.declared.vector.V3.{V3}
use Rattle.gx_num.specs.Space.{HalfSpace}
use Rattle.gx_num.specs.Vector4.{Vec4, lowest4}
use Rattle.gx_plane.specs.Plane.{plane_through, supports}
use Rattle.gx_plane.specs.Between.{pairs_of, triples_of, both_ways, candidates}
use Rattle.gx_convex.specs.Points.{distinct_by}
use Rattle.gx_convex.specs.Faces.{is_same_plane, faces_of}
use Rattle.gx_common.specs.Common.{is_strict, taken, taken_of, is_same_point}

length-pairs_of : (ps : List V3) → length ps ≤ 32 → length (pairs_of ps) ≤ 32 * length ps
length-pairs_of [] h = omega arith
length-pairs_of (p ∷ ps) h =
    omega (arith, length-append (map (λ q. (p, q)) ps) (pairs_of ps), length-map {B = V3 × V3} ps (λ (q : V3). (p, q)), length-pairs_of ps (omega (arith, h)))

length-triples_of : (ps : List V3) → length ps ≤ 32 → length (triples_of ps) ≤ 1024 * length ps
length-triples_of [] h = omega arith
length-triples_of (p ∷ ps) h =
    omega (arith, length-append (map (λ (t : V3 × V3). (p, t.0, t.1)) (pairs_of ps)) (triples_of ps), length-map {B = V3 × V3 × V3} (pairs_of ps) (λ (t : V3 × V3). (p, t.0, t.1)), length-pairs_of ps (omega (arith, h)), length-triples_of ps (omega (arith, h)))

length-planes : (ts : List (V3 × V3 × V3)) → length (flat_map (λ t. both_ways (plane_through t.0 t.1 t.2)) ts) ≤ 2 * length ts
length-planes [] = omega arith
length-planes (t ∷ ts) =
    omega (arith, length-append (both_ways (plane_through t.0 t.1 t.2)) (flat_map (λ t. both_ways (plane_through t.0 t.1 t.2)) ts), two (plane_through t.0 t.1 t.2), length-planes ts)
  where
    two : (o : Option HalfSpace) → length (both_ways o) ≤ 2
    two None = omega arith
    two (Some h) = omega arith

module _ {X : Type 0} where
  length-filter : (test : X → Bool) (xs : List X) → length (filter test xs) ≤ length xs
  length-filter test [] = omega arith
  length-filter test (x ∷ xs) = go (test x) (length-filter test xs)
    where
      go : (b : Bool) → length (filter test xs) ≤ length xs → length (cond b (x ∷ filter test xs) (filter test xs)) ≤ suc (length xs)
      go true h = omega arith
      go false h = omega arith

  pub length-distinct_by : (same : X → X → Bool) (seen xs : List X) → length (distinct_by same seen xs) ≤ length xs
  length-distinct_by same seen [] = omega arith
  length-distinct_by same seen (x ∷ xs) = go (list_any (same x) seen) (length-distinct_by same seen xs) (length-distinct_by same (x ∷ seen) xs)
    where
      go : (b : Bool) → length (distinct_by same seen xs) ≤ length xs → length (distinct_by same (x ∷ seen) xs) ≤ length xs → length (cond b (distinct_by same seen xs) (x ∷ distinct_by same (x ∷ seen) xs)) ≤ suc (length xs)
      go true h k = omega arith
      go false h k = omega arith

length-faces_of : (ps : List V3) → length ps ≤ 32 → length (faces_of ps) ≤ 2 ^ 16
length-faces_of ps h =
    omega (arith, length-distinct_by is_same_plane [] (filter (λ h. supports h ps) (candidates ps)), length-filter (λ (h : HalfSpace). supports h ps) (candidates ps), length-planes (triples_of ps), length-triples_of ps h, h)

length-taken : (points : List Vec4) (hs : List HalfSpace) (ps : List Vec4) → taken points hs ≡ Some ps → length ps ≡ length hs
length-taken points [] ps e = ap length (same e)
  where
    same : Some [] ≡ Some ps → ps ≡ []
    same f = cc
length-taken points (h ∷ hs) ps e = go (find (is_strict h) points) (taken points hs) refl (length-taken points hs) e
  where
    go : (o : Option Vec4) (u : Option (List Vec4)) → taken points hs ≡ u → ((qs : List Vec4) → taken points hs ≡ Some qs → length qs ≡ length hs) → option_and_then (λ p. option_map (λ ps. p ∷ ps) u) o ≡ Some ps → length ps ≡ suc (length hs)
    go None u k rest f = cc
    go (Some p) None k rest f = cc
    go (Some p) (Some qs) k rest f =
        let same : ps ≡ p ∷ qs = of f in
        omega (arith, ap length same, rest qs k)
      where
        of : Some (p ∷ qs) ≡ Some ps → ps ≡ p ∷ qs
        of z = cc

pub length-common : (a b : List V3) (ps : List Vec4) → length a ≤ 32 → length b ≤ 32 → taken_of a b ≡ Some ps → length (distinct_by is_same_point [] (map lowest4 ps)) ≤ 2 ^ 17
length-common a b ps few_a few_b e =
    omega (arith, length-distinct_by is_same_point [] (map lowest4 ps), length-map ps lowest4, length-taken _ (faces_of a ++ faces_of b) ps e, length-append (faces_of a) (faces_of b), length-faces_of a few_a, length-faces_of b few_b)
