-- Lists of points that are moved: their triples, candidates, faces and distinct ones are moved with them.
use Rattle.std.proofs.Common.{◌≡◌, Bool, true, false, cond, Option, Some, None, List, [], ◌∷◌, map, flat_map, filter, int_le, pos, refl, sym, ap}
use Rattle.std.specs.List.{list_all, list_any}
use Rattle.std.proofs.lemmas.List.{map-append}
use Rattle.std.specs.Option.{option_map}
use Rattle.std.specs.Ordering.{int_eq}
use Rattle.gx_num.specs.declared.vector.V3.{V3}
use Rattle.gx_num.specs.Space.{HalfSpace}
use Rattle.gx_num.specs.Vector.{is_same}
use Rattle.gx_plane.specs.Plane.{side_of, supports, flipped, plane_through}
use Rattle.gx_plane.specs.Between.{pairs_of, triples_of, both_ways, candidates}
use Rattle.gx_convex.specs.Points.{distinct_by, distinct, is_coplanar, are_coplanar}
use Rattle.gx_convex.specs.Faces.{is_same_plane, faces_of}
use Rattle.gx_convex.proofs.Coplanar.{volume}

-- points and planes moved together
pub record IsMotion (point : V3 → V3) (plane : HalfSpace → HalfSpace) : Type 0 where
  pub through : (a b c : V3) → plane_through (point a) (point b) (point c) ≡ option_map plane (plane_through a b c)
  pub flips : (h : HalfSpace) → flipped (plane h) ≡ plane (flipped h)
  pub sides : (h : HalfSpace) (p : V3) → side_of (plane h) (point p) ≡ side_of h p
  pub volumes : (a b c p : V3) → volume (point a) (point b) (point c) (point p) ≡ volume a b c p
  pub same_points : (a b : V3) → is_same (point a) (point b) ≡ is_same a b
  pub same_planes : (h k : HalfSpace) → is_same_plane (plane h) (plane k) ≡ is_same_plane h k

-- ---- lists
pub list_all-map : {X Y : Type 0} (test : Y → Bool) (other : X → Bool) (f : X → Y) → ((x : X) → test (f x) ≡ other x) → (xs : List X) → list_all test (map f xs) ≡ list_all other xs
list_all-map test other f e [] = refl
list_all-map test other f e (x ∷ xs) = rw (e x, list_all-map test other f e xs) refl

list_any-map : {X Y : Type 0} (test : Y → Bool) (other : X → Bool) (f : X → Y) → ((x : X) → test (f x) ≡ other x) → (xs : List X) → list_any test (map f xs) ≡ list_any other xs
list_any-map test other f e [] = refl
list_any-map test other f e (x ∷ xs) = rw (e x, list_any-map test other f e xs) refl

filter-map : {X : Type 0} (test other : X → Bool) (f : X → X) → ((x : X) → test (f x) ≡ other x) → (xs : List X) → filter test (map f xs) ≡ map f (filter other xs)
filter-map test other f e [] = refl
filter-map test other f e (x ∷ xs) = rw (e x) (go (other x) (filter-map test other f e xs))
  where
    go : (b : Bool) → filter test (map f xs) ≡ map f (filter other xs) → cond b (f x ∷ filter test (map f xs)) (filter test (map f xs)) ≡ map f (cond b (x ∷ filter other xs) (filter other xs))
    go true rest = ap (λ zs. f x ∷ zs) rest
    go false rest = rest

pub distinct_by-map : {X : Type 0} (same : X → X → Bool) (f : X → X) → ((a b : X) → same (f a) (f b) ≡ same a b) → (seen xs : List X) → distinct_by same (map f seen) (map f xs) ≡ map f (distinct_by same seen xs)
distinct_by-map same f e seen [] = refl
distinct_by-map same f e seen (x ∷ xs) =
    rw (list_any-map (same (f x)) (same x) f (e x) seen) (go (list_any (same x) seen) (distinct_by-map same f e seen xs) (distinct_by-map same f e (x ∷ seen) xs))
  where
    go : (b : Bool) → distinct_by same (map f seen) (map f xs) ≡ map f (distinct_by same seen xs) → distinct_by same (map f (x ∷ seen)) (map f xs) ≡ map f (distinct_by same (x ∷ seen) xs) → cond b (distinct_by same (map f seen) (map f xs)) (f x ∷ distinct_by same (map f (x ∷ seen)) (map f xs)) ≡ map f (cond b (distinct_by same seen xs) (x ∷ distinct_by same (x ∷ seen) xs))
    go true old new = old
    go false old new = ap (λ zs. f x ∷ zs) new

-- ---- pairs and triples
module _ (f : V3 → V3) where
  abbrev pair : V3 × V3 → V3 × V3
  pair t = (f t.0, f t.1)

  abbrev triple : V3 × V3 × V3 → V3 × V3 × V3
  triple t = (f t.0, f t.1, f t.2)

  map-with : (p : V3) (ps : List V3) → map (λ q. (f p, q)) (map f ps) ≡ map pair (map (λ q. (p, q)) ps)
  map-with p [] = refl
  map-with p (q ∷ ps) = ap (λ (ts : List (V3 × V3)). (f p, f q) ∷ ts) (map-with p ps)

  map-with_two : (p : V3) (ts : List (V3 × V3)) → map (λ t. (f p, t.0, t.1)) (map pair ts) ≡ map triple (map (λ t. (p, t.0, t.1)) ts)
  map-with_two p [] = refl
  map-with_two p (t ∷ ts) = ap (λ (us : List (V3 × V3 × V3)). (f p, f t.0, f t.1) ∷ us) (map-with_two p ts)

  pairs_of-map : (ps : List V3) → pairs_of (map f ps) ≡ map pair (pairs_of ps)
  pairs_of-map [] = refl
  pairs_of-map (p ∷ ps) = rw (map-with p ps, pairs_of-map ps) (sym (map-append pair (map (λ q. (p, q)) ps) (pairs_of ps)))

  triples_of-map : (ps : List V3) → triples_of (map f ps) ≡ map triple (triples_of ps)
  triples_of-map [] = refl
  triples_of-map (p ∷ ps) = rw (pairs_of-map ps, map-with_two p (pairs_of ps), triples_of-map ps) (sym (map-append triple (map (λ t. (p, t.0, t.1)) (pairs_of ps)) (triples_of ps)))

-- ---- what is made of them
module _ (point : V3 → V3) (plane : HalfSpace → HalfSpace) (m : IsMotion point plane) where
  both : (o : Option HalfSpace) → both_ways (option_map plane o) ≡ map plane (both_ways o)
  both None = refl
  both (Some h) = ap (λ k. plane h ∷ k ∷ []) (m.flips h)

  through : (ts : List (V3 × V3 × V3)) → flat_map (λ t. both_ways (plane_through t.0 t.1 t.2)) (map (triple point) ts) ≡ map plane (flat_map (λ t. both_ways (plane_through t.0 t.1 t.2)) ts)
  through [] = refl
  through (t ∷ ts) =
      rw (m.through t.0 t.1 t.2, both (plane_through t.0 t.1 t.2), through ts)
      (sym (map-append plane (both_ways (plane_through t.0 t.1 t.2)) (flat_map (λ t. both_ways (plane_through t.0 t.1 t.2)) ts)))

  candidates-map : (ps : List V3) → candidates (map point ps) ≡ map plane (candidates ps)
  candidates-map ps = rw (triples_of-map point ps) (through (triples_of ps))

  supports-map : (ps : List V3) (h : HalfSpace) → supports (plane h) (map point ps) ≡ supports h ps
  supports-map ps h = list_all-map (λ p. int_le (side_of (plane h) p) (pos 0)) (λ p. int_le (side_of h p) (pos 0)) point (λ p. ap (λ s. int_le s (pos 0)) (m.sides h p)) ps

  pub faces_of-map : (ps : List V3) → faces_of (map point ps) ≡ map plane (faces_of ps)
  faces_of-map ps =
      rw (candidates-map ps, filter-map (λ h. supports h (map point ps)) (λ h. supports h ps) plane (supports-map ps) (candidates ps))
      (distinct_by-map is_same_plane plane m.same_planes [] (filter (λ h. supports h ps) (candidates ps)))

  pub distinct-map : (ps : List V3) → distinct (map point ps) ≡ map point (distinct ps)
  distinct-map ps = distinct_by-map is_same point m.same_points [] ps

  pub are_coplanar-map : (ps : List V3) → are_coplanar (map point ps) ≡ are_coplanar ps
  are_coplanar-map ps =
      rw (triples_of-map point ps)
      (list_all-map (λ t. list_all (is_coplanar t.0 t.1 t.2) (map point ps)) (λ t. list_all (is_coplanar t.0 t.1 t.2) ps) (triple point)
      (λ t. list_all-map (is_coplanar (point t.0) (point t.1) (point t.2)) (is_coplanar t.0 t.1 t.2) point (λ p. ap (λ v. int_eq v (pos 0)) (m.volumes t.0 t.1 t.2 p)) ps)
      (triples_of ps))
