-- The plane through any three points of a list that are not collinear is a candidate, in whichever order the points are taken.
use Rattle.std.proofs.Common.{◌≡◌, ◌⊎◌, inl, inr, Option, Some, None, List, [], ◌∷◌, map, Contains, pos, sym, ap, ◌∙◌, subst, arith}
use Rattle.std.specs.Option.{option_map}
use Rattle.std.proofs.lemmas.List.Elements.{Contains-append_left, Contains-append_right}
use Rattle.gx_num.specs.declared.vector.V3.{V3}
use Rattle.gx_num.specs.Vector.{dot_of, difference_of, opposite_of}
use Rattle.gx_num.specs.Space.{HalfSpace}
use Rattle.gx_algebra.proofs.Terms as term
use Rattle.gx_algebra.proofs.Terms.{Term3, ◌≣◌, ◌≣³◌, ◌⊖◌, none}
use Rattle.gx_algebra.proofs.Identity.{identity, identity3, vector3}
use Rattle.gx_algebra.proofs.Lists.{Contains-head, Contains-tail, Contains-cases, Contains-map, Contains-flat_map}
use Rattle.gx_plane.specs.Plane.{flipped, normal_of, plane_with, plane_through}
use Rattle.gx_plane.specs.Between.{pairs_of, triples_of, both_ways, candidates}
use Rattle.gx_plane.proofs.PlaneFacts.{plane_with-point, plane_with-opposite, flipped-flipped}

-- ---- the points in another order
abbrev pub normal_term : Term3 → Term3 → Term3 → Term3
normal_term a b c = term.cross_of (term.difference_of b a) (term.difference_of c a)

normal_of-swap : (a b c : V3) → normal_of b a c ≡ opposite_of (normal_of a b c)
normal_of-swap = identity3 (vector3 ∷ vector3 ∷ vector3 ∷ []) (λ a b c. normal_term b a c ≣³ record { x = none ⊖ (normal_term a b c).x; y = none ⊖ (normal_term a b c).y; z = none ⊖ (normal_term a b c).z }) tt

normal_of-turn : (a b c : V3) → normal_of b c a ≡ normal_of a b c
normal_of-turn = identity3 (vector3 ∷ vector3 ∷ vector3 ∷ []) (λ a b c. normal_term b c a ≣³ normal_term a b c) tt

-- the second point is on the plane too
normal_of-second : (a b c : V3) → dot_of (normal_of a b c) (difference_of b a) ≡ pos 0
normal_of-second = identity (vector3 ∷ vector3 ∷ vector3 ∷ []) (λ a b c. term.dot_of (normal_term a b c) (term.difference_of b a) ≣ none) tt

second-point : (a b c : V3) → plane_with (normal_of a b c) b ≡ plane_through a b c
second-point a b c = plane_with-point (normal_of a b c) a b (normal_of-second a b c)

plane_through-turn : (a b c : V3) → plane_through b c a ≡ plane_through a b c
plane_through-turn a b c = ap (λ (n : V3). plane_with n b) (normal_of-turn a b c) ∙ second-point a b c

pub plane_through-swap : (a b c : V3) → plane_through b a c ≡ option_map flipped (plane_through a b c)
plane_through-swap a b c =
    ap (λ (n : V3). plane_with n b) (normal_of-swap a b c) ∙ plane_with-opposite (normal_of a b c) b ∙ ap (option_map flipped) (second-point a b c)

-- a plane takes three points
plane_through-twice : (p r : V3) → plane_through p p r ≡ None
plane_through-twice p r = ap (λ (n : V3). plane_with n p) (nothing p r)
  where
    nothing : (p r : V3) → normal_of p p r ≡ record { x = pos 0; y = pos 0; z = pos 0 }
    nothing = identity3 (vector3 ∷ vector3 ∷ []) (λ p r. normal_term p p r ≣³ record { x = none; y = none; z = none }) tt

-- ---- three points of a list
-- equal points, or a pair of the list in one order or the other
abbrev pub AreAPair : List V3 → V3 → V3 → Type 0
AreAPair points q r = (q ≡ r) ⊎ (Contains (pairs_of points) (q, r) ⊎ Contains (pairs_of points) (r, q))

pub AreAPair-any : (points : List V3) (q r : V3) → Contains points q → Contains points r → AreAPair points q r
AreAPair-any [] q r in_q in_r = absurd (omega (arith, in_q.1))
AreAPair-any (s ∷ points) q r in_q in_r =
    go (Contains-cases s points q in_q) (Contains-cases s points r in_r) (AreAPair-any points q r)
  where
    first : (u v : V3) → s ≡ u → Contains points v → Contains (pairs_of (s ∷ points)) (u, v)
    first u v e m =
        subst (λ (x : V3). Contains (pairs_of (s ∷ points)) (x, v)) e (Contains-append_left (map (λ w. (s, w)) points) (pairs_of points) (s, v) (Contains-map (λ w. (s, w)) points v m))

    later : AreAPair points q r → AreAPair (s ∷ points) q r
    later (inl e) = inl e
    later (inr (inl k)) = inr (inl (Contains-append_right (map (λ w. (s, w)) points) (pairs_of points) (q, r) k))
    later (inr (inr k)) = inr (inr (Contains-append_right (map (λ w. (s, w)) points) (pairs_of points) (r, q) k))

    go : (s ≡ q) ⊎ Contains points q → (s ≡ r) ⊎ Contains points r → (Contains points q → Contains points r → AreAPair points q r) → AreAPair (s ∷ points) q r
    go (inl e) (inl f) rest = inl (sym e ∙ f)
    go (inl e) (inr n) rest = inr (inl (first q r e n))
    go (inr m) (inl f) rest = inr (inr (first r q f m))
    go (inr m) (inr n) rest = later (rest m n)

-- the plane is through three points of a list in their order, or flipped is
record HasTriple (points : List V3) (h : HalfSpace) : Type 0 where
  triple : V3 × V3 × V3
  in_list : Contains (triples_of points) triple
  way : Contains (both_ways (plane_through triple.0 triple.1 triple.2)) h

way-first : (p q r : V3) (h : HalfSpace) → plane_through p q r ≡ Some h → Contains (both_ways (plane_through p q r)) h
way-first p q r h e = subst (λ (o : Option HalfSpace). Contains (both_ways o) h) (sym e) (Contains-head h (flipped h ∷ []))

way-second : (p q r : V3) (h : HalfSpace) → plane_through p q r ≡ Some (flipped h) → Contains (both_ways (plane_through p q r)) h
way-second p q r h e =
    subst (λ (o : Option HalfSpace). Contains (both_ways o) h) (sym e)
    (Contains-tail (flipped h) (flipped (flipped h) ∷ []) h (subst (λ (k : HalfSpace). Contains (k ∷ []) h) (sym (flipped-flipped h)) (Contains-head h [])))

HasTriple-any : (points : List V3) (p q r : V3) (h : HalfSpace) → Contains points p → Contains points q → Contains points r → plane_through p q r ≡ Some h → HasTriple points h
HasTriple-any [] p q r h in_p in_q in_r e = absurd (omega (arith, in_p.1))
HasTriple-any (s ∷ points) p q r h in_p in_q in_r e =
    go (Contains-cases s points p in_p) (Contains-cases s points q in_q) (Contains-cases s points r in_r) (λ l m n. HasTriple-any points p q r h l m n e)
  where
    twice : (u v w : V3) → u ≡ v → plane_through u v w ≡ Some h → ⊥
    twice u v w same through = no (sym through ∙ ap (λ (x : V3). plane_through u x w) (sym same) ∙ plane_through-twice u w)
      where
        no : Some h ≡ None → ⊥
        no z = cc

    with_s : V3 × V3 → V3 × V3 × V3
    with_s t = (s, t.0, t.1)

    -- the first point of the list, and two others
    first : (u v w : V3) → s ≡ u → Contains points v → Contains points w → plane_through u v w ≡ Some h → HasTriple (s ∷ points) h
    first u v w e m n through = pick (AreAPair-any points v w m n)
      where
        in_list : (x y : V3) → Contains (pairs_of points) (x, y) → Contains (triples_of (s ∷ points)) (u, x, y)
        in_list x y k =
            subst (λ (z : V3). Contains (triples_of (s ∷ points)) (z, x, y)) e (Contains-append_left (map with_s (pairs_of points)) (triples_of points) (s, x, y) (Contains-map with_s (pairs_of points) (x, y) k))

        pick : AreAPair points v w → HasTriple (s ∷ points) h
        pick (inl f) = absurd (twice v w u f (plane_through-turn u v w ∙ through))
        pick (inr (inl k)) = record { triple = (u, v, w); in_list = in_list v w k; way = way-first u v w h through }
        pick (inr (inr k)) = record {
          triple = (u, w, v);
          in_list = in_list w v k;
          way = way-second u w v h (plane_through-swap w u v ∙ ap (option_map flipped) (sym (plane_through-turn w u v) ∙ through));
        }

    later : HasTriple points h → HasTriple (s ∷ points) h
    later t = record { triple = t.triple; in_list = Contains-append_right (map with_s (pairs_of points)) (triples_of points) t.triple t.in_list; way = t.way }

    qrp : plane_through q r p ≡ Some h
    qrp = plane_through-turn p q r ∙ e

    rpq : plane_through r p q ≡ Some h
    rpq = plane_through-turn q r p ∙ qrp

    go : (s ≡ p) ⊎ Contains points p → (s ≡ q) ⊎ Contains points q → (s ≡ r) ⊎ Contains points r → (Contains points p → Contains points q → Contains points r → HasTriple points h) → HasTriple (s ∷ points) h
    go (inr l) (inr m) (inr n) rest = later (rest l m n)
    go (inl f) (inr m) (inr n) rest = first p q r f m n e
    go (inr l) (inl f) (inr n) rest = first q r p f n l qrp
    go (inr l) (inr m) (inl f) rest = first r p q f l m rpq
    go (inl f) (inl g) n rest = absurd (twice p q r (sym f ∙ g) e)
    go (inl f) (inr m) (inl g) rest = absurd (twice r p q (sym g ∙ f) rpq)
    go (inr l) (inl f) (inl g) rest = absurd (twice q r p (sym f ∙ g) qrp)

pub Contains-candidates : (points : List V3) (p q r : V3) (h : HalfSpace) → Contains points p → Contains points q → Contains points r → plane_through p q r ≡ Some h → Contains (candidates points) h
Contains-candidates points p q r h in_p in_q in_r e =
    let t = HasTriple-any points p q r h in_p in_q in_r e in
    Contains-flat_map (λ (t : V3 × V3 × V3). both_ways (plane_through t.0 t.1 t.2)) (triples_of points) t.triple h t.in_list t.way
