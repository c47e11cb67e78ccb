-- Points are coplanar where all volumes of four of them are 0.
use Rattle.std.proofs.Common.{◌≡◌, List, [], ◌∷◌, map, pos, ℤ, ◌-ℤ◌, All, refl, arith, get_or}
use Rattle.std.specs.Bool.{Decides}
use Rattle.std.specs.List.{list_all}
use Rattle.std.proofs.lemmas.Bool.Decides.{Decides-int_eq, Decides-like, Decides-by_and, same_from_decides}
use Rattle.std.proofs.lemmas.List.Elements.{All-nil, All-cons, All-head, All-tail, All-append, All-map, All-weaker}
use Rattle.gx_num.specs.declared.vector.V3.{V3}
use Rattle.gx_num.specs.Vector.{dot_of, difference_of}
use Rattle.gx_algebra.proofs.Ring.{Term}
use Rattle.gx_algebra.proofs.Terms as term
use Rattle.gx_algebra.proofs.Terms.{Term3, ◌≣◌, ◌⊖◌, none}
use Rattle.gx_algebra.proofs.Identity.{identity, vector3}
use Rattle.gx_plane.proofs.Candidates.{normal_term}
use Rattle.gx_plane.specs.Plane.{normal_of}
use Rattle.gx_plane.specs.Between.{pairs_of, triples_of}
use Rattle.gx_convex.specs.Points.{is_coplanar, are_coplanar, distinct}
use Rattle.gx_algebra.proofs.Lists.{All-append_parts, All-from_map}
use Rattle.gx_convex.proofs.Distinct.{All-distinct, All-from_distinct}
use borrow.Author.Differences.{ints}

-- six times the volume of a tetrahedron, with a sign
abbrev pub volume : V3 → V3 → V3 → V3 → ℤ
volume a b c p = dot_of (normal_of a b c) (difference_of p a)

abbrev pub volume_term : Term3 → Term3 → Term3 → Term3 → Term
volume_term a b c p = term.dot_of (normal_term a b c) (term.difference_of p a)

pub volume_swap_first : (a b c p : V3) → volume b a c p ≡ pos 0 -ℤ volume a b c p
volume_swap_first = identity (vector3 ∷ vector3 ∷ vector3 ∷ vector3 ∷ []) (λ a b c p. volume_term b a c p ≣ none ⊖ volume_term a b c p) tt

pub volume_swap_second : (a b c p : V3) → volume a c b p ≡ pos 0 -ℤ volume a b c p
volume_swap_second = identity (vector3 ∷ vector3 ∷ vector3 ∷ vector3 ∷ []) (λ a b c p. volume_term a c b p ≣ none ⊖ volume_term a b c p) tt

pub volume_swap_third : (a b c p : V3) → volume a b p c ≡ pos 0 -ℤ volume a b c p
volume_swap_third = identity (vector3 ∷ vector3 ∷ vector3 ∷ vector3 ∷ []) (λ a b c p. volume_term a b p c ≣ none ⊖ volume_term a b c p) tt

pub volume_same : (a c p : V3) → volume a a c p ≡ pos 0
volume_same = identity (vector3 ∷ vector3 ∷ vector3 ∷ []) (λ a c p. volume_term a a c p ≣ none) tt

-- ---- facts of all triples of a list
-- each member, with each member
abbrev AllTwo : (V3 → V3 → Type 0) → List V3 → Type 0
AllTwo R ps = All (λ a. All (R a) ps) ps

abbrev AllThree : (V3 → V3 → V3 → Type 0) → List V3 → Type 0
AllThree R ps = All (λ a. All (λ b. All (R a b) ps) ps) ps

AllTwo-cons : (R : V3 → V3 → Type 0) (x : V3) (xs : List V3) → R x x → All (R x) xs → All (λ a. R a x) xs → AllTwo R xs → AllTwo R (x ∷ xs)
AllTwo-cons R x xs one row column rest =
    All-cons (λ a. All (R a) (x ∷ xs)) x xs (All-cons (R x) x xs one row)
    (λ k d lt. All-cons (R (get_or xs k d)) x xs (column k d lt) (rest k d lt))

AllThree-cons : (R : V3 → V3 → V3 → Type 0) (x : V3) (xs : List V3) → ((a b c : V3) → R a b c → R b a c) → ((a b c : V3) → R a b c → R a c b) → ((a c : V3) → R a a c) → AllTwo (R x) xs → AllThree R xs → AllThree R (x ∷ xs)
AllThree-cons R x xs first second same with_x rest =
    All-cons (λ a. AllTwo (R a) (x ∷ xs)) x xs
    (AllTwo-cons (R x) x xs (same x x) (λ k d lt. same x (get_or xs k d)) (λ k d lt. second x x (get_or xs k d) (same x (get_or xs k d))) with_x)
    (λ k d lt.
    let a = get_or xs k d in
    AllTwo-cons (R a) x xs (first x a x (second x x a (same x a)))
    (λ m e mt. first x a (get_or xs m e) (with_x k d lt m e mt))
    (λ m e mt. second a x (get_or xs m e) (first x a (get_or xs m e) (with_x k d lt m e mt)))
    (rest k d lt))

AllTwo-from_pairs : (R : V3 → V3 → Type 0) → ((a b : V3) → R a b → R b a) → ((a : V3) → R a a) → (ps : List V3) → All (λ t. R t.0 t.1) (pairs_of ps) → AllTwo R ps
AllTwo-from_pairs R swap same [] h = All-nil (λ a. All (R a) [])
AllTwo-from_pairs R swap same (p ∷ ps) h =
    let parts = All-append_parts (λ t. R t.0 t.1) (map (λ q. (p, q)) ps) (pairs_of ps) h in
    let row = All-from_map {Y = V3} (λ t. R t.0 t.1) (λ q. (p, q)) ps parts.0 in
    AllTwo-cons R p ps (same p) row (All-weaker (R p) (λ a. R a p) (λ a. swap p a) ps row) (AllTwo-from_pairs R swap same ps parts.1)

AllThree-from_triples : (R : V3 → V3 → V3 → Type 0) → ((a b c : V3) → R a b c → R b a c) → ((a b c : V3) → R a b c → R a c b) → ((a c : V3) → R a a c) → (ps : List V3) → All (λ t. R t.0 t.1 t.2) (triples_of ps) → AllThree R ps
AllThree-from_triples R first second same [] h = All-nil (λ a. AllTwo (R a) [])
AllThree-from_triples R first second same (p ∷ ps) h =
    let parts = All-append_parts (λ t. R t.0 t.1 t.2) (map (λ (t : V3 × V3). (p, t.0, t.1)) (pairs_of ps)) (triples_of ps) h in
    AllThree-cons R p ps first second same
    (AllTwo-from_pairs (R p) (second p) (λ a. first a p a (second a a p (same a p))) ps
    (All-from_map {Y = V3 × V3} (λ t. R t.0 t.1 t.2) (λ t. (p, t.0, t.1)) (pairs_of ps) parts.0))
    (AllThree-from_triples R first second same ps parts.1)

AllTwo-tail : (R : V3 → V3 → Type 0) (p : V3) (ps : List V3) → AllTwo R (p ∷ ps) → AllTwo R ps
AllTwo-tail R p ps h =
    All-weaker (λ a. All (R a) (p ∷ ps)) (λ a. All (R a) ps) (λ a. All-tail (R a) p ps) ps (All-tail (λ a. All (R a) (p ∷ ps)) p ps h)

pairs_from_AllTwo : (R : V3 → V3 → Type 0) (ps : List V3) → AllTwo R ps → All (λ t. R t.0 t.1) (pairs_of ps)
pairs_from_AllTwo R [] h = All-nil (λ t. R t.0 t.1)
pairs_from_AllTwo R (p ∷ ps) h =
    All-append (λ t. R t.0 t.1) (map (λ q. (p, q)) ps) (pairs_of ps)
    (All-map (λ t. R t.0 t.1) (λ q. (p, q)) ps (All-tail (R p) p ps (All-head (λ a. All (R a) (p ∷ ps)) p ps h)))
    (pairs_from_AllTwo R ps (AllTwo-tail R p ps h))

triples_from_AllThree : (R : V3 → V3 → V3 → Type 0) (ps : List V3) → AllThree R ps → All (λ t. R t.0 t.1 t.2) (triples_of ps)
triples_from_AllThree R [] h = All-nil (λ t. R t.0 t.1 t.2)
triples_from_AllThree R (p ∷ ps) h =
    All-append (λ t. R t.0 t.1 t.2) (map (λ (t : V3 × V3). (p, t.0, t.1)) (pairs_of ps)) (triples_of ps)
    (All-map (λ t. R t.0 t.1 t.2) (λ (t : V3 × V3). (p, t.0, t.1)) (pairs_of ps)
    (pairs_from_AllTwo (R p) ps (AllTwo-tail (R p) p ps (All-head (λ a. AllTwo (R a) (p ∷ ps)) p ps h))))
    (triples_from_AllThree R ps
    (All-weaker (λ a. AllTwo (R a) (p ∷ ps)) (λ a. AllTwo (R a) ps) (λ a. AllTwo-tail (R a) p ps) ps (All-tail (λ a. AllTwo (R a) (p ∷ ps)) p ps h)))

-- ---- coplanar points
-- each of the points has volume 0 with the three
abbrev pub AreInPlane : List V3 → V3 → V3 → V3 → Type 0
AreInPlane ps a b c = All (λ p. volume a b c p ≡ pos 0) ps

-- each four of the points have volume 0
abbrev pub IsCoplanar : List V3 → Type 0
IsCoplanar ps = AllThree (AreInPlane ps) ps

pub Decides-triples : (ps : List V3) → Decides (are_coplanar ps) (All (λ t. AreInPlane ps t.0 t.1 t.2) (triples_of ps))
Decides-triples ps =
    Decides-by_and (λ t. list_all (is_coplanar t.0 t.1 t.2) ps) (λ t. AreInPlane ps t.0 t.1 t.2) (list_all (λ t. list_all (is_coplanar t.0 t.1 t.2) ps)) (λ t. three t.0 t.1 t.2 ps) refl (λ _ _. refl) (triples_of ps)
  where
    three : (a b c : V3) (ps : List V3) → Decides (list_all (is_coplanar a b c) ps) (AreInPlane ps a b c)
    three a b c =
        Decides-by_and (is_coplanar a b c) (λ p. volume a b c p ≡ pos 0) (list_all (is_coplanar a b c)) (λ p. Decides-int_eq (volume a b c p) (pos 0)) refl (λ _ _. refl)

pub Decides-are_coplanar : (ps : List V3) → Decides (are_coplanar ps) (IsCoplanar ps)
Decides-are_coplanar ps =
    Decides-like (are_coplanar ps)
    (AllThree-from_triples (AreInPlane ps)
    (λ a b c h k d lt. omega (arith, ints, h k d lt, volume_swap_first a b c (get_or ps k d)))
    (λ a b c h k d lt. omega (arith, ints, h k d lt, volume_swap_second a b c (get_or ps k d)))
    (λ a c k d lt. volume_same a c (get_or ps k d)) ps)
    (triples_from_AllThree (AreInPlane ps) ps)
    (Decides-triples ps)

IsCoplanar-moved : (ps qs : List V3) → ((P : V3 → Type 0) → All P ps → All P qs) → IsCoplanar ps → IsCoplanar qs
IsCoplanar-moved ps qs move h =
    move (λ a. AllTwo (AreInPlane qs a) qs)
    (λ k d lt. move (λ b. All (AreInPlane qs (get_or ps k d) b) qs)
    (λ m e mt. move (AreInPlane qs (get_or ps k d) (get_or ps m e))
    (λ n f nt. move (λ p. volume (get_or ps k d) (get_or ps m e) (get_or ps n f) p ≡ pos 0) (h k d lt m e mt n f nt))))

pub are_coplanar-distinct : (ps : List V3) → are_coplanar (distinct ps) ≡ are_coplanar ps
are_coplanar-distinct ps =
    same_from_decides (are_coplanar (distinct ps)) (are_coplanar ps) (Decides-are_coplanar (distinct ps))
    (Decides-like (are_coplanar ps) (IsCoplanar-moved ps (distinct ps) (λ P. All-distinct P ps)) (IsCoplanar-moved (distinct ps) ps (λ P. All-from_distinct P ps)) (Decides-are_coplanar ps))
