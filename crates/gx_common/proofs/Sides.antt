-- Which crossings are in all the planes is told by the sides of their two points.
use Rattle.std.proofs.Common.{◌≡◌, ℕ, Bool, true, false, cond, ◌&&◌, ◌||◌, ℤ, pos, ◌+ℤ◌, ◌-ℤ◌, ◌*ℤ◌, ◌<ℤ◌, int_le, int_lt, unsigned_abs, List, [], ◌∷◌, ◌++◌, map, flat_map, filter, filter_map, Some, None, refl, sym, ap, ◌∙◌, arith}
use Rattle.std.specs.List.{list_all, list_any, zip, cons_option}
use Rattle.std.proofs.lemmas.Bool.{and_parts}
use Rattle.std.proofs.lemmas.List.Elements.{filter-append}
use Rattle.std.proofs.lemmas.List.Folds.{flat_map-map}
use Rattle.std.proofs.lemmas.Grind.{flat_map-append}
use Rattle.gx_num.specs.declared.vector.V3.{V3}
use Rattle.gx_num.specs.Space.{HalfSpace, normal_dot, is_in}
use Rattle.gx_num.specs.Vector4.{Vec4}
use Rattle.gx_algebra.proofs.Order.{mul_pos, mul_nonneg}
use Rattle.gx_plane.specs.Plane.{side_of}
use Rattle.gx_plane.specs.Between.{pairs_of}
use Rattle.gx_plane.proofs.PlaneFacts.{Decides-int_le}
use Rattle.gx_convex.proofs.Distinct.{by_bool}
use Rattle.gx_common.specs.Common.{point_of, mixed, crossing, crossings}
use Rattle.gx_common.specs.Sides.{Sided, sided, is_mixed_in, are_beyond, crossing_in, crossings_of_two, crossings_with, crossings_in}
use Rattle.gx_common.proofs.Levels.{side_of-mixed, int_le-difference}
use borrow.Author.Differences.{ints}

-- ---- a point between two others is in all planes
is_mixed_in-is_in : (hs : List HalfSpace) (k : ℕ) (p : V3) (l : ℕ) (q : V3) → is_mixed_in k (map (λ h. side_of h p) hs) l (map (λ h. side_of h q) hs) ≡ is_in hs (mixed k p l q)
is_mixed_in-is_in [] k p l q = refl
is_mixed_in-is_in (h ∷ hs) k p l q =
    ap (λ (b : Bool). b && is_mixed_in k (map (λ h. side_of h p) hs) l (map (λ h. side_of h q) hs)) (int_le-difference (normal_dot h (mixed k p l q)) (h.e *ℤ (mixed k p l q).w) (pos k *ℤ side_of h p +ℤ pos l *ℤ side_of h q) (side_of-mixed h k p l q))
    ∙ ap (λ (b : Bool). int_le (normal_dot h (mixed k p l q)) (h.e *ℤ (mixed k p l q).w) && b) (is_mixed_in-is_in hs k p l q)

-- a vertex is
pub sides_at_most : (hs : List HalfSpace) (p : V3) → list_all (λ h. int_le (side_of h p) (pos 0)) hs ≡ is_in hs (point_of p)
sides_at_most [] p = refl
sides_at_most (h ∷ hs) p =
    ap (λ (b : Bool). b && list_all (λ h. int_le (side_of h p) (pos 0)) hs) (int_le-difference (normal_dot h (point_of p)) (h.e *ℤ pos 1) (side_of h p) (whole (normal_dot h (point_of p)) h.e))
    ∙ ap (λ (b : Bool). int_le (normal_dot h (point_of p)) (h.e *ℤ pos 1) && b) (sides_at_most hs p)
  where
    whole : (s e : ℤ) → s -ℤ e ≡ s -ℤ e *ℤ pos 1
    whole s e = omega (arith, ints)

-- ---- the crossings of two points
zip-map : (hs : List HalfSpace) (f g : HalfSpace → ℤ) → zip (map f hs) (map g hs) ≡ map (λ h. (f h, g h)) hs
zip-map [] f g = refl
zip-map (h ∷ hs) f g = ap (λ ts. (f h, g h) ∷ ts) (zip-map hs f g)

-- one that is there, and in all, among others
one : (test : Vec4 → Bool) (b m : Bool) (x : Vec4) (xs ys : List Vec4) → m ≡ test x → xs ≡ filter test ys → cons_option (cond (b && m) (Some x) None) xs ≡ filter test (cons_option (cond b (Some x) None) ys)
one test false m x xs ys e f = f
one test true true x xs ys e f = rw (← e) (ap (λ zs. x ∷ zs) f)
one test true false x xs ys e f = rw (← e) f

crossings_of_two-sided : (hs : List HalfSpace) (p q : V3) → crossings_of_two (sided hs p) (sided hs q) ≡ filter (is_in hs) (filter_map (λ h. crossing h p q) hs)
crossings_of_two-sided hs p q = ap (filter_map (crossing_in (sided hs p) (sided hs q))) (zip-map hs (λ h. side_of h p) (λ h. side_of h q)) ∙ each hs
  where
    each : (gs : List HalfSpace) → filter_map (crossing_in (sided hs p) (sided hs q)) (map (λ h. (side_of h p, side_of h q)) gs) ≡ filter (is_in hs) (filter_map (λ h. crossing h p q) gs)
    each [] = refl
    each (g ∷ gs) =
        let k = unsigned_abs (side_of g q) in
        let l = unsigned_abs (side_of g p) in
        one (is_in hs) (int_lt (side_of g p *ℤ side_of g q) (pos 0)) (is_mixed_in k (map (λ h. side_of h p) hs) l (map (λ h. side_of h q) hs)) (mixed k p l q)
        (filter_map (crossing_in (sided hs p) (sided hs q)) (map (λ h. (side_of h p, side_of h q)) gs)) (filter_map (λ h. crossing h p q) gs)
        (is_mixed_in-is_in hs k p l q) (each gs)

-- ---- and of each two points of a list
pub crossings_in-sided : (hs : List HalfSpace) (ps : List V3) → crossings_in (map (sided hs) ps) ≡ filter (is_in hs) (crossings ps hs)
crossings_in-sided hs [] = refl
crossings_in-sided hs (p ∷ ps) =
    ap (λ xs. xs ++ crossings_in (map (sided hs) ps)) (with ps) ∙ ap (λ xs. filter (is_in hs) (flat_map (λ q. f (p, q)) ps) ++ xs) (crossings_in-sided hs ps)
    ∙ sym (ap (filter (is_in hs)) (flat_map-append f (map (λ q. (p, q)) ps) (pairs_of ps) ∙ ap (λ xs. xs ++ flat_map f (pairs_of ps)) (flat_map-map f (λ q. (p, q)) ps)) ∙ filter-append (is_in hs) (flat_map (λ q. f (p, q)) ps) (crossings ps hs))
  where
    f : V3 × V3 → List Vec4
    f t = filter_map (λ h. crossing h t.0 t.1) hs

    with : (qs : List V3) → crossings_with (sided hs p) (map (sided hs) qs) ≡ filter (is_in hs) (flat_map (λ q. f (p, q)) qs)
    with [] = refl
    with (q ∷ qs) =
        ap (λ xs. xs ++ crossings_with (sided hs p) (map (sided hs) qs)) (crossings_of_two-sided hs p q) ∙ ap (λ xs. filter (is_in hs) (f (p, q)) ++ xs) (with qs)
        ∙ sym (filter-append (is_in hs) (f (p, q)) (flat_map (λ q. f (p, q)) qs))

-- ---- two points beyond a plane have no crossing in all
not_in : (k l : ℕ) (ts : List (ℤ × ℤ)) → pos 0 <ℤ pos k → list_any (λ t. int_lt (pos 0) t.0 && int_lt (pos 0) t.1) ts ≡ true → list_all (λ t. int_le (pos k *ℤ t.0 +ℤ pos l *ℤ t.1) (pos 0)) ts ≡ false
not_in k l [] lt e = cc
not_in k l (t ∷ ts) lt e = go (int_le (pos k *ℤ t.0 +ℤ pos l *ℤ t.1) (pos 0)) (int_lt (pos 0) t.0 && int_lt (pos 0) t.1) refl refl e (not_in k l ts lt)
  where
    above : (int_lt (pos 0) t.0 && int_lt (pos 0) t.1) ≡ true → int_le (pos k *ℤ t.0 +ℤ pos l *ℤ t.1) (pos 0) ≡ true → ⊥
    above f g =
        let parts = and_parts (int_lt (pos 0) t.0) (int_lt (pos 0) t.1) f in
        let first : pos 0 <ℤ t.0 = grind (arith, ints, parts.0) in
        let second : pos 0 <ℤ t.1 = grind (arith, ints, parts.1) in
        omega (arith, ints, mul_pos (pos k) t.0 lt first, mul_nonneg (pos l) t.1 (omega (arith, ints)) (omega (arith, ints, second)), (Decides-int_le (pos k *ℤ t.0 +ℤ pos l *ℤ t.1) (pos 0)).0 g)

    go : (a b : Bool) → int_le (pos k *ℤ t.0 +ℤ pos l *ℤ t.1) (pos 0) ≡ a → (int_lt (pos 0) t.0 && int_lt (pos 0) t.1) ≡ b → (b || list_any (λ t. int_lt (pos 0) t.0 && int_lt (pos 0) t.1) ts) ≡ true → (list_any (λ t. int_lt (pos 0) t.0 && int_lt (pos 0) t.1) ts ≡ true → list_all (λ t. int_le (pos k *ℤ t.0 +ℤ pos l *ℤ t.1) (pos 0)) ts ≡ false) → (a && list_all (λ t. int_le (pos k *ℤ t.0 +ℤ pos l *ℤ t.1) (pos 0)) ts) ≡ false
    go false b f g h rest = refl
    go true true f g h rest = absurd (above g f)
    go true false f g h rest = rest h

pub none_beyond : (u v : Sided) → are_beyond u.sides v.sides ≡ true → crossings_of_two u v ≡ []
none_beyond u v e = each (zip u.sides v.sides)
  where
    nonzero : (s t : ℤ) → int_lt (s *ℤ t) (pos 0) ≡ true → pos 0 <ℤ pos (unsigned_abs t)
    nonzero s t f = grind (arith, ints, f)

    no : (t : ℤ × ℤ) → (int_lt (t.0 *ℤ t.1) (pos 0) && is_mixed_in (unsigned_abs t.1) u.sides (unsigned_abs t.0) v.sides) ≡ false
    no t = by_bool (int_lt (t.0 *ℤ t.1) (pos 0))
        (λ f. ap (λ (b : Bool). int_lt (t.0 *ℤ t.1) (pos 0) && b) (not_in (unsigned_abs t.1) (unsigned_abs t.0) (zip u.sides v.sides) (nonzero t.0 t.1 f) e) ∙ ap (λ (b : Bool). b && false) f)
        (λ f. ap (λ (b : Bool). b && is_mixed_in (unsigned_abs t.1) u.sides (unsigned_abs t.0) v.sides) f)

    each : (ts : List (ℤ × ℤ)) → filter_map (crossing_in u v) ts ≡ []
    each [] = refl
    each (t ∷ ts) = ap (λ (b : Bool). cons_option (cond b (Some (mixed (unsigned_abs t.1) u.point (unsigned_abs t.0) v.point)) None) (filter_map (crossing_in u v) ts)) (no t) ∙ each ts

-- ---- the crossing at a plane, by what its sides were found to be
pub crossing_at : (u v : Sided) (s t : ℤ) (opposite inside : Bool) → int_lt (s *ℤ t) (pos 0) ≡ opposite → is_mixed_in (unsigned_abs t) u.sides (unsigned_abs s) v.sides ≡ inside → cons_option (crossing_in u v (s, t)) [] ≡ cond (opposite && inside) (mixed (unsigned_abs t) u.point (unsigned_abs s) v.point ∷ []) []
crossing_at u v s t opposite inside e f =
    ap (λ (b : Bool). cons_option (cond (b && is_mixed_in (unsigned_abs t) u.sides (unsigned_abs s) v.sides) (Some x) None) []) e
    ∙ ap (λ (b : Bool). cons_option (cond (opposite && b) (Some x) None) []) f ∙ go (opposite && inside)
  where
    x : Vec4
    x = mixed (unsigned_abs t) u.point (unsigned_abs s) v.point

    go : (b : Bool) → cons_option (cond b (Some x) None) [] ≡ cond b (x ∷ []) []
    go true = refl
    go false = refl
