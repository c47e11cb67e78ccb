-- How faces are added to faces, triple by triple, and that none is missed.
use Rattle.std.proofs.Common.{◌≡◌, inl, inr, pos, Bool, true, false, ◌&&◌, not, cond, Option, Some, None, List, [], ◌∷◌, ◌++◌, map, filter, find, reverse, All, refl, sym, ap, ◌∙◌, subst, arith, true≢false}
use Rattle.std.specs.Prelude.{Contains}
use Rattle.std.specs.List.{list_any, cons_option}
use Rattle.std.proofs.lemmas.Bool.{and_parts}
use Rattle.std.proofs.lemmas.Bool.Decides.{Decides-int_eq}
use Rattle.std.proofs.lemmas.List.{append_assoc, append-nil, reverse-append, map-append}
use Rattle.std.proofs.lemmas.List.Sorted.{list_any-IsPermutation, IsPermutation-reverse}
use Rattle.std.proofs.lemmas.List.Elements.{All-nil, All-cons, All-head, All-tail, All-append, All-map, All-weaker, All-contains_itself, All-contains, Contains-append_left, filter-append}
use Rattle.std.proofs.lemmas.Grind.{flat_map-append}
use Rattle.std.proofs.lemmas.Map.Views.{Contains-from_any}
use Rattle.gx_num.specs.declared.vector.V3.{V3}
use Rattle.gx_num.specs.Vector.{dot_of, difference_of}
use Rattle.gx_num.specs.Space.{HalfSpace}
use Rattle.gx_algebra.proofs.Terms as term
use Rattle.gx_algebra.proofs.Terms.{◌≣◌, none}
use Rattle.gx_algebra.proofs.Identity.{identity, vector3}
use Rattle.gx_algebra.proofs.Order.{zero_of_mul}
use Rattle.gx_algebra.proofs.Lists.{All-append_parts}
use Rattle.std.proofs.lemmas.Simd.{map-map}
use Rattle.std.proofs.lemmas.List.Folds.{list_any_at}
use Rattle.gx_plane.specs.Plane.{side_of, supports, flipped, normal_of, divisor_of, plane_at, plane_through}
use Rattle.gx_plane.specs.Between.{pairs_of, triples_of, both_ways}
use Rattle.gx_plane.proofs.PlaneFacts.{plane_through_some, side_of-plane_at, side_of-flipped}
use Rattle.gx_plane.proofs.TripleFacts.{planes_of}
use Rattle.gx_convex.specs.Points.{distinct_by, are_coplanar}
use Rattle.gx_convex.specs.Faces.{is_same_plane, faces_of}
use Rattle.gx_convex.proofs.Distinct.{by_bool, All-from_distinct_by}
use Rattle.gx_convex.proofs.FaceFacts.{All-filter, All-from_filter, filter-planes, is_same_plane-same, Decides-is_same_plane}
use Rattle.gx_faces.specs.Steps.{is_on}
use Rattle.gx_faces.specs.Order.{triples_along, triples_from, faces_through, after, IsListed}
use borrow.Author.Differences.{ints}

-- ---- elements are kept once, at their first place
module _ {X : Type 0} (same : X → X → Bool) where
  abbrev pub kept_with : List X → List X → List X
  kept_with kept xs = kept ++ distinct_by same (reverse kept) xs

  at_reverse : (kept : List X) (x : X) → list_any (same x) (reverse kept) ≡ list_any (same x) kept
  at_reverse kept x = sym (list_any-IsPermutation (same x) kept (reverse kept) (IsPermutation-reverse kept))

  pub kept_with-old : (kept : List X) (x : X) (xs : List X) → list_any (same x) kept ≡ true → kept_with kept (x ∷ xs) ≡ kept_with kept xs
  kept_with-old kept x xs e =
      ap (λ (b : Bool). kept ++ cond b (distinct_by same (reverse kept) xs) (x ∷ distinct_by same (x ∷ reverse kept) xs)) (at_reverse kept x ∙ e)

  pub kept_with-new : (kept : List X) (x : X) (xs : List X) → list_any (same x) kept ≡ false → kept_with kept (x ∷ xs) ≡ kept_with (kept ++ x ∷ []) xs
  kept_with-new kept x xs e =
      ap (λ (b : Bool). kept ++ cond b (distinct_by same (reverse kept) xs) (x ∷ distinct_by same (x ∷ reverse kept) xs)) (at_reverse kept x ∙ e)
      ∙ sym (append_assoc kept (x ∷ []) (distinct_by same (x ∷ reverse kept) xs))
      ∙ ap (λ seen. (kept ++ x ∷ []) ++ distinct_by same seen xs) (sym (reverse-append kept (x ∷ [])))

  pub kept_with-append : (kept xs ys : List X) → kept_with kept (xs ++ ys) ≡ kept_with (kept_with kept xs) ys
  kept_with-append kept [] ys = ap (λ all. kept_with all ys) (sym (append-nil kept))
  kept_with-append kept (x ∷ xs) ys =
      by_bool (list_any (same x) kept)
      (λ e. kept_with-old kept x (xs ++ ys) e ∙ kept_with-append kept xs ys ∙ ap (λ all. kept_with all ys) (sym (kept_with-old kept x xs e)))
      (λ e. kept_with-new kept x (xs ++ ys) e ∙ kept_with-append (kept ++ x ∷ []) xs ys ∙ ap (λ all. kept_with all ys) (sym (kept_with-new kept x xs e)))

  -- those that are there already add nothing
  pub kept_with-all_old : (kept xs : List X) → All (λ x. list_any (same x) kept ≡ true) xs → kept_with kept xs ≡ kept
  kept_with-all_old kept [] h = append-nil kept
  kept_with-all_old kept (x ∷ xs) h =
      kept_with-old kept x xs (All-head (λ x. list_any (same x) kept ≡ true) x xs h) ∙ kept_with-all_old kept xs (All-tail (λ x. list_any (same x) kept ≡ true) x xs h)

-- ---- the faces of triples and then of more
pub faces_through-append : (points : List V3) (ts us : List (V3 × V3 × V3)) → faces_through points (ts ++ us) ≡ faces_through points ts ++ faces_through points us
faces_through-append points ts us =
    ap (filter (λ h. supports h points)) (flat_map-append (λ (t : V3 × V3 × V3). both_ways (plane_through t.0 t.1 t.2)) ts us)
    ∙ filter-append (λ h. supports h points) (planes_of ts) (planes_of us)

pub after-append : (points : List V3) (ts us : List (V3 × V3 × V3)) (faces : List HalfSpace) → after points (ts ++ us) faces ≡ after points us (after points ts faces)
after-append points ts us faces =
    ap (kept_with is_same_plane faces) (faces_through-append points ts us) ∙ kept_with-append is_same_plane faces (faces_through points ts) (faces_through points us)

-- ---- one triple
pub after-one : (points : List V3) → are_coplanar points ≡ false → (a b c : V3) (o : Option HalfSpace) (faces : List HalfSpace) → o ≡ find (λ h. supports h points) (both_ways (plane_through a b c)) → after points ((a, b, c) ∷ []) faces ≡ kept_with is_same_plane faces (cons_option o [])
after-one points solid a b c o faces found =
    ap (kept_with is_same_plane faces) (filter-planes points solid a b c [] ((a, b, c) ∷ []) o refl found)

-- ---- the planes of three points are through each
abbrev pub IsOn : V3 → V3 × V3 × V3 → Type 0
IsOn p t = dot_of (normal_of t.0 t.1 t.2) (difference_of p t.0) ≡ pos 0

on_first : (a b c : V3) → dot_of (normal_of a b c) (difference_of a a) ≡ pos 0
on_first = identity (vector3 ∷ vector3 ∷ vector3 ∷ []) (λ a b c. term.dot_of (term.cross_of (term.difference_of b a) (term.difference_of c a)) (term.difference_of a a) ≣ none) tt

on_second : (a b c : V3) → dot_of (normal_of a b c) (difference_of b a) ≡ pos 0
on_second = identity (vector3 ∷ vector3 ∷ vector3 ∷ []) (λ a b c. term.dot_of (term.cross_of (term.difference_of b a) (term.difference_of c a)) (term.difference_of b a) ≣ none) tt

on_third : (a b c : V3) → dot_of (normal_of a b c) (difference_of c a) ≡ pos 0
on_third = identity (vector3 ∷ vector3 ∷ vector3 ∷ []) (λ a b c. term.dot_of (term.cross_of (term.difference_of b a) (term.difference_of c a)) (term.difference_of c a) ≣ none) tt

ways_through : (p : V3) (t : V3 × V3 × V3) (o : Option HalfSpace) → plane_through t.0 t.1 t.2 ≡ o → IsOn p t → All (λ h. side_of h p ≡ pos 0) (both_ways o)
ways_through p t None e on = All-nil (λ h. side_of h p ≡ pos 0)
ways_through p t (Some h) e on =
    let n = normal_of t.0 t.1 t.2 in
    let through = plane_through_some t.0 t.1 t.2 h e in
    let there : side_of h p ≡ pos 0 =
    ap (λ (g : HalfSpace). side_of g p) through.same
    ∙ zero_of_mul (pos (divisor_of n)) (side_of (plane_at n t.0) p) (omega (arith, ints, through.apart)) (side_of-plane_at n t.0 p ∙ on) in
    All-cons (λ h. side_of h p ≡ pos 0) h (flipped h ∷ []) there
    (All-cons (λ h. side_of h p ≡ pos 0) (flipped h) [] (omega (arith, ints, there, side_of-flipped h p)) (All-nil (λ h. side_of h p ≡ pos 0)))

pub all_through : (points : List V3) (p : V3) (ts : List (V3 × V3 × V3)) → All (IsOn p) ts → All (λ h. side_of h p ≡ pos 0) (faces_through points ts)
all_through points p ts on =
    All-filter (λ h. side_of h p ≡ pos 0) (λ h. supports h points) (planes_of ts)
    (All-weaker (λ h. side_of h p ≡ pos 0) (λ h. supports h points ≡ true → side_of h p ≡ pos 0) (λ h e _. e) (planes_of ts) (over ts on))
  where
    over : (ts : List (V3 × V3 × V3)) → All (IsOn p) ts → All (λ h. side_of h p ≡ pos 0) (planes_of ts)
    over [] on = All-nil (λ h. side_of h p ≡ pos 0)
    over (t ∷ ts) on =
        All-append (λ h. side_of h p ≡ pos 0) (both_ways (plane_through t.0 t.1 t.2)) (planes_of ts)
        (ways_through p t (plane_through t.0 t.1 t.2) refl (All-head (IsOn p) t ts on))
        (over ts (All-tail (IsOn p) t ts on))

All-map_any : {X Y : Type 0} (P : Y → Type 0) (f : X → Y) (xs : List X) → ((x : X) → P (f x)) → All P (map f xs)
All-map_any P f xs each = All-map P f xs (All-weaker (Contains xs) (λ x. P (f x)) (λ x _. each x) xs (All-contains_itself xs))

pub on_from : (a : V3) (seconds : List V3) → All (IsOn a) (triples_from a seconds)
on_from a seconds = All-map_any (IsOn a) (λ (t : V3 × V3). (a, t.0, t.1)) (pairs_of seconds) (λ t. on_first a t.0 t.1)

pub on_along : (a b : V3) (thirds : List V3) → All (IsOn b) (triples_along a b thirds)
on_along a b thirds = All-map_any (IsOn b) (λ c. (a, b, c)) thirds (λ c. on_second a b c)

-- ---- planes that are listed
Contains-filter : {X : Type 0} (test : X → Bool) (xs : List X) (x : X) → Contains xs x → test x ≡ true → Contains (filter test xs) x
Contains-filter test xs x =
    All-contains (λ x. test x ≡ true → Contains (filter test xs) x) xs x
    (All-from_filter (Contains (filter test xs)) test xs (All-contains_itself (filter test xs)))

filter-none : {X : Type 0} (test : X → Bool) (xs : List X) → list_any test xs ≡ false → filter test xs ≡ []
filter-none test [] e = refl
filter-none test (x ∷ xs) e =
    by_bool (test x)
    (λ t. absurd (true≢false (rw t at e)))
    (λ n. rw n (filter-none test xs (rw n at e)))

-- through a point of all the triples they are among the planes that are through it
pub IsListed-through : (planes faces : List HalfSpace) (points : List V3) (p : V3) (ts : List (V3 × V3 × V3)) → All (IsOn p) ts → All (IsListed planes faces) (faces_through points ts) → All (IsListed (filter (λ h. is_on h p) planes) faces) (faces_through points ts)
IsListed-through planes faces points p ts on listed =
    let hs = faces_through points ts in
    All-weaker (Contains hs) (IsListed (filter (λ h. is_on h p) planes) faces)
    (λ h m. one h (All-contains (λ h. side_of h p ≡ pos 0) hs h (all_through points p ts on) m) (All-contains (IsListed planes faces) hs h listed m)) hs (All-contains_itself hs)
  where
    one : (h : HalfSpace) → side_of h p ≡ pos 0 → IsListed planes faces h → IsListed (filter (λ h. is_on h p) planes) faces h
    one h there (inr m) = inr m
    one h there (inl m) = inl (Contains-filter (λ h. is_on h p) planes h m ((Decides-int_eq (side_of h p) (pos 0)).1 there))

-- planes that are dropped are among the faces
pub all_listed : (planes faces : List HalfSpace) → All (IsListed planes faces) planes
all_listed planes faces = All-weaker (Contains planes) (IsListed planes faces) (λ h m. inl m) planes (All-contains_itself planes)

pub all_listed-closed : (planes faces : List HalfSpace) (p : V3) → All (IsListed (filter (λ h. not (is_on h p && list_any (is_same_plane h) faces)) planes) faces) planes
all_listed-closed planes faces p = All-weaker (Contains planes) (IsListed (filter left planes) faces) one planes (All-contains_itself planes)
  where
    left : HalfSpace → Bool
    left h = not (is_on h p && list_any (is_same_plane h) faces)

    one : (h : HalfSpace) → Contains planes h → IsListed (filter left planes) faces h
    one h m =
        by_bool (is_on h p && list_any (is_same_plane h) faces)
        (λ e. inr (Contains-from_any is_same_plane-same h faces (and_parts (is_on h p) (list_any (is_same_plane h) faces) e).1))
        (λ e. inl (Contains-filter left planes h m (ap not e)))

-- where no plane is open, each is among the faces
is_among-contained : (faces : List HalfSpace) (h : HalfSpace) → Contains faces h → list_any (is_same_plane h) faces ≡ true
is_among-contained faces h m = list_any_at (is_same_plane h) faces m.0 h m.1 (ap (is_same_plane h) m.2 ∙ (Decides-is_same_plane h h).1 refl)

pub none_left : (faces : List HalfSpace) (points : List V3) (ts : List (V3 × V3 × V3)) → All (IsListed [] faces) (faces_through points ts) → faces ≡ after points ts faces
none_left faces points ts listed =
    sym (kept_with-all_old is_same_plane faces (faces_through points ts) (All-weaker (IsListed [] faces) (λ h. list_any (is_same_plane h) faces ≡ true) one (faces_through points ts) listed))
  where
    one : (h : HalfSpace) → IsListed [] faces h → list_any (is_same_plane h) faces ≡ true
    one h (inr m) = is_among-contained faces h m
    one h (inl m) = absurd (omega (arith, m.1))

-- and where none is through the third point of a triple
pub none_missed : (planes faces : List HalfSpace) (points : List V3) (a b c : V3) → All (IsListed planes faces) (faces_through points ((a, b, c) ∷ [])) → list_any (λ h. is_on h c) planes ≡ false → faces ≡ after points ((a, b, c) ∷ []) faces
none_missed planes faces points a b c listed off =
    let ts = (a, b, c) ∷ [] in
    none_left faces points ts
    (subst (λ (hs : List HalfSpace). All (IsListed hs faces) (faces_through points ts)) (filter-none (λ h. is_on h c) planes off)
    (IsListed-through planes faces points c ts (All-cons (IsOn c) (a, b, c) [] (on_third a b c) (All-nil (IsOn c))) listed))

-- ---- the triples that are left
pub record AreLeft (planes : List HalfSpace) (points : List V3) (all : List HalfSpace) (ts : List (V3 × V3 × V3)) (faces : List HalfSpace) : Type 0 where
  pub listed : All (IsListed planes faces) (faces_through points ts)
  pub rest : after points ts faces ≡ all

pub triples_from-cons : (a b : V3) (thirds : List V3) → triples_from a (b ∷ thirds) ≡ triples_along a b thirds ++ triples_from a thirds
triples_from-cons a b thirds =
    map-append (λ (t : V3 × V3). (a, t.0, t.1)) (map (λ c. (b, c)) thirds) (pairs_of thirds)
    ∙ ap (λ (ts : List (V3 × V3 × V3)). ts ++ triples_from a thirds) (map-map (λ (t : V3 × V3). (a, t.0, t.1)) (λ c. (b, c)) thirds)

module _ (planes : List HalfSpace) (points : List V3) (all : List HalfSpace) where
  -- those of the next triples
  pub next_listed : (ts us left : List (V3 × V3 × V3)) (faces : List HalfSpace) → left ≡ ts ++ us → AreLeft planes points all left faces → All (IsListed planes faces) (faces_through points ts)
  next_listed ts us left faces is before =
      (All-append_parts (IsListed planes faces) (faces_through points ts) (faces_through points us)
      (rw (ap (faces_through points) is ∙ faces_through-append points ts us) at before.listed)).0

  -- those behind them, once they are added
  pub AreLeft-after : (ts us left : List (V3 × V3 × V3)) (faces missing now : List HalfSpace) → left ≡ ts ++ us → now ≡ after points ts faces → All (IsListed missing now) planes → AreLeft planes points all left faces → AreLeft missing points all us now
  AreLeft-after ts us left faces missing now is added kept before = record {
    listed = All-weaker (IsListed planes faces) (IsListed missing now) more (faces_through points us)
        (All-append_parts (IsListed planes faces) (faces_through points ts) (faces_through points us)
        (rw (ap (faces_through points) is ∙ faces_through-append points ts us) at before.listed)).1;
    rest = ap (after points us) added ∙ sym (after-append points ts us faces) ∙ ap (λ (ts : List (V3 × V3 × V3)). after points ts faces) (sym is) ∙ before.rest;
  }
    where
      more : (h : HalfSpace) → IsListed planes faces h → IsListed missing now h
      more h (inl m) = All-contains (IsListed missing now) planes h kept m
      more h (inr m) = inr (rw added (Contains-append_left faces (distinct_by is_same_plane (reverse faces) (faces_through points ts)) h m))

-- ---- all faces are those of all triples
pub listed_in_all : (planes : List HalfSpace) (points : List V3) → All (Contains planes) (faces_of points) → All (IsListed planes []) (faces_through points (triples_of points))
listed_in_all planes points all =
    All-weaker (Contains planes) (IsListed planes []) (λ h m. inl m) (faces_through points (triples_of points))
    (All-from_distinct_by is_same_plane is_same_plane-same (Contains planes) [] (faces_through points (triples_of points)) (All-nil (Contains planes)) all)
