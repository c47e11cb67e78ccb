-- The first cut that is as good as each, from one cut after another.
use Rattle.std.proofs.Common.{◌≡◌, ℕ, ◌+◌, ◌<◌, refl, sym, ap, subst, ◌∙◌, arith, Bool, true, false, cond, List, [], ◌∷◌, ◌++◌, append_assoc, append-nil, length, map, filter, take, get_or, Option, None, Some, nat_lt, nat_le}
use Rattle.std.specs.Prelude.{◌&&◌, ◌||◌, ◌==◌}
use Rattle.std.specs.List.{AllByRecursion, find, list_all}
use Rattle.std.proofs.lemmas.Bool.Decides.{nat_tests}
use Rattle.std.proofs.lemmas.List.{take_more, map-append}
use Rattle.std.proofs.lemmas.List.Elements.{filter-append}
use Rattle.gx_num.specs.declared.extent.Extent.{Extent}
use Rattle.gx_voxel.specs.Cut.{Cut, longest_of, entries_of, is_as_good, best_of, is_worth_it, cut_along}
use Rattle.gx_refine.specs.Best.{better_of, best_with, candidates, IsFirstBest, IsBest}

-- ---- as good as: l members in the longest run and e in all are to m and f
abbrev as_good : ℕ → ℕ → ℕ → ℕ → Bool
as_good l e m f = nat_lt l m || (l == m && nat_le e f)

either : (l e m f : ℕ) → as_good l e m f ≡ false → as_good m f l e ≡ true
either l e m f h = grind (arith, nat_tests)

itself : (l e : ℕ) → as_good l e l e ≡ true
itself l e = grind (arith, nat_tests)

worse-worse : (l e m f n g : ℕ) → as_good l e m f ≡ false → as_good m f n g ≡ false → as_good l e n g ≡ false
worse-worse l e m f n g h k = grind (arith, nat_tests)

good-worse : (l e m f n g : ℕ) → as_good m f l e ≡ true → as_good m f n g ≡ false → as_good l e n g ≡ false
good-worse l e m f n g h k = grind (arith, nat_tests)

-- ---- lists
module _ {X : Type 0} (P : X → Type 0) where
  all-append : (xs ys : List X) → AllByRecursion P xs → AllByRecursion P ys → AllByRecursion P (xs ++ ys)
  all-append [] ys h k = k
  all-append (x ∷ xs) ys h k = (h.0, all-append xs ys h.1 k)

all-map : {X : Type 0} (P Q : X → Type 0) → ((x : X) → P x → Q x) → (xs : List X) → AllByRecursion P xs → AllByRecursion Q xs
all-map P Q f [] h = tt
all-map P Q f (x ∷ xs) h = (f x h.0, all-map P Q f xs h.1)

module _ {X : Type 0} (test : X → Bool) where
  list_all-is : (xs : List X) → AllByRecursion (λ x. test x ≡ true) xs → list_all test xs ≡ true
  list_all-is [] h = refl
  list_all-is (x ∷ xs) h = let one = h.0 in let rest = list_all-is xs h.1 in cc

  list_all-not : (front : List X) (x : X) (back : List X) → test x ≡ false → list_all test (front ++ x ∷ back) ≡ false
  list_all-not [] x back h = cc
  list_all-not (y ∷ front) x back h = go (test y) (list_all-not front x back h)
    where
      go : (b : Bool) → list_all test (front ++ x ∷ back) ≡ false → (b && list_all test (front ++ x ∷ back)) ≡ false
      go true rest = rest
      go false rest = refl

  find-is : (front : List X) (x : X) (back : List X) → AllByRecursion (λ y. test y ≡ false) front → test x ≡ true → find test (front ++ x ∷ back) ≡ Some x
  find-is [] x back h k = ap (λ b. cond b (Some x) (find test back)) k
  find-is (y ∷ front) x back h k = ap (λ b. cond b (Some y) (find test (front ++ x ∷ back))) h.0 ∙ find-is front x back h.1 k

-- ---- the best
best-by : (front : List Cut) (best : Cut) (back : List Cut) → AllByRecursion (λ c. is_as_good c best ≡ false) front → AllByRecursion (λ c. is_as_good best c ≡ true) back → best_of (front ++ best ∷ back) ≡ Some best
best-by front best back before after =
    find-is (λ c. list_all (is_as_good c) (front ++ best ∷ back)) front best back
    (all-map (λ c. is_as_good c best ≡ false) (λ c. list_all (is_as_good c) (front ++ best ∷ back) ≡ false) (λ c worse. list_all-not (is_as_good c) front best back worse) front before)
    (list_all-is (is_as_good best) (front ++ best ∷ back) (all-append (λ c. is_as_good best c ≡ true) front (best ∷ back)
    (all-map (λ c. is_as_good c best ≡ false) (λ c. is_as_good best c ≡ true) (λ c worse. either (longest_of c.runs) (entries_of c.runs) (longest_of best.runs) (entries_of best.runs) worse) front before)
    (itself (longest_of best.runs) (entries_of best.runs), after)))

pub best-is : (cuts : List Cut) (best : Option Cut) → IsBest cuts best → best ≡ best_of cuts
best-is cuts None h = sym (ap best_of h)
best-is cuts (Some best) h = sym (ap best_of h.split ∙ best-by h.front best h.back h.before h.after)

pub best-more : (cuts : List Cut) (best : Option Cut) (cut : Cut) → IsBest cuts best → IsBest (cuts ++ cut ∷ []) (Some (better_of best cut))
best-more cuts None cut h = record { front = []; back = []; split = ap (λ l. l ++ cut ∷ []) h; before = tt; after = tt }
best-more cuts (Some best) cut h = go (is_as_good best cut) refl
  where
    go : (b : Bool) → is_as_good best cut ≡ b → IsFirstBest (cuts ++ cut ∷ []) (cond b best cut)
    go true good = record {
      front = h.front;
      back = h.back ++ cut ∷ [];
      split = ap (λ l. l ++ cut ∷ []) h.split ∙ append_assoc h.front (best ∷ h.back) (cut ∷ []);
      before = h.before;
      after = all-append (λ c. is_as_good best c ≡ true) h.back (cut ∷ []) h.after (good, tt);
    }
    go false worse = record {
      front = cuts;
      back = [];
      split = refl;
      before = subst (AllByRecursion (λ c. is_as_good c cut ≡ false)) (sym h.split) (all-append (λ c. is_as_good c cut ≡ false) h.front (best ∷ h.back)
          (all-map (λ c. is_as_good c best ≡ false) (λ c. is_as_good c cut ≡ false) (λ c e. worse-worse (longest_of c.runs) (entries_of c.runs) (longest_of best.runs) (entries_of best.runs) (longest_of cut.runs) (entries_of cut.runs) e worse) h.front h.before)
          (worse, all-map (λ c. is_as_good best c ≡ true) (λ c. is_as_good c cut ≡ false) (λ c e. good-worse (longest_of c.runs) (entries_of c.runs) (longest_of best.runs) (entries_of best.runs) (longest_of cut.runs) (entries_of cut.runs) e worse) h.back h.after));
      after = tt;
    }

-- ---- one axis more
module _ (at : ℕ → Extent) (ks axes : List ℕ) (i : ℕ) (h : i < length axes) where
  abbrev next-cut : Cut
  next-cut = cut_along at ks (get_or axes i 0)

  more : candidates at ks (take (i + 1) axes) ≡ candidates at ks (take i axes) ++ filter (is_worth_it (length ks)) (next-cut ∷ [])
  more =
      ap (candidates at ks) (take_more axes i 0 h)
      ∙ ap (filter (is_worth_it (length ks))) (map-append (cut_along at ks) (take i axes) (get_or axes i 0 ∷ []))
      ∙ filter-append (is_worth_it (length ks)) (map (cut_along at ks) (take i axes)) (next-cut ∷ [])

  pub best-next : (best next : Option Cut) (cut : Cut) → IsBest (candidates at ks (take i axes)) best → cut ≡ next-cut → next ≡ best_with (length ks) best cut → IsBest (candidates at ks (take (i + 1) axes)) next
  best-next best next cut h e f =
      subst (λ l. IsBest l next) (sym more) (subst (IsBest (candidates at ks (take i axes) ++ filter (is_worth_it (length ks)) (next-cut ∷ []))) (sym (f ∙ ap (best_with (length ks) best) e)) (go (is_worth_it (length ks) next-cut)))
    where
      go : (b : Bool) → IsBest (candidates at ks (take i axes) ++ cond b (next-cut ∷ []) []) (cond b (Some (better_of best next-cut)) best)
      go true = best-more (candidates at ks (take i axes)) best next-cut h
      go false = subst (λ l. IsBest l best) (sym (append-nil (candidates at ks (take i axes)))) h
