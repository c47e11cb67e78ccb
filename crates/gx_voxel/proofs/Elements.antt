-- Some elements of lists, all of them, and what is found among them.
use Rattle.std.proofs.Common.{◌≡◌, ℕ, suc, inl, inr, arith, refl, sym, ap, subst, Bool, true, false, List, [], ◌∷◌, ◌++◌, filter, cond, map, length, nat_lt, None, Some}
use Rattle.std.specs.Prelude.{flat_map}
use Rattle.std.specs.List.{All, AllByRecursion, find, list_all}
use Rattle.gx_num.specs.declared.extent.Extent.{Extent}
use Rattle.gx_voxel.specs.Cut.{Cut, cut_along, cut_of, best_of, is_as_good, is_worth_it}
use Rattle.gx_offers.specs.Offers.{AnyByRecursion, IsOneOf}

-- what holds of both values holds of the one that a test takes
pub by_test : {X : Type 0} (P : X → Type 0) (b : Bool) (x y : X) → (b ≡ true → P x) → (b ≡ false → P y) → P (cond b x y)
by_test P true x y h k = h refl
by_test P false x y h k = k refl

module _ {X : Type 0} (P : X → Type 0) where
  pub any-map : (Q : X → Type 0) → ((x : X) → P x → Q x) → (xs : List X) → AnyByRecursion P xs → AnyByRecursion Q xs
  any-map Q f [] h = h
  any-map Q f (x ∷ xs) (inl h) = inl (f x h)
  any-map Q f (x ∷ xs) (inr h) = inr (any-map Q f xs h)

  pub any-right : (xs ys : List X) → AnyByRecursion P ys → AnyByRecursion P (xs ++ ys)
  any-right [] ys h = h
  any-right (x ∷ xs) ys h = inr (any-right xs ys h)

  pub any-left : (xs ys : List X) → AnyByRecursion P xs → AnyByRecursion P (xs ++ ys)
  any-left [] ys h = absurd h
  any-left (x ∷ xs) ys (inl h) = inl h
  any-left (x ∷ xs) ys (inr h) = inr (any-left xs ys h)

  -- what is found among elements that have a property
  found : (test : X → Bool) (xs : List X) → AllByRecursion P xs → (x : X) → find test xs ≡ Some x → P x
  found test [] all x = λ e. absurd (cc)
  found test (y ∷ xs) all x =
      by_test (λ o. o ≡ Some x → P x) (test y) (Some y) (find test xs) (λ _ e. let same : y ≡ x = cc in subst P same all.0) (λ _ e. found test xs all.1 x e)

  all-filter : (test : X → Bool) (xs : List X) → AllByRecursion P xs → AllByRecursion P (filter test xs)
  all-filter test [] all = tt
  all-filter test (x ∷ xs) all =
      by_test (AllByRecursion P) (test x) (x ∷ filter test xs) (filter test xs) (λ _. (all.0, all-filter test xs all.1)) (λ _. all-filter test xs all.1)

pub any-flat_map : {X Y : Type 0} (P : X → Type 0) (Q : Y → Type 0) (f : X → List Y) → ((x : X) → P x → AnyByRecursion Q (f x)) → (xs : List X) → AnyByRecursion P xs → AnyByRecursion Q (flat_map f xs)
any-flat_map P Q f each [] h = absurd h
any-flat_map P Q f each (x ∷ xs) (inl h) = any-left Q (f x) (flat_map f xs) (each x h)
any-flat_map P Q f each (x ∷ xs) (inr h) = any-right Q (f x) (flat_map f xs) (any-flat_map P Q f each xs h)

-- what passes a filter stays
pub kept : (test : ℕ → Bool) (ks : List ℕ) (k : ℕ) → IsOneOf k ks → test k ≡ true → IsOneOf k (filter test ks)
kept test [] k one e = absurd one
kept test (j ∷ ks) k (inl same) e = by_test (IsOneOf k) (test j) (j ∷ filter test ks) (filter test ks) (λ _. inl same) (λ f. absurd (cc (ap test same)))
kept test (j ∷ ks) k (inr one) e = by_test (IsOneOf k) (test j) (j ∷ filter test ks) (filter test ks) (λ _. inr (kept test ks k one e)) (λ _. kept test ks k one e)

-- what holds of each cut along an axis that is left holds of the one that is chosen
pub cut-is : (at : ℕ → Extent) (ks : List ℕ) (P : Cut → Type 0) (axes : List ℕ) → ((axis : ℕ) → IsOneOf axis axes → P (cut_along at ks axis)) → (cut : Cut) → cut_of at ks axes ≡ Some cut → P cut
unfolding cut_of
cut-is at ks P axes each cut =
    let cuts : List Cut = filter (is_worth_it (length ks)) (map (cut_along at ks) axes) in
    by_test (λ o. o ≡ Some cut → P cut) (nat_lt (length ks) 4) None (best_of cuts) (λ _ e. absurd (cc))
    (λ _ e. found P (λ c. list_all (is_as_good c) cuts) cuts (all-filter P (is_worth_it (length ks)) (map (cut_along at ks) axes) (all axes each)) cut e)
  where
    all : (axes : List ℕ) → ((axis : ℕ) → IsOneOf axis axes → P (cut_along at ks axis)) → AllByRecursion P (map (cut_along at ks) axes)
    all [] each = tt
    all (axis ∷ axes) each = (each axis (inl refl), all axes (λ a one. each a (inr one)))

-- what holds of each number holds of one of them
pub all-one : (P : ℕ → Type 0) (ks : List ℕ) (k : ℕ) → All P ks → IsOneOf k ks → P k
all-one P [] k all one = absurd one
all-one P (j ∷ ks) k all (inl e) = subst P (sym e) (all 0 j (omega arith))
all-one P (j ∷ ks) k all (inr one) = all-one P ks k (λ i d h. all (suc i) d (omega arith)) one
