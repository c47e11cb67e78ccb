-- Members of lists that were searched, filtered or joined.
use Rattle.std.proofs.Common.{◌≡◌, ◌⊎◌, inl, inr, Bool, true, false, cond, Option, Some, None, List, [], ◌∷◌, ◌++◌, reverse, filter, filter_map, flat_map, find, All, Contains, refl, sym, ap, ◌∙◌, subst}
use Rattle.std.specs.List.{cons_option, list_any}
use Rattle.std.proofs.lemmas.List.{append_assoc, reverse-append}
use Rattle.std.proofs.lemmas.List.Sorted.{list_any-IsPermutation, IsPermutation-reverse}
use Rattle.std.proofs.lemmas.List.Elements.{All-nil, All-cons, All-head, All-tail, All-append, All-contains, All-contains_itself}
use Rattle.std.proofs.Common.{arith}
use Rattle.gx_algebra.proofs.Lists.{Contains-head, Contains-tail, Contains-cases}
use Rattle.gx_convex.specs.Points.{distinct_by}
use Rattle.gx_convex.proofs.FaceFacts.{All-from_filter}

-- all members have the one, or the other holds
pub every_or : {X : Type 0} (P : X → Type 0) (Q : Type 0) (xs : List X) → ((x : X) → Contains xs x → P x ⊎ Q) → All P xs ⊎ Q
every_or P Q [] each = inl (All-nil P)
every_or P Q (x ∷ xs) each = step (each x (Contains-head x xs)) (every_or P Q xs (λ y c. each y (Contains-tail x xs y c)))
  where
    step : P x ⊎ Q → All P xs ⊎ Q → All P (x ∷ xs) ⊎ Q
    step (inr q) rest = inr q
    step (inl p) (inr q) = inr q
    step (inl p) (inl h) = inl (All-cons P x xs p h)

-- what a search finds is a member that passes
pub find_some : {X : Type 0} (test : X → Bool) (xs : List X) (x : X) → find test xs ≡ Some x → Contains xs x × (test x ≡ true)
find_some test [] x e = cc
find_some test (y ∷ xs) x e = go (test y) refl e (find_some test xs x)
  where
    some_same : Some y ≡ Some x → y ≡ x
    some_same z = cc

    go : (t : Bool) → test y ≡ t → cond t (Some y) (find test xs) ≡ Some x → (find test xs ≡ Some x → Contains xs x × (test x ≡ true)) → Contains (y ∷ xs) x × (test x ≡ true)
    go true f s rest = subst (λ z. Contains (y ∷ xs) z × (test z ≡ true)) (some_same s) (Contains-head y xs, f)
    go false f s rest = (Contains-tail y xs x (rest s).0, (rest s).1)

pub Contains-filter : {X : Type 0} (test : X → Bool) (xs : List X) (x : X) → Contains xs x → test x ≡ true → Contains (filter test xs) x
Contains-filter test xs x c =
    All-contains (λ y. test y ≡ true → Contains (filter test xs) y) xs x (All-from_filter (Contains (filter test xs)) test xs (All-contains_itself (filter test xs))) c

pub Contains-filter_map : {X Y : Type 0} (f : X → Option Y) (xs : List X) (x : X) (y : Y) → Contains xs x → f x ≡ Some y → Contains (filter_map f xs) y
Contains-filter_map f [] x y c s = absurd (omega (arith, c.1))
Contains-filter_map {Y = Y} f (z ∷ xs) x y c s = go (Contains-cases z xs x c) (λ k. Contains-filter_map f xs x y k s)
  where
    behind : (o : Option Y) → Contains (filter_map f xs) y → Contains (cons_option o (filter_map f xs)) y
    behind None k = k
    behind (Some w) k = Contains-tail w (filter_map f xs) y k

    go : (z ≡ x) ⊎ Contains xs x → (Contains xs x → Contains (filter_map f xs) y) → Contains (filter_map f (z ∷ xs)) y
    go (inl e) rest = subst (λ (o : Option Y). Contains (cons_option o (filter_map f xs)) y) (sym (ap f e ∙ s)) (Contains-head y (filter_map f xs))
    go (inr k) rest = behind (f z) (rest k)

pub All-filter_map : {X Y : Type 0} (P : Y → Type 0) (f : X → Option Y) (xs : List X) → ((x : X) (y : Y) → f x ≡ Some y → P y) → All P (filter_map f xs)
All-filter_map P f [] each = All-nil P
All-filter_map {Y = Y} P f (x ∷ xs) each = add (f x) (each x) (All-filter_map P f xs each)
  where
    add : (o : Option Y) → ((y : Y) → o ≡ Some y → P y) → All P (filter_map f xs) → All P (cons_option o (filter_map f xs))
    add None one rest = rest
    add (Some y) one rest = All-cons P y (filter_map f xs) (one y refl) rest

pub All-flat_map : {X Y : Type 0} (P : Y → Type 0) (f : X → List Y) (xs : List X) → All (λ x. All P (f x)) xs → All P (flat_map f xs)
All-flat_map P f [] h = All-nil P
All-flat_map P f (x ∷ xs) h =
    All-append P (f x) (flat_map f xs) (All-head (λ x. All P (f x)) x xs h) (All-flat_map P f xs (All-tail (λ x. All P (f x)) x xs h))

-- ---- loops that keep each element once, at its first place
module _ {X : Type 0} (same : X → X → Bool) where
  at_reverse : (kept : List X) (x : X) (xs : List X) (b : Bool) → list_any (same x) kept ≡ b → distinct_by same (reverse kept) (x ∷ xs) ≡ cond b (distinct_by same (reverse kept) xs) (x ∷ distinct_by same (x ∷ reverse kept) xs)
  at_reverse kept x xs b e =
      ap (λ b. cond b (distinct_by same (reverse kept) xs) (x ∷ distinct_by same (x ∷ reverse kept) xs)) (sym (list_any-IsPermutation (same x) kept (reverse kept) (IsPermutation-reverse kept)) ∙ e)

  pub passed_over : (kept : List X) (x : X) (xs : List X) → list_any (same x) kept ≡ true → kept ++ distinct_by same (reverse kept) xs ≡ kept ++ distinct_by same (reverse kept) (x ∷ xs)
  passed_over kept x xs e = ap (λ ys. kept ++ ys) (sym (at_reverse kept x xs true e))

  pub kept_now : (kept now : List X) (x : X) (xs : List X) → now ≡ kept ++ x ∷ [] → list_any (same x) kept ≡ false → now ++ distinct_by same (reverse now) xs ≡ kept ++ distinct_by same (reverse kept) (x ∷ xs)
  kept_now kept now x xs is e =
      ap (λ ys. ys ++ distinct_by same (reverse ys) xs) is ∙ ap (λ seen. (kept ++ x ∷ []) ++ distinct_by same seen xs) (reverse-append kept (x ∷ [])) ∙ append_assoc kept (x ∷ []) (distinct_by same (x ∷ reverse kept) xs) ∙ ap (λ ys. kept ++ ys) (sym (at_reverse kept x xs false e))
