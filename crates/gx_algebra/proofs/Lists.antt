-- What holds of all of a list, by its parts; the members of a list that a function made.
use Rattle.std.proofs.Common.{◌≡◌, ◌⊎◌, inl, inr, zero, suc, Bool, true, false, cond, Some, None, List, [], ◌∷◌, ◌++◌, map, flat_map, find, All, refl, sym, ap, ◌∙◌, subst, arith}
use Rattle.std.specs.Prelude.{Contains}
use Rattle.std.proofs.lemmas.List.Elements.{All-nil, All-cons, All-head, All-tail, All-from_recursion, All-map, All-weaker, All-contains, All-contains_itself, Contains-append_left, Contains-append_right}

pub All-four : {X : Type 0} (P : X → Type 0) (a b c d : X) → P a → P b → P c → P d → All P (a ∷ b ∷ c ∷ d ∷ [])
All-four P a b c d at_a at_b at_c at_d = All-from_recursion P (a ∷ b ∷ c ∷ d ∷ []) (at_a, (at_b, (at_c, (at_d, tt))))

pub All-append_parts : {X : Type 0} (P : X → Type 0) (xs ys : List X) → All P (xs ++ ys) → All P xs × All P ys
All-append_parts P [] ys h = (All-nil P, h)
All-append_parts P (x ∷ xs) ys h =
    let rest = All-append_parts P xs ys (All-tail P x (xs ++ ys) h) in
    (All-cons P x xs (All-head P x (xs ++ ys) h) rest.0, rest.1)

pub All-from_map : {X Y : Type 0} (P : X → Type 0) (f : Y → X) (ys : List Y) → All P (map f ys) → All (λ y. P (f y)) ys
All-from_map P f [] h = All-nil (λ y. P (f y))
All-from_map P f (y ∷ ys) h =
    All-cons (λ y. P (f y)) y ys (All-head P (f y) (map f ys) h) (All-from_map P f ys (All-tail P (f y) (map f ys) h))

pub Contains-unmap : {X Y : Type 0} (f : Y → X) (ys : List Y) (x : X) → Contains (map f ys) x → (y : Y) × Contains ys y × (f y ≡ x)
Contains-unmap {Y = Y} f ys x h =
    All-contains (λ z. (y : Y) × Contains ys y × (f y ≡ z)) (map f ys) x
    (All-map (λ z. (y : Y) × Contains ys y × (f y ≡ z)) f ys (All-weaker (Contains ys) (λ z. (y : Y) × Contains ys y × (f y ≡ f z)) (λ z k. (z, k, refl)) ys (All-contains_itself ys))) h

-- ---- members
pub Contains-head : {X : Type 0} (x : X) (xs : List X) → Contains (x ∷ xs) x
Contains-head x xs = (0, omega arith, refl)

pub Contains-tail : {X : Type 0} (x : X) (xs : List X) (y : X) → Contains xs y → Contains (x ∷ xs) y
Contains-tail x xs y m = (suc m.0, omega (arith, m.1), m.2)

pub Contains-cases : {X : Type 0} (x : X) (xs : List X) (y : X) → Contains (x ∷ xs) y → (x ≡ y) ⊎ Contains xs y
Contains-cases x xs y (zero, lt, e) = inl e
Contains-cases x xs y (suc k, lt, e) = inr (k, omega arith, e)

pub Contains-map : {X Y : Type 0} (f : X → Y) (xs : List X) (x : X) → Contains xs x → Contains (map f xs) (f x)
Contains-map f [] x m = absurd (omega (arith, m.1))
Contains-map f (y ∷ xs) x m = go (Contains-cases y xs x m) (Contains-map f xs x)
  where
    go : (y ≡ x) ⊎ Contains xs x → (Contains xs x → Contains (map f xs) (f x)) → Contains (map f (y ∷ xs)) (f x)
    go (inl e) rest = subst (λ z. Contains (map f (y ∷ xs)) (f z)) e (Contains-head (f y) (map f xs))
    go (inr k) rest = Contains-tail (f y) (map f xs) (f x) (rest k)

pub Contains-flat_map : {X Y : Type 0} (f : X → List Y) (xs : List X) (x : X) (y : Y) → Contains xs x → Contains (f x) y → Contains (flat_map f xs) y
Contains-flat_map f [] x y m k = absurd (omega (arith, m.1))
Contains-flat_map f (z ∷ xs) x y m k = go (Contains-cases z xs x m) (λ n. Contains-flat_map f xs x y n k)
  where
    go : (z ≡ x) ⊎ Contains xs x → (Contains xs x → Contains (flat_map f xs) y) → Contains (flat_map f (z ∷ xs)) y
    go (inl e) rest = Contains-append_left (f z) (flat_map f xs) y (subst (λ v. Contains (f v) y) (sym e) k)
    go (inr n) rest = Contains-append_right (f z) (flat_map f xs) y (rest n)

-- what a search does not find, no member is
pub find-none : {X : Type 0} (test : X → Bool) (xs : List X) (x : X) → find test xs ≡ None → Contains xs x → test x ≡ false
find-none test [] x e m = absurd (omega (arith, m.1))
find-none test (y ∷ xs) x e m = go (test y) refl e (Contains-cases y xs x m) (find-none test xs x)
  where
    go : (b : Bool) → test y ≡ b → cond b (Some y) (find test xs) ≡ None → (y ≡ x) ⊎ Contains xs x → (find test xs ≡ None → Contains xs x → test x ≡ false) → test x ≡ false
    go true t e k rest = cc
    go false t e (inl same) rest = ap test (sym same) ∙ t
    go false t e (inr n) rest = rest e n
