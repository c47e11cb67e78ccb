-- What stands for each element of a list, written one after another.
use Rattle.std.proofs.Common.{◌≡◌, ℕ, ◌+◌, List, [], ◌∷◌, ◌++◌, take, drop, Option, Some, sym, ap, ◌∙◌, subst, append-nil, take-append-drop}
use Rattle.std.specs.Prelude.{slice_get, flat_map}
use Rattle.std.proofs.lemmas.List.{take_more}
use Rattle.std.proofs.lemmas.List.Concat.{flat_map-append}
use Rattle.std.proofs.lemmas.Option.{slice_get_within, get_or_from_slice_get}
use Rattle.gx_io.specs.Bytes.{with_after, AppendsFront}
use Rattle.gx_io.proofs.Joined.{with_after-twice, front-of_first, front-of_second}

flat_more : {X : Type 0} (f : X → List ℕ) (xs : List X) (i : ℕ) (x : X) → slice_get xs i ≡ Some x → flat_map f (take (i + 1) xs) ≡ flat_map f (take i xs) ++ f x
flat_more f xs i x e =
    ap (flat_map f) (take_more xs i x (slice_get_within xs i x e) ∙ ap (λ y. take i xs ++ y ∷ []) (get_or_from_slice_get xs i x x e))
    ∙ flat_map-append f (take i xs) (x ∷ []) ∙ ap (λ l. flat_map f (take i xs) ++ l) (append-nil (f x))

-- one more was written
pub series_more : {X : Type 0} (f : X → List ℕ) (xs : List X) (i : ℕ) (x : X) (old mid new : Option (List ℕ)) → slice_get xs i ≡ Some x
    → mid ≡ with_after old (flat_map f (take i xs)) → new ≡ with_after mid (f x) → new ≡ with_after old (flat_map f (take (i + 1) xs))
series_more f xs i x old mid new e so_far more =
    more ∙ ap (λ t. with_after t (f x)) so_far ∙ with_after-twice old (flat_map f (take i xs)) (f x) ∙ ap (with_after old) (sym (flat_more f xs i x e))

-- of one a front was written
pub series_stopped : {X : Type 0} (f : X → List ℕ) (xs : List X) (i : ℕ) (x : X) (old mid new : Option (List ℕ)) → slice_get xs i ≡ Some x
    → mid ≡ with_after old (flat_map f (take i xs)) → AppendsFront mid new (f x) → AppendsFront old new (flat_map f xs)
series_stopped f xs i x old mid new e so_far stopped =
    let parts = sym (flat_map-append f (take (i + 1) xs) (drop (i + 1) xs)) ∙ ap (flat_map f) (take-append-drop (i + 1) xs) in
    let front = front-of_second old new (flat_map f (take i xs)) (f x) (subst (λ t. AppendsFront t new (f x)) so_far stopped) in
    subst (AppendsFront old new) parts
    (front-of_first old new (flat_map f (take (i + 1) xs)) (flat_map f (drop (i + 1) xs)) (subst (AppendsFront old new) (sym (flat_more f xs i x e)) front))
