-- Texts that are written one after another.
use Rattle.std.proofs.Common.{◌≡◌, ℕ, ◌+◌, ◌<◌, List, [], ◌∷◌, ◌++◌, length, take, drop, get_or, Option, refl, sym, ap, ◌∙◌, subst, append_assoc, append-nil, take-append-drop}
use Rattle.std.specs.List.{concat}
use Rattle.std.proofs.lemmas.List.{take_more}
use Rattle.gx_io.specs.Bytes.{with_after, AppendsFront}
use Rattle.gx_io.proofs.Joined.{with_after-twice, front-of_first, front-of_second}

concat-append : (xs ys : List (List ℕ)) → concat (xs ++ ys) ≡ concat xs ++ concat ys
concat-append [] ys = refl
concat-append (x ∷ xs) ys = ap (λ l. x ++ l) (concat-append xs ys) ∙ sym (append_assoc x (concat xs) (concat ys))

concat-more : (ts : List (List ℕ)) (i : ℕ) → i < length ts → concat (take (i + 1) ts) ≡ concat (take i ts) ++ get_or ts i []
concat-more ts i below = rw (take_more ts i [] below, concat-append) (simp append-nil)

-- one more text was written
pub one_more_text : (ts : List (List ℕ)) (i : ℕ) (old : Option (List ℕ)) → i < length ts
    → with_after (with_after old (concat (take i ts))) (get_or ts i []) ≡ with_after old (concat (take (i + 1) ts))
one_more_text ts i old below = with_after-twice old (concat (take i ts)) (get_or ts i []) ∙ ap (with_after old) (sym (concat-more ts i below))

-- of the next text a front was written
pub written-front : (ts : List (List ℕ)) (i : ℕ) (old mid new : Option (List ℕ)) → i < length ts
    → mid ≡ with_after old (concat (take i ts)) → AppendsFront mid new (get_or ts i []) → AppendsFront old new (concat ts)
written-front ts i old mid new below so_far stopped =
    let parts : concat (take (i + 1) ts) ++ concat (drop (i + 1) ts) ≡ concat ts =
    sym (concat-append (take (i + 1) ts) (drop (i + 1) ts)) ∙ ap concat (take-append-drop (i + 1) ts) in
    let stopped' = subst (λ t. AppendsFront t new (get_or ts i [])) so_far stopped in
    subst (AppendsFront old new) parts
    (front-of_first old new (concat (take (i + 1) ts)) (concat (drop (i + 1) ts))
    (rw (concat-more ts i below) (front-of_second old new (concat (take i ts)) (get_or ts i []) stopped')))
