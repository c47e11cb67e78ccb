-- Loops that keep each element once, at its first place.
use Rattle.std.proofs.Common.{◌≡◌, ℕ, ◌+◌, ◌<◌, ◌&&◌, Bool, true, false, cond, List, [], ◌∷◌, ◌++◌, length, drop, get_or, reverse, sym, ap, ◌∙◌, add-one}
use Rattle.std.specs.List.{list_all, list_any}
use Rattle.std.proofs.Math.Seq.{drop-cons}
use Rattle.std.proofs.lemmas.List.{append_assoc, reverse-append}
use Rattle.std.proofs.lemmas.List.Sorted.{list_any-IsPermutation, IsPermutation-reverse}
use Rattle.gx_convex.specs.Points.{distinct_by}

pub drop-at : {X : Type 0} (xs : List X) (i : ℕ) (d : X) → i < length xs → drop i xs ≡ get_or xs i d ∷ drop (i + 1) xs
drop-at xs i d lt = rw add-one (drop-cons xs i d lt)

-- ---- each element is kept once, at its first place
module _ {X : Type 0} (same : X → X → Bool) where
  at_reverse : (kept : List X) (x : X) (xs : List X) (b : Bool) → list_any (same x) kept ≡ b
      → distinct_by same (reverse kept) (x ∷ xs) ≡ cond b (distinct_by same (reverse kept) xs) (x ∷ distinct_by same (x ∷ reverse kept) xs)
  at_reverse kept x xs b e =
      ap (λ b. cond b (distinct_by same (reverse kept) xs) (x ∷ distinct_by same (x ∷ reverse kept) xs)) (sym (list_any-IsPermutation (same x) kept (reverse kept) (IsPermutation-reverse kept)) ∙ e)

  pub first_time : (kept : List X) (x : X) (xs : List X) → list_any (same x) kept ≡ false → distinct_by same (reverse kept) (x ∷ xs) ≡ x ∷ distinct_by same (x ∷ reverse kept) xs
  first_time kept x xs e = at_reverse kept x xs false e

  pub passed_over : (kept now : List X) (x : X) (xs : List X) → now ≡ kept → list_any (same x) kept ≡ true → now ++ distinct_by same (reverse now) xs ≡ kept ++ distinct_by same (reverse kept) (x ∷ xs)
  passed_over kept now x xs is e = rw is (ap (λ ys. kept ++ ys) (sym (at_reverse kept x xs true e)))

  pub kept_now : (kept now : List X) (x : X) (xs : List X) → now ≡ kept ++ x ∷ [] → list_any (same x) kept ≡ false → now ++ distinct_by same (reverse now) xs ≡ kept ++ distinct_by same (reverse kept) (x ∷ xs)
  kept_now kept now x xs is e =
      ap (λ ys. ys ++ distinct_by same (reverse ys) xs) is ∙ ap (λ seen. (kept ++ x ∷ []) ++ distinct_by same seen xs) (reverse-append kept (x ∷ [])) ∙ append_assoc kept (x ∷ []) (distinct_by same (x ∷ reverse kept) xs) ∙ ap (λ ys. kept ++ ys) (sym (first_time kept x xs e))

-- ---- a test of all elements, one after another
pub list_all-hit : {X : Type 0} (test : X → Bool) (x : X) (rest xs : List X) → xs ≡ x ∷ rest → test x ≡ true → list_all test rest ≡ list_all test xs
list_all-hit test x rest xs e t = sym (ap (list_all test) e ∙ ap (λ (b : Bool). b && list_all test rest) t)

pub list_all-miss : {X : Type 0} (test : X → Bool) (x : X) (rest xs : List X) → xs ≡ x ∷ rest → test x ≡ false → false ≡ list_all test xs
list_all-miss test x rest xs e t = sym (ap (list_all test) e ∙ ap (λ (b : Bool). b && list_all test rest) t)
