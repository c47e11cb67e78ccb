-- Points offered to faces, one after another.
use Rattle.std.proofs.Common.{get_or, ◌≡◌, ℕ, ◌+◌, ◌<◌, ◌≤◌, zero, suc, true, List, [], ◌∷◌, ◌++◌, map, length, drop, find, Option, Some, None, refl, sym, ap, ◌∙◌, add-one, true≢false, arith}
use Rattle.std.specs.Option.{option_or, option_map, option_and_then, is_some}
use Rattle.std.proofs.Math.Seq.{drop-cons}
use Rattle.std.proofs.lemmas.Bool.{and_parts}
use Rattle.std.proofs.lemmas.List.Folds.{find-append}
use Rattle.gx_num.specs.Space.{HalfSpace}
use Rattle.gx_num.specs.Vector4.{Vec4}
use Rattle.gx_common.specs.Common.{is_strict, taken}
use Rattle.gx_common.specs.Slots.{empty, after_one, after, are_filled, points_in}
use Rattle.gx_common.specs.declared.slots.Slot.{Slot}

or_assoc : (o r s : Option Vec4) → option_or (option_or o r) s ≡ option_or o (option_or r s)
or_assoc None r s = refl
or_assoc (Some p) r s = refl

or_none : (o : Option Vec4) → option_or o None ≡ o
or_none None = refl
or_none (Some p) = refl

twice : (xs ys : List Vec4) (s : Slot) → after_one ys (after_one xs s) ≡ after_one (xs ++ ys) s
twice xs ys s =
    ap (λ (o : Option Vec4). record { face = s.face; point = o }) (or_assoc s.point (find (is_strict s.face) xs) (find (is_strict s.face) ys) ∙ ap (option_or s.point) (sym (find-append (is_strict s.face) xs ys)))

-- two lists offered one after the other are offered as one
pub after-append : (xs ys : List Vec4) (slots : List Slot) → after ys (after xs slots) ≡ after (xs ++ ys) slots
after-append xs ys [] = refl
after-append xs ys (s ∷ slots) = ap (λ (t : Slot). t ∷ after ys (after xs slots)) (twice xs ys s) ∙ ap (λ (ts : List Slot). after_one (xs ++ ys) s ∷ ts) (after-append xs ys slots)

pub after-nil : (slots : List Slot) → after [] slots ≡ slots
after-nil [] = refl
after-nil (s ∷ slots) = ap (λ (o : Option Vec4). record { face = s.face; point = o } ∷ after [] slots) (or_none s.point) ∙ ap (λ (ts : List Slot). s ∷ ts) (after-nil slots)

-- where no face wants a point, none is taken
pub after-filled : (xs : List Vec4) (slots : List Slot) → are_filled slots ≡ true → after xs slots ≡ slots
after-filled xs [] e = refl
after-filled xs (s ∷ slots) e =
    let parts = and_parts (is_some s.point) (are_filled slots) e in
    ap (λ (o : Option Vec4). record { face = s.face; point = o } ∷ after xs slots) (kept s.point (find (is_strict s.face) xs) parts.0) ∙ ap (λ (ts : List Slot). s ∷ ts) (after-filled xs slots parts.1)
  where
    kept : (o r : Option Vec4) → is_some o ≡ true → option_or o r ≡ o
    kept None r f = absurd (true≢false (sym f))
    kept (Some p) r f = refl

-- offered in two parts
pub offered_two : (xs ys : List Vec4) (slots now last : List Slot) → now ≡ after xs slots → last ≡ after ys now → last ≡ after (xs ++ ys) slots
offered_two xs ys slots now last e f = f ∙ ap (after ys) e ∙ after-append xs ys slots

-- where no face wants more after the first part
pub filled_one : (xs ys : List Vec4) (slots now : List Slot) → now ≡ after xs slots → are_filled now ≡ true → now ≡ after (xs ++ ys) slots
filled_one xs ys slots now e filled = offered_two xs ys slots now now e (sym (after-filled ys now filled))

-- what faces without points take is what is taken for them
pub points_in-after : (xs : List Vec4) (hs : List HalfSpace) → points_in (after xs (map empty hs)) ≡ taken xs hs
points_in-after xs [] = refl
points_in-after xs (h ∷ hs) = ap (λ (u : Option (List Vec4)). option_and_then (λ p. option_map (λ ps. p ∷ ps) u) (find (is_strict h) xs)) (points_in-after xs hs)

-- ---- loops that offer the points of each element of a list
pub drop-at : {X : Type 0} (xs : List X) (i : ℕ) (d : X) → i < length xs → drop i xs ≡ get_or xs i d ∷ drop (i + 1) xs
drop-at xs i d lt = rw add-one (drop-cons xs i d lt)

drop-past : {X : Type 0} (xs : List X) (i : ℕ) → length xs ≤ i → drop i xs ≡ []
drop-past [] zero le = refl
drop-past [] (suc i) le = refl
drop-past (x ∷ xs) zero le = absurd (omega (arith, le))
drop-past (x ∷ xs) (suc i) le = drop-past xs i (omega (arith, le))

module _ {X : Type 0} (f : List X → List Vec4) (g : X → List X → List Vec4) (cons : (x : X) (xs : List X) → f (x ∷ xs) ≡ g x xs ++ f xs) where
  -- what remains to be offered after the first element
  pub offered_first : (x : X) (xs all : List X) (before now : List Slot) → all ≡ x ∷ xs → now ≡ after (g x xs) before → after (f xs) now ≡ after (f all) before
  offered_first x xs all before now e is =
      ap (after (f xs)) is ∙ after-append (g x xs) (f xs) before ∙ ap (λ (ys : List Vec4). after ys before) (sym (ap f e ∙ cons x xs))

  -- the same where no face wants more
  pub filled_first : (x : X) (xs all : List X) (before now : List Slot) → all ≡ x ∷ xs → now ≡ after (g x xs) before → are_filled now ≡ true → now ≡ after (f all) before
  filled_first x xs all before now e is filled = sym (after-filled (f xs) now filled) ∙ offered_first x xs all before now e is

  -- nothing is offered from the end of the list
  pub offered_past : f [] ≡ [] → (xs : List X) (i : ℕ) (now : List Slot) → length xs ≤ i → after (f (drop i xs)) now ≡ now
  offered_past none xs i now le = ap (λ (ys : List X). after (f ys) now) (drop-past xs i le) ∙ ap (λ (ys : List Vec4). after ys now) none ∙ after-nil now
