-- Forms that read printed words back, on the grid of 1 mm.
use Rattle.std.proofs.Common.{◌≡◌, ℕ, ◌+◌, ◌^◌, ◌<◌, ◌≤◌, ℤ, unsigned_abs, true, List, [], ◌∷◌, ◌++◌, flat_map, length, All, Some, Ok, refl, sym, ap, ◌∙◌, arith, append_assoc, append-nil}
use Rattle.std.specs.Prelude.{int_le, ◌&&◌, ◌==◌, not, nat_le, slice_index}
use Rattle.std.specs.Fmt.{signed_decimal}
use Rattle.std.proofs.lemmas.Bool.{and_parts, leb-true}
use Rattle.std.proofs.lemmas.List.Elements.{All-nil, All-cons, All-append, All-weaker, All-head, All-tail}
use Rattle.gx_num.specs.declared.vector.TheConstants.{M}
use Rattle.gx_num.specs.declared.vector.V3.{V3}
use Rattle.gx_num.specs.Vector.{IsWithin}
use Rattle.gx_table.specs.declared.fault.FaultName.{FaultName}
use Rattle.gx_table.specs.Table.{TableEntry, number_in}
use Rattle.gx_text.specs.Names.{is_name_of}
use Rattle.gx_expr.specs.Param.{Param}
use Rattle.gx_form.specs.Form.{Outcome, and_then, ◌>>=◌, ◌>>◌, pure, collect_from}
use Rattle.gx_decl.specs.Words.{Words, Reader, end, left, name, steps, whole, row_of}
use Rattle.gx_decl.specs.Lines.{vector}
use Rattle.gx_canon.specs.Words.{vector_words}
use Rattle.gx_canon.specs.Canonical.{millimetre}
use Rattle.gx_canon.specs.Printable.{IsNameWord}
use Rattle.gx_canon.proofs.Numbers.{whole_back as worth, steps_whole, count_whole}
use Rattle.gx_canon.proofs.PrintedWords.{IsShortWord, signed_short}

-- so many words were read, and these are left
abbrev pub at : List Param → ℕ → List (List ℕ) → Words
at params count rest = record { params = params; grid = millimetre; count = count; rest = rest }

-- the form reads these words as this, whatever comes before and after them
pub record Back {A : Type 0} (most : ℕ) (p : Reader A) (words : List (List ℕ)) (a : A) : Type 0 where
  pub reads : (params : List Param) (n : ℕ) (rest : List (List ℕ)) → (m : ℕ) × (p (at params n (words ++ rest)) ≡ Ok (a, at params m rest))
  pub short : All (IsShortWord most) words

-- the form reads these words, the last of a line, as this
pub record Last {A : Type 0} (most : ℕ) (p : Reader A) (words : List (List ℕ)) (a : A) : Type 0 where
  pub reads : (params : List Param) (n : ℕ) → (m : ℕ) × (p (at params n words) ≡ Ok (a, at params m []))
  pub short : All (IsShortWord most) words

-- ---- in step

pub then_back : {A B : Type 0} (most : ℕ) (p : Reader A) (f : A → Reader B) (ws vs : List (List ℕ)) (a : A) (b : B) → Back most p ws a → Back most (f a) vs b → Back most (p >>= f) (ws ++ vs) b
then_back most p f ws vs a b h k = record {
  reads = λ params n rest.
      let one = h.reads params n (vs ++ rest) in
      let two = k.reads params one.0 rest in
      (two.0, ap (λ (s : List (List ℕ)). and_then (p (at params n s)) f) (append_assoc ws vs rest) ∙ ap (λ (o : Outcome Words _). and_then o f) one.1 ∙ two.1);
  short = All-append (IsShortWord most) ws vs h.short k.short;
}

pub then_last : {A B : Type 0} (most : ℕ) (p : Reader A) (f : A → Reader B) (ws vs : List (List ℕ)) (a : A) (b : B) → Back most p ws a → Last most (f a) vs b → Last most (p >>= f) (ws ++ vs) b
then_last most p f ws vs a b h k = record {
  reads = λ params n.
      let one = h.reads params n vs in
      let two = k.reads params one.0 in
      (two.0, ap (λ (o : Outcome Words _). and_then o f) one.1 ∙ two.1);
  short = All-append (IsShortWord most) ws vs h.short k.short;
}

pub last_then : {A B : Type 0} (most : ℕ) (p : Reader A) (f : A → Reader B) (ws : List (List ℕ)) (a : A) (b : B) → Last most p ws a → Last most (f a) [] b → Last most (p >>= f) ws b
last_then most p f ws a b h k = record {
  reads = λ params n.
      let one = h.reads params n in
      let two = k.reads params one.0 in
      (two.0, ap (λ (o : Outcome Words _). and_then o f) one.1 ∙ two.1);
  short = h.short;
}

pub word_then : {A B : Type 0} (most : ℕ) (p : Reader A) (f : A → Reader B) (w : List ℕ) (vs : List (List ℕ)) (a : A) (b : B) → Back most p (w ∷ []) a → Back most (f a) vs b → Back most (p >>= f) (w ∷ vs) b
word_then most p f w vs a b h k = then_back most p f (w ∷ []) vs a b h k

pub word_last : {A B : Type 0} (most : ℕ) (p : Reader A) (f : A → Reader B) (w : List ℕ) (vs : List (List ℕ)) (a : A) (b : B) → Back most p (w ∷ []) a → Last most (f a) vs b → Last most (p >>= f) (w ∷ vs) b
word_last most p f w vs a b h k = then_last most p f (w ∷ []) vs a b h k

pub pure_back : {A : Type 0} (most : ℕ) (a : A) → Back most (pure a) [] a
pure_back most a = record { reads = λ params n rest. (n, refl); short = All-nil (IsShortWord most) }

-- what was read, made into something else
pub map_back : {A B : Type 0} (most : ℕ) (p : Reader A) (g : A → B) (ws : List (List ℕ)) (a : A) → Back most p ws a → Back most (p >>= (λ x. pure (g x))) ws (g a)
map_back most p g ws a h = record {
  reads = λ params n rest.
      let one = h.reads params n rest in
      (one.0, ap (λ (o : Outcome Words _). and_then o (λ x. pure (g x))) one.1);
  short = h.short;
}

pub pure_last : {A : Type 0} (most : ℕ) (a : A) → Last most (pure a) [] a
pure_last most a = record { reads = λ params n. (n, refl); short = All-nil (IsShortWord most) }

pub end_last : {B : Type 0} (most : ℕ) (q : Reader B) (b : B) → Last most q [] b → Last most (end >> q) [] b
end_last most q b h = record { reads = λ params n. h.reads params n; short = h.short }

pub left_last : {B : Type 0} (most : ℕ) (f : ℕ → Reader B) (vs : List (List ℕ)) (b : B) → Last most (f (length vs)) vs b → Last most (left >>= f) vs b
left_last most f vs b h = record { reads = λ params n. h.reads params n; short = h.short }

pub longer_back : {A : Type 0} (few most : ℕ) (p : Reader A) (ws : List (List ℕ)) (a : A) → few ≤ most → Back few p ws a → Back most p ws a
longer_back few most p ws a le h = record {
  reads = h.reads;
  short = All-weaker (IsShortWord few) (IsShortWord most) (λ w is. record { word = is.word; short = omega (arith, is.short, le) }) ws h.short;
}

pub collect_back : {X : Type 0} (most : ℕ) (item : Reader X) (words : X → List (List ℕ)) (found xs : List X) → All (λ x. Back most item (words x) x) xs → Back most (collect_from item (length xs) found) (flat_map words xs) (found ++ xs)
unfolding collect_from
collect_back most item words found [] h = record { reads = λ params n rest. (n, ap (λ (ys : List _). Ok (ys, at params n rest)) (sym (append-nil found))); short = All-nil (IsShortWord most) }
collect_back most item words found (x ∷ xs) h =
    let rest = collect_back most item words (found ++ x ∷ []) xs (All-tail (λ x. Back most item (words x) x) x xs h) in
    then_back most item (λ y. collect_from item (length xs) (found ++ y ∷ [])) (words x) (flat_map words xs) x (found ++ x ∷ xs) (All-head (λ x. Back most item (words x) x) x xs h)
    (rw (← append_assoc found (x ∷ []) xs) rest)

-- ---- one word

pub single : (most : ℕ) (w : List ℕ) → IsShortWord most w → All (IsShortWord most) (w ∷ [])
single most w h = All-cons (IsShortWord most) w [] h (All-nil (IsShortWord most))

pub row_back : (most : ℕ) (table : List TableEntry) (unknown : FaultName) (w : List ℕ) (k : ℕ) → IsShortWord most w → number_in table w ≡ Some k → Back most (row_of table unknown) (w ∷ []) k
row_back most table unknown w k h e = record { reads = λ params n rest. (n + 1, rw e refl); short = single most w h }

-- a name has at most 255 bytes
pub name_back : (w : List ℕ) → IsNameWord w → Back 255 name (w ∷ []) w
name_back w h =
    let named : is_name_of w ≡ true = h.named in
    let parts = and_parts (not (length w == 0) && nat_le (length w) 255) _ (and_parts (not (length w == 0) && nat_le (length w) 255 && not (slice_index w 0 == 58)) _ named).0 in
    let few = leb-true (length w) 255 (and_parts (not (length w == 0)) (nat_le (length w) 255) parts.0).1 in
    record { reads = λ params n rest. (n + 1, rw named refl); short = single 255 w (record { word = h.word; short = few }) }

abbrev pub IsNear : ℤ → Type 0
IsNear z = unsigned_abs z ≤ unsigned_abs M

module _ (most : ℕ) (enough : 11 ≤ most) where
  pub steps_back : (z : ℤ) → IsNear z → Back most steps (signed_decimal z ∷ []) z
  steps_back z h = record {
    reads = λ params n rest. (n + 1, rw (worth params z (omega (arith, h)), steps_whole z h) refl);
    short = single most (signed_decimal z) (signed_short most z enough (omega (arith, h)));
  }

  pub whole_back : (z low high : ℤ) (range : FaultName) → unsigned_abs z < 10 ^ 10 → int_le low z ≡ true → int_le z high ≡ true → Back most (whole low high range) (signed_decimal z ∷ []) z
  whole_back z low high range h a b = record {
    reads = λ params n rest. (n + 1, rw (worth params z (omega (arith, h)), count_whole z low high a b) refl);
    short = single most (signed_decimal z) (signed_short most z enough h);
  }

  pub vector_back : (v : V3) → IsWithin (unsigned_abs M) v → Back most vector (vector_words v) v
  vector_back v h =
      word_then most steps _ _ _ _ _ (steps_back v.x h.x) (word_then most steps _ _ _ _ _ (steps_back v.y h.y) (word_then most steps _ _ _ _ _ (steps_back v.z h.z) (pure_back most v)))
