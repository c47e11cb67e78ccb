-- The words of any line without a fault are words.
use Rattle.std.proofs.Common.{◌≡◌, ℕ, Bool, true, false, List, [], ◌∷◌, ◌++◌, length, All, Option, None, Some, Ok, refl, ap, subst, arith, ◌≤◌, inl, inr}
use Rattle.std.specs.Prelude.{position, not, nat_lt, ◌==◌, filter}
use Rattle.std.specs.List.{AllPass, slice_split, position_or_len, onto_first}
use Rattle.std.specs.Str.Lines.{strip_carriage_return}
use Rattle.std.proofs.lemmas.Bool.{or_parts, cases_Bool, ltb-false}
use Rattle.std.proofs.lemmas.Bool.Decides.{nat_tests}
use Rattle.std.proofs.lemmas.List.Elements.{All-nil, All-cons, All-head, All-tail}
use Rattle.std.proofs.lemmas.List.Sums.{prefix_len_passes}
use Rattle.gx_text.specs.declared.lines.TheConstants.{MAX_LINE}
use Rattle.gx_text.specs.Lines.{begins_comment, is_allowed, is_blank, visible_of, words_of, fault_of, fault_at, line_of, ended_with}
use Rattle.gx_text.specs.declared.lines.LineFault.{LineFault}
use Rattle.gx_text.specs.TextLine.{TextLine}
use Rattle.gx_text.specs.PartialLine.{has_comment}
use Rattle.gx_canon.specs.Text.{is_visible, IsWord}
use Rattle.gx_canon.specs.Laws.{WordsAreWords}
use Rattle.gx_canon.proofs.Bytes.{before_bare, before_clear}

-- ---- all bytes before the comment are allowed

allowed : (b : Bool) → not (not b) ≡ true → b ≡ true
allowed true h = refl
allowed false h = h

all_by : (line : List ℕ) → length line ≤ position_or_len (λ b. not (is_allowed b)) line → AllPass is_allowed line
all_by line e k d less = allowed _ (prefix_len_passes (λ b. not (not (is_allowed b))) line k d (omega (arith, e, less)))

some_fault : (number : ℕ) (line : List ℕ) (place : ℕ) → fault_at number line (Some place) ≡ None → ⊥
some_fault number line place h = elim (cases_Bool (nat_lt place MAX_LINE)) [
  | inl e ↦ let h2 = rw e at h in cc
  | inr e ↦ let h2 = rw e at h in cc
]

none_at : (number : ℕ) (line v : List ℕ) → fault_at number line (position (λ b. not (is_allowed b)) v) ≡ None → AllPass is_allowed v
none_at number line v h = elim (cases_Bool (nat_lt (position_or_len (λ b. not (is_allowed b)) v) (length v))) [
  | inl e ↦ absurd (some_fault number line (position_or_len (λ b. not (is_allowed b)) v) (let h2 = rw e at h in h2))
  | inr e ↦ all_by v (ltb-false _ _ e)
]

-- ---- the parts between blanks

-- no comment, and only bytes of words
record IsPart (part : List ℕ) : Type 0 where
  visible : AllPass is_visible part
  clear : has_comment part ≡ false

empty : IsPart []
empty = record { visible = All-nil (λ b. is_visible b ≡ true); clear = refl }

-- the text cut at its blanks; the first part is a front of the text
record Cut (text : List ℕ) : Type 0 where
  head : List ℕ
  others : List (List ℕ)
  rest : List ℕ
  cut : slice_split is_blank text ≡ head ∷ others
  front : text ≡ head ++ rest
  first : IsPart head
  parts : All IsPart others

seen : (b : ℕ) → is_allowed b ≡ true → is_blank b ≡ false → is_visible b ≡ true
seen b a e = grind (arith, nat_tests, a, e)

-- a comment in a front is one in the text
front_begins : (b : ℕ) (head rest : List ℕ) → begins_comment (b ∷ (head ++ rest)) ≡ false → begins_comment (b ∷ head) ≡ false
front_begins b [] rest h = refl
front_begins b (c ∷ head) rest h = h

cut_more : (b : ℕ) (text : List ℕ) (t : Bool) → is_blank b ≡ t → is_allowed b ≡ true → begins_comment (b ∷ text) ≡ false → Cut text → Cut (b ∷ text)
cut_more b text true e a n c = record {
  head = [];
  others = c.head ∷ c.others;
  rest = b ∷ text;
  cut = rw e (ap (λ (ps : List (List ℕ)). [] ∷ ps) c.cut);
  front = refl;
  first = empty;
  parts = All-cons IsPart c.head c.others c.first c.parts;
}
cut_more b text false e a n c = record {
  head = b ∷ c.head;
  others = c.others;
  rest = c.rest;
  cut = rw e (ap (onto_first b) c.cut);
  front = ap (λ (x : List ℕ). b ∷ x) c.front;
  first = record { visible = All-cons (λ b. is_visible b ≡ true) b c.head (seen b a e) c.first.visible; clear = rw (front_begins b c.head c.rest (rw c.front at n)) c.first.clear };
  parts = c.parts;
}

cut_of : (text : List ℕ) → AllPass is_allowed text → has_comment text ≡ false → Cut text
cut_of [] a n = record { head = []; others = []; rest = []; cut = refl; front = refl; first = empty; parts = All-nil IsPart }
cut_of (b ∷ text) a n =
    let none = or_parts (begins_comment (b ∷ text)) (has_comment text) n in
    cut_more b text (is_blank b) refl (All-head (λ b. is_allowed b ≡ true) b text a) none.0 (cut_of text (All-tail (λ b. is_allowed b ≡ true) b text a) none.1)

kept : (ws : List (List ℕ)) → All IsPart ws → All IsWord (filter (λ word. not (length word == 0)) ws)
kept [] h = All-nil IsWord
kept (w ∷ ws) h =
    let is = All-head IsPart w ws h in
    let rest = kept ws (All-tail IsPart w ws h) in
    elim (cases_Bool (length w == 0)) [
      | inl e ↦ rw e rest
      | inr e ↦ rw e (All-cons IsWord w _ (record { some = e; visible = is.visible; bare = before_bare w is.clear }) rest)
    ]

words_are : (number : ℕ) (line : List ℕ) → fault_of number line ≡ None → All IsWord (words_of line)
words_are number line h =
    let v = visible_of line in
    let c = cut_of v (none_at number line v h) (before_clear (strip_carriage_return line)) in
    rw c.cut (kept (c.head ∷ c.others) (All-cons IsPart c.head c.others c.first c.parts))

in_line : (number : ℕ) (ws : List (List ℕ)) (read : TextLine) → line_of number ws ≡ Some read → All IsWord ws → All IsWord read.words
in_line number [] read e h = absurd cc
in_line number (w ∷ ws) read e h =
    let first : TextLine = record { number = number; words = w ∷ ws } in
    let same : first ≡ read = cc in
    subst (λ (r : TextLine). All IsWord r.words) same h

by_fault : (number : ℕ) (line : List ℕ) (fault : Option LineFault) → fault_of number line ≡ fault → (read : TextLine) → ended_with number line fault ≡ Ok (Some read) → All IsWord read.words
by_fault number line (Some fault) none read e = absurd cc
by_fault number line None none read e = let same : line_of number (words_of line) ≡ Some read = cc in in_line number (words_of line) read same (words_are number line none)

pub words_are_words : WordsAreWords
words_are_words number line read e = by_fault number line (fault_of number line) refl read e
