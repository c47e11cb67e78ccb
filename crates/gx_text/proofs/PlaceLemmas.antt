-- Where the words of a text stand.
use Rattle.std.proofs.Common.{◌≡◌, ℕ, ◌+◌, ◌-◌, ◌<◌, ◌≤◌, Bool, true, false, cond, inl, inr, List, [], ◌∷◌, ◌++◌, length, get_or, drop, refl, sym, ap, ◌∙◌, arith, length-take, length-drop, length-append, append_assoc, append-nil}
use Rattle.std.specs.Prelude.{◌==◌, not, nat_lt, filter, slice_range, All}
use Rattle.std.specs.List.{slice_split}
use Rattle.std.proofs.lemmas.Bool.{cases_eq}
use Rattle.std.proofs.lemmas.Bool.Decides.{nat_tests}
use Rattle.std.proofs.lemmas.List.{drop_more, take_rest, get_or-take, get_or-drop, get_or_default, map-append}
use Rattle.std.proofs.lemmas.List.Elements.{All-push, filter-append}
use Rattle.std.proofs.lemmas.List.Folds.{drop_split}
use Rattle.std.proofs.lemmas.List.Splits.{slice_split_at, slice_split_none}
use Rattle.gx_text.specs.declared.line.Place.{Place}
use Rattle.gx_text.specs.Lines.{is_blank, words_in}
use Rattle.gx_text.specs.Places.{words_at, unless_empty, IsWithin}

-- the words of the bytes before start have these places, and no blank stands from there up to i
pub record Found (text : List ℕ) (start i : ℕ) (places : List Place) : Type 0 where
  pub ordered : start ≤ i
  pub words : words_in text ≡ words_at text places ++ words_in (drop start text)
  pub clear : (k : ℕ) → start ≤ k → k < i → is_blank (get_or text k 0) ≡ false
  pub few : length places ≤ start
  pub within : All (IsWithin (length text)) places

abbrev is_word : List ℕ → Bool
is_word word = not (length word == 0)

word_here : (text : List ℕ) (start end : ℕ) → start ≤ end → end ≤ length text → filter is_word (slice_range text start end ∷ []) ≡ words_at text (unless_empty start end)
word_here text start end h k =
    let size : length (slice_range text start end) ≡ end - start = omega (arith, length-take (end - start) (drop start text), length-drop start text) in
    let some : is_word (slice_range text start end) ≡ nat_lt start end = grind (arith, nat_tests, size) in
    ap (λ t. cond t (slice_range text start end ∷ []) []) some ∙ elim (nat_lt start end) as (λ t. cond t (slice_range text start end ∷ []) [] ≡ words_at text (cond t (record { start = start; end = end } ∷ []) [])) [
      | true ↦ refl
      | false ↦ refl
    ]

push_within : (n start end : ℕ) (places : List Place) → start ≤ end → end ≤ n → All (IsWithin n) places → All (IsWithin n) (places ++ unless_empty start end)
push_within n start end places h k all = elim (nat_lt start end) as (λ t. All (IsWithin n) (places ++ cond t (record { start = start; end = end } ∷ []) [])) [
  | true ↦ All-push (IsWithin n) places (record { start = start; end = end }) all (h, k)
  | false ↦ rw (append-nil places) all
]

push_few : (start end : ℕ) (places : List Place) → start ≤ end → length places ≤ start → length (places ++ unless_empty start end) ≤ end
push_few start end places h few =
    let size : length (unless_empty start end) + start ≤ end = elim (nat_lt start end) as (λ t. nat_lt start end ≡ t → length {A = Place} (cond t (record { start = start; end = end } ∷ []) []) + start ≤ end) [
      | true ↦ λ e. grind (arith, nat_tests, e)
      | false ↦ λ e. grind (arith, nat_tests, e)
    ] refl in
    omega (arith, size, length-append places (unless_empty start end))

module _ (text : List ℕ) (start i : ℕ) (places : List Place) (found : Found text start i places) (short : i ≤ length text) where
  all_clear : All (λ b. is_blank b ≡ false) (slice_range text start i)
  all_clear = λ k d h.
      let size = length-take (i - start) (drop start text) in
      let at : get_or (slice_range text start i) k d ≡ get_or text (start + k) d = get_or-take (i - start) (drop start text) k d (omega arith) ∙ get_or-drop start text k d in
      let other : get_or text (start + k) d ≡ get_or text (start + k) 0 = get_or_default text (start + k) d 0 (omega arith) in
      ap is_blank (at ∙ other) ∙ found.clear (start + k) (omega arith) (omega arith)

  before : (rest : List (List ℕ)) → words_in (drop start text) ≡ words_at text (unless_empty start i) ++ rest → words_in text ≡ words_at text (places ++ unless_empty start i) ++ rest
  before rest e =
      found.words ∙ ap (λ x. words_at text places ++ x) e ∙ sym (append_assoc (words_at text places) (words_at text (unless_empty start i)) rest)
      ∙ ap (λ x. x ++ rest) (sym (map-append (λ place. slice_range text place.start place.end) places (unless_empty start i)))

  pub at_blank : i < length text → is_blank (get_or text i 0) ≡ true → Found text (i + 1) (i + 1) (places ++ unless_empty start i)
  at_blank h e =
      let here : words_in (drop start text) ≡ words_at text (unless_empty start i) ++ words_in (drop (i + 1) text) =
      ap words_in (drop_split text start i found.ordered ∙ ap (λ rest. slice_range text start i ++ rest) (drop_more text i 0 h))
      ∙ ap (filter is_word) (slice_split_at is_blank (slice_range text start i) (get_or text i 0) (drop (i + 1) text) all_clear e)
      ∙ filter-append is_word (slice_range text start i ∷ []) (slice_split is_blank (drop (i + 1) text))
      ∙ ap (λ first. first ++ words_in (drop (i + 1) text)) (word_here text start i found.ordered short) in
      record {
        ordered = omega arith;
        words = before (words_in (drop (i + 1) text)) here;
        clear = λ k low high. absurd (omega arith);
        few = omega (arith, push_few start i places found.ordered found.few);
        within = push_within (length text) start i places found.ordered short found.within;
      }

  pub at_other : is_blank (get_or text i 0) ≡ false → Found text start (i + 1) places
  at_other e = record {
    ordered = omega (arith, found.ordered);
    words = found.words;
    clear = λ k low high. elim (cases_eq k i) [
      | inl same ↦ ap (λ k. is_blank (get_or text k 0)) same ∙ e
      | inr other ↦ found.clear k low (omega arith)
    ];
    few = found.few;
    within = found.within;
  }

pub at_end : (text : List ℕ) (start i : ℕ) (places : List Place) → i ≡ length text → Found text start i places → Found text start (length text) places
at_end text start i places e found = rw (sym e) found

module _ (text : List ℕ) (start : ℕ) (places : List Place) (found : Found text start (length text) places) where
  pub all_words : words_in text ≡ words_at text (places ++ unless_empty start (length text))
  all_words =
      let part = slice_range text start (length text) in
      let last : words_in (drop start text) ≡ words_at text (unless_empty start (length text)) ++ [] =
      ap words_in (sym (take_rest text start))
      ∙ ap (filter is_word) (slice_split_none is_blank part (all_clear text start (length text) places found (omega arith)))
      ∙ word_here text start (length text) found.ordered (omega arith)
      ∙ sym (append-nil (words_at text (unless_empty start (length text)))) in
      before text start (length text) places found (omega arith) [] last ∙ append-nil (words_at text (places ++ unless_empty start (length text)))

  pub all_within : All (IsWithin (length text)) (places ++ unless_empty start (length text))
  all_within = push_within (length text) start (length text) places found.ordered (omega arith) found.within
