-- The lines of a sample text, and the words of the first two.
use Rattle.std.proofs.Common.{◌≡◌, ℕ, ◌<◌, ◌≤◌, true, false, codes, List, [], ◌∷◌, ◌++◌, length, None, Some, Ok, refl, ap, ◌∙◌, append_assoc, arith}
use Rattle.std.specs.Prelude.{decimal, flat_map, position, not, nat_lt, ◌==◌}
use Rattle.std.specs.List.{AllPass, list_all}
use Rattle.std.proofs.lemmas.Bool.{le-ltb}
use Rattle.std.proofs.lemmas.Fmt.{decimal_nonempty, length-decimal-le}
use Rattle.std.proofs.lemmas.List.{length-append}
use Rattle.std.proofs.lemmas.List.Elements.{All-nil, All-cons, All-append, All-weaker}
use Rattle.std.proofs.lemmas.List.Splits.{slice_split_at}
use Rattle.std.proofs.lemmas.List.Sums.{AllPass-from_list_all}
use Rattle.gx_text.specs.declared.lines.TheConstants.{MAX_LINE}
use Rattle.gx_text.specs.Lines.{cut, before_comment, is_allowed, visible_of, words_in, fault_at, fault_of, ended, ended_with, line_of}
use Rattle.gx_canon.specs.Text.{IsWord}
use Rattle.gx_canon.proofs.Lines.{in_line, not_feed, no_return, ended_joined}
use Rattle.gx_canon.proofs.PrintedWords.{is_plain, decimal_plain, plain_word}
use Rattle.gx_reader.specs.declared.reader.TheConstants.{MAX_TEXT}
use Rattle.gx_sample.specs.Text.{fixed_lines, sample_text}

abbrev pub head : ℕ → List ℕ
head n = codes "// sample " ++ decimal n

abbrev pub second : ℕ → List ℕ
second n = codes ":P n " ++ decimal n

-- ---- bytes

plain_in : (b : ℕ) → is_plain b ≡ true → in_line b ≡ true
plain_in b is = grind arith

decimal_in : (n : ℕ) → n ≤ 64 → AllPass in_line (decimal n)
decimal_in n few = All-weaker (λ b. is_plain b ≡ true) (λ b. in_line b ≡ true) plain_in (decimal n) (decimal_plain n (omega (arith, few)))

-- a text of bytes of a line, and a number after it
numbered_in : (text : List ℕ) (n : ℕ) → n ≤ 64 → AllPass in_line text → AllPass in_line (text ++ decimal n)
numbered_in text n few is = All-append (λ b. in_line b ≡ true) text (decimal n) is (decimal_in n few)

head_in : (n : ℕ) → n ≤ 64 → AllPass in_line (head n)
head_in n few = numbered_in (codes "// sample ") n few (AllPass-from_list_all in_line (codes "// sample ") refl)

second_in : (n : ℕ) → n ≤ 64 → AllPass in_line (second n)
second_in n few = numbered_in (codes ":P n ") n few (AllPass-from_list_all in_line (codes ":P n ") refl)

length-number : (n : ℕ) → n ≤ 64 → length (decimal n) ≤ 2
length-number n few = length-decimal-le 2 n (omega arith) (omega (arith, few)) (omega (arith, few))

-- ---- the first line is a comment, the second has three words

pub first_ended : (n : ℕ) → n ≤ 64 → ended 1 (head n) ≡ Ok None
first_ended n few =
    let line = head n in
    let visible : visible_of line ≡ [] = ap before_comment (no_return line (head_in n few)) in
    let short : nat_lt MAX_LINE (length line) ≡ false = le-ltb MAX_LINE (length line) (omega (arith, length-number n few, length-append (codes "// sample ") (decimal n))) in
    let fault : fault_of 1 line ≡ None = ap (λ (text : List ℕ). fault_at 1 line (position (λ b. not (is_allowed b)) text)) visible ∙ rw short refl in
    ap (ended_with 1 line) fault ∙ ap (λ (text : List ℕ). Ok (line_of 1 (words_in text))) visible

abbrev pub second_words : ℕ → List (List ℕ)
second_words n = codes ":P" ∷ codes "n" ∷ decimal n ∷ []

pub second_ended : (n : ℕ) → n ≤ 64 → ended 2 (second n) ≡ Ok (Some (record { number = 2; words = second_words n }))
second_ended n few =
    let fixed = λ (word : List ℕ) (some : 0 < length word) (is : list_all is_plain word ≡ true). plain_word word some (AllPass-from_list_all is_plain word is) in
    ended_joined 2 (second_words n) (record {
      some = refl;
      visible = All-cons IsWord (codes ":P") (codes "n" ∷ decimal n ∷ []) (fixed (codes ":P") (omega arith) refl)
          (All-cons IsWord (codes "n") (decimal n ∷ []) (fixed (codes "n") (omega arith) refl)
          (All-cons IsWord (decimal n) [] (plain_word (decimal n) (decimal_nonempty n (omega (arith, few))) (decimal_plain n (omega (arith, few)))) (All-nil IsWord)));
      short = omega (arith, length-number n few, length-append (codes ":P n ") (decimal n));
    })

-- ---- all lines

cut_off : (line rest : List ℕ) → AllPass in_line line → cut ((line ++ 10 ∷ []) ++ rest) ≡ line ∷ cut rest
cut_off line rest is =
    ap cut (append_assoc line (10 ∷ []) rest)
    ∙ slice_split_at (λ b. b == 10) line 10 rest (All-weaker (λ b. in_line b ≡ true) (λ b. b == 10 ≡ false) not_feed line is) refl

pub all_lines : (n : ℕ) → n ≤ 64 → cut (sample_text n) ≡ head n ∷ second n ∷ fixed_lines ++ [] ∷ []
unfolding sample_text
all_lines n few =
    let fixed = flat_map (λ line. line ++ 10 ∷ []) fixed_lines in
    cut_off (head n) ((second n ++ 10 ∷ []) ++ fixed) (head_in n few) ∙ ap (λ (lines : List (List ℕ)). head n ∷ lines) (cut_off (second n) fixed (second_in n few))

pub short_text : (n : ℕ) → n ≤ 64 → nat_lt MAX_TEXT (length (sample_text n)) ≡ false
unfolding sample_text
short_text n few =
    let fixed = flat_map (λ line. line ++ 10 ∷ []) fixed_lines in
    le-ltb MAX_TEXT (length (sample_text n)) (omega (
      arith,
      length-number n few,
      length-append (head n ++ 10 ∷ []) ((second n ++ 10 ∷ []) ++ fixed),
      length-append (head n) (10 ∷ []),
      length-append (second n ++ 10 ∷ []) fixed,
      length-append (second n) (10 ∷ []),
      length-append (codes "// sample ") (decimal n),
      length-append (codes ":P n ") (decimal n),
    ))
