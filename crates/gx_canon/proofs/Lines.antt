-- The words of a printed line are those that were printed.
use Rattle.std.proofs.Common.{◌≡◌, ℕ, ◌+◌, ◌-◌, Bool, true, false, List, [], ◌∷◌, ◌++◌, length, get_or, All, Option, Some, None, Result, Ok, refl, ap, subst, ◌∙◌, arith}
use Rattle.std.specs.Prelude.{position, not, nat_lt, ◌==◌, ◌||◌, filter}
use Rattle.std.specs.List.{AllPass}
use Rattle.std.specs.Str.Lines.{strip_carriage_return}
use Rattle.std.proofs.lemmas.Bool.Decides.{nat_tests}
use Rattle.std.proofs.lemmas.List.Elements.{All-nil, All-cons, All-head, All-tail, All-append, All-weaker}
use Rattle.std.proofs.lemmas.List.Splits.{slice_split_none, slice_split_at}
use Rattle.std.proofs.lemmas.List.Sums.{position_or_len_is}
use Rattle.gx_text.specs.declared.lines.TheConstants.{MAX_LINE}
use Rattle.gx_text.specs.Lines.{cut, before_comment, is_allowed, is_blank, visible_of, words_in, fault_of, ended, ended_with, line_of}
use Rattle.gx_text.specs.declared.lines.LineFault.{LineFault}
use Rattle.gx_text.specs.TextLine.{TextLine}
use Rattle.gx_text.specs.PartialLine.{has_comment}
use Rattle.gx_canon.specs.Text.{joined, text_of, is_visible, IsWord, IsLine, read_from}
use Rattle.gx_canon.specs.Laws.{LinesBack}
use Rattle.gx_canon.proofs.Bytes.{before_bare, before_clear, bare_after}

-- ---- bytes

-- visible, or a blank
abbrev pub in_line : ℕ → Bool
in_line b = is_visible b || (b == 32)

not_blank : (b : ℕ) → is_visible b ≡ true → is_blank b ≡ false
not_blank b e = grind (arith, nat_tests, e)

visible_in : (b : ℕ) → is_visible b ≡ true → in_line b ≡ true
visible_in b e = rw e refl

line_allowed : (b : ℕ) → in_line b ≡ true → not (is_allowed b) ≡ false
line_allowed b e = grind (arith, nat_tests, e)

pub not_feed : (b : ℕ) → in_line b ≡ true → b == 10 ≡ false
not_feed b e = grind (arith, nat_tests, e)

not_return : (b : ℕ) → in_line b ≡ true → b == 13 ≡ false
not_return b e = grind (arith, nat_tests, e)

unbroken : (w : List ℕ) → IsWord w → All (λ b. is_blank b ≡ false) w
unbroken w h = All-weaker (λ b. is_visible b ≡ true) (λ b. is_blank b ≡ false) not_blank w h.visible

word_in : (w : List ℕ) → IsWord w → AllPass in_line w
word_in w h = All-weaker (λ b. is_visible b ≡ true) (λ b. in_line b ≡ true) visible_in w h.visible

joined_in : (ws : List (List ℕ)) → All IsWord ws → AllPass in_line (joined ws)
joined_in [] h = All-nil (λ b. in_line b ≡ true)
joined_in (w ∷ []) h = word_in w (All-head IsWord w [] h)
joined_in (w ∷ v ∷ ws) h =
    All-append (λ b. in_line b ≡ true) w (32 ∷ joined (v ∷ ws)) (word_in w (All-head IsWord w (v ∷ ws) h))
    (All-cons (λ b. in_line b ≡ true) 32 (joined (v ∷ ws)) refl (joined_in (v ∷ ws) (All-tail IsWord w (v ∷ ws) h)))

-- ---- no comment, no CR, no byte that isn't allowed

bare : (w : List ℕ) → IsWord w → has_comment w ≡ false
bare w h = subst (λ (v : List ℕ). has_comment v ≡ false) h.bare (before_clear w)

joined_bare : (ws : List (List ℕ)) → All IsWord ws → has_comment (joined ws) ≡ false
joined_bare [] h = refl
joined_bare (w ∷ []) h = bare w (All-head IsWord w [] h)
joined_bare (w ∷ v ∷ ws) h = bare_after w (joined (v ∷ ws)) (bare w (All-head IsWord w (v ∷ ws) h)) (joined_bare (v ∷ ws) (All-tail IsWord w (v ∷ ws) h))

pub no_return : (line : List ℕ) → AllPass in_line line → strip_carriage_return line ≡ line
no_return [] h = refl
no_return (b ∷ line) h = rw (not_return _ (h (length (b ∷ line) - 1) 0 (omega arith))) refl

none_bad : (line : List ℕ) → AllPass in_line line → position (λ b. not (is_allowed b)) line ≡ None
none_bad line h =
    let all = position_or_len_is (λ b. not (is_allowed b)) line (length line) 0 (omega arith) (λ k less. line_allowed (get_or line k 0) (h k 0 less)) (λ less. absurd (omega (arith, less))) in
    let e : nat_lt (length line) (length line) ≡ false = grind (arith, nat_tests) in
    rw (all, e) refl

-- ---- the words of a line

visible_joined : (ws : List (List ℕ)) → All IsWord ws → visible_of (joined ws) ≡ joined ws
visible_joined ws h = ap before_comment (no_return (joined ws) (joined_in ws h)) ∙ before_bare (joined ws) (joined_bare ws h)

kept_all : (ws : List (List ℕ)) → All IsWord ws → filter (λ word. not (length word == 0)) ws ≡ ws
kept_all [] h = refl
kept_all (w ∷ ws) h = rw (All-head IsWord w ws h).some (ap (λ (r : List (List ℕ)). w ∷ r) (kept_all ws (All-tail IsWord w ws h)))

parts_joined : (ws : List (List ℕ)) → All IsWord ws → words_in (joined ws) ≡ ws
parts_joined [] h = refl
parts_joined (w ∷ []) h = rw (slice_split_none is_blank w (unbroken w (All-head IsWord w [] h))) (kept_all (w ∷ []) h)
parts_joined (w ∷ v ∷ ws) h =
    let is = All-head IsWord w (v ∷ ws) h in
    rw (slice_split_at is_blank w 32 (joined (v ∷ ws)) (unbroken w is) refl, is.some) (ap (λ (r : List (List ℕ)). w ∷ r) (parts_joined (v ∷ ws) (All-tail IsWord w (v ∷ ws) h)))

fault_joined : (number : ℕ) (ws : List (List ℕ)) → IsLine ws → fault_of number (joined ws) ≡ None
fault_joined number ws h =
    let short : nat_lt MAX_LINE (length (joined ws)) ≡ false = grind (arith, nat_tests, h.short) in
    rw (visible_joined ws h.visible, none_bad (joined ws) (joined_in ws h.visible), short) refl

some_line : (number : ℕ) (ws : List (List ℕ)) → (length ws == 0) ≡ false → line_of number ws ≡ Some (record { number = number; words = ws })
some_line number [] some = absurd cc
some_line number (w ∷ ws) some = refl

-- a printed line, read
pub ended_joined : (number : ℕ) (ws : List (List ℕ)) → IsLine ws → ended number (joined ws) ≡ Ok (Some (record { number = number; words = ws }))
ended_joined number ws h =
    ap (ended_with number (joined ws)) (fault_joined number ws h)
    ∙ ap (λ (words : List (List ℕ)). Ok (line_of number words)) (ap words_in (visible_joined ws h.visible) ∙ parts_joined ws h.visible)
    ∙ ap Ok (some_line number ws h.some)

-- a printed line is cut off
cut_line : (ws : List (List ℕ)) (rest : List ℕ) → All IsWord ws → cut (joined ws ++ 10 ∷ rest) ≡ joined ws ∷ cut rest
cut_line ws rest h = slice_split_at (λ b. b == 10) (joined ws) 10 rest (All-weaker (λ b. in_line b ≡ true) (λ b. b == 10 ≡ false) not_feed (joined ws) (joined_in ws h)) refl

pub lines_back : LinesBack
lines_back number [] h = refl
lines_back number (ws ∷ lines) h =
    let is = All-head IsLine ws lines h in
    ap (read_from number) (cut_line ws (text_of lines) is.visible)
    ∙ rw (ended_joined number ws is) (ap (λ (r : List (Result (Option TextLine) LineFault)). Ok (Some (record { number = number; words = ws })) ∷ r) (lines_back (number + 1) lines (All-tail IsLine ws lines h)))
