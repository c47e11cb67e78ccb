-- Where a line's comment begins.
use Rattle.std.proofs.Common.{◌≡◌, ℕ, ◌+◌, ◌-◌, ◌≤◌, true, false, cond, List, [], ◌∷◌, ◌++◌, length, take, drop, refl, ap, ◌∙◌, arith, length-take, length-drop}
use Rattle.std.specs.Prelude.{◌==◌, slice_index}
use Rattle.std.specs.Str.Lines.{strip_carriage_return}
use Rattle.std.proofs.lemmas.List.{take-append-drop}
use Rattle.gx_text.specs.Lines.{begins_comment, before_comment, visible_of}

one_byte : (rest : List ℕ) → length rest ≤ 1 → before_comment rest ≡ rest
one_byte [] h = refl
one_byte (b ∷ []) h = refl
one_byte (a ∷ b ∷ rest) h = absurd (omega arith)

-- no comment begins at a line's last byte
pub no_comment : (line : List ℕ) (i : ℕ) → length line ≤ i + 1 → before_comment line ≡ take i line ++ before_comment (drop i line) → before_comment line ≡ line
no_comment line i h so_far = so_far ∙ ap (λ rest. take i line ++ rest) (one_byte (drop i line) (omega (arith, length-drop i line))) ∙ take-append-drop i line

before_comment_le : (line : List ℕ) → length (before_comment line) ≤ length line
before_comment_le [] = omega arith
before_comment_le (b ∷ rest) =
    elim (begins_comment (b ∷ rest)) as (λ t. length (cond t [] (b ∷ before_comment rest)) ≤ length (b ∷ rest)) [
      | true ↦ omega arith
      | false ↦ omega (arith, before_comment_le rest)
    ]

strip_le : (line : List ℕ) → length (strip_carriage_return line) ≤ length line
strip_le line =
    elim (slice_index line (length line - 1) == 13) as (λ t. length (cond t (take (length line - 1) line) line) ≤ length line) [
      | true ↦ omega (arith, length-take (length line - 1) line)
      | false ↦ omega arith
    ]

pub visible_le : (line : List ℕ) → length (visible_of line) ≤ length line
visible_le line = omega (arith, before_comment_le (strip_carriage_return line), strip_le line)
