-- Texts as they are printed: words joined by one blank, and each line ended with LF. The form is this project's own.
use Rattle.std.specs.Prelude.{◌≡◌, ◌≤◌, ℕ, ◌+◌, Bool, false, List, [], ◌∷◌, ◌++◌, length, All, ◌==◌, ◌&&◌, nat_le, Option, Some, None, Result, Ok}
use Rattle.std.specs.List.{AllPass, join_with_byte}
use Rattle.gx_text.specs.declared.lines.LineFault.{LineFault}
use Rattle.gx_text.specs.declared.lines.TheConstants.{MAX_LINE}
use Rattle.gx_text.specs.Lines.{before_comment, ended}
use Rattle.gx_text.specs.TextLine.{TextLine}

-- words with a blank (32) between each and the next
abbrev pub joined : List (List ℕ) → List ℕ
joined words = join_with_byte 32 words

-- lines, each by its words
abbrev pub text_of : List (List (List ℕ)) → List ℕ
text_of [] = []
text_of (words ∷ lines) = joined words ++ 10 ∷ text_of lines

-- 21 to 7E (hex)
abbrev pub is_visible : ℕ → Bool
is_visible b = nat_le 33 b && nat_le b 126

-- some visible bytes, with no `//` among them
pub record IsWord (word : List ℕ) : Type 0 where
  pub some : (length word == 0) ≡ false
  pub visible : AllPass is_visible word
  pub bare : before_comment word ≡ word

-- words that are a line without a fault
pub record IsLine (words : List (List ℕ)) : Type 0 where
  pub some : (length words == 0) ≡ false
  pub visible : All IsWord words
  pub short : length (joined words) ≤ MAX_LINE

-- lines as they are read, numbered on
abbrev pub read_from : ℕ → List (List ℕ) → List (Result (Option TextLine) LineFault)
read_from number [] = []
read_from number (line ∷ lines) = ended number line ∷ read_from (number + 1) lines

-- lines of these words, numbered on, and an empty one after them
abbrev pub lines_from : ℕ → List (List (List ℕ)) → List (Result (Option TextLine) LineFault)
lines_from number [] = Ok None ∷ []
lines_from number (words ∷ lines) = Ok (Some (record { number = number; words = words })) ∷ lines_from (number + 1) lines
