-- The lines of a text, the words of a line, and the faults of a line.
use Rattle.std.specs.Prelude.{◌≡◌, ℕ, ◌+◌, Bool, false, List, [], ◌∷◌, length, filter, position, Option, Some, None, Result, Ok, Err, ◌==◌, ◌&&◌, ◌||◌, not, nat_le, nat_lt, if◌then◌else◌}
use Rattle.std.specs.List.{slice_split}
use Rattle.std.specs.Str.Lines.{strip_carriage_return}
use Rattle.gx_text.specs.declared.lines.LineFault.{LineFault}
use Rattle.gx_text.specs.declared.lines.LineFault.TheVariants.{LongLine, NotAscii}
use Rattle.gx_text.specs.declared.lines.LineError.{LineError}
use Rattle.gx_text.specs.declared.lines.LineError.TheVariants.{Fault, NoMemory}
use Rattle.gx_text.specs.declared.lines.TheConstants.{MAX_LINE}
use Rattle.gx_text.specs.TextLine.{TextLine}

-- the text cut at each LF; the last line may have none
abbrev pub cut : List ℕ → List (List ℕ)
cut text = slice_split (λ b. b == 10) text

-- blank or tab
abbrev pub is_blank : ℕ → Bool
is_blank b = (b == 32) || (b == 9)

-- the bytes that may stand before a comment: 21 to 7E (hex), blank and tab
abbrev pub is_allowed : ℕ → Bool
is_allowed b = (nat_le 33 b && nat_le b 126) || is_blank b

-- two bytes `/`
abbrev pub begins_comment : List ℕ → Bool
begins_comment [] = false
begins_comment (a ∷ []) = false
begins_comment (a ∷ b ∷ rest) = (a == 47) && (b == 47)

-- what comes before the first `//`
abbrev pub before_comment : List ℕ → List ℕ
before_comment [] = []
before_comment (b ∷ rest) = if begins_comment (b ∷ rest) then [] else b ∷ before_comment rest

-- a line without a CR at its end, up to its comment
abbrev pub visible_of : List ℕ → List ℕ
visible_of line = before_comment (strip_carriage_return line)

-- the longest runs of bytes that are neither blank nor tab
abbrev pub words_in : List ℕ → List (List ℕ)
words_in text = filter (λ word. not (length word == 0)) (slice_split is_blank text)

-- the words before a line's comment
abbrev pub words_of : List ℕ → List (List ℕ)
words_of line = words_in (visible_of line)

-- The first of a line's faults: a byte that isn't allowed, at its column from 1, or the first byte past the most.
-- Where both are one byte, the line is too long.
abbrev pub fault_at : ℕ → List ℕ → Option ℕ → Option LineFault
fault_at number line None = if nat_lt MAX_LINE (length line) then Some (LongLine number) else None
fault_at number line (Some place) = if nat_lt place MAX_LINE then Some (NotAscii number (place + 1)) else Some (LongLine number)

-- the first fault of a line, if it has one
abbrev pub fault_of : ℕ → List ℕ → Option LineFault
fault_of number line = fault_at number line (position (λ b. not (is_allowed b)) (visible_of line))

-- the cause of an error: the fault of the line; want of memory has none
abbrev pub IsCause : Option LineFault → LineError → Type 0
IsCause found (Fault fault) = found ≡ Some fault
IsCause found NoMemory = Unit {0}

-- a line without a word declares nothing
abbrev pub line_of : ℕ → List (List ℕ) → Option TextLine
line_of number [] = None
line_of number (word ∷ words) = Some (record { number = number; words = word ∷ words })

-- a line as it is read: its fault, or the line where it has a word
abbrev pub ended_with : ℕ → List ℕ → Option LineFault → Result (Option TextLine) LineFault
ended_with number line (Some fault) = Err fault
ended_with number line None = Ok (line_of number (words_of line))

-- a line by its number and its bytes without the LF
abbrev pub ended : ℕ → List ℕ → Result (Option TextLine) LineFault
ended number line = ended_with number line (fault_of number line)
