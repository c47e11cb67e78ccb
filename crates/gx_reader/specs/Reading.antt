-- What a text declares, or its first fault.
use Rattle.std.specs.Prelude.{◌≡◌, ℕ, ◌+◌, List, [], ◌∷◌, length, Option, None, Some, Result, Ok, Err, nat_lt, if◌then◌else◌}
use Rattle.gx_fraction.specs.Fraction.{Fraction}
use Rattle.gx_form.specs.First.{◌>>=◌}
use Rattle.gx_table.specs.declared.fault.FaultName.TheVariants.{LongText}
use Rattle.gx_text.specs.declared.lines.LineFault.{LineFault}
use Rattle.gx_text.specs.TextLine.{TextLine}
use Rattle.gx_text.specs.Lines.{cut, ended}
use Rattle.gx_gather.specs.declared.fault.TextFault.{TextFault}
use Rattle.gx_gather.specs.Faults.{fault_at, line_fault}
use Rattle.gx_gather.specs.Declarations.{Declarations, nothing_declared, declare}
use Rattle.gx_link.specs.declared.input.Input.{Input}
use Rattle.gx_link.specs.Text.{input_of}
use Rattle.gx_reader.specs.declared.reader.TheConstants.{MAX_TEXT}

-- a line's own fault, or what it declares; one without a word declares nothing
abbrev pub with_line : Fraction → Declarations → Result (Option TextLine) LineFault → Result Declarations TextFault
with_line grid d (Err fault) = Err (line_fault fault)
with_line grid d (Ok None) = Ok d
with_line grid d (Ok (Some line)) = declare grid d line

-- the lines from this number on, in order; the first fault counts
abbrev pub read_lines : Fraction → Declarations → ℕ → List (List ℕ) → Result Declarations TextFault
read_lines grid d number [] = Ok d
read_lines grid d number (line ∷ lines) = with_line grid d (ended number line) >>= (λ next. read_lines grid next (number + 1) lines)

-- what the lines of a text declare
abbrev pub text_lines : Fraction → List ℕ → Result Declarations TextFault
text_lines grid text = read_lines grid nothing_declared 1 (cut text)

-- the input of what all lines declare, or the first fault: a line's before any other
abbrev pub input_from : Result Declarations TextFault → Result Input TextFault
input_from read = read >>= input_of

-- the input that a text declares, or its first fault; lengths are in steps of the grid
abbrev pub reading : Fraction → List ℕ → Result Input TextFault
reading grid text =
    if nat_lt MAX_TEXT (length text) then Err (fault_at 0 0 LongText)
    else input_from (text_lines grid text)
