-- Reading from a state: what the bytes that are still to come make of what the lines so far declare.
use Rattle.std.specs.Prelude.{◌≡◌, ◌⊎◌, ℕ, ◌+◌, ◌^◌, ◌<◌, Bool, true, false, List, ◌++◌, ◌==◌, All, Result, Ok, Err}
use Rattle.gx_fraction.specs.Fraction.{Fraction}
use Rattle.gx_form.specs.First.{◌>>=◌}
use Rattle.gx_text.specs.Lines.{cut}
use Rattle.gx_text.specs.ScannerState.{ScannerState}
use Rattle.gx_text.specs.ScannerState.ScannerState.{Scanning, Failed}
use Rattle.gx_gather.specs.declared.fault.TextFault.{TextFault}
use Rattle.gx_gather.specs.declared.fault.ReadError.{ReadError}
use Rattle.gx_gather.specs.declared.fault.ReadError.TheVariants.{Text, NoMemory}
use Rattle.gx_gather.specs.Declarations.{Declarations}
use Rattle.gx_link.specs.declared.input.Input.{Input}
use Rattle.gx_link.specs.Text.{input_of}
use Rattle.gx_reader.specs.declared.line_reader.Reading.{Reading}
use Rattle.gx_reader.specs.declared.line_reader.LineReader.{LineReader}
use Rattle.gx_reader.specs.declared.line_reader.LineReader.TheVariants.{Reading as Going, Stopped}
use Rattle.gx_reader.specs.Reading.{read_lines}

-- what the line that isn't ended and the bytes that are left declare; nothing where the state isn't open
abbrev pub resumed : Fraction → Declarations → ScannerState → List ℕ → Result Declarations TextFault
resumed grid d (Failed error) rest = Ok d
resumed grid d (Scanning number line) rest = read_lines grid d number (cut (line ++ rest))

abbrev pub left_by : Reading → List ℕ → Result Declarations TextFault
left_by r rest = resumed r.declared.grid r.declared.so_far r.lines rest

-- no error was answered, the line that isn't ended has no LF, and so many lines more can be counted
abbrev pub IsOpen : ℕ → ScannerState → Type 0
IsOpen more (Failed error) = ⊥
IsOpen more (Scanning number line) = All (λ b. (b == 10) ≡ false) line × (number + more < 2 ^ 32)

abbrev pub IsOpenReader : ℕ → LineReader → Type 0
IsOpenReader more (Going r) = IsOpen more r.lines
IsOpenReader more (Stopped error) = Unit {0}

-- a text's fault as a reader's error
abbrev pub answered : {A : Type 0} → Result A TextFault → Result A ReadError
answered (Ok a) = Ok a
answered (Err fault) = Err (Text fault)

abbrev pub is_out_of_memory : LineReader → Bool
is_out_of_memory (Stopped NoMemory) = true
is_out_of_memory lines = false

-- what the lines so far and the bytes that are still to come declare; an error that was found stays
abbrev pub lines_as : LineReader → List ℕ → Result Declarations ReadError
lines_as (Going r) later = answered (left_by r later)
lines_as (Stopped error) later = Err error

abbrev pub input_as : Declarations → Result Input ReadError
input_as d = answered (input_of d)

-- the input that they declare
abbrev pub lines_input : LineReader → List ℕ → Result Input ReadError
lines_input lines later = lines_as lines later >>= input_as

-- what is answered is what was read, or memory is wanting
abbrev pub Tells : {A : Type 0} → Result A ReadError → Result A ReadError → Type 0
Tells read (Ok a) = read ≡ Ok a
Tells read (Err (Text fault)) = read ≡ Err (Text fault)
Tells read (Err NoMemory) = Unit {0}
