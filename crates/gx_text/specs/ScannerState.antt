-- A text that comes byte by byte: what is known of the line that isn't ended yet, and what a byte answers.
use Rattle.std.specs.Prelude.{◌≡◌, ◌≢◌, ℕ, ◌+◌, ◌-◌, ◌^◌, List, [], ◌∷◌, ◌++◌, min, Option, Some, None, Result, Ok, Err, IfOk, IfErr, ◌==◌, if◌then◌else◌}
use Rattle.std.specs.List.{fold}
use Rattle.gx_text.specs.declared.lines.LineFault.{LineFault}
use Rattle.gx_text.specs.declared.lines.LineError.{LineError}
use Rattle.gx_text.specs.declared.lines.LineError.TheVariants.{Fault, NoMemory}
use Rattle.gx_text.specs.TextLine.{TextLine}
use Rattle.gx_text.specs.Lines.{ended, fault_of, IsCause}

-- the number of the line that isn't ended and its bytes so far; or the error that was answered
pub data ScannerState : Type 0 where
  Scanning : ℕ → List ℕ → ScannerState
  Failed : LineError → ScannerState

-- the state by what was answered, the number and the line
abbrev pub state_of : Option LineError → ℕ → List ℕ → ScannerState
state_of None number line = Scanning number line
state_of (Some error) number line = Failed error

-- the error that was answered, if one was
abbrev pub error_in : ScannerState → Option LineError
error_in (Scanning number line) = None
error_in (Failed error) = Some error

-- an answer, and the state that it leaves
pub record Step : Type 0 where
  pub answer : Result (Option TextLine) LineError
  pub state : ScannerState

-- an error is answered, and kept
abbrev pub failing : LineError → Step
failing error = record { answer = Err error; state = Failed error }

-- the line goes on, unless it has a fault
abbrev pub going_on : ℕ → List ℕ → Option LineFault → Step
going_on number line None = record { answer = Ok None; state = Scanning number line }
going_on number line (Some fault) = failing (Fault fault)

-- the number of the line after; the greatest number of 32 bits is followed by itself
abbrev pub number_after : ℕ → ℕ
number_after number = min (number + 1) (2 ^ 32 - 1)

-- the next line begins
abbrev pub next_line : ScannerState → ScannerState
next_line (Failed error) = Failed error
next_line (Scanning number line) = Scanning (number_after number) []

-- the line is ended, and the next begins, unless it has a fault
abbrev pub ending : ℕ → Result (Option TextLine) LineFault → Step
ending number (Ok line) = record { answer = Ok line; state = Scanning (number_after number) [] }
ending number (Err fault) = failing (Fault fault)

-- a LF ends the line, any other byte may decide its fault; an error that is kept is answered again
abbrev pub after_byte : ScannerState → ℕ → Step
after_byte (Failed error) b = failing error
after_byte (Scanning number line) b =
    if b == 10 then ending number (ended number line) else going_on number (line ++ b ∷ []) (fault_of number (line ++ b ∷ []))

-- no byte yet
abbrev pub standing : ScannerState → Step
standing (Failed error) = failing error
standing (Scanning number line) = going_on number line None

-- bytes that come one by one, and the answer to the last
abbrev pub after_bytes : ScannerState → List ℕ → Step
after_bytes s bytes = fold (λ step b. after_byte step.state b) (standing s) bytes

-- a step is taken, or memory is wanting, and this is kept
pub record IsTaken (step : Step) (new : ScannerState) (result : Result (Option TextLine) LineError) : Type 0 where
  pub ok : IfOk result (λ line. (step.answer ≡ Ok line) × (new ≡ step.state))
  pub err : IfErr result (λ error. new ≡ Failed error)
  pub cause : IfErr result (λ error. error ≢ NoMemory → step.answer ≡ Err error)

-- once an error was answered nothing else is, and nothing changes
abbrev pub Answers : ScannerState → Step → ScannerState → Result (Option TextLine) LineError → Type 0
Answers (Failed error) step new result = (result ≡ Err error) × (new ≡ Failed error)
Answers (Scanning number line) step new result = IsTaken step new result

-- the text's end ends the last line, or memory is wanting; once an error was answered nothing else is
abbrev pub AnswersEnd : ScannerState → Result (Option TextLine) LineError → Type 0
AnswersEnd (Failed error) result = result ≡ Err error
AnswersEnd (Scanning number line) result = IfOk result (λ o. ended number line ≡ Ok o) × IfErr result (IsCause (fault_of number line))
