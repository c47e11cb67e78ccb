-- Faults of a text, by line and word, and the causes of errors.
use Rattle.std.specs.Prelude.{◌≡◌, ℕ, Result, Ok, Err}
use Rattle.gx_table.specs.declared.fault.FaultName.{FaultName}
use Rattle.gx_table.specs.declared.fault.FaultName.TheVariants.{LongLine as LongLineName, NotAscii as NotAsciiName}
use Rattle.gx_text.specs.declared.lines.LineFault.{LineFault}
use Rattle.gx_text.specs.declared.lines.LineFault.TheVariants.{LongLine, NotAscii}
use Rattle.gx_text.specs.declared.lines.LineError.{LineError}
use Rattle.gx_text.specs.declared.lines.LineError.TheVariants.{Fault as LineFailed, NoMemory as NoLineMemory}
use Rattle.gx_form.specs.declared.fault.Fault.{Fault}
use Rattle.gx_form.specs.declared.refusal.Refusal.{Refusal}
use Rattle.gx_form.specs.declared.refusal.Refusal.TheVariants.{At, NoMemory as Wanting}
use Rattle.gx_gather.specs.declared.fault.TextFault.{TextFault}
use Rattle.gx_gather.specs.declared.fault.ReadError.{ReadError}
use Rattle.gx_gather.specs.declared.fault.ReadError.TheVariants.{Text, NoMemory}

abbrev pub fault_at : ℕ → ℕ → FaultName → TextFault
fault_at line word name = record { line = line; word = word; name = name }

-- a line's own fault: its length, at word 0, or a byte that isn't allowed, its column in place of the word
abbrev pub line_fault : LineFault → TextFault
line_fault (LongLine line) = fault_at line 0 LongLineName
line_fault (NotAscii line column) = fault_at line column NotAsciiName

-- a line's error as that of its text
abbrev pub error_of : LineError → ReadError
error_of (LineFailed fault) = Text (line_fault fault)
error_of NoLineMemory = NoMemory

-- what a line gives, or its fault with the line's number
abbrev pub on_line : {A : Type 0} → ℕ → Result A Fault → Result A TextFault
on_line number (Ok a) = Ok a
on_line number (Err fault) = Err (fault_at number fault.place fault.name)

-- the cause of an error: the text's fault; want of memory has none
abbrev pub IsCause : {A : Type 0} → Result A TextFault → ReadError → Type 0
IsCause read (Text fault) = read ≡ Err fault
IsCause read NoMemory = Unit {0}

-- the cause of a refusal of a line: the line's fault; want of memory has none
abbrev pub IsCauseAt : {A : Type 0} → Result A Fault → Refusal → Type 0
IsCauseAt read (At fault) = read ≡ Err fault
IsCauseAt read Wanting = Unit {0}
