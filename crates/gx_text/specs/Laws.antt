-- A law of lines.
use Rattle.std.specs.Prelude.{◌≡◌, ℕ, List, ◌++◌, Some}
use Rattle.gx_text.specs.declared.lines.LineFault.{LineFault}
use Rattle.gx_text.specs.Lines.{fault_of}

-- the fault of a line so far is its fault however it goes on
abbrev pub FaultStays : Type 0
FaultStays = (number : ℕ) (line rest : List ℕ) (fault : LineFault) → fault_of number line ≡ Some fault → fault_of number (line ++ rest) ≡ Some fault
