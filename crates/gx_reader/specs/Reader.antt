-- A text that comes in pieces: what a reader makes of the bytes that are still to come.
use Rattle.std.specs.Prelude.{◌≡◌, ◌↔◌, ℕ, ◌+◌, List, [], ◌++◌, length, Result, Err, OnOk, IsErr, IsTrue, nat_lt, if◌then◌else◌}
use Rattle.gx_num.specs.declared.memory.NoMemory.{NoMemory as Wanting}
use Rattle.gx_fraction.specs.Fraction.{Fraction}
use Rattle.gx_table.specs.declared.fault.FaultName.TheVariants.{LongText}
use Rattle.gx_gather.specs.declared.fault.ReadError.{ReadError}
use Rattle.gx_gather.specs.declared.fault.ReadError.TheVariants.{Text, NoMemory}
use Rattle.gx_link.specs.declared.input.Input.{Input}
use Rattle.gx_reader.specs.declared.line_reader.LineReader.{LineReader}
use Rattle.gx_reader.specs.declared.reader.TheConstants.{MAX_TEXT}
use Rattle.gx_gather.specs.Faults.{fault_at}
use Rattle.gx_reader.specs.Reading.{reading}
use Rattle.gx_reader.specs.Resumed.{answered, is_out_of_memory, lines_input, Tells}

-- how many bytes came so far, and what is kept of their lines
pub record ReaderState : Type 0 where
  pub count : ℕ
  pub lines : LineReader

-- what all bytes give, where these are still to come
abbrev pub read_as : ReaderState → List ℕ → Result Input ReadError
read_as r later =
    if is_out_of_memory r.lines then Err NoMemory
    else if nat_lt MAX_TEXT (r.count + length later) then Err (Text (fault_at 0 0 LongText))
    else lines_input r.lines later

-- a reader that was given nothing makes of a text what its reading is
abbrev pub Begins : Fraction → ReaderState → Type 0
Begins grid new = (text : List ℕ) → read_as new text ≡ answered (reading grid text)

-- A piece is taken: what comes later comes after it. Else memory is wanting, and this is kept.
pub record Feeds (old : ReaderState) (piece : List ℕ) (new : ReaderState) (result : Result (Unit {0}) Wanting) : Type 0 where
  pub goes : OnOk result ((later : List ℕ) → read_as new later ≡ read_as old (piece ++ later))
  pub wants : IsErr result ↔ IsTrue (is_out_of_memory new.lines)
  pub stays : IsTrue (is_out_of_memory old.lines) → IsErr result

-- nothing is still to come
abbrev pub Finishes : ReaderState → Result Input ReadError → Type 0
Finishes r result = Tells (read_as r []) result
