-- How a run ends: what it has read and written, by its status.
use Rattle.std.specs.Prelude.{◌≡◌, ◌⊎◌, ℕ, ◌+◌, ◌<◌, ◌≤◌, List, length, drop, Option, None, Some, Result, Ok, Err}
use Rattle.std.specs.Option.{option_map}
use Rattle.std.specs.Io.KnownBytes.{IsAtEnd}
use Rattle.gx_io.specs.Bytes.{with_after, with_before, next_fault, AppendsFront}
use Rattle.gx_io.specs.declared.error.IoError.{IoError}
use Rattle.gx_io.specs.declared.error.IoError.TheVariants as io
use Rattle.gx_reader.specs.declared.reader.TheConstants.{MAX_TEXT}
use Rattle.g4exact.specs.Output.{IsOutput}
use Rattle.g4exact.specs.declared.command.Command.{Command}
use Rattle.g4exact.specs.declared.command.Command.TheVariants.{Reading, Sample}
use Rattle.g4exact.specs.declared.command.Verb.{Verb}
use Rattle.g4exact.specs.declared.command.Verb.TheVariants.{Trace, Check, List as Listed}
use Rattle.g4exact.specs.declared.outcome.Status.{Status}
use Rattle.g4exact.specs.declared.outcome.Status.TheVariants.{Clean, Refuted, TextFault, WordsFault, ReadFault, WriteFault, NoMemory}

-- the text is what the source has left, where it tells that
abbrev pub IsTold : Option (List ℕ) → List ℕ → Type 0
IsTold None text = Unit {0}
IsTold (Some left) text = left ≡ text

-- the whole output was written, and nothing else
abbrev pub WritesAll : (List ℕ → Status → Type 0) → Option (List ℕ) → Option (List ℕ) → Status → Type 0
WritesAll output old new status = (bytes : List ℕ) × output bytes status × (new ≡ with_after old bytes)

-- a front of some output was written, and nothing else
abbrev pub WritesFront : (List ℕ → Status → Type 0) → Option (List ℕ) → Option (List ℕ) → Type 0
WritesFront output old new = (bytes : List ℕ) × (status : Status) × output bytes status × AppendsFront old new bytes

-- What was written where memory was wanting, by the verb: a front of what `check` writes, which takes memory between two writes;
-- else nothing, since all memory is taken before the first byte is written.
abbrev pub Wants : Verb → (List ℕ → Status → Type 0) → Option (List ℕ) → Option (List ℕ) → Type 0
Wants (Trace telling) output old new = new ≡ old
Wants Listed output old new = new ≡ old
Wants (Check selection) output old new = WritesFront output old new

-- what a verb writes: all of the output, a front of it where the sink failed, or what was written where memory was wanting
abbrev pub Answers : Verb → (List ℕ → Status → Type 0) → Option (List ℕ) → Option (List ℕ) → Result Status IoError → Type 0
Answers verb output old new (Ok status) = WritesAll output old new status
Answers verb output old new (Err io.Failed) = WritesFront output old new
Answers verb output old new (Err io.NoMemory) = Wants verb output old new

-- exactly one fault more where the sink failed, and else none
abbrev pub HasIoCause : {A : Type 0} → ℕ → ℕ → Result A IoError → Type 0
HasIoCause before now (Ok a) = now ≡ before
HasIoCause before now (Err io.Failed) = now ≡ next_fault before
HasIoCause before now (Err io.NoMemory) = now ≡ before

abbrev pub WantsCommand : Option Command → (List ℕ → Status → Type 0) → Option (List ℕ) → Option (List ℕ) → Type 0
WantsCommand None output old new = new ≡ old
WantsCommand (Some (Reading verb grid)) output old new = Wants verb output old new
WantsCommand (Some (Sample number)) output old new = new ≡ old

-- All of the output is written at the statuses that tell it, a front of it at a write fault, and nothing at a read fault.
abbrev pub Ends : Option Command → (List ℕ → Status → Type 0) → Option (List ℕ) → Option (List ℕ) → Status → Type 0
Ends command output old new WriteFault = WritesFront output old new
Ends command output old new ReadFault = new ≡ old
Ends command output old new NoMemory = WantsCommand command output old new
Ends command output old new status = WritesAll output old new status

-- one byte past the most of a text
abbrev pub most_read : ℕ
most_read = 1 + MAX_TEXT

-- some bytes were taken, and no more than that
abbrev pub IsReadFrom : Option (List ℕ) → Option (List ℕ) → Type 0
IsReadFrom old new = (taken : List ℕ) × (length taken ≤ most_read) × (old ≡ with_before taken new)

-- a text was taken: all that there was, or as much as that
pub record IsReadWhole (old new : Option (List ℕ)) (text : List ℕ) : Type 0 where
  pub taken : old ≡ with_before text new
  pub most : length text ≤ most_read
  pub all : length text < most_read → IsAtEnd new

-- The source isn't touched where the words are no command, and for a sample. Else as much as that is read, or all there is;
-- where it failed or memory was wanting, some of it.
abbrev pub IsReadOut : Option (List ℕ) → Option (List ℕ) → Status → Type 0
IsReadOut old new ReadFault = IsReadFrom old new
IsReadOut old new NoMemory = IsReadFrom old new
IsReadOut old new status = new ≡ option_map (drop most_read) old

abbrev pub IsRead : Option Command → Option (List ℕ) → Option (List ℕ) → Status → Type 0
IsRead None old new status = new ≡ old
IsRead (Some (Reading verb grid)) old new status = IsReadOut old new status
IsRead (Some (Sample number)) old new status = new ≡ old

-- words that are no command end with the usage line, or at a write fault
abbrev pub NamesWords : Status → Type 0
NamesWords WordsFault = Unit {0}
NamesWords WriteFault = Unit {0}
NamesWords status = ⊥

abbrev pub JudgesWords : Option Command → Status → Type 0
JudgesWords None status = NamesWords status
JudgesWords (Some command) status = Unit {0}

-- at a fault of a device its count is the next one, and else the counts are kept
abbrev pub Blames : ℕ → ℕ → ℕ → ℕ → Status → Type 0
Blames source source' sink sink' ReadFault = (source' ≡ next_fault source) × (sink' ≡ sink)
Blames source source' sink sink' WriteFault = (source' ≡ source) × (sink' ≡ next_fault sink)
Blames source source' sink sink' status = (source' ≡ source) × (sink' ≡ sink)

-- the count of a device is the next one
abbrev pub HasFailed : ℕ → ℕ → ℕ → ℕ → Type 0
HasFailed source source' sink sink' = (source' ≡ next_fault source) ⊎ (sink' ≡ next_fault sink)

-- What was written of a text's output is as the status tells; and where no device failed, it is all, unless memory was wanting.
pub record RunsTo (command : Option Command) (text : List ℕ) (old new : Option (List ℕ)) (failed : Type 0) (status : Status) : Type 0 where
  pub ends : Ends command (IsOutput command text) old new status
  pub complete : (failed → ⊥) → WritesAll (IsOutput command text) old new status ⊎ (status ≡ NoMemory)

-- the program's exit status
abbrev pub code_of : Status → ℕ
code_of Clean = 0
code_of Refuted = 1
code_of TextFault = 2
code_of WordsFault = 3
code_of ReadFault = 4
code_of WriteFault = 5
code_of NoMemory = 6
