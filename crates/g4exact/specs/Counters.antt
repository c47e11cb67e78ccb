-- How many daughters are tested in a run, and how much is read.
use Rattle.std.specs.Prelude.{◌≡◌, ℕ, ◌+◌, ◌≤◌, List, [], ◌∷◌, Option, None, Some, Result, Ok, Err, OnOk, find}
use Rattle.gx_num.specs.declared.ray.Ray.{Ray}
use Rattle.gx_tree.specs.Hierarchy.{Hierarchy}
use Rattle.gx_check.specs.declared.verdict.Verdict.{Verdict}
use Rattle.gx_check.specs.Verdicts.{verdicts, refutes}
use Rattle.gx_gather.specs.declared.fault.TextFault.{TextFault}
use Rattle.gx_link.specs.declared.input.Input.{Input}
use Rattle.gx_io.specs.declared.error.IoError.{IoError}
use Rattle.gx_io.specs.declared.error.IoError.TheVariants as io
use Rattle.gx_reader.specs.Reading.{reading}
use Rattle.gx_canon.specs.Canonical.{millimetre}
use Rattle.gx_sample.specs.Text.{sample_text}
use Rattle.gx_tree.specs.Deepest.{path_along}
use Rattle.gx_path.specs.Report.{Row, IsReport}
use Rattle.gx_nest.specs.Met.{Frame}
use Rattle.gx_walk.specs.Hits.{CountOf}
use Rattle.gx_navigator.specs.Tests.{BoxTest, IsBoxTest, IsCost, HasPaths, IsToDaughter, IsToHeader, tests_in, reads_in}
use Rattle.g4exact.specs.declared.command.Command.{Command}
use Rattle.g4exact.specs.declared.command.Command.TheVariants.{Reading, Sample}
use Rattle.g4exact.specs.declared.command.Verb.{Verb}
use Rattle.g4exact.specs.declared.command.Verb.TheVariants.{Trace}
use Rattle.g4exact.specs.declared.command.Telling.TheVariants.{Summary}
use Rattle.g4exact.specs.declared.outcome.Status.{Status}
use Rattle.g4exact.specs.declared.outcome.Status.TheVariants.{ReadFault, WriteFault, NoMemory}

-- the two counters of a run
pub record Counters : Type 0 where
  pub tests : ℕ
  pub reads : ℕ

abbrev pub counters : ℕ → ℕ → Counters
counters tests reads = record { tests = tests; reads = reads }

-- so much it adds up to along these rays
abbrev pub AreCosts : Hierarchy → CountOf Frame → List Ray → ℕ → Type 0
AreCosts h count [] n = n ≡ 0
AreCosts h count (ray ∷ rays) n = (one : ℕ) × (rest : ℕ) × IsCost h count ray one × AreCosts h count rays rest × (n ≡ one + rest)

-- the reports of these rays have so many different paths of a kind, ray by ray
abbrev pub ArePaths : Hierarchy → (List Row → List ℕ → Type 0) → List Ray → ℕ → Type 0
ArePaths h Is [] n = n ≡ 0
ArePaths h Is (ray ∷ rays) n = (report : List Row) × (one : ℕ) × (rest : ℕ) × IsReport (path_along h ray) report × HasPaths (Is report) one × ArePaths h Is rays rest × (n ≡ one + rest)

-- a counter rises by no more than what adds up by any test of boxes
abbrev pub RisesAtMost : Hierarchy → (BoxTest → CountOf Frame) → List Ray → ℕ → ℕ → Type 0
RisesAtMost h count rays old new = (passes : BoxTest) → IsBoxTest passes → (n : ℕ) × AreCosts h (count passes) rays n × (new ≤ old + n)

-- and by no less than there are paths
abbrev pub RisesAtLeast : Hierarchy → (List Row → List ℕ → Type 0) → List Ray → ℕ → ℕ → Type 0
RisesAtLeast h Is rays old new = (n : ℕ) → ArePaths h Is rays n → old + n ≤ new

pub record AreFew (h : Hierarchy) (rays : List Ray) (old new : Counters) : Type 0 where
  pub tests : RisesAtMost h (tests_in h) rays old.tests new.tests
  pub reads : RisesAtMost h (reads_in h) rays old.reads new.reads

pub record AreEnough (h : Hierarchy) (rays : List Ray) (old new : Counters) : Type 0 where
  pub tests : RisesAtLeast h IsToDaughter rays old.tests new.tests
  pub reads : RisesAtLeast h (IsToHeader h) rays old.reads new.reads

-- the counters rise by few, and by enough where the result is no error
abbrev pub Rise : {T E : Type 0} → Hierarchy → List Ray → Counters → Counters → Result T E → Type 0
Rise h rays old new result = AreFew h rays old new × OnOk result (AreEnough h rays old new)

-- by the status: by few where the output failed, not at all where memory was wanting, and else by few and by enough
abbrev pub RiseBy : Hierarchy → List Ray → Counters → Counters → Status → Type 0
RiseBy h rays old new WriteFault = AreFew h rays old new
RiseBy h rays old new NoMemory = new ≡ old
RiseBy h rays old new ReadFault = new ≡ old
RiseBy h rays old new status = AreFew h rays old new × AreEnough h rays old new

-- where no verdict refutes the hierarchy; else nothing is counted
abbrev pub AreCounted : Option Verdict → Input → Counters → Counters → Status → Type 0
AreCounted (Some verdict) input old new status = new ≡ old
AreCounted None input old new status = RiseBy input.tree input.rays old new status

-- where rays are traced, and the text has no fault; else nothing is counted
abbrev pub AnswersCounted : Verb → Result Input TextFault → Counters → Counters → Status → Type 0
AnswersCounted (Trace telling) (Ok input) old new status = AreCounted (find refutes (verdicts input.tree)) input old new status
AnswersCounted verb read old new status = new ≡ old

-- what a command for a text counts
abbrev pub IsCounted : Option Command → List ℕ → Counters → Counters → Status → Type 0
IsCounted None text old new status = new ≡ old
IsCounted (Some (Reading verb grid)) text old new status = AnswersCounted verb (reading grid text) old new status
IsCounted (Some (Sample number)) text old new status = AnswersCounted (Trace (Summary number)) (reading millimetre (sample_text number)) old new status

-- the status that an answer ends with
abbrev pub status_of : Result Status IoError → Status
status_of (Ok status) = status
status_of (Err io.Failed) = WriteFault
status_of (Err io.NoMemory) = NoMemory
