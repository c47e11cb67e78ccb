-- How an answer through a buffer ends.
use Rattle.std.proofs.Common.{◌≡◌, ℕ, Bool, true, false, List, [], ◌++◌, Option, None, Some, Result, Ok, Err, OnOk, refl, sym, ap, ◌∙◌, subst, append-nil, take, length, arith, length-append}
use Rattle.std.specs.Prelude.{find, if◌then◌else◌}
use Rattle.std.specs.List.{list_any}
use Rattle.std.proofs.lemmas.List.{take_all}
use Rattle.gx_io.specs.Bytes.{with_after, Grows, AppendsBut, AppendsFront}
use Rattle.gx_io.specs.declared.error.IoError.{IoError}
use Rattle.gx_io.specs.declared.error.IoError.TheVariants as io
use Rattle.gx_io.proofs.Gathered.{front-gathered, with_after-none}
use Rattle.gx_fraction.specs.Fraction.{Fraction}
use Rattle.gx_check.specs.declared.verdict.Verdict.{Verdict}
use Rattle.gx_check.specs.Verdicts.{verdicts, refutes}
use Rattle.gx_gather.specs.declared.fault.TextFault.{TextFault}
use Rattle.gx_link.specs.declared.input.Input.{Input}
use Rattle.g4exact.specs.declared.outcome.Status.{Status}
use Rattle.g4exact.specs.declared.outcome.Status.TheVariants.{Clean, Refuted, TextFault as Faulty, WordsFault, ReadFault, WriteFault, NoMemory}
use Rattle.g4exact.specs.declared.command.Command.TheVariants.{Reading}
use Rattle.g4exact.specs.declared.command.Verb.{Verb}
use Rattle.g4exact.specs.declared.command.Verb.TheVariants.{Trace, Check, List as Listed}
use Rattle.g4exact.specs.declared.command.Telling.{Telling}
use Rattle.g4exact.specs.Output.{IsTraced, IsAnswer}
use Rattle.g4exact.specs.Ends.{WritesAll, WritesFront, Answers, Ends, Blames}

-- the statuses that tell a whole output of a text
abbrev pub Tells : Status → Type 0
Tells Clean = Unit {0}
Tells Refuted = Unit {0}
Tells Faulty = Unit {0}
Tells status = ⊥

pub traced_tells : (telling : Telling) (refuted : Option Verdict) (input : Input) (bytes : List ℕ) (status : Status) → IsTraced telling refuted input bytes status → Tells status
traced_tells telling None input bytes status (trace, e) = subst Tells (sym e) tt
traced_tells telling (Some verdict) input bytes status (line, e) = subst Tells (sym e) tt

answer_tells : (verb : Verb) (read : Result Input TextFault) (bytes : List ℕ) (status : Status) → IsAnswer verb read bytes status → Tells status
answer_tells verb (Err fault) bytes status (line, e) = subst Tells (sym e) tt
answer_tells (Trace telling) (Ok input) bytes status is = traced_tells telling (find refutes (verdicts input.tree)) input bytes status is
answer_tells Listed (Ok input) bytes status (text, e) = subst Tells (sym e) tt
answer_tells (Check selection) (Ok input) bytes status (text, e) = subst Tells (sym e) (by (list_any refutes (verdicts input.tree)))
  where
    by : (b : Bool) → Tells (if b then Refuted else Clean)
    by true = tt
    by false = tt

-- all was written, so it ends as it tells
all_ends : (verb : Verb) (grid : Fraction) (output : List ℕ → Status → Type 0) (old new : Option (List ℕ)) (status : Status) → Tells status → WritesAll output old new status → Ends (Some (Reading verb grid)) output old new status
all_ends verb grid output old new Clean t is = is
all_ends verb grid output old new Refuted t is = is
all_ends verb grid output old new Faulty t is = is
all_ends verb grid output old new WordsFault t is = absurd t
all_ends verb grid output old new ReadFault t is = absurd t
all_ends verb grid output old new WriteFault t is = absurd t
all_ends verb grid output old new NoMemory t is = absurd t

pub answer_ends : (verb : Verb) (grid : Fraction) (read : Result Input TextFault) (old new : Option (List ℕ)) (status : Status) → WritesAll (IsAnswer verb read) old new status
    → Ends (Some (Reading verb grid)) (IsAnswer verb read) old new status
answer_ends verb grid read old new status is = all_ends verb grid (IsAnswer verb read) old new status (answer_tells verb read is.0 status is.1) is

pub answer_blames : (verb : Verb) (read : Result Input TextFault) (old new : Option (List ℕ)) (source k k' : ℕ) (status : Status) → WritesAll (IsAnswer verb read) old new status → k' ≡ k → Blames source source k k' status
answer_blames verb read old new source k k' status is e = by status (answer_tells verb read is.0 status is.1)
  where
    by : (status : Status) → Tells status → Blames source source k k' status
    by Clean t = (refl, e)
    by Refuted t = (refl, e)
    by Faulty t = (refl, e)
    by WordsFault t = absurd t
    by ReadFault t = absurd t
    by WriteFault t = absurd t
    by NoMemory t = absurd t

-- ---- through the buffer

-- of all that was written a front may be gathered still
pub all_stops : (output : List ℕ → Status → Type 0) (old new : Option (List ℕ)) (status : Status) → WritesAll output old new status → WritesFront output old new
unfolding AppendsFront AppendsBut
all_stops output old new status (bytes, is, e) = (bytes, status, is, ([], (bytes, sym (append-nil bytes), e)))

front_handed : (output : List ℕ → Status → Type 0) (old new : Option (List ℕ)) (pending : List ℕ) → Grows old new → WritesFront output old (with_after new pending) → WritesFront output old new
front_handed output old new pending grows (bytes, status, is, front) = (bytes, status, is, front-gathered old new pending bytes grows front)

-- nothing was written, so nothing was handed on
none_handed : (old new : Option (List ℕ)) (pending : List ℕ) → Grows old new → with_after new pending ≡ old → new ≡ old
unfolding with_after
none_handed None None pending grows e = refl
none_handed None (Some ys) pending grows e = absurd cc
none_handed (Some xs) None pending grows e = absurd cc
none_handed (Some xs) (Some ys) pending grows e =
    let front : take (length xs) ys ≡ xs = cc in
    let all : ys ++ pending ≡ xs = cc in
    ap Some (sym (take_all (length xs) ys (omega (arith, ap length all, length-append ys pending))) ∙ front)

pub handed : (verb : Verb) (output : List ℕ → Status → Type 0) (old new : Option (List ℕ)) (pending : List ℕ) (result : Result Status IoError)
    → Grows old new → OnOk result (pending ≡ []) → Answers verb output old (with_after new pending) result → Answers verb output old new result
handed verb output old new pending (Ok status) grows all (bytes, is, e) = (bytes, is, sym (with_after-none new pending all) ∙ e)
handed verb output old new pending (Err io.Failed) grows all front = front_handed output old new pending grows front
handed (Trace telling) output old new pending (Err io.NoMemory) grows all e = none_handed old new pending grows e
handed Listed output old new pending (Err io.NoMemory) grows all e = none_handed old new pending grows e
handed (Check selection) output old new pending (Err io.NoMemory) grows all front = front_handed output old new pending grows front
