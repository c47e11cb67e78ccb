-- How a run's parts make its clauses.
use Rattle.std.proofs.Common.{◌≡◌, ◌⊎◌, ℕ, ◌<◌, ◌≤◌, inl, inr, true, List, [], ◌++◌, length, drop, Option, None, Some, Result, Err, refl, sym, ap, ◌∙◌, subst, arith, length-append, append-nil}
use Rattle.std.specs.Prelude.{nat_lt}
use Rattle.std.specs.Option.{option_map}
use Rattle.std.specs.Io.KnownBytes.{IsAtEnd}
use Rattle.std.proofs.lemmas.Bool.{cases_lt}
use Rattle.std.proofs.lemmas.Bool.Decides.{nat_tests}
use Rattle.std.proofs.lemmas.List.{drop_all, drop_at}
use Rattle.gx_io.specs.Bytes.{with_before}
use Rattle.gx_fraction.specs.Fraction.{Fraction}
use Rattle.gx_table.specs.declared.fault.FaultName.TheVariants.{LongText}
use Rattle.gx_gather.specs.declared.fault.TextFault.{TextFault}
use Rattle.gx_link.specs.declared.input.Input.{Input}
use Rattle.gx_gather.specs.Faults.{fault_at}
use Rattle.gx_reader.specs.Reading.{reading}
use Rattle.gx_reader.specs.declared.reader.TheConstants.{MAX_TEXT}
use Rattle.g4exact.specs.declared.outcome.Status.{Status}
use Rattle.g4exact.specs.declared.outcome.Status.TheVariants.{Clean, Refuted, TextFault as Faulty, WordsFault, ReadFault, WriteFault, NoMemory}
use Rattle.g4exact.specs.declared.command.Command.{Command}
use Rattle.g4exact.specs.declared.command.Command.TheVariants.{Reading, Sample}
use Rattle.g4exact.specs.declared.command.Verb.{Verb}
use Rattle.g4exact.specs.declared.command.Verb.TheVariants.{Trace}
use Rattle.g4exact.specs.declared.command.Telling.{Telling}
use Rattle.g4exact.specs.declared.command.Telling.TheVariants.{Summary}
use Rattle.gx_canon.specs.Canonical.{millimetre}
use Rattle.gx_sample.specs.Text.{sample_text}
use Rattle.g4exact.specs.Output.{IsOutput, IsAnswer}
use Rattle.g4exact.specs.Ends.{WritesAll, Ends, IsTold, Blames, HasFailed, RunsTo, IsReadOut, IsReadWhole, most_read}

-- some text is told
pub told : (left : Option (List ℕ)) → (text : List ℕ) × IsTold left text
told None = ([], tt)
told (Some text) = (text, refl)

-- what ends by its status, and blames by it, is complete where no device failed
pub answered : (command : Option Command) (text : List ℕ) (old new : Option (List ℕ)) (s s' k k' : ℕ) (status : Status)
    → Ends command (IsOutput command text) old new status → Blames s s' k k' status → RunsTo command text old new (HasFailed s s' k k') status
answered command text old new s s' k k' status e b = record { ends = e; complete = complete status e b }
  where
    complete : (status : Status) → Ends command (IsOutput command text) old new status → Blames s s' k k' status → (HasFailed s s' k k' → ⊥) → WritesAll (IsOutput command text) old new status ⊎ (status ≡ NoMemory)
    complete Clean e b p = inl e
    complete Refuted e b p = inl e
    complete Faulty e b p = inl e
    complete WordsFault e b p = inl e
    complete ReadFault e b p = absurd (p (inl b.0))
    complete WriteFault e b p = absurd (p (inr b.1))
    complete NoMemory e b p = inr refl

too_long : (grid : Fraction) (text : List ℕ) → MAX_TEXT < length text → reading grid text ≡ Err (fault_at 0 0 LongText)
too_long grid text h = let e : nat_lt MAX_TEXT (length text) ≡ true = grind (arith, nat_tests) in rw e refl

-- what was read of the source reads as all that it had
pub record ReadsAll (left left' : Option (List ℕ)) (taken : List ℕ) : Type 0 where
  pub text : List ℕ
  pub told : IsTold left text
  pub same : (grid : Fraction) → reading grid text ≡ reading grid taken
  pub rest : left' ≡ option_map (drop most_read) left

reads_told : (left left' : Option (List ℕ)) (taken : List ℕ) → left ≡ with_before taken left' → length taken ≤ most_read → (length taken < most_read → IsAtEnd left') → ReadsAll left left' taken
unfolding with_before
reads_told None None taken e h end = record { text = taken; told = tt; same = λ grid. refl; rest = refl }
reads_told None (Some rest) taken e h end = absurd cc
reads_told (Some text) None taken e h end = absurd cc
reads_told (Some text) (Some rest) taken e h end =
    elim (cases_lt (length taken) most_read) [
      | inl short ↦
          let all : text ≡ taken = some_same text (taken ++ rest) e ∙ ap (λ l. taken ++ l) (end short) ∙ append-nil taken in
          record { text = text; told = refl; same = λ grid. ap (reading grid) all; rest = ap Some (end short ∙ sym (drop_all most_read text (short_text text taken all short))) }
      | inr long ↦
          let all : text ≡ taken ++ rest = some_same text (taken ++ rest) e in
          record { text = text; told = refl; same = λ grid. too_long grid text (long_text text taken rest all long) ∙ sym (too_long grid taken (omega (arith, long))); rest = ap Some (sym (drop_at taken rest most_read (omega (arith, long))) ∙ ap (drop most_read) (sym all)) }
    ]
  where
    some_same : (a b : List ℕ) → Some a ≡ Some b → a ≡ b
    some_same a b q = cc

    short_text : (text taken : List ℕ) → text ≡ taken → length taken < most_read → length text ≤ most_read
    short_text text taken q s = omega (arith, ap length q)

    long_text : (text taken rest : List ℕ) → text ≡ taken ++ rest → most_read ≤ length taken → MAX_TEXT < length text
    long_text text taken rest q l = omega (arith, ap length q, length-append taken rest)

pub reads_all : (left left' : Option (List ℕ)) (taken : List ℕ) → IsReadWhole left left' taken → ReadsAll left left' taken
reads_all left left' taken read = reads_told left left' taken read.taken read.most read.all

-- what answers what was read is the output for a text that reads as it
pub same_output : (verb : Verb) (grid : Fraction) (text : List ℕ) (read : Result Input TextFault) (old new : Option (List ℕ)) (status : Status) → reading grid text ≡ read
    → Ends (Some (Reading verb grid)) (IsAnswer verb read) old new status → Ends (Some (Reading verb grid)) (IsOutput (Some (Reading verb grid)) text) old new status
same_output verb grid text read old new status e h = subst (λ answer. Ends (Some (Reading verb grid)) (IsAnswer verb answer) old new status) (sym e) h

-- a sample's text is traced like one that was read
sample_ends : (number : ℕ) (telling : Telling) (grid : Fraction) (output : List ℕ → Status → Type 0) (old new : Option (List ℕ)) (status : Status)
    → Ends (Some (Reading (Trace telling) grid)) output old new status → Ends (Some (Sample number)) output old new status
sample_ends number telling grid output old new Clean e = e
sample_ends number telling grid output old new Refuted e = e
sample_ends number telling grid output old new Faulty e = e
sample_ends number telling grid output old new WordsFault e = e
sample_ends number telling grid output old new ReadFault e = e
sample_ends number telling grid output old new WriteFault e = e
sample_ends number telling grid output old new NoMemory e = e

pub sample_output : (number : ℕ) (read : Result Input TextFault) (old new : Option (List ℕ)) (status : Status) → reading millimetre (sample_text number) ≡ read
    → Ends (Some (Reading (Trace (Summary number)) millimetre)) (IsAnswer (Trace (Summary number)) read) old new status
    → Ends (Some (Sample number)) (IsAnswer (Trace (Summary number)) (reading millimetre (sample_text number))) old new status
sample_output number read old new status e ends =
    sample_ends number (Summary number) millimetre (IsAnswer (Trace (Summary number)) (reading millimetre (sample_text number))) old new status
    (subst (λ answer. Ends (Some (Reading (Trace (Summary number)) millimetre)) (IsAnswer (Trace (Summary number)) answer) old new status) (sym e) ends)

-- a source that was read out is so at each status
pub read_out : (old new : Option (List ℕ)) (text : List ℕ) (status : Status) → IsReadWhole old new text → new ≡ option_map (drop most_read) old → IsReadOut old new status
read_out old new text Clean read out = out
read_out old new text Refuted read out = out
read_out old new text Faulty read out = out
read_out old new text WordsFault read out = out
read_out old new text ReadFault read out = (text, read.most, read.taken)
read_out old new text WriteFault read out = out
read_out old new text NoMemory read out = (text, read.most, read.taken)

-- what blames the sink alone, whatever the source's count is, is no read fault
pub no_read_fault : (k k' : ℕ) (status : Status) → ((n : ℕ) → Blames n n k k' status) → status ≡ ReadFault → ⊥
no_read_fault k k' status b e = let kept = (subst (Blames 0 0 k k') e (b 0)).0 in omega (arith, kept)

-- what blames the sink alone, whatever the source's count is, goes with a source whose count is kept
pub blamed : (s s' k k' : ℕ) (status : Status) → s' ≡ s → ((n : ℕ) → Blames n n k k' status) → Blames s s' k k' status
blamed s s' k k' Clean e b = (e, (b 0).1)
blamed s s' k k' Refuted e b = (e, (b 0).1)
blamed s s' k k' Faulty e b = (e, (b 0).1)
blamed s s' k k' WordsFault e b = (e, (b 0).1)
blamed s s' k k' ReadFault e b = absurd (no_read_fault k k' ReadFault b refl)
blamed s s' k k' WriteFault e b = (e, (b 0).1)
blamed s s' k k' NoMemory e b = (e, (b 0).1)
