-- What calls that give verdicts do to the receiver.
use Rattle.std.specs.Prelude.{◌≡◌, ℕ, Bool, List, flat_map, Option, Result, OnOk, IfErr}
use Rattle.gx_io.specs.Bytes.{Writes, next_fault}
use Rattle.gx_check.specs.declared.error.CheckError.{CheckError}
use Rattle.gx_check.specs.declared.error.CheckError.TheVariants.{Out, NoMemory}
use Rattle.gx_check.specs.declared.verdict.Verdict.{Verdict}

-- exactly one fault more where the receiver failed, and none for want of memory
abbrev pub IsCheckCause : ℕ → ℕ → CheckError → Type 0
IsCheckCause before now Out = now ≡ next_fault before
IsCheckCause before now NoMemory = now ≡ before

-- The items of these verdicts were appended to what the receiver holds, or at an error a front of them. What stands for a
-- verdict and what it takes stay. Its faults rise only where it failed.
pub record Gives {S A T : Type 0} (held : S → Option (List A)) (items : S → Verdict → List A) (takes : S → Verdict → Bool) (faults : S → ℕ) (before now : S) (given : List Verdict) (result : Result T CheckError) : Type 0 where
  pub appended : Writes (held before) (held now) (flat_map (items before) given) result
  pub same_items : items now ≡ items before
  pub same_takes : takes now ≡ takes before
  pub kept : OnOk result (faults now ≡ faults before)
  pub cause : IfErr result (IsCheckCause (faults before) (faults now))
