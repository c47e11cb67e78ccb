-- How a check's parts make its clauses.
use Rattle.std.proofs.Common.{◌≡◌, ℕ, Bool, true, false, List, [], ◌∷◌, Option, Result, Ok, Err, length, refl, sym, ap, ◌∙◌, subst, arith}
use Rattle.std.specs.Prelude.{nat_lt, ◌||◌, count_by, filter}
use Rattle.std.proofs.lemmas.List.Sums.{length-filter}
use Rattle.std.specs.List.{list_any}
use Rattle.std.proofs.Math.Bool.{cond}
use Rattle.std.proofs.lemmas.Bool.Decides.{nat_tests}
use Rattle.gx_io.specs.Bytes.{with_after, AppendsFront}
use Rattle.gx_io.proofs.Joined.{with_after-twice, front-of_first, front-of_second, front-nothing}
use Rattle.gx_tree.specs.Hierarchy.{Hierarchy}
use Rattle.gx_check.specs.declared.selection.Selection.{Selection}
use Rattle.gx_check.specs.Verdicts.{verdicts, counts_of}
use Rattle.gx_gather.specs.declared.fault.TextFault.{TextFault}
use Rattle.gx_link.specs.declared.input.Input.{Input}
use Rattle.gx_print.specs.Texts.{fault_line, counts_line}
use Rattle.g4exact.specs.declared.outcome.Status.{Status}
use Rattle.g4exact.specs.declared.outcome.Status.TheVariants.{TextFault as Faulty}
use Rattle.g4exact.specs.declared.command.Verb.{Verb}
use Rattle.g4exact.specs.declared.command.Verb.TheVariants.{Trace, Check, List as Listed}
use Rattle.g4exact.specs.Output.{verdict_lines, check_text, checked_status, IsCheck, IsAnswer}
use Rattle.g4exact.specs.Ends.{WritesAll, WritesFront, Wants}

some-filter : {A : Type 0} (test : A → Bool) (xs : List A) → nat_lt 0 (length (filter test xs)) ≡ list_any test xs
some-filter test [] = refl
some-filter test (x ∷ xs) = one (test x) (some-filter test xs)
  where
    one : (b : Bool) → nat_lt 0 (length (filter test xs)) ≡ list_any test xs → nat_lt 0 (length (cond b (x ∷ filter test xs) (filter test xs))) ≡ (b || list_any test xs)
    one true e = let more : nat_lt 0 (length (x ∷ filter test xs)) ≡ true = grind (arith, nat_tests) in more
    one false e = e

-- a count isn't 0 where there is one
pub some-count_by : {A : Type 0} (test : A → Bool) (xs : List A) → nat_lt 0 (count_by test xs) ≡ list_any test xs
some-count_by test xs = ap (nat_lt 0) (sym (length-filter test xs)) ∙ some-filter test xs

-- verdicts and counts were written
pub counted : (selection : Selection) (h : Hierarchy) (old mid new : Option (List ℕ)) (status : Status) → mid ≡ with_after old (verdict_lines selection h) → new ≡ with_after mid (counts_line (counts_of (verdicts h)))
    → status ≡ checked_status h → WritesAll (IsCheck selection h) old new status
counted selection h old mid new status lines counts is =
    (check_text selection h, (refl, is), counts ∙ ap (λ t. with_after t (counts_line (counts_of (verdicts h)))) lines ∙ with_after-twice old (verdict_lines selection h) (counts_line (counts_of (verdicts h))))

-- the verdicts were stopped
pub verdicts_stopped : (selection : Selection) (h : Hierarchy) (old new : Option (List ℕ)) → AppendsFront old new (verdict_lines selection h) → WritesFront (IsCheck selection h) old new
verdicts_stopped selection h old new lines =
    (check_text selection h, checked_status h, (refl, refl), front-of_first old new (verdict_lines selection h) (counts_line (counts_of (verdicts h))) lines)

-- the counts were
pub counts_stopped : (selection : Selection) (h : Hierarchy) (old mid new : Option (List ℕ)) → mid ≡ with_after old (verdict_lines selection h) → AppendsFront mid new (counts_line (counts_of (verdicts h)))
    → WritesFront (IsCheck selection h) old new
counts_stopped selection h old mid new lines counts =
    let front = subst (λ t. AppendsFront t new (counts_line (counts_of (verdicts h)))) lines counts in
    (check_text selection h, checked_status h, (refl, refl), front-of_second old new (verdict_lines selection h) (counts_line (counts_of (verdicts h))) front)

-- where memory is wanting before the first byte, nothing was written, which is a front of any output
pub nothing_written : (verb : Verb) (read : Result Input TextFault) (old : Option (List ℕ)) → Wants verb (IsAnswer verb read) old old
nothing_written (Trace telling) read old = refl
nothing_written Listed read old = refl
nothing_written (Check selection) (Err fault) old = (fault_line fault, Faulty, (refl, refl), front-nothing old (fault_line fault))
nothing_written (Check selection) (Ok input) old = (check_text selection input.tree, checked_status input.tree, (refl, refl), front-nothing old (check_text selection input.tree))
