use Rattle.std.proofs.Common.{◌≡◌, true, false, sym, ap, ◌∙◌, arith}
use Rattle.std.proofs.lemmas.Bool.Decides.{nat_tests}
use Rattle.std.specs.Prelude.{nat_lt, if◌then◌else◌}
use Rattle.gx_check.specs.Verdicts.{refutes}
use Rattle.g4exact.specs.declared.outcome.Status.TheVariants.{Clean, Refuted}
use Rattle.g4exact.proofs.Checks.{some-count_by}
use Rattle.g4exact.proofs.check.status_of.Goals as goal

pub returns-then-counts-gt0 : goal.returns-then-counts-gt0
returns-then-counts-gt0 c = λ given e.
    let some : nat_lt 0 c.args.counts.now.refuted ≡ true = grind (arith, nat_tests, c.if-counts-gt0.true) in
    sym (ap (λ b. if b then Refuted else Clean) (sym (some-count_by refutes given) ∙ ap (λ k. nat_lt 0 k.refuted) (sym e) ∙ some))

pub returns-else-counts-gt0 : goal.returns-else-counts-gt0
returns-else-counts-gt0 c = λ given e.
    let none : nat_lt 0 c.args.counts.now.refuted ≡ false = grind (arith, nat_tests, c.if-counts-gt0.false) in
    sym (ap (λ b. if b then Refuted else Clean) (sym (some-count_by refutes given) ∙ ap (λ k. nat_lt 0 k.refuted) (sym e) ∙ none))
