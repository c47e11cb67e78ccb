use Rattle.std.proofs.Common.{refl, IsTrue}
use Rattle.std.proofs.lemmas.Result.{err_from_is_err_and}
use Rattle.gx_check.specs.Verdicts.{verdicts, refutes}
use Rattle.gx_print.specs.Range.{is_in_range}
use Rattle.gx_print.specs.Texts.{verdict_line}
use Rattle.gx_print.proofs.InRange.{verdicts-in_range}
use Rattle.g4exact.specs.declared.outcome.Status.TheVariants.{Refuted}
use Rattle.g4exact.proofs.Traces.{found_holds}
use Rattle.g4exact.proofs.trace.write_refuted.Goals as goal

pub print_verdict-requires : goal.print_verdict-requires
print_verdict-requires g c = found_holds (λ v. IsTrue (is_in_range c.args.tree.now v)) refutes (verdicts c.args.tree.now) c.args.verdict.now (verdicts-in_range c.args.tree.now) c.requires

pub returns-in_err-print_verdict-clause-output : goal.returns-in_err-print_verdict-clause-output
returns-in_err-print_verdict-clause-output g c = λ telling.
    let p = err_from_is_err_and c.from_residual.result c.from_residual.ensures.1 in
    rw (p.1, p.2) (verdict_line c.args.tree.now c.args.verdict.now, Refuted, (refl, refl), c.in_err-print_verdict.ensures.bytes.front)
