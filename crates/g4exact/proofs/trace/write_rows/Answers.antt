use Rattle.std.proofs.Common.{refl}
use Rattle.std.proofs.lemmas.Result.{err_from_is_err_and}
use Rattle.g4exact.specs.declared.outcome.Status.TheVariants.{Clean}
use Rattle.g4exact.proofs.trace.write_rows.Goals as goal

pub returns-in_err-print_reports-clause-output : goal.returns-in_err-print_reports-clause-output
returns-in_err-print_reports-clause-output g c =
    let p = err_from_is_err_and c.from_residual-in_err-print_reports.result c.from_residual-in_err-print_reports.ensures.1 in
    let bytes = c.in_err-print_reports.ensures.bytes in
    rw (p.1, p.2) (bytes.0, Clean, (bytes.1, refl), bytes.2.front)

pub returns-in_err-print_reports-clause-counts : goal.returns-in_err-print_reports-clause-counts
returns-in_err-print_reports-clause-counts g c =
    let p = err_from_is_err_and c.from_residual-in_err-print_reports.result c.from_residual-in_err-print_reports.ensures.1 in
    rw (p.1, p.2) c.in_err-print_reports.ensures.counts.0
