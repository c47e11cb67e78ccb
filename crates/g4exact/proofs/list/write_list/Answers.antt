use Rattle.std.proofs.Common.{refl}
use Rattle.std.proofs.lemmas.Result.{err_from_is_err_and}
use Rattle.gx_canon.specs.Canonical.{canonical}
use Rattle.g4exact.specs.declared.outcome.Status.TheVariants.{Clean}
use Rattle.g4exact.proofs.list.write_list.Goals as goal

pub returns-in_err-print_list-clause-output : goal.returns-in_err-print_list-clause-output
returns-in_err-print_list-clause-output g c =
    let p = err_from_is_err_and c.from_residual.result c.from_residual.ensures.1 in
    rw (p.1, p.2) (canonical c.args.input.now.tree c.args.input.now.rays, Clean, (refl, refl), c.in_err-print_list.ensures.bytes.front)
