use Rattle.std.proofs.Common.{subst, ◌≡◌}
use Rattle.std.proofs.lemmas.Result.{err_from_is_err_and}
use Rattle.gx_io.specs.Bytes.{with_after, AppendsFront}
use Rattle.gx_check.specs.Verdicts.{verdicts}
use Rattle.gx_print.specs.Texts.{counts_line}
use Rattle.g4exact.proofs.Checks.{counted, counts_stopped, verdicts_stopped}
use Rattle.g4exact.proofs.check.write_check.Goals as goal

pub returns-in_err-print_counts-in-Ok-clause-output : goal.returns-in_err-print_counts-in-Ok-clause-output
returns-in_err-print_counts-in-Ok-clause-output g c =
    let p = err_from_is_err_and c.from_residual.result c.from_residual.ensures.1 in
    let mid = g.K.Sink.written c.print_verdicts.new.sink in
    let new = g.K.Sink.written c.print_counts.new.sink in
    let front = subst (λ k. AppendsFront mid new (counts_line k)) c.in-Ok.ensures.counts c.in_err-print_counts-in-Ok.ensures.bytes.front in
    rw (p.1, p.2) (counts_stopped c.args.selection c.args.tree.now (g.K.Sink.written c.args.sink.now) mid new c.in-Ok.ensures.bytes.all front)

pub returns-in_ok-print_counts-in-Ok-clause-output : goal.returns-in_ok-print_counts-in-Ok-clause-output
returns-in_ok-print_counts-in-Ok-clause-output g c =
    let mid = g.K.Sink.written c.print_verdicts.new.sink in
    let new = g.K.Sink.written c.print_counts.new.sink in
    let all = subst (λ k. new ≡ with_after mid (counts_line k)) c.in-Ok.ensures.counts c.in_ok-print_counts-in-Ok.ensures.bytes.all in
    counted c.args.selection c.args.tree.now (g.K.Sink.written c.args.sink.now) mid new c.status_of.result c.in-Ok.ensures.bytes.all all
    (c.status_of.ensures (verdicts c.args.tree.now) c.in-Ok.ensures.counts)

pub returns-in-Err-Out-clause-output : goal.returns-in-Err-Out-clause-output
returns-in-Err-Out-clause-output g c = verdicts_stopped c.args.selection c.args.tree.now _ _ c.in-Err-Out.ensures.bytes.front

pub returns-in-Err-NoMemory-clause-output : goal.returns-in-Err-NoMemory-clause-output
returns-in-Err-NoMemory-clause-output g c = verdicts_stopped c.args.selection c.args.tree.now _ _ c.in-Err-NoMemory.ensures.bytes.front
