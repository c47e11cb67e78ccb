use Rattle.std.proofs.Common.{arith}
use Rattle.std.proofs.lemmas.Result.{err_from_is_err_and}
use Rattle.gx_text.proofs.FaultLemmas.{cause_within}
use Rattle.gx_text.proofs.partial_line.PartialLine.extend.Goals as goal

pub returns-in_err-push-clause-err : goal.returns-in_err-push-clause-err
returns-in_err-push-clause-err c =
    let l = c.loop-byte in
    let p = err_from_is_err_and c.from_residual.result c.from_residual.ensures.1 in
    rw (p.1, p.2) (cause_within c.args.number c.args.self.now c.args.bytes.now l.byte-index c.in_err-push.field-0.0 (omega arith) (rw l.invariant.line at c.in_err-push.ensures.err))
