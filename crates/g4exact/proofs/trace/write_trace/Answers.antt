use Rattle.std.proofs.Common.{subst, sym, ap, ◌∙◌, Some}
use Rattle.gx_sealed.specs.Sealed.{IsSealCause}
use Rattle.g4exact.proofs.Traces.{refuted_written}
use Rattle.g4exact.proofs.trace.write_trace.Goals as goal

pub returns-in-Err-Refuted-clause-output : goal.returns-in-Err-Refuted-clause-output
returns-in-Err-Refuted-clause-output g c =
    let err = subst (IsSealCause c.args.input.tree) c.in-Err-Refuted.field-0-is c.in-Err-Refuted.ensures.err in
    refuted_written c.args.telling c.args.input _ (c.in-Err-Refuted.tree-is ∙ err.0) _ (err.1 ∙ ap Some (sym c.in-Err-Refuted.verdict-is)) (g.K.Sink.written c.args.sink.now) (g.K.Sink.written c.write_refuted.new.sink)
    c.write_refuted.result (c.write_refuted.ensures.output c.args.telling)
