use Rattle.std.proofs.Common.{◌≡◌, Err, ◌∙◌, subst}
use Rattle.std.proofs.lemmas.Result.{err_from_is_err_and}
use Rattle.gx_io.specs.Bytes.{with_after}
use Rattle.gx_io.proofs.Gathered.{but-whole, with_after-none}
use Rattle.g4exact.specs.Output.{IsAnswer}
use Rattle.g4exact.specs.Ends.{Answers}
use Rattle.g4exact.proofs.Answered.{all_stops}
use Rattle.g4exact.proofs.Counters.{answers_stopped}
use Rattle.g4exact.proofs.answer.answer_and_flush.Goals as goal

pub returns-in_err-status-clause-output : goal.returns-in_err-status-clause-output
returns-in_err-status-clause-output g c =
    let empty = with_after-none (g.K.Sink.written c.args.buffered.now.inner) c.args.buffered.now.buffer c.requires in
    let new = with_after (g.K.Sink.written c.write_answer.new.sink.inner) c.write_answer.new.sink.buffer in
    let p = err_from_is_err_and c.from_residual.result c.from_residual.ensures.1 in
    rw (p.1, p.2) (subst (λ t. Answers c.args.verb (IsAnswer c.args.verb c.args.read) t new (Err c.in_err-status.field-0.0)) empty c.in_err-status.ensures.output)

pub returns-in_err-flush-clause-output : goal.returns-in_err-flush-clause-output
returns-in_err-flush-clause-output g c =
    let out = IsAnswer c.args.verb c.args.read in
    let old = g.K.Sink.written c.args.buffered.now.inner in
    let empty = with_after-none old c.args.buffered.now.buffer c.requires in
    let all = c.in_ok-status.ensures.output in
    let whole = but-whole _ _ c.write_answer.new.sink.buffer c.flush.new.self.buffer c.in_err-flush.ensures.bytes in
    let p = err_from_is_err_and c.from_residual-in_err-flush.result c.from_residual-in_err-flush.ensures.1 in
    rw (p.1, p.2) (all_stops out old _ c.in_ok-status.status (all.0, all.1, whole ∙ subst (λ t. with_after (g.K.Sink.written c.write_answer.new.sink.inner) c.write_answer.new.sink.buffer ≡ with_after t all.0) empty all.2))

pub returns-clause-output : goal.returns-clause-output
returns-clause-output g c =
    let old = g.K.Sink.written c.args.buffered.now.inner in
    let empty = with_after-none old c.args.buffered.now.buffer c.requires in
    let all = c.in_ok-status.ensures.output in
    let whole = but-whole _ _ c.write_answer.new.sink.buffer c.flush.new.self.buffer c.in_ok-flush.ensures.bytes in
    (all.0, all.1, whole ∙ subst (λ t. with_after (g.K.Sink.written c.write_answer.new.sink.inner) c.write_answer.new.sink.buffer ≡ with_after t all.0) empty all.2)

pub returns-in_err-status-clause-counts : goal.returns-in_err-status-clause-counts
returns-in_err-status-clause-counts g c = let p = err_from_is_err_and c.from_residual.result c.from_residual.ensures.1 in rw (p.1, p.2) c.in_err-status.ensures.counts

pub returns-in_err-flush-clause-counts : goal.returns-in_err-flush-clause-counts
returns-in_err-flush-clause-counts g c =
    let all = c.in_ok-status.ensures.output in
    let p = err_from_is_err_and c.from_residual-in_err-flush.result c.from_residual-in_err-flush.ensures.1 in
    rw (p.1, p.2) (answers_stopped c.args.verb c.args.read all.0 _ _ c.in_ok-status.status all.1 c.in_ok-status.ensures.counts)
