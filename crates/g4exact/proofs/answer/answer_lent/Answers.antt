use Rattle.std.proofs.Common.{ap, sym, subst}
use Rattle.gx_io.specs.Bytes.{with_after, Grows}
use Rattle.g4exact.specs.Output.{IsAnswer}
use Rattle.g4exact.specs.Ends.{Answers}
use Rattle.g4exact.proofs.Answered.{handed}
use Rattle.g4exact.proofs.answer.answer_lent.Goals as goal

pub returns-clause-output : goal.returns-clause-output
returns-clause-output g c =
    let written = g.K.Sink.written in
    let wrote = c.answer_and_flush-result in
    let verb = c.args.verb in
    let out = IsAnswer verb c.args.read in
    let old = written c.args.sink.now in
    let new = written c.into_inner-sink.result.sink.now in
    let started = ap (λ b. written b.inner.sink.now) c.new-buffered.ensures in
    let ended = ap (λ l. written l.sink.now) (sym c.into_inner-sink.ensures) in
    let grows = subst (λ t. Grows t new) (sym c.requires.written) c.into_inner-sink.result.grows in
    let gathered = subst (λ t. Answers verb out old (with_after t wrote.new.buffered.buffer) wrote.result) ended
    (subst (λ t. Answers verb out t (with_after (written wrote.new.buffered.inner.sink.now) wrote.new.buffered.buffer) wrote.result) started wrote.ensures.output) in
    handed verb out old new wrote.new.buffered.buffer wrote.result grows wrote.ensures.all gathered
