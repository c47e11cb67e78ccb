use Rattle.std.proofs.Common.{refl, sym, subst}
use Rattle.gx_reader.specs.Reading.{reading}
use Rattle.gx_canon.specs.Canonical.{millimetre}
use Rattle.gx_sample.specs.Text.{sample_text}
use Rattle.g4exact.specs.declared.command.Telling.TheVariants.{Summary}
use Rattle.g4exact.specs.declared.command.Verb.TheVariants.{Trace}
use Rattle.g4exact.specs.Counters.{AnswersCounted, counters}
use Rattle.g4exact.proofs.Runs.{sample_output}
use Rattle.g4exact.proofs.Counters.{memory_answers}
use Rattle.g4exact.proofs.run.sample.Goals as goal

pub returns-in-Ok-clause-output : goal.returns-in-Ok-clause-output
returns-in-Ok-clause-output g c = λ text.
    let verb = Trace (Summary c.args.number) in
    let same = sym c.in-Ok.ensures in (
      sample_output c.args.number c.in-Ok.read _ _ c.answer.result c.in-Ok.ensures (c.answer.ensures.output millimetre),
      subst (λ read. AnswersCounted verb read (counters c.args.tests.now c.args.reads.now) (counters c.answer.new.tests c.answer.new.reads) c.answer.result) same c.answer.ensures.counts,
    )

pub returns-in-Err-clause-output : goal.returns-in-Err-clause-output
returns-in-Err-clause-output g c = λ text. (refl, memory_answers (Trace (Summary c.args.number)) (reading millimetre (sample_text c.args.number)) (counters c.args.tests.now c.args.reads.now))
