use Rattle.std.proofs.Common.{refl, sym, subst, ◌∙◌}
use Rattle.gx_reader.specs.Reading.{reading}
use Rattle.g4exact.specs.Counters.{AnswersCounted, counters}
use Rattle.g4exact.proofs.Checks.{nothing_written}
use Rattle.g4exact.proofs.Counters.{memory_answers, read_answers}
use Rattle.g4exact.proofs.Runs.{told, reads_all, same_output, read_out, no_read_fault, blamed}
use Rattle.g4exact.proofs.run.read.Goals as goal

pub returns-in-Ok-clause-output : goal.returns-in-Ok-clause-output
returns-in-Ok-clause-output g c =
    let taken = c.in-Ok.ensures.ok in
    let grid = c.args.grid.now in
    let all = reads_all _ _ taken.0 taken.1 in
    let same = all.same grid ∙ taken.2 in (
      all.text,
      all.told,
      same_output c.args.verb grid all.text c.in-Ok.read _ _ c.answer.result same (c.answer.ensures.output grid),
      subst (λ read. AnswersCounted c.args.verb read (counters c.args.tests.now c.args.reads.now) (counters c.answer.new.tests c.answer.new.reads) c.answer.result) (sym same) c.answer.ensures.counts,
    )

pub returns-in-Ok-clause-read : goal.returns-in-Ok-clause-read
returns-in-Ok-clause-read g c = let taken = c.in-Ok.ensures.ok in read_out _ _ taken.0 c.answer.result taken.1 (reads_all _ _ taken.0 taken.1).rest

pub returns-in-Ok-clause-last : goal.returns-in-Ok-clause-last
returns-in-Ok-clause-last g c = λ fault. absurd (no_read_fault _ _ c.answer.result c.answer.ensures.blames fault)

pub returns-in-Err-Failed-clause-output : goal.returns-in-Err-Failed-clause-output
returns-in-Err-Failed-clause-output g c = let text = told (g.S.Source.left c.args.source.now) in (text.0, text.1, refl, read_answers c.args.verb (reading c.args.grid.now text.0) (counters c.args.tests.now c.args.reads.now))

pub returns-in-Err-NoMemory-clause-output : goal.returns-in-Err-NoMemory-clause-output
returns-in-Err-NoMemory-clause-output g c =
    let text = told (g.S.Source.left c.args.source.now) in
    (text.0, text.1, nothing_written c.args.verb (reading c.args.grid.now text.0) (g.K.Sink.written c.args.sink.now), memory_answers c.args.verb (reading c.args.grid.now text.0) (counters c.args.tests.now c.args.reads.now))

pub returns-in-Ok-clause-blames : goal.returns-in-Ok-clause-blames
returns-in-Ok-clause-blames g c = blamed _ _ _ _ c.answer.result c.in-Ok.ensures.kept c.answer.ensures.blames
