use Rattle.g4exact.proofs.Checks.{nothing_written}
use Rattle.g4exact.proofs.Counters.{memory_answers}
use Rattle.g4exact.proofs.answer.answer.Goals as goal

pub returns-in_default-clause-output : goal.returns-in_default-clause-output
returns-in_default-clause-output g c = λ grid. nothing_written c.args.verb c.args.read (g.K.Sink.written c.args.sink.now)

pub returns-in_default-clause-counts : goal.returns-in_default-clause-counts
returns-in_default-clause-counts g c = memory_answers c.args.verb c.args.read _
