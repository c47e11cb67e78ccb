use Rattle.g4exact.proofs.Counters.{fault_counted}
use Rattle.g4exact.specs.Counters.{counters}
use Rattle.g4exact.proofs.answer.write_answer.Goals as goal

pub returns-in-Err-clause-output : goal.returns-in-Err-clause-output
returns-in-Err-clause-output g c = rw c.in-Err.is (c.write_fault.ensures.output c.args.verb)

pub returns-in-Err-clause-counts : goal.returns-in-Err-clause-counts
returns-in-Err-clause-counts g c = rw c.in-Err.is (fault_counted c.args.verb c.in-Err.fault (counters c.args.tests.now c.args.reads.now) _)
