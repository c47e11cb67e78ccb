use Rattle.std.proofs.Common.{[], None, sym}
use Rattle.gx_io.proofs.Joined.{with_after-nothing, front-nothing}
use Rattle.gx_check.proofs.tests.WordsVerdicts.verdict.Goals as goal

pub returns-then-is_ok-clause-given : goal.returns-then-is_ok-clause-given
returns-then-is_ok-clause-given c = record { all = sym (with_after-nothing None); front = tt }

pub returns-clause-given : goal.returns-clause-given
returns-clause-given c = record { all = tt; front = front-nothing None [] }
