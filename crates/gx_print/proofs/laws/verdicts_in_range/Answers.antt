use Rattle.gx_print.proofs.InRange.{verdicts-in_range}
use Rattle.gx_print.proofs.laws.verdicts_in_range.Goals as goal

pub returns : goal.returns
returns c = verdicts-in_range
