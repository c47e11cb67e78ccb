use Rattle.gx_nest.proofs.Steady.{open_report}
use Rattle.gx_nest.proofs.laws.rows_are_report.Goals as goal

pub returns : goal.returns
returns c = open_report
