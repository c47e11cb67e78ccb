use Rattle.gx_partition.proofs.OpenRows.{report}
use Rattle.gx_partition.proofs.laws.open_rows_are_the_report.Goals as goal

pub returns : goal.returns
returns c = report
