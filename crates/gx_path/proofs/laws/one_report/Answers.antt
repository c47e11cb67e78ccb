use Rattle.gx_path.proofs.Unique.{unique}
use Rattle.gx_path.proofs.laws.one_report.Goals as goal

pub returns : goal.returns
returns c = unique
