use Rattle.gx_canon.proofs.KeptLines.{kept}
use Rattle.gx_canon.proofs.laws.kept.Goals as goal

pub returns : goal.returns
returns c = kept
