use Rattle.gx_common.proofs.Shown.{points_show}
use Rattle.gx_common.proofs.laws.points_show.Goals as goal

pub returns : goal.returns
returns c = points_show
