use Rattle.gx_plane.proofs.ExtremeRays.{tilted}
use Rattle.gx_plane.proofs.laws.tilting.Goals as goal

pub returns : goal.returns
returns c = tilted
