use Rattle.gx_frame.proofs.Frames.{points_stay}
use Rattle.gx_frame.proofs.laws.points_stay.Goals as goal

pub returns : goal.returns
returns c = points_stay
