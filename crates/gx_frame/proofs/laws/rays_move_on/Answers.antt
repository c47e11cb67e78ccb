use Rattle.gx_frame.proofs.Frames.{rays_move_on}
use Rattle.gx_frame.proofs.laws.rays_move_on.Goals as goal

pub returns : goal.returns
returns c = rays_move_on
