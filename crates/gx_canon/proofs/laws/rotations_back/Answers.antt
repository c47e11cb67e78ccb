use Rattle.gx_canon.proofs.Rotations.{rotations_back}
use Rattle.gx_canon.proofs.laws.rotations_back.Goals as goal

pub returns : goal.returns
returns c = rotations_back
