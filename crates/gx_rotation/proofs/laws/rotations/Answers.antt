use Rattle.gx_rotation.proofs.Tables.{different, axes, proper}
use Rattle.gx_rotation.proofs.laws.rotations.Goals as goal

pub returns : goal.returns
returns c = record { different = different; axes = axes; proper = proper }
