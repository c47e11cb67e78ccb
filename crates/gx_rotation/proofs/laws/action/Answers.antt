use Rattle.gx_rotation.proofs.Algebra.{image-product, image-identity}
use Rattle.gx_rotation.proofs.laws.action.Goals as goal

pub returns : goal.returns
returns c = record { composes = image-product; rests = image-identity }
