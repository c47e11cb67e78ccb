use Rattle.std.proofs.Common.{length, refl}
use Rattle.gx_plane.proofs.Cones.{found, not_both}
use Rattle.gx_plane.proofs.laws.farkas.Goals as goal

pub returns : goal.returns
returns c = λ members v. (found (length members) members v refl, λ both. not_both members v both.0 both.1)
