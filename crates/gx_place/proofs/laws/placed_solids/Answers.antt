use Rattle.gx_place.proofs.Placed as placed
use Rattle.gx_place.proofs.laws.placed_solids.Goals as goal

pub returns : goal.returns
returns _ = placed.placed_solids
