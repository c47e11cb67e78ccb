use Rattle.std.proofs.Common.{[], ◌∷◌, refl, pos}
use Rattle.gx_tree.proofs.tests.slab.Goals as goal

pub sealed-requires-clause-solid : goal.sealed-requires-clause-solid
sealed-requires-clause-solid c = record {
  values = record { values = pos 2 ∷ pos 10 ∷ pos 10 ∷ []; left = record { count = 3; left = [] }; given = refl };
  whole = refl;
}
