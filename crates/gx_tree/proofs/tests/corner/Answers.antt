use Rattle.std.proofs.Common.{[], ◌∷◌, refl, pos}
use Rattle.gx_tree.proofs.tests.corner.Goals as goal

pub sealed-requires-clause-solid : goal.sealed-requires-clause-solid
sealed-requires-clause-solid c = record {
  values = record {
    values = pos 0 ∷ pos 0 ∷ pos 0 ∷ pos 4 ∷ pos 0 ∷ pos 0 ∷ pos 0 ∷ pos 4 ∷ pos 0 ∷ pos 0 ∷ pos 0 ∷ pos 4 ∷ [];
    left = record { count = 12; left = [] };
    given = refl;
  };
  whole = refl;
}
