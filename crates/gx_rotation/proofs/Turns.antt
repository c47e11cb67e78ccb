-- The numbers of the quarter turns.
use Rattle.std.proofs.Common.{◌≡◌, ℕ, ◌%◌, ◌<◌, [], ◌∷◌, List, refl, slice_index_or, arith}
use Rattle.gx_rotation.specs.Rotation.{matrix_of}
use Rattle.gx_rotation.specs.Given.{turn, turn_x, turn_y, turn_z}
use Rattle.gx_rotation.proofs.Each.{each_pair}

abbrev turns : List (List ℕ)
turns = (0 ∷ 5 ∷ 1 ∷ 4 ∷ []) ∷ (0 ∷ 20 ∷ 2 ∷ 22 ∷ []) ∷ (0 ∷ 10 ∷ 3 ∷ 9 ∷ []) ∷ []

abbrev turn_at : ℕ → ℕ → ℕ
turn_at axis q = slice_index_or (slice_index_or turns axis []) q 0

mod_mod : (q : ℕ) → q % 4 % 4 ≡ q % 4
mod_mod q = omega arith

below : (q : ℕ) → q % 4 < 4
below q = omega arith

pub turn_at_is : (axis q : ℕ) → axis < 3 → matrix_of (turn_at axis (q % 4)) ≡ turn axis q
unfolding matrix_of turn_x turn_y turn_z
turn_at_is axis q h = rw (mod_mod q) at (each_pair (λ a q. matrix_of (turn_at a q)) turn 3 4 refl axis (q % 4) h (below q))
