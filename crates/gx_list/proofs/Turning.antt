-- The rotations of placements.
use Rattle.std.proofs.Common.{◌≡◌, ℕ, ◌<◌, List, [], length, get_or, ◌∙◌, ap, zero-add, ℤ, pos, ◌*ℤ◌}
use Rattle.std.proofs.Math.IntN.{one, *ℤ-zero, *ℤ-one, +ℤ_idl, +ℤ_idr}
use Rattle.std.proofs.lemmas.List.FromFn.{length-map-range_with_len, get_or-map-range_with_len}
use Rattle.gx_rotation.specs.Matrix.{Matrix, image, transpose}
use Rattle.gx_rotation.specs.Rotation.{matrix_of, number_of, number_of-matrix_of}
use Rattle.gx_tree.specs.Volume.{Volume}
use Rattle.gx_list.specs.Pieces.{turn_line, turn_lines}

pub number_is : (m : Matrix) (k : ℕ) → m ≡ matrix_of k → k < 24 → number_of m ≡ k
number_is m k is below = ap number_of is ∙ number_of-matrix_of k below

pub length_is : (volumes : List Volume) → length (turn_lines volumes) ≡ 24
unfolding turn_lines
length_is volumes = length-map-range_with_len (turn_line volumes) 0 24

pub line_at : (volumes : List Volume) (k : ℕ) → k < 24 → get_or (turn_lines volumes) k [] ≡ turn_line volumes k
unfolding turn_lines
line_at volumes k below = get_or-map-range_with_len (turn_line volumes) 0 24 k k [] below (zero-add k)

times-one : (n : ℤ) → n *ℤ pos 1 ≡ n
unfolding one
times-one n = *ℤ-one n

ruleset units = (times-one, *ℤ-zero, +ℤ_idl, +ℤ_idr)

-- a row of a matrix is a unit vector turned back
pub row_x : (m : Matrix) → image (transpose m) (record { x = pos 1; y = pos 0; z = pos 0 }) ≡ m.x
row_x m = simp units

pub row_y : (m : Matrix) → image (transpose m) (record { x = pos 0; y = pos 1; z = pos 0 }) ≡ m.y
row_y m = simp units

pub row_z : (m : Matrix) → image (transpose m) (record { x = pos 0; y = pos 0; z = pos 1 }) ≡ m.z
row_z m = simp units
