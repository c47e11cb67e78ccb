-- The 24 matrices with one entry 1 or -1 in each row and column, else 0, and determinant 1, in their order.
use Rattle.std.specs.Prelude.{◌≡◌, ℕ, ◌<◌, true, false, refl, ◌+◌, ◌*◌, ◌/◌, ◌%◌, Bool, ◌&&◌, ◌||◌, List, [], ◌∷◌, pos, negsuc, unsigned_abs, nat_eq, nat_lt, if◌then◌else◌, slice_index, slice_index_or}
use Rattle.std.specs.Ordering.{int_eq}
use Rattle.std.specs.Int.RustNames.{int_lt}
use Rattle.std.specs.Int.{from_bool}
use Rattle.std.proofs.Common.{eqb-true}
use Rattle.std.proofs.lemmas.Bool.{agree_below_at}
use Rattle.gx_num.specs.declared.vector.V3.{V3}
use Rattle.gx_rotation.specs.Matrix.{Matrix, transpose, determinant}

-- the columns in which the three rows have their entries, in their order
abbrev pub permutations : List (List ℕ)
permutations =
    (0 ∷ 1 ∷ 2 ∷ []) ∷
    (0 ∷ 2 ∷ 1 ∷ []) ∷
    (1 ∷ 0 ∷ 2 ∷ []) ∷
    (1 ∷ 2 ∷ 0 ∷ []) ∷
    (2 ∷ 0 ∷ 1 ∷ []) ∷
    (2 ∷ 1 ∷ 0 ∷ []) ∷ []

-- the unit vector along an axis, or against it
abbrev pub unit_vector : ℕ → Bool → V3
unit_vector axis negative = let entry = if negative then negsuc 0 else pos 1 in record {
  x = if nat_eq axis 0 then entry else pos 0;
  y = if nat_eq axis 1 then entry else pos 0;
  z = if nat_eq axis 2 then entry else pos 0;
}

-- the rows along these axes, or against them
abbrev pub signed_rows : Bool → Bool → Bool → ℕ → ℕ → ℕ → Matrix
signed_rows x y z a b c = record { x = unit_vector a x; y = unit_vector b y; z = unit_vector c z }

-- The matrix of a rotation's number k. Each permutation has four numbers: the bit of 2 is the sign of the first row,
-- that of 1 the sign of the second, and the determinant decides the third.
unfoldable pub matrix_of : ℕ → Matrix
matrix_of k =
    let columns = slice_index_or permutations (k / 4) [] in
    let signed : Bool → Matrix = λ third.
    signed_rows (nat_eq (k % 4 / 2) 1) (nat_eq (k % 2) 1) third (slice_index columns 0) (slice_index columns 1) (slice_index columns 2) in
    if int_eq (determinant (signed false)) (pos 1) then signed false else signed true

-- the axis of a unit vector
abbrev pub axis_of : V3 → ℕ
axis_of v = if int_eq v.x (pos 0) then (if int_eq v.y (pos 0) then 2 else 1) else 0

-- it points against its axis
abbrev pub is_negative : V3 → Bool
is_negative v = int_lt v.x (pos 0) || int_lt v.y (pos 0) || int_lt v.z (pos 0)

-- the number of a rotation's matrix
unfoldable pub number_of : Matrix → ℕ
number_of m = 8 * axis_of m.x + 4 * from_bool (nat_lt (axis_of m.z) (axis_of m.y)) + 2 * from_bool (is_negative m.x) + from_bool (is_negative m.y)

-- one component is 1 or -1, and the others are 0
abbrev pub is_unit : V3 → Bool
is_unit v = nat_eq (unsigned_abs v.x + unsigned_abs v.y + unsigned_abs v.z) 1

-- one entry is 1 or -1 in each row and in each column, and the others are 0
abbrev pub takes_axes_to_axes : Matrix → Bool
takes_axes_to_axes m = let columns = transpose m in
    (is_unit m.x && is_unit m.y && is_unit m.z) && (is_unit columns.x && is_unit columns.y && is_unit columns.z)

-- the matrix of a number gives the number back
pub number_of-matrix_of : (k : ℕ) → k < 24 → number_of (matrix_of k) ≡ k
unfolding matrix_of number_of
number_of-matrix_of k h = eqb-true _ _ (agree_below_at (λ k. nat_eq (number_of (matrix_of k)) k) (λ k. true) 24 k refl h)
