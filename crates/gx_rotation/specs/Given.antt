-- Rotations as a text gives them: by quarter turns about the axes, by the images of the axes, or by nine entries.
use Rattle.std.specs.Prelude.{ℕ, ℤ, ◌+◌, ◌*ℤ◌, ◌-ℤ◌, ◌%◌, List, [], ◌∷◌, Option, None, Result, Ok, Err, pos, negsuc, nat_eq, if◌then◌else◌, slice_index_or}
use Rattle.std.specs.Option.{ok_or}
use Rattle.std.specs.Ordering.{int_eq}
use Rattle.gx_num.specs.declared.vector.V3.{V3}
use Rattle.gx_form.specs.First.{◌>>=◌}
use Rattle.gx_rotation.specs.declared.fault.RotationFault.{RotationFault}
use Rattle.gx_rotation.specs.declared.fault.RotationFault.TheVariants.{NotAxis, Mirror}
use Rattle.gx_rotation.specs.Matrix.{Matrix, transpose, product, determinant}
use Rattle.gx_rotation.specs.Rotation.{takes_axes_to_axes}

-- the value at a place; where there is none, the place is at fault
abbrev pub value_at : {A : Type 0} → List (Option A) → ℕ → Result A RotationFault
value_at values place = ok_or (slice_index_or values place None) (NotAxis place)

-- the matrix, where it takes axes to axes and is no mirror
unfoldable pub checked : Matrix → Result Matrix RotationFault
checked m =
    if takes_axes_to_axes m
    then (if int_eq (determinant m) (negsuc 0) then Err Mirror else Ok m)
    else Err (NotAxis 0)

-- of a number of quarter turns
abbrev pub cosine : ℕ → ℤ
cosine q = slice_index_or (pos 1 ∷ pos 0 ∷ negsuc 0 ∷ pos 0 ∷ []) (q % 4) (pos 0)

abbrev pub sine : ℕ → ℤ
sine q = slice_index_or (pos 0 ∷ pos 1 ∷ pos 0 ∷ negsuc 0 ∷ []) (q % 4) (pos 0)

-- quarter turns about x, which take y to z
unfoldable pub turn_x : ℕ → Matrix
turn_x q = record {
  x = record { x = pos 1; y = pos 0; z = pos 0 };
  y = record { x = pos 0; y = cosine q; z = pos 0 -ℤ sine q };
  z = record { x = pos 0; y = sine q; z = cosine q };
}

-- quarter turns about y, which take z to x
unfoldable pub turn_y : ℕ → Matrix
turn_y q = record {
  x = record { x = cosine q; y = pos 0; z = sine q };
  y = record { x = pos 0; y = pos 1; z = pos 0 };
  z = record { x = pos 0 -ℤ sine q; y = pos 0; z = cosine q };
}

-- quarter turns about z, which take x to y
unfoldable pub turn_z : ℕ → Matrix
turn_z q = record {
  x = record { x = cosine q; y = pos 0 -ℤ sine q; z = pos 0 };
  y = record { x = sine q; y = cosine q; z = pos 0 };
  z = record { x = pos 0; y = pos 0; z = pos 1 };
}

-- quarter turns about an axis
abbrev pub turn : ℕ → ℕ → Matrix
turn axis q = if nat_eq axis 0 then turn_x q else (if nat_eq axis 1 then turn_y q else turn_z q)

-- three angles: first about x, then about y, then about z
abbrev pub by_angles3 : List (Option ℕ) → Result Matrix RotationFault
by_angles3 q = do
  x ← value_at q 0
  y ← value_at q 1
  z ← value_at q 2
  Ok (product (product (turn 2 z) (turn 1 y)) (turn 0 x))

-- the direction of the angles theta, from z, and phi, about z from x
unfoldable pub direction : ℕ → ℕ → V3
direction theta phi = record { x = sine theta *ℤ cosine phi; y = sine theta *ℤ sine phi; z = cosine theta }

-- the direction of the two angles from a place on; phi may be missing where theta gives z or -z
abbrev pub direction_at : List (Option ℕ) → ℕ → Result V3 RotationFault
direction_at q place = do
  theta ← value_at q place
  if int_eq (sine theta) (pos 0) then Ok (direction theta 0) else value_at q (place + 1) >>= (λ phi. Ok (direction theta phi))

-- six angles: the images of the three axes, which are the columns
abbrev pub by_angles6 : List (Option ℕ) → Result Matrix RotationFault
by_angles6 q = do
  x ← direction_at q 0
  y ← direction_at q 2
  z ← direction_at q 4
  checked (transpose (record { x = x; y = y; z = z }))

-- the three values from a place on
abbrev pub row_at : List (Option ℤ) → ℕ → Result V3 RotationFault
row_at values place = do
  x ← value_at values place
  y ← value_at values (place + 1)
  z ← value_at values (place + 2)
  Ok (record { x = x; y = y; z = z })

-- nine values: the rows
abbrev pub by_matrix9 : List (Option ℤ) → Result Matrix RotationFault
by_matrix9 values = do
  x ← row_at values 0
  y ← row_at values 3
  z ← row_at values 6
  checked (record { x = x; y = y; z = z })
