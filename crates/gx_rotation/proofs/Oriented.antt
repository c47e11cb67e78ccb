-- A matrix that takes axes to axes is a rotation's or a mirror's, and its first two rows tell the rotation.
use Rattle.std.proofs.Common.{◌≡◌, ℕ, ◌+◌, ◌<◌, Bool, true, false, pos, unsigned_abs, Result, Ok, Err, refl, if◌then◌else◌, arith, eqb-true, subst, sym, ◌∙◌}
use Rattle.std.proofs.lemmas.Int.{ints}
use Rattle.std.specs.Int.{from_bool}
use Rattle.std.specs.Int.RustNames.{int_lt}
use Rattle.gx_num.specs.declared.vector.V3.{V3}
use Rattle.gx_num.specs.Vector.{dot_of}
use Rattle.gx_rotation.specs.declared.fault.RotationFault.{RotationFault}
use Rattle.gx_rotation.specs.declared.fault.RotationFault.TheVariants.{NotAxis, Mirror}
use Rattle.gx_rotation.specs.Matrix.{Matrix, image}
use Rattle.gx_rotation.specs.Rotation.{matrix_of, number_of, signed_rows, unit_vector, axis_of, is_negative, is_unit, takes_axes_to_axes}
use Rattle.gx_rotation.specs.Given.{checked}
use Rattle.gx_rotation.proofs.Each.{each_triple, values}
use Rattle.gx_rotation.proofs.Algebra.{vector_is}

pub axis_of_below : (v : V3) → axis_of v < 3
axis_of_below v = grind arith

pub from_bool_below : (b : Bool) → from_bool b < 2
from_bool_below true = omega arith
from_bool_below false = omega arith

abbrev unit_of : V3 → V3
unit_of v = unit_vector (axis_of v) (is_negative v)

unit_is : (v : V3) → is_unit v ≡ true → v ≡ unit_of v
unit_is v h =
    let sum : unsigned_abs v.x + unsigned_abs v.y + unsigned_abs v.z ≡ 1 = eqb-true _ _ h in
    let x : (unit_of v).x ≡ v.x = grind (arith, ints) in
    let y : (unit_of v).y ≡ v.y = grind (arith, ints) in
    let z : (unit_of v).z ≡ v.z = grind (arith, ints) in
    sym (vector_is _ _ _ v x y z)

-- the rotation with the first two rows has the third, or its opposite
abbrev oriented : Matrix → Result Matrix RotationFault
oriented m =
    let r = matrix_of (number_of m) in
    if takes_axes_to_axes m
    then (if int_lt (dot_of r.z m.z) (pos 0) then Err Mirror else Ok r)
    else Err (NotAxis 0)

computed : (x y z : Bool) → values (λ a. values (λ b. values (λ c. checked (signed_rows x y z a b c)) 3) 3) 3 ≡ values (λ a. values (λ b. values (λ c. oriented (signed_rows x y z a b c)) 3) 3) 3
unfolding matrix_of number_of checked
computed true true true = refl
computed true true false = refl
computed true false true = refl
computed true false false = refl
computed false true true = refl
computed false true false = refl
computed false false true = refl
computed false false false = refl

units : (m : Matrix) → takes_axes_to_axes m ≡ true → (is_unit m.x ≡ true) × (is_unit m.y ≡ true) × (is_unit m.z ≡ true)
units m h = grind arith

by_rows : (m : Matrix) (x y z : V3) → m.x ≡ x → m.y ≡ y → m.z ≡ z → m ≡ record { x = x; y = y; z = z }
by_rows m x y z ex ey ez = rw (← ex, ← ey, ← ez) refl

checked-oriented : (m : Matrix) → takes_axes_to_axes m ≡ true → checked m ≡ oriented m
checked-oriented m h =
    let u = units m h in
    let signed : ℕ → ℕ → ℕ → Matrix = signed_rows (is_negative m.x) (is_negative m.y) (is_negative m.z) in
    let e : m ≡ signed (axis_of m.x) (axis_of m.y) (axis_of m.z) =
    by_rows m (unit_of m.x) (unit_of m.y) (unit_of m.z) (unit_is m.x u.0) (unit_is m.y u.1) (unit_is m.z u.2) in
    let P : Matrix → Type 0 = λ m. checked m ≡ oriented m in
    subst P (sym e)
    (each_triple (λ a b c. checked (signed a b c)) (λ a b c. oriented (signed a b c)) 3
    (computed (is_negative m.x) (is_negative m.y) (is_negative m.z))
    (axis_of m.x) (axis_of m.y) (axis_of m.z) (axis_of_below m.x) (axis_of_below m.y) (axis_of_below m.z))

pub checked-where : (m r : Matrix) (v : V3) → takes_axes_to_axes m ≡ true → r ≡ matrix_of (number_of m) → v ≡ image r m.z → checked m ≡ (if int_lt v.z (pos 0) then Err Mirror else Ok r)
checked-where m r v h is turned = checked-oriented m h ∙ rw (h, turned, is) refl
