-- Vectors that are turned and moved: how large they are.
use Rattle.std.proofs.Common.{◌≡◌, ◌∙◌, ℕ, ◌+◌, ◌*◌, ◌≤◌, true, eqb-true, ◌&&◌, ◌*ℤ◌, ◌+ℤ◌, unsigned_abs, ap, arith}
use Rattle.std.proofs.lemmas.Bool.{and_parts}
use Rattle.gx_num.specs.declared.vector.V3.{V3}
use Rattle.gx_num.specs.Vector.{IsWithin, dot_of, difference_of}
use Rattle.gx_plane.proofs.Sizes.{unsigned_abs-mul_le, unsigned_abs-add_le, unsigned_abs-sub_le}
use Rattle.gx_rotation.specs.Matrix.{Matrix, image}
use Rattle.gx_rotation.specs.Rotation.{is_unit, takes_axes_to_axes}
use Rattle.gx_rotation.proofs.Tables.{axes}
use Rattle.gx_tree.specs.Hierarchy.{IsRotation}

-- a product with a unit vector is no larger
dot_of-unit : (u v : V3) (bound : ℕ) → is_unit u ≡ true → IsWithin bound v → unsigned_abs (dot_of u v) ≤ bound
dot_of-unit u v bound unit h =
    let x = unsigned_abs-mul_le u.x v.x (unsigned_abs u.x) bound (omega arith) h.x in
    let y = unsigned_abs-mul_le u.y v.y (unsigned_abs u.y) bound (omega arith) h.y in
    let z = unsigned_abs-mul_le u.z v.z (unsigned_abs u.z) bound (omega arith) h.z in
    let sum = unsigned_abs-add_le (u.x *ℤ v.x +ℤ u.y *ℤ v.y) (u.z *ℤ v.z) _ _ (unsigned_abs-add_le (u.x *ℤ v.x) (u.y *ℤ v.y) _ _ x y) z in
    omega (arith, sum, ap (λ s. s * bound) (eqb-true _ _ unit))

pub IsWithin-image : (m : Matrix) → IsRotation m → (bound : ℕ) (v : V3) → IsWithin bound v → IsWithin bound (image m v)
IsWithin-image m rotation bound v h =
    let all = and_parts (is_unit m.x && is_unit m.y && is_unit m.z) _ (ap takes_axes_to_axes rotation.same ∙ axes rotation.index rotation.below) in
    let two = and_parts (is_unit m.x && is_unit m.y) (is_unit m.z) all.0 in
    let rows = and_parts (is_unit m.x) (is_unit m.y) two.0 in
    record { x = dot_of-unit m.x v bound rows.0 h; y = dot_of-unit m.y v bound rows.1 h; z = dot_of-unit m.z v bound two.1 h }

pub IsWithin-difference : (m n : ℕ) (a b : V3) → IsWithin m a → IsWithin n b → IsWithin (m + n) (difference_of a b)
IsWithin-difference m n a b h k = record {
  x = unsigned_abs-sub_le a.x b.x m n h.x k.x;
  y = unsigned_abs-sub_le a.y b.y m n h.y k.y;
  z = unsigned_abs-sub_le a.z b.z m n h.z k.z;
}
