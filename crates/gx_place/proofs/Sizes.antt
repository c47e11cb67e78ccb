-- How large placed points are.
use Rattle.std.proofs.Common.{◌≡◌, ℕ, ◌+◌, ◌^◌, ◌≤◌, ℤ, ◌+ℤ◌, unsigned_abs, to_z, of_z, arith}
use Rattle.std.specs.Int.{w128}
use Rattle.std.proofs.lemmas.Int.{to_z-of_z, fits_signed_from_abs}
use Rattle.gx_num.specs.declared.vector.V3.{V3}
use Rattle.gx_num.specs.Vector.{IsWithin, sum_of}
use Rattle.gx_plane.proofs.Sizes.{unsigned_abs-add_le}

pub IsWithin-larger : (r s : ℕ) (v : V3) → r ≤ s → IsWithin r v → IsWithin s v
IsWithin-larger r s v le h = record { x = omega (arith, le, h.x); y = omega (arith, le, h.y); z = omega (arith, le, h.z) }

pub IsWithin-sum_of : (r : ℕ) (a b : V3) → IsWithin r a → IsWithin r b → IsWithin (r + r) (sum_of a b)
IsWithin-sum_of r a b h k = record {
  x = unsigned_abs-add_le a.x b.x r r h.x k.x;
  y = unsigned_abs-add_le a.y b.y r r h.y k.y;
  z = unsigned_abs-add_le a.z b.z r r h.z k.z;
}

-- a sum as the code's casts have it
pub sum_by_bits : (a b : ℤ) → unsigned_abs a ≤ 2 ^ 125 → unsigned_abs b ≤ 2 ^ 125 → to_z w128 (of_z w128 (to_z w128 (of_z w128 a) +ℤ to_z w128 (of_z w128 b))) ≡ a +ℤ b
sum_by_bits a b h k =
    let sum = unsigned_abs-add_le a b (2 ^ 125) (2 ^ 125) h k in
    rw (small a (omega (arith, h)), small b (omega (arith, k))) (small (a +ℤ b) (omega (arith, sum)))
  where
    small : (z : ℤ) → unsigned_abs z ≤ 2 ^ 126 → to_z w128 (of_z w128 z) ≡ z
    small z le = to_z-of_z w128 z (fits_signed_from_abs w128 z (omega (arith, le)))
