-- How large sums and products of vectors are.
use Rattle.std.proofs.Common.{ℕ, ◌+◌, ◌*◌, ◌≤◌, ℤ, ◌+ℤ◌, ◌-ℤ◌, ◌*ℤ◌, unsigned_abs, arith}
use Rattle.std.proofs.lemmas.Int.{unsigned_abs-mul}
use Rattle.std.proofs.lemmas.Nat.{mul-le}
use Rattle.gx_num.specs.declared.vector.V3.{V3}
use Rattle.gx_num.specs.Vector.{IsWithin, dot_of, difference_of, opposite_of, cross_of}
use Rattle.gx_plane.proofs.Divisors.{unsigned_abs-opposite}
use borrow.Author.Differences.{ints}

pub unsigned_abs-mul_le : (a b : ℤ) (m n : ℕ) → unsigned_abs a ≤ m → unsigned_abs b ≤ n → unsigned_abs (a *ℤ b) ≤ m * n
unsigned_abs-mul_le a b m n h k = rw unsigned_abs-mul (mul-le _ _ _ _ h k)

pub unsigned_abs-add_le : (a b : ℤ) (m n : ℕ) → unsigned_abs a ≤ m → unsigned_abs b ≤ n → unsigned_abs (a +ℤ b) ≤ m + n
unsigned_abs-add_le a b m n h k = omega (arith, ints)

pub unsigned_abs-sub_le : (a b : ℤ) (m n : ℕ) → unsigned_abs a ≤ m → unsigned_abs b ≤ n → unsigned_abs (a -ℤ b) ≤ m + n
unsigned_abs-sub_le a b m n h k = omega (arith, ints)

pub IsWithin-difference_of : (r : ℕ) (a b : V3) → IsWithin r a → IsWithin r b → IsWithin (r + r) (difference_of a b)
IsWithin-difference_of r a b h k = record {
  x = unsigned_abs-sub_le a.x b.x r r h.x k.x;
  y = unsigned_abs-sub_le a.y b.y r r h.y k.y;
  z = unsigned_abs-sub_le a.z b.z r r h.z k.z;
}

pub IsWithin-opposite_of : (r : ℕ) (a : V3) → IsWithin r a → IsWithin r (opposite_of a)
IsWithin-opposite_of r a h = record {
  x = omega (arith, unsigned_abs-opposite a.x, h.x);
  y = omega (arith, unsigned_abs-opposite a.y, h.y);
  z = omega (arith, unsigned_abs-opposite a.z, h.z);
}

minor_le : (r : ℕ) (a b c d : ℤ) → unsigned_abs a ≤ r → unsigned_abs b ≤ r → unsigned_abs c ≤ r → unsigned_abs d ≤ r → unsigned_abs ((a *ℤ b) -ℤ (c *ℤ d)) ≤ r * r + r * r
minor_le r a b c d ha hb hc hd =
    unsigned_abs-sub_le (a *ℤ b) (c *ℤ d) (r * r) (r * r) (unsigned_abs-mul_le a b r r ha hb) (unsigned_abs-mul_le c d r r hc hd)

pub IsWithin-cross_of : (r : ℕ) (a b : V3) → IsWithin r a → IsWithin r b → IsWithin (r * r + r * r) (cross_of a b)
IsWithin-cross_of r a b h k = record {
  x = minor_le r a.y b.z a.z b.y h.y k.z h.z k.y;
  y = minor_le r a.z b.x a.x b.z h.z k.x h.x k.z;
  z = minor_le r a.x b.y a.y b.x h.x k.y h.y k.x;
}

pub dot_of-within : (r s : ℕ) (a b : V3) → IsWithin r a → IsWithin s b → unsigned_abs (dot_of a b) ≤ (r * s + r * s) + r * s
dot_of-within r s a b h k =
    unsigned_abs-add_le (a.x *ℤ b.x +ℤ a.y *ℤ b.y) (a.z *ℤ b.z) (r * s + r * s) (r * s)
    (unsigned_abs-add_le (a.x *ℤ b.x) (a.y *ℤ b.y) (r * s) (r * s) (unsigned_abs-mul_le a.x b.x r s h.x k.x) (unsigned_abs-mul_le a.y b.y r s h.y k.y))
    (unsigned_abs-mul_le a.z b.z r s h.z k.z)
