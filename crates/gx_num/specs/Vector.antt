-- Vectors of three whole numbers: bounds, sums and products (any text on linear algebra).
use Rattle.std.specs.Prelude.{Bool, ◌&&◌, ℕ, ℤ, ◌≤◌, ◌+ℤ◌, ◌-ℤ◌, ◌*ℤ◌, pos, unsigned_abs}
use Rattle.std.specs.Ordering.{int_eq}
use Rattle.gx_num.specs.declared.vector.V3.{V3}

-- each component is at most the bound in magnitude
pub record IsWithin (bound : ℕ) (v : V3) : Type 0 where
  pub x : unsigned_abs v.x ≤ bound
  pub y : unsigned_abs v.y ≤ bound
  pub z : unsigned_abs v.z ≤ bound

-- the same components
abbrev pub is_same : V3 → V3 → Bool
is_same a b = int_eq a.x b.x && int_eq a.y b.y && int_eq a.z b.z

-- a + b
abbrev pub sum_of : V3 → V3 → V3
sum_of a b = record { x = a.x +ℤ b.x; y = a.y +ℤ b.y; z = a.z +ℤ b.z }

-- a - b
abbrev pub difference_of : V3 → V3 → V3
difference_of a b = record { x = a.x -ℤ b.x; y = a.y -ℤ b.y; z = a.z -ℤ b.z }

-- -v
abbrev pub opposite_of : V3 → V3
opposite_of v = record { x = pos 0 -ℤ v.x; y = pos 0 -ℤ v.y; z = pos 0 -ℤ v.z }

-- k times v
abbrev pub times3 : ℤ → V3 → V3
times3 k v = record { x = k *ℤ v.x; y = k *ℤ v.y; z = k *ℤ v.z }

-- the scalar product
abbrev pub dot_of : V3 → V3 → ℤ
dot_of a b = (a.x *ℤ b.x +ℤ a.y *ℤ b.y) +ℤ a.z *ℤ b.z

-- the vector product
abbrev pub cross_of : V3 → V3 → V3
cross_of a b = record {
  x = (a.y *ℤ b.z) -ℤ (a.z *ℤ b.y);
  y = (a.z *ℤ b.x) -ℤ (a.x *ℤ b.z);
  z = (a.x *ℤ b.y) -ℤ (a.y *ℤ b.x);
}
