-- Vectors of four whole numbers: sums, products, determinants, and points in lowest terms (any text on linear algebra).
use Rattle.std.specs.Prelude.{◌≡◌, ℕ, ℤ, ◌<◌, ◌<ℤ◌, ◌^◌, ◌+ℤ◌, ◌-ℤ◌, ◌*ℤ◌, pos, int_div, unsigned_abs, [], ◌∷◌}
use Rattle.gx_num.specs.Number.{common_divisor}

-- Four whole numbers. As a point, with w above 0, they stand for (x/w, y/w, z/w).
pub record Vec4 : Type 0 where
  pub x : ℤ
  pub y : ℤ
  pub z : ℤ
  pub w : ℤ

-- the vector 0
abbrev pub origin : Vec4
origin = record { x = pos 0; y = pos 0; z = pos 0; w = pos 0 }

-- the scalar product
abbrev pub dot4 : Vec4 → Vec4 → ℤ
dot4 a b = ((a.x *ℤ b.x +ℤ a.y *ℤ b.y) +ℤ a.z *ℤ b.z) +ℤ a.w *ℤ b.w

-- a + b
abbrev pub plus4 : Vec4 → Vec4 → Vec4
plus4 a b = record { x = a.x +ℤ b.x; y = a.y +ℤ b.y; z = a.z +ℤ b.z; w = a.w +ℤ b.w }

-- k times v
abbrev pub times4 : ℤ → Vec4 → Vec4
times4 k v = record { x = k *ℤ v.x; y = k *ℤ v.y; z = k *ℤ v.z; w = k *ℤ v.w }

-- -v
abbrev pub opposite4 : Vec4 → Vec4
opposite4 v = record { x = pos 0 -ℤ v.x; y = pos 0 -ℤ v.y; z = pos 0 -ℤ v.z; w = pos 0 -ℤ v.w }

-- the determinant of three rows of three numbers
abbrev pub minor : ℤ → ℤ → ℤ → ℤ → ℤ → ℤ → ℤ → ℤ → ℤ → ℤ
minor a b c d e f g h i =
    (a *ℤ ((e *ℤ i) -ℤ (f *ℤ h)) -ℤ b *ℤ ((d *ℤ i) -ℤ (f *ℤ g))) +ℤ c *ℤ ((d *ℤ h) -ℤ (e *ℤ g))

-- the signed 3 by 3 minors of three rows: the vector whose product with a fourth row is the determinant of the four
abbrev pub minors : Vec4 → Vec4 → Vec4 → Vec4
minors a b c = record {
  x = minor a.y a.z a.w b.y b.z b.w c.y c.z c.w;
  y = pos 0 -ℤ minor a.x a.z a.w b.x b.z b.w c.x c.z c.w;
  z = minor a.x a.y a.w b.x b.y b.w c.x c.y c.w;
  w = pos 0 -ℤ minor a.x a.y a.z b.x b.y b.z c.x c.y c.z;
}

-- the determinant of four rows
abbrev pub det4 : Vec4 → Vec4 → Vec4 → Vec4 → ℤ
det4 a b c d = dot4 a (minors b c d)

-- the greatest common divisor of the four numbers
abbrev pub divisor_of4 : Vec4 → ℕ
divisor_of4 v = common_divisor (unsigned_abs v.x ∷ unsigned_abs v.y ∷ unsigned_abs v.z ∷ unsigned_abs v.w ∷ [])

-- the four numbers divided by a number
abbrev pub quotient4 : Vec4 → ℕ → Vec4
quotient4 v d = record { x = int_div v.x (pos d); y = int_div v.y (pos d); z = int_div v.z (pos d); w = int_div v.w (pos d) }

-- the same point in lowest terms: divided by their greatest common divisor
abbrev pub lowest4 : Vec4 → Vec4
lowest4 v = quotient4 v (divisor_of4 v)

-- a point in lowest terms, of numbers that fit
pub record IsLowestPoint (p : Vec4) : Type 0 where
  pub positive : pos 0 <ℤ p.w
  pub lowest : divisor_of4 p ≡ 1
  pub x : unsigned_abs p.x < 2 ^ 126
  pub y : unsigned_abs p.y < 2 ^ 126
  pub z : unsigned_abs p.z < 2 ^ 126
  pub w : unsigned_abs p.w < 2 ^ 126
