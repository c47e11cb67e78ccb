-- Matrices of three rows of whole numbers: product, image of a vector, determinant (any text on linear algebra).
use Rattle.std.specs.Prelude.{Bool, ◌&&◌, ℤ, ◌+ℤ◌, ◌-ℤ◌, ◌*ℤ◌, pos}
use Rattle.std.specs.Cmp.{IsEquivalence, and_equiv, on_equiv, int_eq_equiv}
use Rattle.gx_num.specs.declared.vector.V3.{V3}
use Rattle.gx_num.specs.Vector.{is_same, dot_of}

-- a matrix by its rows
pub record Matrix : Type 0 where
  pub x : V3
  pub y : V3
  pub z : V3

-- the columns as rows
abbrev pub transpose : Matrix → Matrix
transpose m = record {
  x = record { x = m.x.x; y = m.y.x; z = m.z.x };
  y = record { x = m.x.y; y = m.y.y; z = m.z.y };
  z = record { x = m.x.z; y = m.y.z; z = m.z.z };
}

-- each entry is the scalar product of a row of the first and a column of the second
abbrev pub product : Matrix → Matrix → Matrix
product a b = let columns = transpose b in record {
  x = record { x = dot_of a.x columns.x; y = dot_of a.x columns.y; z = dot_of a.x columns.z };
  y = record { x = dot_of a.y columns.x; y = dot_of a.y columns.y; z = dot_of a.y columns.z };
  z = record { x = dot_of a.z columns.x; y = dot_of a.z columns.y; z = dot_of a.z columns.z };
}

-- the matrix times the vector
abbrev pub image : Matrix → V3 → V3
image m v = record { x = dot_of m.x v; y = dot_of m.y v; z = dot_of m.z v }

abbrev pub identity : Matrix
identity = record {
  x = record { x = pos 1; y = pos 0; z = pos 0 };
  y = record { x = pos 0; y = pos 1; z = pos 0 };
  z = record { x = pos 0; y = pos 0; z = pos 1 };
}

-- expanded along the first row
abbrev pub determinant : Matrix → ℤ
determinant m =
    (m.x.x *ℤ (m.y.y *ℤ m.z.z -ℤ m.y.z *ℤ m.z.y) +ℤ m.x.y *ℤ (m.y.z *ℤ m.z.x -ℤ m.y.x *ℤ m.z.z))
    +ℤ m.x.z *ℤ (m.y.x *ℤ m.z.y -ℤ m.y.y *ℤ m.z.x)

-- the same entries
abbrev pub is_same_matrix : Matrix → Matrix → Bool
is_same_matrix a b = is_same a.x b.x && is_same a.y b.y && is_same a.z b.z

is_same-equivalence : IsEquivalence is_same
is_same-equivalence = and_equiv (and_equiv (on_equiv (λ (v : V3). v.x) int_eq_equiv) (on_equiv (λ (v : V3). v.y) int_eq_equiv)) (on_equiv (λ (v : V3). v.z) int_eq_equiv)

pub is_same_matrix-equivalence : IsEquivalence is_same_matrix
is_same_matrix-equivalence =
    and_equiv (and_equiv (on_equiv (λ (m : Matrix). m.x) is_same-equivalence) (on_equiv (λ (m : Matrix). m.y) is_same-equivalence)) (on_equiv (λ (m : Matrix). m.z) is_same-equivalence)
