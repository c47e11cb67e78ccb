-- Equal cells side by side, which fill a mother along one axis.
use Rattle.std.specs.Prelude.{Bool, ◌&&◌, ◌||◌, ℕ, ℤ, ◌-◌, ◌+ℤ◌, ◌*ℤ◌, neg_ℤ, pos, nat_eq, int_lt, int_div, if◌then◌else◌}
use Rattle.std.specs.Ordering.{int_eq}
use Rattle.gx_num.specs.declared.vector.V3.{V3}

-- the coordinate on an axis, 0 to 2
abbrev pub coordinate : ℕ → V3 → ℤ
coordinate axis v = if nat_eq axis 0 then v.x else (if nat_eq axis 1 then v.y else v.z)

-- the point with this coordinate on the axis and 0 on the others
abbrev pub along : ℕ → ℤ → V3
along axis at = record {
  x = if nat_eq axis 0 then at else pos 0;
  y = if nat_eq axis 1 then at else pos 0;
  z = if nat_eq axis 2 then at else pos 0;
}

-- so many of the width are the length along the axis
abbrev pub is_long : ℕ → V3 → ℕ → ℤ → Bool
is_long axis half count width = int_eq (pos count *ℤ width) (pos 2 *ℤ coordinate axis half)

-- the same half-lengths across the axis
abbrev pub is_alike_across : ℕ → V3 → V3 → Bool
is_alike_across axis a b = (nat_eq axis 0 || int_eq a.x b.x) && (nat_eq axis 1 || int_eq a.y b.y) && (nat_eq axis 2 || int_eq a.z b.z)

-- the cell has the width, which is above 0, and so many of them are the mother's length; so the width is even
abbrev pub fills_along : V3 → V3 → ℕ → ℕ → ℤ → Bool
fills_along mother cell axis count width = int_lt (pos 0) width && is_long axis mother count width && is_long axis cell 1 width

-- cells of the width fill the mother along the axis, where both are given by their half-lengths
abbrev pub fills : V3 → V3 → ℕ → ℕ → ℤ → Bool
fills mother cell axis count width = fills_along mother cell axis count width && is_alike_across axis cell mother

-- the centre of copy i: the first is half of all but one width before the mother's centre, and the width is even
abbrev pub centre_of : ℕ → ℕ → ℤ → ℕ → V3
centre_of axis count width i =
    along axis (neg_ℤ (int_div (pos (count - 1) *ℤ width) (pos 2)) +ℤ pos i *ℤ width)
