-- Copies in a row, or in rows of a plane, at given steps.
use Rattle.std.specs.Prelude.{ℕ, ℤ, ◌-◌, ◌≤◌, ◌+ℤ◌, ◌*ℤ◌, pos, unsigned_abs, nat_eq, if◌then◌else◌}
use Rattle.gx_num.specs.declared.vector.V3.{V3}
use Rattle.gx_num.specs.declared.vector.TheConstants.{M}

-- where copy i of a row is
abbrev pub place : ℤ → ℤ → ℕ → ℤ
place offset step i = offset +ℤ pos i *ℤ step

-- the point in the row on an axis, 0 to 2
abbrev pub linear : ℕ → ℤ → V3
linear axis at = record {
  x = if nat_eq axis 0 then at else pos 0;
  y = if nat_eq axis 1 then at else pos 0;
  z = if nat_eq axis 2 then at else pos 0;
}

-- the point of a plane, 0 to 2, which are xy, xz and yz
abbrev pub square : ℕ → ℤ → ℤ → V3
square plane first second = record {
  x = if nat_eq plane 2 then pos 0 else first;
  y = if nat_eq plane 0 then second else (if nat_eq plane 1 then pos 0 else first);
  z = if nat_eq plane 0 then pos 0 else second;
}

-- the first copy and the last one are at most M away
pub record Reaches (count : ℕ) (step offset : ℤ) : Type 0 where
  pub first : unsigned_abs (place offset step 0) ≤ unsigned_abs M
  pub last : unsigned_abs (place offset step (count - 1)) ≤ unsigned_abs M
