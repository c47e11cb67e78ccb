-- What values are as whole numbers: steps of a grid, counts and quarter turns.
use Rattle.std.specs.Prelude.{ℕ, ℤ, pos, ◌*ℤ◌, Bool, ◌&&◌, ◌||◌, not, Option, None, Some, Result, Ok, Err, unsigned_abs, int_lt, int_le, int_div, int_rem, nat_le, if◌then◌else◌}
use Rattle.std.specs.Int.{int_rem_euclid}
use Rattle.std.specs.Ordering.{int_eq}
use Rattle.gx_num.specs.declared.vector.TheConstants.{M}
use Rattle.gx_fraction.specs.Fraction.{Fraction}
use Rattle.gx_expr.specs.Quantity.{Quantity}
use Rattle.gx_expr.specs.declared.fault.StepFault.{StepFault}
use Rattle.gx_expr.specs.declared.fault.StepFault.TheVariants.{UnitKind, OffGrid, TooFar}
use Rattle.gx_expr.specs.declared.fault.WholeFault.{WholeFault}
use Rattle.gx_expr.specs.declared.fault.WholeFault.TheVariants.{UnitKind as MarkedCount, Range}
use Rattle.gx_expr.specs.declared.fault.UnitKind.{UnitKind as MarkedTurn}

-- the quotient, where the division leaves no rest
abbrev pub whole_quotient : ℤ → ℤ → Option ℤ
whole_quotient over under = if int_eq (int_rem over under) (pos 0) then Some (int_div over under) else None

-- how often b goes into a, where that is a whole number; b is above 0
abbrev pub whole_ratio : Fraction → Fraction → Option ℤ
whole_ratio a b = whole_quotient (a.num *ℤ pos b.den) (b.num *ℤ pos a.den)

-- a grid is above 0, and no angle
unfoldable pub is_grid : Quantity → Bool
is_grid value = int_lt (pos 0) value.number.num && not value.angle

-- the steps, at most M of them
abbrev pub within_reach : Option ℤ → Result ℤ StepFault
within_reach None = Err OffGrid
within_reach (Some n) = if nat_le (unsigned_abs n) (unsigned_abs M) then Ok n else Err TooFar

-- the steps of the grid that a length is; a value without a mark is a length too
unfoldable pub steps : Quantity → Fraction → Result ℤ StepFault
steps value grid = if value.angle then Err UnitKind else within_reach (whole_ratio value.number grid)

-- a whole number from low to high
abbrev pub between : ℤ → ℤ → Option ℤ → Result ℤ WholeFault
between low high None = Err Range
between low high (Some n) = if int_le low n && int_le n high then Ok n else Err Range

-- the whole number from low to high that a value without a mark is
abbrev pub count : Quantity → ℤ → ℤ → Result ℤ WholeFault
count value low high =
    if value.length || value.angle then Err MarkedCount else between low high (whole_ratio value.number (record { num = pos 1; den = 1 }))

-- quarter turns without the full turns among them: from 0 to 3
abbrev pub modulo_full : Option ℤ → Option ℕ
modulo_full None = None
modulo_full (Some n) = Some (unsigned_abs (int_rem_euclid n (pos 4)))

-- the quarter turns that an angle of so many degrees is; a value without a mark is an angle too
abbrev pub quarters : Quantity → Result (Option ℕ) MarkedTurn
quarters value = if value.length then Err (record {}) else Ok (modulo_full (whole_ratio value.number (record { num = pos 90; den = 1 })))
