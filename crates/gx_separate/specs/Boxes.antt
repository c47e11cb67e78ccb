-- The first plane along an axis between two boxes.
use Rattle.std.specs.Prelude.{ℕ, ℤ, int_le, Option, Some, None, true, false, if◌then◌else◌}
use Rattle.std.specs.Option.{option_or}
use Rattle.gx_num.specs.declared.extent.Extent.{Extent}
use Rattle.gx_num.specs.Space.{HalfSpace}
use Rattle.gx_plane.specs.Plane.{plane_along}

-- between two ranges on an axis, each by its low and its high end
abbrev pub between_ranges : ℕ → ℤ → ℤ → ℤ → ℤ → Option HalfSpace
between_ranges axis low high other_low other_high =
    if int_le high other_low then Some (plane_along axis true high) else if int_le other_high low then Some (plane_along axis false low) else None

-- on the first axis on which the boxes are apart or touch
abbrev pub between_boxes : Extent → Extent → Option HalfSpace
between_boxes a b =
    option_or (between_ranges 0 a.low.x a.high.x b.low.x b.high.x)
    (option_or (between_ranges 1 a.low.y a.high.y b.low.y b.high.y) (between_ranges 2 a.low.z a.high.z b.low.z b.high.z))
