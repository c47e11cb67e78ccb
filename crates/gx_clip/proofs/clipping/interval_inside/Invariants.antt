use Rattle.std.proofs.Common.{◌≡◌, drop, Some}
use Rattle.gx_clip.specs.Interval.{whole, part_inside}
use Rattle.gx_clip.proofs.clipping.interval_inside.Given as goal

-- what is left of the faces leaves of the interval so far what all of them leave of the whole
abbrev pub invariant-loop-face : goal.invariant-loop-face
invariant-loop-face l =
    part_inside (Some l.interval) (drop l.face-index l.faces) l.ray ≡ part_inside (Some whole) l.faces l.ray
