-- Faces, each with the point that was taken for it, if any. For private functions.
use Rattle.std.specs.Prelude.{Bool, List, [], ◌∷◌, map, find, Option, Some, None}
use Rattle.std.specs.List.{list_all}
use Rattle.std.specs.Option.{option_or, option_map, option_and_then, is_some}
use Rattle.gx_num.specs.Space.{HalfSpace}
use Rattle.gx_num.specs.Vector4.{Vec4}
use Rattle.gx_common.specs.Common.{is_strict}
use Rattle.gx_common.specs.declared.slots.Slot.{Slot}

-- a face that has no point
abbrev pub empty : HalfSpace → Slot
empty h = record { face = h; point = None }

-- a face after it was offered points: it keeps the one that it has, else it takes the first one strictly inside it
abbrev pub after_one : List Vec4 → Slot → Slot
after_one points s = record { face = s.face; point = option_or s.point (find (is_strict s.face) points) }

abbrev pub after : List Vec4 → List Slot → List Slot
after points slots = map (after_one points) slots

-- no face wants a point
abbrev pub are_filled : List Slot → Bool
are_filled slots = list_all (λ s. is_some s.point) slots

-- the points of all; None where a face has none
abbrev pub points_in : List Slot → Option (List Vec4)
points_in [] = Some []
points_in (s ∷ slots) = option_and_then (λ p. option_map (λ ps. p ∷ ps) (points_in slots)) s.point
