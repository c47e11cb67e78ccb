-- Private to this crate: the boxes that are kept.
use Rattle.std.specs.Prelude.{ℕ, List, [], map, Option, None, Some}
use Rattle.std.specs.List.Sorted.{IsPermutation}
use Rattle.gx_num.specs.declared.extent.Extent.{Extent}
use Rattle.gx_boxes.specs.declared.boxed.Boxed.{Boxed}
use Rattle.gx_voxel.specs.Members.{AreMembers, extent_at}

abbrev pub kept_by : Option (List Boxed) → List Boxed
kept_by None = []
kept_by (Some boxes) = boxes

-- where boxes are kept there is one of each member
abbrev pub IsTreeOf : List ℕ → Option (List Boxed) → Type 0
IsTreeOf numbers None = Unit {0}
IsTreeOf numbers (Some boxes) = IsPermutation numbers (map (λ b. b.number) boxes)

pub record AreHeld (numbers : List ℕ) (tree : Option (List Boxed)) : Type 0 where
  pub members : AreMembers numbers
  pub boxes : IsTreeOf numbers tree

-- the box of the member with a number
abbrev pub boxed_at : List Extent → ℕ → Boxed
boxed_at extents k = record { number = k; extent = extent_at extents k }
