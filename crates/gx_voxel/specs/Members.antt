-- Lists of members, by their numbers, with their boxes.
use Rattle.std.specs.Prelude.{◌≡◌, ℕ, ◌≤◌, pos, List, length, slice_index_or}
use Rattle.std.specs.List.{AllByRecursion}
use Rattle.std.specs.List.Sorted.{IsStrictlyIncreasing}
use Rattle.gx_num.specs.declared.extent.Extent.{Extent}
use Rattle.gx_num.specs.declared.vector.V3.{V3}
use Rattle.gx_boxes.specs.declared.boxed.Boxed.{Boxed}

-- the most members
abbrev pub most : ℕ
most = 4096

-- numbers that increase, not too many
pub record AreMembers (ks : List ℕ) : Type 0 where
  pub increasing : IsStrictlyIncreasing ks
  pub few : length ks ≤ most

-- The numbers of some members, and their boxes, if these are kept.
pub record Held : Type 0 where
  pub numbers : List ℕ
  pub boxes : List Boxed

-- each box is the extent of the member with its number
abbrev pub AreKept : (ℕ → Extent) → Held → Type 0
AreKept at m = AllByRecursion (λ b. b.extent ≡ at b.number) m.boxes

-- the extent of the member with a number, of a list in which it is
abbrev pub extent_at : List Extent → ℕ → Extent
extent_at extents k = let zero : V3 = record { x = pos 0; y = pos 0; z = pos 0 } in slice_index_or extents k (record { low = zero; high = zero })
