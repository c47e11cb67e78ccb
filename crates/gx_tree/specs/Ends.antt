-- Running counts of instances. No public contract stands on this file.
use Rattle.std.specs.Prelude.{◌≡◌, ℕ, ◌+◌, ◌%◌, ◌<◌, ◌≤◌, ℤ, unsigned_abs, List, length, take, map, sum_by, All}
use Rattle.std.specs.List.{range_with_len}
use Rattle.gx_num.specs.declared.vector.TheConstants.{M}
use Rattle.gx_tree.specs.declared.placement.Placement.{Placement}
use Rattle.gx_tree.specs.declared.placement.Placement.TheVariants.{Replica}
use Rattle.gx_tree.specs.Volume.{copies_of}
use Rattle.gx_tree.specs.Limits.{AreCopies, IsPlaceable}

-- the number of instances before a placement
abbrev pub start_of : List Placement → ℕ → ℕ
start_of placements k = sum_by copies_of (take k placements)

-- the number of instances up to each placement and with it
abbrev pub ends_of : List Placement → List ℕ
ends_of placements = map (λ k. start_of placements (k + 1)) (range_with_len 0 (length placements))

-- cells have an even width
abbrev pub IsEven : Placement → Type 0
IsEven (Replica volume axis count width) = unsigned_abs width % 2 ≡ 0
IsEven placement = Unit {0}

-- the placement that has the k-th instance
pub record IsPlace (placements : List Placement) (k place : ℕ) : Type 0 where
  pub below : place < length placements
  pub from : start_of placements place ≤ k
  pub to : k < start_of placements (place + 1)

-- placements in range, of at most 4096 daughters
pub record IsMother (count : ℕ) (placements : List Placement) : Type 0 where
  pub placeable : All (IsPlaceable count) placements
  pub few : sum_by copies_of placements ≤ 4096

-- a row of copies, which need not be near
pub record IsGiven (axis count : ℕ) (step offset : ℤ) : Type 0 where
  pub copies : AreCopies axis count
  pub near_step : unsigned_abs step ≤ unsigned_abs M
  pub near_offset : unsigned_abs offset ≤ unsigned_abs M
