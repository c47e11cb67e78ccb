-- The ranges of numbers and the counts within which a hierarchy is judged.
use Rattle.std.specs.Prelude.{ℕ, ◌*◌, ◌<◌, ◌≤◌, ℤ, unsigned_abs, List, length, sum_by, All}
use Rattle.gx_num.specs.declared.vector.TheConstants.{M}
use Rattle.gx_num.specs.Vector.{IsWithin}
use Rattle.gx_param.specs.Param.{place}
use Rattle.gx_tree.specs.declared.placement.Placement.{Placement}
use Rattle.gx_tree.specs.declared.placement.Placement.TheVariants.{Single, Replica, Linear, Square}
use Rattle.gx_tree.specs.Volume.{Volume, daughter_of, copies_of}

-- from 1 to 4096 copies along an axis, or in a plane, of 0 to 2
pub record AreCopies (axis count : ℕ) : Type 0 where
  pub direction : axis < 3
  pub some : 1 ≤ count
  pub few : count ≤ 4096

-- copies at steps, each at most M from the mother's centre
pub record IsRow (axis count : ℕ) (step offset : ℤ) : Type 0 where
  pub copies : AreCopies axis count
  pub near_step : unsigned_abs step ≤ unsigned_abs M
  pub near_offset : unsigned_abs offset ≤ unsigned_abs M
  pub near : (i : ℕ) → i < count → unsigned_abs (place offset step i) ≤ unsigned_abs M

-- cells of some width
pub record AreCells (axis count : ℕ) (width : ℤ) : Type 0 where
  pub copies : AreCopies axis count
  pub near_width : unsigned_abs width ≤ 2 * unsigned_abs M

abbrev pub IsInRange : Placement → Type 0
IsInRange (Single volume copy rotation offset) = IsWithin (unsigned_abs M) offset
IsInRange (Replica volume axis count width) = AreCells axis count width
IsInRange (Linear volume axis rotation count step offset) = IsRow axis count step offset
IsInRange (Square volume plane rotation first_count second_count first_step second_step first_offset second_offset) =
    IsRow plane first_count first_step first_offset × IsRow plane second_count second_step second_offset

-- a placement among so many volumes
pub record IsPlaceable (count : ℕ) (placement : Placement) : Type 0 where
  pub volume : daughter_of placement < count
  pub range : IsInRange placement

-- how many daughters a volume has
abbrev pub instance_count : Volume → ℕ
instance_count volume = sum_by copies_of volume.placements

-- at most 4096 volumes, 4096 daughters of one mother, and 65536 of all
pub record IsWithinLimits (volumes : List Volume) : Type 0 where
  pub few : length volumes ≤ 4096
  pub placeable : All (λ v. All (IsPlaceable (length volumes)) v.placements) volumes
  pub each : All (λ v. instance_count v ≤ 4096) volumes
  pub all : sum_by instance_count volumes ≤ 65536
