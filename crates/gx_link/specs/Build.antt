-- How a hierarchy's volumes are made of lines, and whose line a fault is at. No public contract stands on this file.
use Rattle.std.specs.Prelude.{ℕ, ◌<◌, List, length, map, Vec}
use Rattle.std.specs.Global.{Global}
use Rattle.std.specs.List.{range_with_len}
use Rattle.gx_tree.specs.declared.placement.Placement.{Placement}
use Rattle.gx_tree.specs.declared.fault.TreeFault.{TreeFault}
use Rattle.gx_tree.specs.declared.fault.TreeFault.TheVariants.{Cycle, NoWorld, TwoWorlds, TooDeep, ReplicaMixed, ReplicaSolid, ReplicaFill}
use Rattle.gx_tree.specs.Volume.{Volume}
use Rattle.gx_tree.specs.Limits.{IsPlaceable}
use Rattle.gx_link.specs.declared.link.LinkedVolume.{LinkedVolume}
use Rattle.gx_link.specs.declared.link.LinkedPlacement.{LinkedPlacement}
use Rattle.gx_link.specs.Crowd.{placed_in, placements_in}

-- a placement among so many volumes
pub record IsLinked (count : ℕ) (placed : LinkedPlacement) : Type 0 where
  pub mother : placed.mother < count
  pub placeable : IsPlaceable count placed.placement

-- the placements in each of so many mothers
abbrev pub lists_of : List LinkedPlacement → ℕ → List (List Placement)
lists_of placements count = map (λ mother. placements_in mother placements) (range_with_len 0 count)

-- a volume with what is placed in it
abbrev pub with_list : LinkedVolume × Vec Placement Global → Volume
with_list (volume, list) = record { name = volume.name; solid = volume.solid; material = volume.material; placements = list.items }

-- a fault tells the number of a volume among so many, or that of a placement in its mother
abbrev pub IsTold : ℕ → List LinkedPlacement → TreeFault → Type 0
IsTold count placements (Cycle v) = v < count
IsTold count placements NoWorld = Unit {0}
IsTold count placements (TwoWorlds v) = v < count
IsTold count placements (TooDeep v) = v < count
IsTold count placements (ReplicaMixed v k) = k < length (placed_in v placements)
IsTold count placements (ReplicaSolid v k) = k < length (placed_in v placements)
IsTold count placements (ReplicaFill v k) = k < length (placed_in v placements)
