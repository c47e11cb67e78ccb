-- What all lines of a text declare: a hierarchy and rays, or the first fault that isn't one line's.
use Rattle.std.specs.Prelude.{ℕ, ◌+◌, List, [], ◌∷◌, map, slice_index, Option, None, Some, Result, Ok, Err}
use Rattle.gx_table.specs.declared.fault.FaultName.{FaultName}
use Rattle.gx_table.specs.declared.fault.FaultName.TheVariants as name
use Rattle.gx_form.specs.First.{◌>>=◌}
use Rattle.gx_tree.specs.declared.fault.TreeFault.{TreeFault}
use Rattle.gx_tree.specs.declared.fault.TreeFault.TheVariants.{Cycle, NoWorld, TwoWorlds, TooDeep, ReplicaMixed, ReplicaSolid, ReplicaFill}
use Rattle.gx_tree.specs.Volume.{Volume}
use Rattle.gx_tree.specs.Hierarchy.{Hierarchy}
use Rattle.gx_tree.specs.Fault.{hierarchy_of}
use Rattle.gx_gather.specs.declared.fault.TextFault.{TextFault}
use Rattle.gx_gather.specs.Faults.{fault_at}
use Rattle.gx_gather.specs.Declarations.{Declarations}
use Rattle.gx_link.specs.declared.input.Input.{Input}
use Rattle.gx_link.specs.declared.link.LinkedVolume.{LinkedVolume}
use Rattle.gx_link.specs.declared.link.LinkedPlacement.{LinkedPlacement}
use Rattle.gx_link.specs.Links.{Links, links_of}
use Rattle.gx_link.specs.Crowd.{placed_in, placements_in, first_crowded}

-- the volumes, numbered from v on in the order of their lines, each with what is placed in it
abbrev pub volumes_from : List LinkedPlacement → ℕ → List LinkedVolume → List Volume
volumes_from placements v [] = []
volumes_from placements v (volume ∷ volumes) =
    record { name = volume.name; solid = volume.solid; material = volume.material; placements = placements_in v placements } ∷ volumes_from placements (v + 1) volumes

-- one placement too many is a fault at word 1 of its line
abbrev pub unless_crowded : Option ℕ → Result (Unit {0}) TextFault
unless_crowded None = Ok tt
unless_crowded (Some line) = Err (fault_at line 1 name.TooMany)

abbrev pub lines_of : List LinkedVolume → List ℕ
lines_of volumes = map (λ (volume : LinkedVolume). volume.line) volumes

-- a fault at the name of volume v, of which these are the lines
abbrev pub at_volume : List ℕ → ℕ → FaultName → TextFault
at_volume lines v name = fault_at (slice_index lines v) 2 name

-- a fault at the tag of the k-th placement in a mother
abbrev pub at_placement : List LinkedPlacement → ℕ → ℕ → FaultName → TextFault
at_placement placements mother k name = fault_at (slice_index (map (λ (p : LinkedPlacement). p.line) (placed_in mother placements)) k) 1 name

-- where a fault of the hierarchy stands
abbrev pub fault_of_tree : List ℕ → List LinkedPlacement → TreeFault → TextFault
fault_of_tree lines placements (Cycle v) = at_volume lines v name.Cycle
fault_of_tree lines placements NoWorld = fault_at 0 0 name.NoWorld
fault_of_tree lines placements (TwoWorlds v) = at_volume lines v name.TwoWorlds
fault_of_tree lines placements (TooDeep v) = at_volume lines v name.TooDeep
fault_of_tree lines placements (ReplicaMixed v k) = at_placement placements v k name.ReplicaMixed
fault_of_tree lines placements (ReplicaSolid v k) = at_placement placements v k name.ReplicaSolid
fault_of_tree lines placements (ReplicaFill v k) = at_placement placements v k name.ReplicaFill

abbrev pub on_tree : {A : Type 0} → Links → Result A TreeFault → Result A TextFault
on_tree links (Ok a) = Ok a
on_tree links (Err fault) = Err (fault_of_tree (lines_of links.volumes) links.placements fault)

-- the hierarchy of resolved lines, or its first fault: the numbers of daughters, and then the hierarchy's own
abbrev pub tree_of : Links → Result Hierarchy TextFault
tree_of links = do
  _ ← unless_crowded (first_crowded [] links.placements)
  on_tree links (hierarchy_of (volumes_from links.placements 0 links.volumes))

-- the input that all lines declare, or the first fault of names, then of the hierarchy
abbrev pub input_of : Declarations → Result Input TextFault
input_of d = do
  links ← links_of d
  tree ← tree_of links
  Ok (record { tree = tree; rays = d.rays })
