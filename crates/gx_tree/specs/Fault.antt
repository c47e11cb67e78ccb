-- The hierarchy of volumes, or the first fault of those that make none.
use Rattle.std.specs.Prelude.{◌≡◌, ℕ, suc, ◌+◌, ◌<◌, false, Bool, ◌&&◌, not, nat_lt, if◌then◌else◌, ℤ, List, [], ◌∷◌, length, filter, find, All, Option, Some, None, option_map, Result, Ok, Err}
use Rattle.std.specs.List.{list_any}
use Rattle.std.specs.Option.{option_or}
use Rattle.gx_num.specs.declared.vector.V3.{V3}
use Rattle.gx_form.specs.First.{◌>>=◌}
use Rattle.gx_shapes.specs.declared.figure.Figure.{Figure}
use Rattle.gx_shapes.specs.declared.figure.Figure.TheVariants.{Cuboid}
use Rattle.gx_shapes.specs.Accepted.{IsSolid}
use Rattle.gx_replica.specs.Replica.{fills}
use Rattle.gx_tree.specs.declared.placement.Placement.{Placement}
use Rattle.gx_tree.specs.declared.placement.Placement.TheVariants.{Replica}
use Rattle.gx_tree.specs.declared.fault.TreeFault.{TreeFault}
use Rattle.gx_tree.specs.declared.fault.TreeFault.TheVariants.{Cycle, NoWorld, TwoWorlds, TooDeep, ReplicaMixed, ReplicaSolid, ReplicaFill}
use Rattle.gx_tree.specs.declared.fault.TreeError.{TreeError}
use Rattle.gx_tree.specs.declared.fault.TreeError.TheVariants.{Fault, NoMemory}
use Rattle.gx_tree.specs.Volume.{Volume, daughter_of}
use Rattle.gx_tree.specs.Hierarchy.{Hierarchy, volume_at, instances, numbers, leads, is_reached, max_depth, IsInstance}
use Rattle.gx_tree.specs.Limits.{IsWithinLimits}

-- through one or more placements the volume is in itself
unfoldable pub is_in_itself : List Volume → ℕ → Bool
is_in_itself volumes v = list_any (λ p. is_reached volumes (daughter_of p) v) (volume_at volumes v).placements

-- some placement is of the volume
unfoldable pub is_placed : List Volume → ℕ → Bool
is_placed volumes v = list_any (λ u. leads volumes 1 u v) (numbers volumes)

-- the one volume that is placed nowhere
abbrev pub world_from : List ℕ → Result ℕ TreeFault
world_from [] = Err NoWorld
world_from (world ∷ []) = Ok world
world_from (world ∷ second ∷ others) = Err (TwoWorlds second)

abbrev pub only_world : List Volume → Result ℕ TreeFault
only_world volumes = world_from (filter (λ v. not (is_placed volumes v)) (numbers volumes))

-- some chain of more placements than the most leads from the world to the volume
unfoldable pub is_too_deep : List Volume → ℕ → ℕ → Bool
is_too_deep volumes world v = list_any (λ u. leads volumes (suc max_depth) world u && is_reached volumes u v) (numbers volumes)

-- the half-lengths of a box
abbrev pub halves : Figure → Option V3
halves (Cuboid x y z) = Some (record { x = x; y = y; z = z })
halves figure = None

-- cells fill their mother, where both are boxes; the numbers are those of the mother and of the placement
abbrev pub fill_fault : ℕ → ℕ → ℕ → ℕ → ℤ → Option V3 → Option V3 → Option TreeFault
fill_fault v k axis count width (Some mother) (Some cell) = if fills mother cell axis count width then None else Some (ReplicaFill v k)
fill_fault v k axis count width (Some mother) None = Some (ReplicaSolid v k)
fill_fault v k axis count width None cell = Some (ReplicaSolid v k)

-- a replica is alone in its mother and fills it
abbrev pub fault_of_placement : List Volume → ℕ → Volume → ℕ → Placement → Option TreeFault
fault_of_placement volumes v mother k (Replica volume axis count width) =
    if nat_lt 1 (length mother.placements)
    then Some (ReplicaMixed v k)
    else fill_fault v k axis count width (halves mother.solid) (halves (volume_at volumes volume).solid)
fault_of_placement volumes v mother k placement = None

-- the first answer along a list, whose elements are numbered from `n` on
abbrev pub first_numbered : {X Y : Type 0} → (ℕ → X → Option Y) → ℕ → List X → Option Y
first_numbered answer n [] = None
first_numbered answer n (x ∷ xs) = option_or (answer n x) (first_numbered answer (n + 1) xs)

-- the first fault of the placements in one mother
abbrev pub replica_fault_in : List Volume → ℕ → Volume → Option TreeFault
replica_fault_in volumes v mother = first_numbered (fault_of_placement volumes v mother) 0 mother.placements

-- volumes in order, and each one's placements in order
unfoldable pub replica_fault : List Volume → Option TreeFault
replica_fault volumes = first_numbered (replica_fault_in volumes) 0 volumes

-- no fault, or this one
abbrev pub unless : Option TreeFault → Result (Unit {0}) TreeFault
unless None = Ok tt
unless (Some fault) = Err fault

-- the hierarchy, or the first fault
unfoldable pub hierarchy_of : List Volume → Result Hierarchy TreeFault
hierarchy_of volumes = do
  _ ← unless (option_map Cycle (find (is_in_itself volumes) (numbers volumes)))
  world ← only_world volumes
  _ ← unless (option_map TooDeep (find (is_too_deep volumes world) (numbers volumes)))
  _ ← unless (replica_fault volumes)
  Ok (record { volumes = volumes; world = world })

-- the cause of an error; want of memory has none
abbrev pub IsTreeCause : {A : Type 0} → Result A TreeFault → TreeError → Type 0
IsTreeCause answer (Fault fault) = answer ≡ Err fault
IsTreeCause answer NoMemory = Unit {0}

-- what a hierarchy keeps
pub record IsTree (h : Hierarchy) : Type 0 where
  pub limits : IsWithinLimits h.volumes
  pub formed : hierarchy_of h.volumes ≡ Ok h
  pub world : h.world < length h.volumes
  pub solids : All (λ v. IsSolid v.solid) h.volumes
  pub shallow : (v : ℕ) → leads h.volumes (suc max_depth) h.world v ≡ false
  pub placed : (v : ℕ) → All (IsInstance h) (instances h v)
