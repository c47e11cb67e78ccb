-- Hierarchies: volumes that are placed in volumes, and the chains of placements from one down to another.
use Rattle.std.specs.Prelude.{◌≡◌, ℕ, zero, suc, ◌<◌, pos, unsigned_abs, Bool, nat_eq, List, [], length, slice_index_or}
use Rattle.std.specs.List.{list_any, range_with_len}
use Rattle.gx_num.specs.declared.vector.TheConstants.{M}
use Rattle.gx_num.specs.Vector.{IsWithin}
use Rattle.gx_shapes.specs.declared.figure.Figure.TheVariants.{Cuboid}
use Rattle.gx_rotation.specs.Matrix.{Matrix}
use Rattle.gx_rotation.specs.Rotation.{matrix_of}
use Rattle.gx_tree.specs.declared.instance.Instance.{Instance}
use Rattle.gx_tree.specs.Volume.{Volume, daughter_of, instances_in}

-- the volumes, and the number of the world among them
pub record Hierarchy : Type 0 where
  pub volumes : List Volume
  pub world : ℕ

-- a volume by its number; beyond the list there is nothing in it
abbrev pub volume_at : List Volume → ℕ → Volume
volume_at volumes v = slice_index_or volumes v (record { name = []; solid = Cuboid (pos 0) (pos 0) (pos 0); material = []; placements = [] })

-- the daughters of a volume, by their ordinals
abbrev pub instances : Hierarchy → ℕ → List Instance
instances h v = instances_in (volume_at h.volumes v).placements

abbrev pub numbers : List Volume → List ℕ
numbers volumes = range_with_len 0 (length volumes)

-- a chain of so many placements leads from one volume down to another
unfoldable pub leads : List Volume → ℕ → ℕ → ℕ → Bool
leads volumes zero v w = nat_eq v w
leads volumes (suc n) v w = list_any (λ p. leads volumes n (daughter_of p) w) (volume_at volumes v).placements

-- a chain leads from one down to another; it needs fewer placements than there are volumes, since a longer one comes to a volume twice
unfoldable pub is_reached : List Volume → ℕ → ℕ → Bool
is_reached volumes v w = list_any (λ n. leads volumes n v w) (numbers volumes)

-- the most placements in a chain from the world
unfoldable pub max_depth : ℕ
max_depth = 32

-- one of the 24
pub record IsRotation (m : Matrix) : Type 0 where
  pub index : ℕ
  pub below : index < 24
  pub same : m ≡ matrix_of index

-- what an instance keeps
pub record IsInstance (h : Hierarchy) (i : Instance) : Type 0 where
  pub volume : i.volume < length h.volumes
  pub rotation : IsRotation i.rotation
  pub offset : IsWithin (unsigned_abs M) i.offset
