-- Volumes, and the instances that their placements stand for (the Geant4 Book for Application Developers, geometry, physical volumes).
use Rattle.std.specs.Prelude.{ℕ, ◌*◌, ◌/◌, ◌%◌, ℤ, pos, List, map, flat_map}
use Rattle.std.specs.List.{range_with_len}
use Rattle.gx_num.specs.declared.vector.V3.{V3}
use Rattle.gx_shapes.specs.declared.figure.Figure.{Figure}
use Rattle.gx_rotation.specs.Matrix.{Matrix, identity}
use Rattle.gx_replica.specs.Replica.{centre_of}
use Rattle.gx_param.specs.Param.{place, linear, square}
use Rattle.gx_tree.specs.declared.placement.Placement.{Placement}
use Rattle.gx_tree.specs.declared.placement.Placement.TheVariants.{Single, Replica, Linear, Square}
use Rattle.gx_tree.specs.declared.instance.Instance.{Instance}

-- a name, a solid as a figure, a material, and what is placed in it
pub record Volume : Type 0 where
  pub name : List ℕ
  pub solid : Figure
  pub material : List ℕ
  pub placements : List Placement

-- the number of the volume that is placed
abbrev pub daughter_of : Placement → ℕ
daughter_of (Single volume copy rotation offset) = volume
daughter_of (Replica volume axis count width) = volume
daughter_of (Linear volume axis rotation count step offset) = volume
daughter_of (Square volume plane rotation first_count second_count first_step second_step first_offset second_offset) = volume

-- how many instances it stands for
abbrev pub copies_of : Placement → ℕ
copies_of (Single volume copy rotation offset) = 1
copies_of (Replica volume axis count width) = count
copies_of (Linear volume axis rotation count step offset) = count
copies_of (Square volume plane rotation first_count second_count first_step second_step first_offset second_offset) = first_count * second_count

-- cells aren't turned
abbrev pub rotation_of : Placement → Matrix
rotation_of (Single volume copy rotation offset) = rotation
rotation_of (Replica volume axis count width) = identity
rotation_of (Linear volume axis rotation count step offset) = rotation
rotation_of (Square volume plane rotation first_count second_count first_step second_step first_offset second_offset) = rotation

-- where the i-th of them is
abbrev pub offset_of : Placement → ℕ → V3
offset_of (Single volume copy rotation offset) i = offset
offset_of (Replica volume axis count width) i = centre_of axis count width i
offset_of (Linear volume axis rotation count step offset) i = linear axis (place offset step i)
offset_of (Square volume plane rotation first_count second_count first_step second_step first_offset second_offset) i =
    square plane (place first_offset first_step (i % first_count)) (place second_offset second_step (i / first_count))

-- its copy number, which is its number i but for a single one
abbrev pub number_of : Placement → ℕ → ℤ
number_of (Single volume copy rotation offset) i = copy
number_of placement i = pos i

-- the i-th of them
abbrev pub instance_of : Placement → ℕ → Instance
instance_of placement i =
    record { volume = daughter_of placement; copy = number_of placement i; rotation = rotation_of placement; offset = offset_of placement i }

-- all of them
unfoldable pub instances_of : Placement → List Instance
instances_of placement = map (instance_of placement) (range_with_len 0 (copies_of placement))

-- the placements in their order, each written out; an instance's number in the list is its ordinal
abbrev pub instances_in : List Placement → List Instance
instances_in placements = flat_map instances_of placements
