-- What the sample text of n declares, in steps of 1 mm: n by n cells side by side in a world, a core in each of them, and three rays.
use Rattle.std.specs.Prelude.{ℕ, ◌*◌, ℤ, ◌+ℤ◌, pos, neg_ℤ, ◌-ℤ◌, List, [], ◌∷◌, codes, length, sum_by}
use Rattle.gx_num.specs.declared.vector.V3.{V3}
use Rattle.gx_num.specs.declared.ray.Ray.{Ray}
use Rattle.gx_shapes.specs.declared.figure.Figure.{Figure}
use Rattle.gx_shapes.specs.declared.figure.Figure.TheVariants.{Cuboid, Trd}
use Rattle.gx_shapes.specs.Space.{point}
use Rattle.gx_rotation.specs.Matrix.{identity}
use Rattle.gx_tree.specs.declared.placement.Placement.{Placement}
use Rattle.gx_tree.specs.declared.placement.Placement.TheVariants.{Single, Square}
use Rattle.gx_tree.specs.Volume.{Volume}
use Rattle.gx_tree.specs.Hierarchy.{Hierarchy, instances, numbers}

-- half the length of n cells in a row
abbrev pub half : ℕ → ℤ
half n = pos (10 * n)

-- the centre of the first cell in a row
abbrev pub first : ℕ → ℤ
first n = pos 10 -ℤ half n

-- where rays begin, outside of the world
abbrev pub start : ℕ → ℤ
start n = neg_ℤ (half n) -ℤ pos 30

-- n columns of n cells, with 20 from one centre to the next
abbrev pub cells : ℕ → Placement
cells n = Square 1 0 identity n n (pos 20) (pos 20) (first n) (first n)

-- at the centre of its cell
abbrev pub core : Placement
core = Single 2 (pos 1) identity (point (pos 0) (pos 0) (pos 0))

abbrev pub world_solid : ℕ → Figure
world_solid n = Cuboid (half n +ℤ pos 20) (half n +ℤ pos 20) (pos 100)

abbrev pub cell_solid : Figure
cell_solid = Cuboid (pos 10) (pos 10) (pos 50)

abbrev pub core_solid : Figure
core_solid = Trd (pos 4) (pos 8) (pos 4) (pos 8) (pos 40)

abbrev pub volume : List ℕ → Figure → List ℕ → List Placement → Volume
volume name solid material placements = record { name = name; solid = solid; material = material; placements = placements }

-- the world, a cell, and its core
abbrev pub sample_volumes : ℕ → List Volume
sample_volumes n =
    volume (codes "world") (world_solid n) (codes "Air") (cells n ∷ [])
    ∷ volume (codes "cell") cell_solid (codes "Lead") (core ∷ [])
    ∷ volume (codes "core") core_solid (codes "Wax") []
    ∷ []

abbrev pub sample_tree : ℕ → Hierarchy
sample_tree n = record { volumes = sample_volumes n; world = 0 }

abbrev pub ray : V3 → V3 → Ray
ray o d = record { o = o; d = d }

-- along x, along the diagonal of x and y through the corners of cells, and along z
abbrev pub sample_rays : ℕ → List Ray
sample_rays n =
    ray (point (start n) (pos 0) (pos 0)) (point (pos 1) (pos 0) (pos 0))
    ∷ ray (point (start n) (start n) (pos 0)) (point (pos 1) (pos 1) (pos 0))
    ∷ ray (point (pos 0) (pos 5) (neg_ℤ (pos 120))) (point (pos 0) (pos 0) (pos 1))
    ∷ []

-- how many instances all mothers have, each mother once
abbrev pub instances_of_all : Hierarchy → ℕ
instances_of_all h = sum_by (λ v. length (instances h v)) (numbers h.volumes)
