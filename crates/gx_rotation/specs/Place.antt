-- Placed volumes: the frames of a mother and of a daughter that is turned and moved in it (the Geant4 Book for Application Developers, geometry, physical volumes).
use Rattle.std.specs.Prelude.{◌+ℤ◌, ◌-ℤ◌, ◌*ℤ◌}
use Rattle.gx_num.specs.declared.vector.V3.{V3}
use Rattle.gx_num.specs.Vector.{sum_of, dot_of}
use Rattle.gx_num.specs.Space.{HalfSpace}
use Rattle.gx_num.specs.Vector4.{Vec4}
use Rattle.gx_rotation.specs.Matrix.{Matrix, transpose, image}

-- a point of the mother in the daughter's frame: R (x - t), where the daughter has the rotation R and the offset t
abbrev pub local_point : Matrix → V3 → Vec4 → Vec4
local_point rotation offset p =
    let moved : V3 = record { x = p.x -ℤ p.w *ℤ offset.x; y = p.y -ℤ p.w *ℤ offset.y; z = p.z -ℤ p.w *ℤ offset.z } in
    let turned = image rotation moved in
    record { x = turned.x; y = turned.y; z = turned.z; w = p.w }

-- a point of the daughter in the mother's frame: t + R^-1 v
abbrev pub placed_point : Matrix → V3 → V3 → V3
placed_point rotation offset v = sum_of offset (image (transpose rotation) v)

-- an inequality of the daughter in the mother's frame: n' = R^-1 n, and n' . x <= e + n' . t
abbrev pub placed_face : Matrix → V3 → HalfSpace → HalfSpace
placed_face rotation offset h = let n = image (transpose rotation) h.n in record { n = n; e = h.e +ℤ dot_of n offset }
