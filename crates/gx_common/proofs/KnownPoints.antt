-- Points of two boxes, worked out by hand.
use Rattle.std.proofs.Common.{◌≡◌, ℤ, pos, [], ◌∷◌, length, Some, None, refl}
use Rattle.gx_num.specs.Number.{common_divisor}
use Rattle.gx_num.specs.Space.{HalfSpace}
use Rattle.gx_num.specs.Vector4.{Vec4}
use Rattle.gx_convex.specs.Faces.{faces_of}
use Rattle.gx_separate.proofs.KnownPlanes.{at, minus, box}
use Rattle.gx_common.specs.Common.{candidate_points, taken_of, common_of}

abbrev face : ℤ → ℤ → ℤ → ℤ → HalfSpace
face x y z e = record { n = at x y z; e = e }

abbrev corner : ℤ → ℤ → ℤ → Vec4
corner x y z = record { x = x; y = y; z = z; w = pos 1 }

faces_known : faces_of (box (minus 5) (pos 5)) ≡ face (pos 0) (pos 0) (minus 1) (pos 5) ∷ face (pos 0) (minus 1) (pos 0) (pos 5) ∷ face (minus 1) (pos 0) (pos 0) (pos 5) ∷ face (pos 1) (pos 0) (pos 0) (pos 5) ∷ face (pos 0) (pos 1) (pos 0) (pos 5) ∷ face (pos 0) (pos 0) (pos 1) (pos 5) ∷ []
unfolding common_divisor
faces_known = refl

-- the boxes of half-lengths 5 at x = 0 and x = 9: four corners of each are in the other, and of each 16 segments cross a face of the other
candidates_known : length (candidate_points (box (minus 5) (pos 5)) (box (pos 4) (pos 14))) ≡ 40
unfolding common_divisor
candidates_known = refl

-- for each face the first of these points that isn't on it
taken_known : taken_of (box (minus 5) (pos 5)) (box (pos 4) (pos 14)) ≡ Some (
    corner (pos 5) (minus 5) (pos 5) ∷ corner (pos 5) (pos 5) (minus 5) ∷ corner (pos 5) (minus 5) (minus 5) ∷
    corner (pos 4) (minus 5) (minus 5) ∷ corner (pos 5) (minus 5) (minus 5) ∷ corner (pos 5) (minus 5) (minus 5) ∷
    corner (pos 5) (minus 5) (pos 5) ∷ corner (pos 5) (pos 5) (minus 5) ∷ corner (pos 5) (minus 5) (minus 5) ∷
    corner (pos 5) (minus 5) (minus 5) ∷ corner (pos 5) (minus 5) (minus 5) ∷ corner (pos 5) (minus 5) (minus 5) ∷ [])
unfolding common_divisor
taken_known = refl

-- these points once each
common_known : common_of (box (minus 5) (pos 5)) (box (pos 4) (pos 14)) ≡ Some (
    corner (pos 5) (minus 5) (pos 5) ∷ corner (pos 5) (pos 5) (minus 5) ∷ corner (pos 5) (minus 5) (minus 5) ∷ corner (pos 4) (minus 5) (minus 5) ∷ [])
unfolding common_divisor
common_known = refl

-- two that touch in a face: no common point is strictly inside it
touching_known : taken_of (box (minus 5) (pos 5)) (box (pos 5) (pos 15)) ≡ None
unfolding common_divisor
touching_known = refl
