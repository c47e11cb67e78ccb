-- Polygons worked by hand.
use Rattle.std.proofs.Common.{◌≡◌, true, false, pos, neg_ℤ, ℤ, List, [], ◌∷◌, refl}
use Rattle.gx_num.specs.declared.vector.V3.{V3}
use Rattle.gx_polygon.specs.Polygon.{turn, is_straight, edges_of, is_convex}

abbrev at : ℤ → ℤ → V3
at x y = record { x = x; y = y; z = pos 0 }

-- (0, 3) is 3 to the left of the line from (0, 0) to (4, 0)
left : turn (at (pos 0) (pos 0)) (at (pos 4) (pos 0)) (at (pos 0) (pos 3)) ≡ pos 12
left = refl

-- ---- a square, anticlockwise and clockwise: its edges go anticlockwise
abbrev square : List V3
square = at (pos 0) (pos 0) ∷ at (pos 2) (pos 0) ∷ at (pos 2) (pos 2) ∷ at (pos 0) (pos 2) ∷ []

abbrev clockwise : List V3
clockwise = at (pos 0) (pos 0) ∷ at (pos 0) (pos 2) ∷ at (pos 2) (pos 2) ∷ at (pos 2) (pos 0) ∷ []

square-convex : is_convex square ≡ true
square-convex = refl

clockwise-convex : is_convex clockwise ≡ true
clockwise-convex = refl

square-not_straight : is_straight square ≡ false
square-not_straight = refl

square-edges : edges_of square ≡ (at (pos 0) (pos 0), at (pos 2) (pos 0)) ∷ (at (pos 2) (pos 0), at (pos 2) (pos 2)) ∷ (at (pos 2) (pos 2), at (pos 0) (pos 2)) ∷ (at (pos 0) (pos 2), at (pos 0) (pos 0)) ∷ []
square-edges = refl

clockwise-edges : edges_of clockwise ≡ (at (pos 0) (pos 2), at (pos 0) (pos 0)) ∷ (at (pos 2) (pos 2), at (pos 0) (pos 2)) ∷ (at (pos 2) (pos 0), at (pos 2) (pos 2)) ∷ (at (pos 0) (pos 0), at (pos 2) (pos 0)) ∷ []
clockwise-edges = refl

-- ---- points on the sides of a triangle, begun in the middle of one, in both orientations
anticlockwise_on_sides : is_convex (at (pos 2) (pos 0) ∷ at (pos 4) (pos 0) ∷ at (pos 6) (pos 0) ∷ at (pos 3) (pos 3) ∷ at (pos 0) (pos 6) ∷ at (pos 0) (pos 0) ∷ []) ≡ true
anticlockwise_on_sides = refl

clockwise_on_sides : is_convex (at (pos 0) (pos 0) ∷ at (pos 0) (pos 6) ∷ at (pos 3) (pos 3) ∷ at (pos 6) (pos 0) ∷ at (pos 4) (pos 0) ∷ at (pos 2) (pos 0) ∷ []) ≡ true
clockwise_on_sides = refl

-- ---- refused
-- the corners of a pentagon, each second one next
pentagram : is_convex (at (pos 0) (pos 10) ∷ at (neg_ℤ (pos 6)) (neg_ℤ (pos 8)) ∷ at (pos 10) (pos 3) ∷ at (neg_ℤ (pos 10)) (pos 3) ∷ at (pos 6) (neg_ℤ (pos 8)) ∷ []) ≡ false
pentagram = refl

-- a triangle gone round twice, by other points of its sides
twice : is_convex (at (pos 0) (pos 0) ∷ at (pos 6) (pos 0) ∷ at (pos 0) (pos 6) ∷ at (pos 0) (pos 3) ∷ at (pos 2) (pos 0) ∷ at (pos 4) (pos 2) ∷ []) ≡ false
twice = refl

-- back and forth on a side
turning_back : is_convex (at (pos 0) (pos 0) ∷ at (pos 4) (pos 0) ∷ at (pos 2) (pos 0) ∷ at (pos 6) (pos 0) ∷ at (pos 0) (pos 6) ∷ []) ≡ false
turning_back = refl

repeated : is_convex (at (pos 0) (pos 0) ∷ at (pos 6) (pos 0) ∷ at (pos 6) (pos 0) ∷ at (pos 0) (pos 6) ∷ []) ≡ false
repeated = refl

-- ---- on one line, and all but the last on one
line : is_straight (at (pos 0) (pos 0) ∷ at (pos 4) (pos 2) ∷ at (pos 2) (pos 1) ∷ []) ≡ true
line = refl

not_line : is_straight (at (pos 0) (pos 0) ∷ at (pos 2) (pos 0) ∷ at (pos 4) (pos 0) ∷ at (pos 4) (pos 1) ∷ []) ≡ false
not_line = refl
