-- Either a plane is between two solids or their insides meet, and candidates tell which (any text on convex geometry).
use Rattle.std.specs.Prelude.{◌≡◌, ◌⊎◌, ◌↔◌, pos, ◌<ℤ◌, [], ◌∷◌, ◌++◌, false, IsTrue, List, All, Contains, Some, None}
use Rattle.gx_num.specs.declared.vector.V3.{V3}
use Rattle.gx_num.specs.Space.{HalfSpace, is_in, is_inside}
use Rattle.gx_num.specs.Vector4.{Vec4, origin, plus4}
use Rattle.gx_plane.specs.Plane.{flipped}
use Rattle.gx_convex.specs.Points.{are_coplanar}
use Rattle.gx_convex.specs.Faces.{faces_of}
use Rattle.gx_convex.specs.Hull.{IsAtMost, IsHullOf}
use Rattle.gx_separate.specs.Between.{first_between}
use Rattle.gx_common.specs.Common.{candidate_points, is_strict, taken_of, common_of}

-- one of the points is strictly inside the face
pub record IsReached (points : List Vec4) (face : HalfSpace) : Type 0 where
  pub point : Vec4
  pub in_list : Contains points point
  pub strict : IsTrue (is_strict face point)

-- for each face of either some candidate point is strictly inside it
abbrev pub AreReached : List V3 → List V3 → Type 0
AreReached a b = All (IsReached (candidate_points a b)) (faces_of a ++ faces_of b)

-- a point inside both solids
pub record IsInsideBoth (solid other : List HalfSpace) : Type 0 where
  pub point : Vec4
  pub proper : pos 0 <ℤ point.w
  pub inside : IsTrue (is_inside solid point)
  pub inside_other : IsTrue (is_inside other point)

-- Either a candidate is between, or each face of either has a candidate point strictly inside it, never both; the latter exactly
-- where a point is strictly inside all faces of both, and exactly where points are taken.
pub record AreAlternatives (a b : List V3) : Type 0 where
  pub either : ((h : HalfSpace) × (first_between a b ≡ Some h)) ⊎ AreReached a b
  pub never_both : (h : HalfSpace) → first_between a b ≡ Some h → AreReached a b → ⊥
  pub meet : IsInsideBoth (faces_of a) (faces_of b) ↔ AreReached a b
  pub given : ((points : List Vec4) × (taken_of a b ≡ Some points)) ↔ AreReached a b

-- so it is for any two lists of points that aren't coplanar
abbrev pub Alternatives : Type 0
Alternatives = (a b : List V3) → are_coplanar a ≡ false → are_coplanar b ≡ false → AreAlternatives a b

-- The insides of two solids meet exactly where no candidate is between their vertices, and exactly where points are taken; a
-- candidate that is between the vertices is between all points of the two.
pub record AreSolidsApart (solid other : List HalfSpace) (a b : List V3) : Type 0 where
  pub meet : IsInsideBoth solid other ↔ (first_between a b ≡ None)
  pub given : IsInsideBoth solid other ↔ ((points : List Vec4) × (taken_of a b ≡ Some points))
  pub between : (h : HalfSpace) → first_between a b ≡ Some h → (p : Vec4) → pos 0 <ℤ p.w → (IsTrue (is_in solid p) → IsAtMost h p) × (IsTrue (is_in other p) → IsAtMost (flipped h) p)

-- so it is for any two solids
abbrev pub SolidsApart : Type 0
SolidsApart = (solid other : List HalfSpace) (a b : List V3) → are_coplanar a ≡ false → are_coplanar b ≡ false → IsHullOf solid a → IsHullOf other b → AreSolidsApart solid other a b

-- the mean of points, each weighted by its w
abbrev pub mean_of : List Vec4 → Vec4
mean_of [] = origin
mean_of (p ∷ ps) = plus4 p (mean_of ps)

-- Each of the points is in both solids, each face of either has one of them strictly inside it, and their mean is inside both.
pub record AreShown (solid other : List HalfSpace) (a b : List V3) (points : List Vec4) : Type 0 where
  pub proper : All (λ p. pos 0 <ℤ p.w) points
  pub in_solid : All (λ p. IsTrue (is_in solid p)) points
  pub in_other : All (λ p. IsTrue (is_in other p)) points
  pub strict : All (IsReached points) (faces_of a ++ faces_of b)
  pub proper_mean : pos 0 <ℤ (mean_of points).w
  pub mean_in_solid : IsTrue (is_inside solid (mean_of points))
  pub mean_in_other : IsTrue (is_inside other (mean_of points))

-- so it is for the common points of any two solids
abbrev pub PointsShow : Type 0
PointsShow = (solid other : List HalfSpace) (a b : List V3) → are_coplanar a ≡ false → are_coplanar b ≡ false → IsHullOf solid a → IsHullOf other b → (points : List Vec4) → common_of a b ≡ Some points → AreShown solid other a b points
