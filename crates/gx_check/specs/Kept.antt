-- What is kept of a mother's daughters. For private functions.
use Rattle.std.specs.Prelude.{◌≡◌, ℕ, ◌≤◌, List, [], length, map, slice_index_or, All, Some}
use Rattle.gx_num.specs.declared.vector.V3.{V3}
use Rattle.gx_num.specs.declared.extent.Extent.{Extent}
use Rattle.gx_num.specs.Space.{HalfSpace}
use Rattle.gx_convex.specs.Extent.{extent_of}
use Rattle.gx_hull.specs.Hull.{IsVertices}
use Rattle.gx_separate.specs.Between.{first_between}

-- few hulls, and the extent of each
pub record AreKept (hulls : List (List V3)) (extents : List Extent) : Type 0 where
  pub few : length hulls ≤ 4096
  pub vertices : All IsVertices hulls
  pub boxes : extents ≡ map extent_of hulls

-- a plane is between the two
unfoldable pub AreParted : List (List V3) → ℕ → ℕ → Type 0
AreParted daughters i j = (plane : HalfSpace) × (first_between (slice_index_or daughters i []) (slice_index_or daughters j []) ≡ Some plane)
