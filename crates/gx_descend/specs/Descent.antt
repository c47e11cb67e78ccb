-- What the descent of a ray through a tree of headers offers, and what it costs.
use Rattle.std.specs.Prelude.{◌≡◌, ◌⊎◌, ◌≤◌, ◌<◌, ◌+◌, ℕ, Bool, List, [], ◌∷◌, length, Some}
use Rattle.std.specs.List.{All}
use Rattle.gx_num.specs.Ray.{RayParameter, IsBelow, point_of_ray}
use Rattle.gx_num.specs.declared.extent.Extent.{Extent}
use Rattle.gx_num.specs.declared.ray.Ray.{Ray}
use Rattle.gx_offers.specs.Offers.{IsOneOf, Offered}
use Rattle.gx_boxes.specs.Boxes.{IsProper, IsWithinOpen}
use Rattle.gx_voxel.specs.Cells.{Side, cells}
use Rattle.gx_voxel.specs.Cut.{Cut, cut_of}
use Rattle.gx_voxel.specs.Proxy.{StandsFor}
use Rattle.gx_voxel.specs.declared.proxy.Proxy.{Proxy}
use Rattle.gx_along.specs.Bounds.{tests_within, reads_within, IsBoxTest}
use Rattle.gx_along.specs.Line.{IsWithin}
use Rattle.gx_along.specs.declared.line.Stretch.{Stretch}

-- strictly between two parameters the ray is in the open extent
pub record IsCrossing (e : Extent) (ray : Ray) (a b : RayParameter) : Type 0 where
  pub from : 0 < a.den
  pub to : 0 < b.den
  pub inside : (u : RayParameter) → 0 < u.den → IsBelow a u → IsBelow u b → IsWithinOpen e (point_of_ray ray u)

-- the ray crosses the member's extent, with a point of the stretch there
abbrev pub IsDue : (ℕ → Extent) → Ray → Stretch → ℕ → Type 0
IsDue at ray s k = (a : RayParameter) × (b : RayParameter) × (t : RayParameter) × IsCrossing (at k) ray a b × (0 < t.den) × IsBelow a t × IsBelow t b × IsWithin s t

-- the three axes
abbrev pub all_axes : List ℕ
all_axes = 0 ∷ 1 ∷ 2 ∷ []

-- the tree of these members, of which none is empty on an axis
pub record IsTree (at : ℕ → Extent) (ks : List ℕ) (p : Proxy) : Type 0 where
  pub proper : All (λ k. IsProper (at k)) ks
  pub stands : StandsFor at p ks all_axes

-- the tree of some members whose numbers are below a bound
abbrev pub StandsForSome : ℕ → Proxy → Type 0
StandsForSome room p = (at : ℕ → Extent) × (ks : List ℕ) × IsTree at ks p × All (λ k. k < room) ks

-- Each member that is due comes and none but members, at most as many as the cells that pass have; and at most as much is read as the headers and runs that pass add up to, something where there is a cut, and never less than before.
pub record IsDescended (at : ℕ → Extent) (ks : List ℕ) (ray : Ray) (s : Stretch) (old new : Offered) (before after : ℕ) : Type 0 where
  pub room : new.room ≡ old.room
  pub kept : (k : ℕ) → IsOneOf k old.numbers → IsOneOf k new.numbers
  pub only : (k : ℕ) → IsOneOf k new.numbers → IsOneOf k old.numbers ⊎ IsOneOf k ks
  pub whole : (k : ℕ) → IsOneOf k ks → IsDue at ray s k → IsOneOf k new.numbers
  pub tests : (met : List Side → Bool) → IsBoxTest ray s met → length new.numbers ≤ length old.numbers + tests_within met (cells at ks all_axes)
  pub reads : (met : List Side → Bool) → IsBoxTest ray s met → after ≤ before + reads_within met at 3 [] ks all_axes
  pub some : (cut : Cut) → cut_of at ks all_axes ≡ Some cut → before < after
  pub more : before ≤ after
