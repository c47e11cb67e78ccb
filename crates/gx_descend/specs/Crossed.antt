-- Private to this crate: descents through any number of headers, and going along one.
use Rattle.std.specs.Prelude.{◌≡◌, ◌⊎◌, ◌≤◌, ◌<◌, ◌+◌, ℕ, Bool, List, [], ◌∷◌, length, slice_index_or, Some}
use Rattle.std.specs.List.{All}
use Rattle.gx_num.specs.Ray.{RayParameter, point_of_ray}
use Rattle.gx_num.specs.declared.extent.Extent.{Extent}
use Rattle.gx_num.specs.declared.ray.Ray.{Ray}
use Rattle.gx_offers.specs.Offers.{IsOneOf, Offered}
use Rattle.gx_boxes.specs.Boxes.{IsProper}
use Rattle.gx_voxel.specs.Cells.{Side, IsInBox, cells_within}
use Rattle.gx_voxel.specs.Cut.{Cut, coordinate, cut_of}
use Rattle.gx_voxel.specs.Proxy.{axis_of, list_of, proxy_of, StandsWithin}
use Rattle.gx_voxel.specs.declared.proxy.Proxy.{Proxy}
use Rattle.gx_voxel.specs.declared.proxy.Header.{Header}
use Rattle.gx_voxel.specs.declared.proxy.Run.{Run}
use Rattle.gx_along.specs.Bounds.{tests_within, reads_within, IsBoxTest}
use Rattle.gx_along.specs.Digits.{digits}
use Rattle.gx_along.specs.Line.{Seen, IsWithin}
use Rattle.gx_along.specs.Walked.{Walks}
use Rattle.gx_along.specs.declared.line.Stretch.{Stretch}
use Rattle.gx_descend.specs.Descent.{IsDue}

-- all points of the ray in the stretch are in the box
abbrev pub IsAlong : Ray → Stretch → List Side → Type 0
IsAlong ray s box = (t : RayParameter) → 0 < t.den → IsWithin s t → IsInBox (point_of_ray ray t) box

-- what a descent does within any box that the ray is in all along, at most so many headers deep
pub record IsDescendedWithin (at : ℕ → Extent) (n : ℕ) (ks axes : List ℕ) (ray : Ray) (s : Stretch) (old new : Offered) (before after : ℕ) : Type 0 where
  pub room : new.room ≡ old.room
  pub kept : (k : ℕ) → IsOneOf k old.numbers → IsOneOf k new.numbers
  pub only : (k : ℕ) → IsOneOf k new.numbers → IsOneOf k old.numbers ⊎ IsOneOf k ks
  pub whole : (k : ℕ) → IsOneOf k ks → IsDue at ray s k → IsOneOf k new.numbers
  pub tests : (met : List Side → Bool) (box : List Side) → IsBoxTest ray s met → IsAlong ray s box → length new.numbers ≤ length old.numbers + tests_within met (cells_within at n box ks axes)
  pub reads : (met : List Side → Bool) (box : List Side) → IsBoxTest ray s met → IsAlong ray s box → after ≤ before + reads_within met at n box ks axes
  pub some : (cut : Cut) → cut_of at ks axes ≡ Some cut → 0 < n → before < after
  pub more : before ≤ after

-- the same for all members that a proxy stands for
abbrev pub Descends : ℕ → Ray → Stretch → Proxy → Offered → Offered → ℕ → ℕ → Type 0
Descends n ray s p old new before after = (at : ℕ → Extent) (ks axes : List ℕ) → All (λ k. IsProper (at k)) ks → StandsWithin at n p ks axes → IsDescendedWithin at n ks axes ray s old new before after

-- a tree of some members whose numbers are below a bound, at most so many headers deep
abbrev pub StandsWithinSome : ℕ → ℕ → Proxy → Type 0
StandsWithinSome n room p = (at : ℕ → Extent) × (ks : List ℕ) × (axes : List ℕ) × All (λ k. IsProper (at k)) ks × All (λ k. k < room) ks × StandsWithin at n p ks axes

-- into the runs seen, one after another, in each a read, and on down
abbrev pub GoesInto : ℕ → Ray → Header → List Seen → Offered → Offered → ℕ → ℕ → Type 0
GoesInto n ray h [] old new before after = (new ≡ old) × (after ≡ before)
GoesInto n ray h (one ∷ seen) old new before after =
    (run : Run) × (mid : Offered) × (r : ℕ) × (one.index < length (list_of h)) × (run ≡ slice_index_or (list_of h) one.index run) × Descends n ray one.part (proxy_of run) old mid (before + 1) r × GoesInto n ray h seen mid new r after

-- A header is gone along: a search, the runs seen, and at most one read more.
pub record Crosses (n : ℕ) (ray : Ray) (s : Stretch) (h : Header) (old new : Offered) (before after : ℕ) : Type 0 where
  pub seen : List Seen
  pub found : ℕ
  pub last : ℕ
  pub walks : Walks (coordinate (axis_of h) ray.o) (coordinate (axis_of h) ray.d) h s seen
  pub search : found ≤ before + digits (length (list_of h))
  pub some : 0 < length (list_of h) → before < found
  pub goes : GoesInto n ray h seen old new found last
  pub close : last ≤ after
  pub most : after ≤ last + 1
