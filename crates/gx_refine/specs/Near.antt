-- Private to this crate: members from which those of some slices are taken.
use Rattle.std.specs.Prelude.{◌≡◌, ℕ, ◌<◌, ◌≤◌, List, filter}
use Rattle.gx_num.specs.declared.extent.Extent.{Extent}
use Rattle.gx_voxel.specs.Cut.{Interval, Grid, bound_at, meets, members_in}
use Rattle.gx_refine.specs.Known.{AreKnown, along}

-- the members in the slices from one up to, and without, another
abbrev pub members_of : (ℕ → Interval) → List ℕ → Grid → ℕ → ℕ → List ℕ
members_of on ks grid first until = filter (λ k. meets (on k) (bound_at grid first) (bound_at grid until)) ks

-- The slices from i up to, and without, one have the same members among these as among all.
pub record IsNear (extents : List Extent) (axis : ℕ) (ks : List ℕ) (grid : Grid) (i : ℕ) (near : List ℕ) (until : ℕ) : Type 0 where
  pub known : AreKnown extents near
  pub reaches : i ≤ until
  pub same : (j : ℕ) → i ≤ j → j < until → members_in (along extents axis) near grid j ≡ members_in (along extents axis) ks grid j
