-- What is known of the runs of known members.
use Rattle.std.proofs.Common.{ℕ, ◌+◌, ◌<◌, ◌≤◌, sym, subst, arith, ◌<ℤ◌, Bool, List, length, filter}
use Rattle.std.specs.List.{All}
use Rattle.std.proofs.lemmas.Int.{ints}
use Rattle.std.proofs.lemmas.List.Kept.{IsStrictlyIncreasing-filter}
use Rattle.std.proofs.lemmas.List.Elements.{All-filter}
use Rattle.std.proofs.lemmas.List.Sums.{length-filter, count_by-le-length}
use Rattle.gx_num.specs.declared.extent.Extent.{Extent}
use Rattle.gx_boxes.specs.Boxes.{IsProper}
use Rattle.gx_voxel.specs.Members.{extent_at}
use Rattle.gx_voxel.specs.Cut.{Grid, SliceRun, grid_of, bound_at, members_in, runs_on}
use Rattle.gx_voxel.proofs.Slices.{bound-rises, bound-next}
use Rattle.gx_voxel.proofs.Grown.{InTurn, runs-turn, turn-few, turn-each}
use Rattle.gx_voxel.proofs.Standing.{grid-some}
use Rattle.gx_refine.specs.Known.{AreKnown, IsPart, AreParts, along}

filter-shorter : (test : ℕ → Bool) (ks : List ℕ) → length (filter test ks) ≤ length ks
filter-shorter test ks = omega (arith, length-filter test ks, count_by-le-length test ks)

module _ (extents : List Extent) where
  pub known-filter : (test : ℕ → Bool) (ks : List ℕ) → AreKnown extents ks → AreKnown extents (filter test ks)
  known-filter test ks known = record {
    members = record { increasing = IsStrictlyIncreasing-filter test ks known.members.increasing; few = omega (arith, filter-shorter test ks, known.members.few) };
    below = All-filter test (λ k. k < length extents) ks known.below;
    proper = known.proper;
  }

  pub known-proper : (ks : List ℕ) → AreKnown extents ks → All (λ k. IsProper (extent_at extents k)) ks
  known-proper ks known = λ i d h. known.proper _ _ (known.below i d h)

  pub turn-parts : (grid : Grid) (runs : List SliceRun) → 0 < grid.count → grid.count ≤ 1000 → grid.count ≤ grid.span → InTurn grid (AreKnown extents) 0 grid.count runs → AreParts extents runs
  turn-parts grid runs some few wide turn = record {
    few = omega (arith, turn-few grid (AreKnown extents) 0 grid.count runs turn);
    each = turn-each grid (AreKnown extents) (IsPart extents) (λ i n run piece. record {
      slices = omega (arith, piece.first, piece.last);
      bounds = subst (λ r. r.low <ℤ r.high) (sym piece.is) (bounds run.first run.last (omega (arith, piece.first, piece.last)));
      members = piece.has;
    }) 0 grid.count runs turn;
  }
    where
      bounds : (first last : ℕ) → first ≤ last → bound_at grid first <ℤ bound_at grid (last + 1)
      bounds first last h = omega (arith, ints, bound-next grid some wide first, bound-rises grid some (first + 1) (last + 1) (omega arith))

module _ (extents : List Extent) (axis : ℕ) (ks : List ℕ) (known : AreKnown extents ks) (some : 0 < length ks) where
  pub known-some : 0 < (grid_of (along extents axis) ks).count
  known-some = grid-some (extent_at extents) axis ks some (known-proper extents ks known)

  pub known-parts : AreParts extents (runs_on (along extents axis) ks)
  known-parts =
      let grid : Grid = grid_of (along extents axis) ks in
      turn-parts extents grid (runs_on (along extents axis) ks) known-some (omega arith) (omega arith)
      (runs-turn grid (AreKnown extents) (members_in (along extents axis) ks grid) (λ i. known-filter extents _ ks known) grid.count)
