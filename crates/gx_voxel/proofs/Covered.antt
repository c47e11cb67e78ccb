-- A point in a member's open extent is in a run that has the member, on the axis that is cut, and so on down to a cell.
use Rattle.std.proofs.Common.{◌≡◌, ℕ, zero, suc, ◌+◌, ◌<◌, refl, sym, subst, ◌∙◌, arith, ℤ, pos, ◌*ℤ◌, ◌≤ℤ◌, ◌<ℤ◌, Bool, true, false, List, [], ◌∷◌, length, map, Option, None, Some, add-one, inl}
use Rattle.std.specs.Prelude.{int_lt, ◌&&◌, flat_map, if◌then◌else◌, ◌==◌}
use Rattle.std.proofs.lemmas.Int.{ints, by_lt_z}
use Rattle.gx_num.specs.Vector4.{Vec4}
use Rattle.gx_num.specs.declared.extent.Extent.{Extent}
use Rattle.gx_algebra.proofs.Order.{mul-le-left}
use Rattle.gx_voxel.specs.Cut.{Interval, Grid, SliceRun, Cut, greatest, grid_of, bound_at, meets, members_in, runs_on, interval_on, cut_along, cut_of}
use Rattle.gx_voxel.specs.Cells.{Side, Cell, IsInSide, IsInBox, coordinate4, side_of, without, cells_within}
use Rattle.gx_offers.specs.Offers.{AnyByRecursion, IsOneOf}
use Rattle.gx_boxes.specs.Boxes.{IsWithinOpen}
use Rattle.gx_voxel.specs.Laws.{CellsCover}
use Rattle.gx_voxel.proofs.Elements.{any-map, any-flat_map, kept, cut-is}
use Rattle.gx_voxel.proofs.Grown.{HasSlice, runs-have}
use Rattle.gx_voxel.proofs.Slices.{least-each, greatest-each, span-is, count-some, bound-rises, bound-first, bound-last}

meets-is : (e : Interval) (from to : ℤ) → e.low <ℤ to → from <ℤ e.high → meets e from to ≡ true
unfolding meets
meets-is e from to h k = both (int_lt e.low to) (int_lt from e.high) (grind (arith, ints, h)) (grind (arith, ints, k))
  where
    both : (a b : Bool) → a ≡ true → b ≡ true → (a && b) ≡ true
    both a b h k = cc

-- ---- coordinates times w, which is above 0
module _ (w x : ℤ) (above : pos 0 <ℤ w) where
  lower : (a b : ℤ) → a ≤ℤ b → (b *ℤ w) ≤ℤ x → (a *ℤ w) ≤ℤ x
  lower a b h k = omega (arith, ints, mul-le-left w a b (omega (arith, ints)) h)

  higher : (a b : ℤ) → a ≤ℤ b → x <ℤ (a *ℤ w) → x <ℤ (b *ℤ w)
  higher a b h k = omega (arith, ints, mul-le-left w a b (omega (arith, ints)) h)

  -- bounds round a coordinate
  apart : (a b : ℤ) → (a *ℤ w) ≤ℤ x → x <ℤ (b *ℤ w) → a <ℤ b
  apart a b h k = by_lt_z a b (λ less. less) (λ most. absurd (omega (arith, ints, mul-le-left w b a (omega (arith, ints)) most)))

  weaken : (a : ℤ) → (a *ℤ w) <ℤ x → (a *ℤ w) ≤ℤ x
  weaken a h = omega (arith, ints)

  -- the slice in which a coordinate is
  find : (g : Grid) (n : ℕ) → (bound_at g 0 *ℤ w) ≤ℤ x → x <ℤ (bound_at g n *ℤ w) → (i : ℕ) × (i < n) × ((bound_at g i *ℤ w) ≤ℤ x) × (x <ℤ (bound_at g (i + 1) *ℤ w))
  find g zero low high = absurd (omega (arith, ints, low, high))
  find g (suc n) low high = by_lt_z x (bound_at g n *ℤ w)
      (λ less. let r = find g n low less in (r.0, omega (arith, r.1), r.2, r.3))
      (λ most. (n, omega arith, most, subst (λ m. x <ℤ (bound_at g m *ℤ w)) (sym (add-one n)) high))

  module _ (on : ℕ → Interval) (ks : List ℕ) (k : ℕ) (one : IsOneOf k ks) (low : ((on k).low *ℤ w) <ℤ x) (high : x <ℤ ((on k).high *ℤ w)) where
    abbrev grid : Grid
    grid = grid_of on ks

    order : (on k).low <ℤ (on k).high
    order = apart (on k).low (on k).high (weaken (on k).low low) high

    some : 0 < grid.count
    some = count-some on ks k one order

    start : (bound_at grid 0 *ℤ w) ≤ℤ x
    start = subst (λ b. (b *ℤ w) ≤ℤ x) (sym (bound-first grid some)) (lower grid.low (on k).low (least-each (λ k. (on k).low) ks k one) (weaken (on k).low low))

    end : x <ℤ (bound_at grid grid.count *ℤ w)
    end =
        subst (λ b. x <ℤ (b *ℤ w)) (sym (bound-last grid some ∙ span-is on ks k one order))
        (higher (on k).high (greatest (map (λ k. (on k).high) ks)) (greatest-each (λ k. (on k).high) ks k one) high)

    in-slice : (i : ℕ) → (bound_at grid i *ℤ w) ≤ℤ x → x <ℤ (bound_at grid (i + 1) *ℤ w) → IsOneOf k (members_in on ks grid i)
    in-slice i low' high' =
        kept (λ j. meets (on j) (bound_at grid i) (bound_at grid (i + 1))) ks k one
        (meets-is (on k) (bound_at grid i) (bound_at grid (i + 1)) (apart (on k).low (bound_at grid (i + 1)) (weaken (on k).low low) high') (apart (bound_at grid i) (on k).high low' high))

    abbrev pub Holds : SliceRun → Type 0
    Holds run = ((run.low *ℤ w) ≤ℤ x) × (x <ℤ (run.high *ℤ w)) × IsOneOf k run.members

    holds : (i : ℕ) → (bound_at grid i *ℤ w) ≤ℤ x → x <ℤ (bound_at grid (i + 1) *ℤ w) → (run : SliceRun) → HasSlice grid i (members_in on ks grid i) run → Holds run
    holds i low' high' run h = subst Holds (sym h.is) (
      lower (bound_at grid run.first) (bound_at grid i) (bound-rises grid some run.first i h.first) low',
      higher (bound_at grid (i + 1)) (bound_at grid (run.last + 1)) (bound-rises grid some (i + 1) (run.last + 1) (omega (arith, h.last))) high',
      in-slice i low' high',
    )

    -- the run in which a coordinate is has each member whose interval it is in
    pub in-run : AnyByRecursion Holds (runs_on on ks)
    in-run =
        let r = find grid grid.count start end in
        any-map (HasSlice grid r.0 (members_in on ks grid r.0)) Holds (holds r.0 r.2 r.3) (runs_on on ks) (runs-have grid (members_in on ks grid) grid.count r.0 r.1)

pub between : (axis : ℕ) (e : Extent) (p : Vec4) → IsWithinOpen e p → (((interval_on axis e).low *ℤ p.w) <ℤ coordinate4 axis p) × (coordinate4 axis p <ℤ ((interval_on axis e).high *ℤ p.w))
unfolding interval_on
between axis e p h = go (axis == 0) (axis == 1)
  where
    go : (a b : Bool) → (((if a then e.low.x else if b then e.low.y else e.low.z) *ℤ p.w) <ℤ (if a then p.x else if b then p.y else p.z))
        × ((if a then p.x else if b then p.y else p.z) <ℤ ((if a then e.high.x else if b then e.high.y else e.high.z) *ℤ p.w))
    go true b = (h.x.above, h.x.below)
    go false true = (h.y.above, h.y.below)
    go false false = (h.z.above, h.z.below)

module _ (at : ℕ → Extent) (p : Vec4) (above : pos 0 <ℤ p.w) (k : ℕ) (inside : IsWithinOpen (at k) p) where
  abbrev Has : Cell → Type 0
  Has c = IsInBox p c.box × IsOneOf k c.members

  abbrev pub InRun : ℕ → SliceRun → Type 0
  InRun axis run = IsInSide p (side_of axis run) × IsOneOf k run.members

  pub in-cut : (ks axes : List ℕ) → IsOneOf k ks → (cut : Cut) → cut_of at ks axes ≡ Some cut → AnyByRecursion (InRun cut.axis) cut.runs
  in-cut ks axes one cut e =
      cut-is at ks (λ c. AnyByRecursion (InRun c.axis) c.runs) axes
      (λ axis _. let b = between axis (at k) p inside in
      any-map _ (InRun axis) (λ run h. ((h.0, h.1), h.2)) (cut_along at ks axis).runs (in-run p.w (coordinate4 axis p) above (λ j. interval_on axis (at j)) ks k one b.0 b.1))
      cut e

  cover-within : (n : ℕ) (box : List Side) (ks axes : List ℕ) → IsOneOf k ks → IsInBox p box → AnyByRecursion Has (cells_within at n box ks axes)
  unfolding cells_within
  cover-within zero box ks axes one here = inl (here, one)
  cover-within (suc n) box ks axes one here = go (cut_of at ks axes) (in-cut ks axes one) (λ axis run h. cover-within n (side_of axis run ∷ box) run.members (without axis axes) h.1 (h.0, here))
    where
      go : (o : Option Cut) → ((cut : Cut) → o ≡ Some cut → AnyByRecursion (InRun cut.axis) cut.runs)
          → ((axis : ℕ) (run : SliceRun) → InRun axis run → AnyByRecursion Has (cells_within at n (side_of axis run ∷ box) run.members (without axis axes)))
          → AnyByRecursion Has (elim o as (λ _. List Cell) [
            | None ↦ record { box = box; members = ks } ∷ []
            | Some cut ↦ flat_map (λ run. cells_within at n (side_of cut.axis run ∷ box) run.members (without cut.axis axes)) cut.runs
          ])
      go None cut deeper = inl (here, one)
      go (Some c) cut deeper = any-flat_map (InRun c.axis) Has _ (deeper c.axis) c.runs (cut c refl)

pub cover : CellsCover
cover at ks axes k p above one inside = cover-within at p above k inside (length axes) [] ks axes one tt
