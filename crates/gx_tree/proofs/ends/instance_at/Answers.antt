use Rattle.std.proofs.Common.{◌≡◌, ◌≤◌, ◌-◌, ℕ, List, length, take, slice_index, Some, sym, ◌∙◌, ap, arith}
use Rattle.std.proofs.lemmas.List.{length-take-le}
use Rattle.gx_tree.specs.declared.placement.Placement.{Placement}
use Rattle.gx_tree.specs.declared.instance.Instance.{Instance}
use Rattle.gx_tree.specs.Volume.{instance_of}
use Rattle.gx_tree.specs.Ends.{start_of, ends_of}
use Rattle.gx_tree.proofs.Ordinals.{length-ends_of, start_is, number_below, instance_is}
use Rattle.gx_tree.proofs.ends.instance_at.Goals as goal

pub bounds-placements-place : goal.bounds-placements-place
bounds-placements-place c = (c.place_of-place.ensures c.args.placements.now c.requires.ends c.requires.ordinal).below

pub slice_bounds-count-end : goal.slice_bounds-count-end
slice_bounds-count-end c =
    let place = c.place_of-place.ensures c.args.placements.now c.requires.ends c.requires.ordinal in
    sym (length-take-le _ c.args.ends.now (omega (arith, place.below, ap length c.requires.ends, length-ends_of c.args.placements.now)))

-- the count before the placement, as the code reads it
start : (ps : List Placement) (ends : List ℕ) (at count : ℕ) → ends ≡ ends_of ps → at ≤ length ps → count ≡ slice_index (take at ends) (length (take at ends) - 1) → count ≡ start_of ps at
start ps ends at count same below is = is ∙ ap (λ (es : List ℕ). slice_index (take at es) (length (take at es) - 1)) same ∙ start_is ps at below

pub overflow_sub-k : goal.overflow_sub-k
overflow_sub-k c =
    let ps = c.args.placements.now in
    let place = c.place_of-place.ensures ps c.requires.ends c.requires.ordinal in
    omega (arith, place.from, start ps c.args.ends.now c.place_of-place.result c.count-start.result c.requires.ends (omega (arith, place.below)) c.count-start.ensures)

pub instance-requires-clause-copy : goal.instance-requires-clause-copy
instance-requires-clause-copy c =
    let ps = c.args.placements.now in
    let place = c.place_of-place.ensures ps c.requires.ends c.requires.ordinal in
    let from = start ps c.args.ends.now c.place_of-place.result c.count-start.result c.requires.ends (omega (arith, place.below)) c.count-start.ensures in
    rw from (number_below ps c.args.k c.place_of-place.result c.index-placements-place.result place c.index-placements-place.is)

pub returns : goal.returns
returns c =
    let ps = c.args.placements.now in
    let place = c.place_of-place.ensures ps c.requires.ends c.requires.ordinal in
    let p = c.index-placements-place.result in
    let from = start ps c.args.ends.now c.place_of-place.result c.count-start.result c.requires.ends (omega (arith, place.below)) c.count-start.ensures in
    instance_is ps c.args.k c.place_of-place.result p c.requires.ordinal place c.index-placements-place.is
    ∙ ap (λ (n : ℕ). Some (instance_of p (c.args.k - n))) (sym from)
    ∙ ap (λ (i : Instance). Some i) (sym c.instance.ensures)
