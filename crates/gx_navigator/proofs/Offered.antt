-- What is offered in a mother is what the ray meets there, and costs what a test of boxes lets pass.
use Rattle.std.proofs.Common.{◌≡◌, ◌⊎◌, ℕ, zero, suc, ◌+◌, ◌<◌, ◌≤◌, Bool, inl, inr, refl, sym, ap, ◌∙◌, subst, arith, true, false, pos, ◌*ℤ◌, ◌<ℤ◌, ◌≤ℤ◌, ◌+ℤ◌, ℤ, List, [], ◌∷◌, All, length, slice_get, Option, None, Some}
use Rattle.std.specs.Option.{option_map}
use Rattle.std.specs.List.{AllByRecursion, range_with_len}
use Rattle.std.proofs.lemmas.Int.{ints}
use Rattle.gx_num.specs.Ray.{RayParameter, HasDirection, IsBelow, IsUpTo, point_of_ray}
use Rattle.gx_num.proofs.Order.{mediant, above_mediant, below_mediant, le_lt, lt_le}
use Rattle.gx_fraction.specs.Fraction.{parameter_of}
use Rattle.gx_clip.specs.declared.span.Span.{Span}
use Rattle.gx_tree.specs.declared.placement.Placement.{Placement}
use Rattle.gx_tree.specs.declared.placement.Placement.TheVariants.{Single, Replica, Linear, Square}
use Rattle.gx_tree.specs.Hierarchy.{Hierarchy, volume_at, instances}
use Rattle.gx_partition.specs.Walk.{Hit}
use Rattle.gx_nest.specs.Met.{Frame as Place}
use Rattle.gx_nest.proofs.Nested.{part}
use Rattle.gx_offers.specs.Offers.{AnyByRecursion, IsOneOf, Offered}
use Rattle.gx_voxel.specs.Cut.{Cut, Interval, interval_on}
use Rattle.gx_voxel.specs.Cells.{Side, coordinate4}
use Rattle.gx_along.specs.Bounds.{tests_within}
use Rattle.gx_voxel.specs.declared.proxy.Proxy.{Proxy}
use Rattle.gx_voxel.proofs.Covered.{between}
use Rattle.gx_descend.specs.Descent.{IsDue, IsDescended}
use Rattle.gx_slabs.specs.Slabs.{slab_of, slab_cells, IsSlabMet, AreCopiesOffered}
use Rattle.gx_slabs.proofs.Ranges.{range-has, in-range}
use Rattle.gx_sealed.specs.Cells.{extent_in, ordinals_in, is_replica, IsTreeOf, AreReplicas}
use Rattle.gx_sealed.proofs.Extents.{met_extent}
use Rattle.gx_walk.specs.declared.met.Frame.{Frame}
use Rattle.gx_walk.specs.declared.met.Met.{Met}
use Rattle.gx_walk.specs.Hits.{Count, hit_of}
use Rattle.gx_navigator.specs.Tests.{all_axes, cells_by, cells_in, cut_by, reads_by, stretch_between}
use Rattle.gx_navigator.specs.Tracer.{IsBound, IsKnown, is_met_at, least_of, met-inside, met_of, place}
use Rattle.gx_navigator.proofs.Found.{found, is_found}
use Rattle.gx_navigator.proofs.Relabel.{relabel}

all-of : (P : ℕ → Type 0) (ks : List ℕ) → ((k : ℕ) → IsOneOf k ks → P k) → AllByRecursion P ks
all-of P [] each = tt
all-of P (k ∷ ks) each = (each k (inl refl), all-of P ks (λ j one. each j (inr one)))

-- where no replica is placed, the cells are those of the extents
record IsPlain (h : Hierarchy) (v : ℕ) (placements : List Placement) : Type 0 where
  cells : cells_by h v placements ≡ cells_by h v []
  cut : cut_by h v placements ≡ cut_by h v []
  reads : (passes : List Side → Bool) → reads_by h passes v placements ≡ reads_by h passes v []

is_plain : (h : Hierarchy) (v : ℕ) (placements : List Placement) → All (λ place. is_replica place ≡ false) placements → IsPlain h v placements
is_plain h v [] single = record { cells = refl; cut = refl; reads = λ passes. refl }
is_plain h v (Single volume copy rotation offset ∷ placements) single = record { cells = refl; cut = refl; reads = λ passes. refl }
is_plain h v (Replica volume axis count width ∷ placements) single = let e = single 0 (Replica volume axis count width) (omega arith) in absurd (cc)
is_plain h v (Linear volume axis rotation count step offset ∷ placements) single = record { cells = refl; cut = refl; reads = λ passes. refl }
is_plain h v (Square volume plane rotation first second first_step second_step first_offset second_offset ∷ placements) single = record { cells = refl; cut = refl; reads = λ passes. refl }

module _ (h : Hierarchy) (f : Frame) (s : Span) (known : (n : ℕ) × IsKnown h n f s) where
  abbrev from : RayParameter
  from = parameter_of s.from

  abbrev to : RayParameter
  to = parameter_of s.to

  abbrev count : ℕ
  count = length (instances h f.volume)

  -- a daughter that is met is crossed in a part of the span
  due : (k : ℕ) (met : Met) → k < count → met_of h f k ≡ Some met → IsDue (extent_in h f.volume) f.ray (stretch_between from to) k
  due k met less e =
      let kn = known.1 in
      let is = is_met_at h f k met e in
      let inside = met-inside h kn.tree f kn.moves k met is in
      let hit : Hit Place = relabel place (hit_of met) in
      let within = part h kn.tree kn.clean (found h) (is_found h kn.tree) from to (place f) (record { volume = kn.volume; moves = kn.moves; span = kn.inside }) k hit less (ap (λ o. option_map (relabel place) (option_map hit_of o)) e) in
      let a = parameter_of met.span.from in
      let b = parameter_of met.span.to in
      let t = mediant a b in
      let positive : 0 < t.den = omega (arith, inside.from_lowest.positive) in
      let over = above_mediant a b inside.ordered in
      let under = below_mediant a b inside.ordered in (
        a,
        b,
        t,
        record {
          from = inside.from_lowest.positive;
          to = inside.to_lowest.positive;
          inside = λ u positive after before. met_extent h kn.tree f.volume k is.instance is.at f.ray met.span inside u positive after before;
        },
        positive,
        over,
        under,
        (le_lt from a t kn.inside.from_lowest.positive within.starts over, lt_le t b to kn.inside.to_lowest.positive under within.ends),
      )

  module _ (old new : Offered) (none : old.numbers ≡ []) where
    -- only members come
    below : ((k : ℕ) → IsOneOf k new.numbers → AnyByRecursion (λ j. k ≡ j) old.numbers ⊎ IsOneOf k (range_with_len 0 count)) → AllByRecursion (λ k. k < count) new.numbers
    below only = all-of (λ k. k < count) new.numbers (λ k one. elim (only k one) [
      | inl before ↦ absurd (subst (IsOneOf k) none before)
      | inr member ↦ let less = (in-range 0 count k member).1 in omega (arith, less)
    ])

    module _ (before after : ℕ) (p : Proxy) (tree : IsTreeOf h f.volume p) (d : IsDescended (extent_in h f.volume) (ordinals_in h f.volume) f.ray (stretch_between from to) old new before after) where
      abbrev plain : IsPlain h f.volume (volume_at h.volumes f.volume).placements
      plain = is_plain h f.volume (volume_at h.volumes f.volume).placements tree.single

      pub tree_below : AllByRecursion (λ k. k < count) new.numbers
      tree_below = below d.only

      pub tree_whole : (k : ℕ) (met : Met) → k < count → met_of h f k ≡ Some met → IsOneOf k new.numbers
      tree_whole k met less e = d.whole k (range-has 0 count k (omega arith) (omega (arith, less))) (due k met less e)

      pub tree_few_tests : (most other : Count) → IsBound h most other → length new.numbers ≤ most f from to
      tree_few_tests most other bound =
          let few = d.tests (bound.passes (place f) from to) (bound.is_test (place f) from to) in
          omega (arith, few, ap length none, bound.tests_are f from to, ap (tests_within (bound.passes (place f) from to)) plain.cells)

      pub tree_few_reads : (other most : Count) → IsBound h other most → after ≤ before + most f from to
      tree_few_reads other most bound =
          let few = d.reads (bound.passes (place f) from to) (bound.is_test (place f) from to) in
          omega (arith, few, bound.reads_are f from to, plain.reads (bound.passes (place f) from to))

      pub tree_some_reads : before + least_of h (place f) ≤ after
      tree_some_reads = by (cut_by h f.volume []) refl
        where
          by : (o : Option Cut) → cut_by h f.volume [] ≡ o → before + least_of h (place f) ≤ after
          by None e =
              let least : least_of h (place f) ≡ 0 = ap (λ (c : Option Cut). elim c [ None ↦ 0 | Some cut ↦ 1 ]) (plain.cut ∙ e) in
              omega (arith, least, d.more)
          by (Some cut) e =
              let least : least_of h (place f) ≡ 1 = ap (λ (c : Option Cut). elim c [ None ↦ 0 | Some cut ↦ 1 ]) (plain.cut ∙ e) in
              omega (arith, least, d.some cut e)

    module _ (axis : ℕ) (low width : ℤ) (copies : ℕ) (are : AreReplicas h f.volume axis low width copies) (d : AreCopiesOffered axis low width copies f.ray (stretch_between from to) old new) where
      pub copies_below : AllByRecursion (λ k. k < count) new.numbers
      copies_below = below (λ k one. subst (λ n. AnyByRecursion (λ j. k ≡ j) old.numbers ⊎ IsOneOf k (range_with_len 0 n)) (sym are.all) (d.offered.only k one))

      -- within its extent the ray is in a copy's slab
      met_slab : (k : ℕ) → k < copies → IsDue (extent_in h f.volume) f.ray (stretch_between from to) k → IsSlabMet (slab_of axis low width k) f.ray (stretch_between from to)
      met_slab k less (a, b, t, crossing, positive, over, under, within) =
          let p = point_of_ray f.ray t in
          let inside = between axis (extent_in h f.volume k) p (crossing.inside t positive over under) in
          let slab = are.slabs k less in
          let from_low = subst (λ (i : Interval). (i.low *ℤ p.w) <ℤ coordinate4 axis p) slab inside.0 in
          let to_high = subst (λ (i : Interval). coordinate4 axis p <ℤ (i.high *ℤ p.w)) slab inside.1 in
          (t, positive, within, (omega (arith, ints, from_low), to_high))

      pub copies_whole : (k : ℕ) (met : Met) → k < count → met_of h f k ≡ Some met → IsOneOf k new.numbers
      copies_whole k met less e =
          let small : k < copies = omega (arith, less, are.all) in
          d.offered.whole k (range-has 0 copies k (omega arith) (omega (arith, small))) (met_slab k small (due k met less e))

      abbrev first : ℤ
      first = (interval_on axis (extent_in h f.volume 0)).low

      pub copies_few_tests : (most other : Count) → IsBound h most other → length new.numbers ≤ most f from to
      copies_few_tests most other bound =
          let passes = bound.passes (place f) from to in
          let few = d.tests passes (bound.is_test (place f) from to) in
          let alone : tests_within passes (cells_in h f.volume) ≡ tests_within passes (slab_cells axis first width copies) = ap (λ l. tests_within passes (cells_by h f.volume l)) are.alone in
          omega (arith, few, ap length none, bound.tests_are f from to, alone, same copies refl)
        where
          same : (n : ℕ) → n ≡ copies → tests_within (bound.passes (place f) from to) (slab_cells axis first width copies) ≡ tests_within (bound.passes (place f) from to) (slab_cells axis low width copies)
          same zero e = ap (λ m. tests_within (bound.passes (place f) from to) (slab_cells axis first width m)) (sym e) ∙ ap (λ m. tests_within (bound.passes (place f) from to) (slab_cells axis low width m)) e
          same (suc n) e =
              let begin : first ≡ low = ap (λ (i : Interval). i.low) (are.slabs 0 (omega (arith, e))) ∙ omega (arith, ints) in
              ap (λ z. tests_within (bound.passes (place f) from to) (slab_cells axis z width copies)) begin

      pub copies_some_reads : (before : ℕ) → before + least_of h (place f) ≤ before
      copies_some_reads before =
          let none : least_of h (place f) ≡ 0 = ap (λ l. elim (cut_by h f.volume l) [ None ↦ 0 | Some cut ↦ 1 ]) are.alone in
          omega (arith, none)
