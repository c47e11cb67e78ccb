use Rattle.std.proofs.Common.{◌≡◌, ℕ, ◌<◌, ◌≤◌, ◌*◌, ◌^◌, ℤ, to_z, of_z, w64, unsigned_abs, refl, arith, sym, ap, subst, length, get_or, All}
use Rattle.std.proofs.lemmas.List.FromFn.{length-range_with_len, get_or-range_with_len}
use Rattle.std.proofs.lemmas.Int.{to_z-of_z, fits_signed_from_abs}
use Rattle.gx_num.specs.declared.extent.Extent.{Extent}
use Rattle.gx_tree.specs.Hierarchy.{Hierarchy, instances}
use Rattle.gx_along.specs.declared.line.Stretch.{Stretch}
use Rattle.gx_descend.specs.Descent.{IsDescended}
use Rattle.gx_slabs.specs.Slabs.{AreCopiesOffered}
use Rattle.gx_sealed.specs.declared.cells.Cells.{Cells}
use Rattle.gx_sealed.specs.Cells.{extent_in, ordinals_in, IsCells}
use Rattle.gx_navigator.proofs.Offered.{tree_below, tree_whole, tree_few_tests, tree_few_reads, tree_some_reads, copies_below, copies_whole, copies_few_tests, copies_some_reads}
use Rattle.gx_navigator.proofs.tracer.TracerGeometry.offer.Goals as goal

-- a number that is handed on by its bits
by_value : (z : ℤ) → unsigned_abs z ≤ 2 ^ 31 → to_z w64 (of_z w64 z) ≡ z
by_value z h = to_z-of_z w64 z (fits_signed_from_abs w64 z (omega (arith, h)))

ordinals_below : (h : Hierarchy) (v room : ℕ) → length (instances h v) ≤ room → All (λ k. k < room) (ordinals_in h v)
ordinals_below h v room few k d less =
    let small : k < length (instances h v) = omega (arith, less, length-range_with_len 0 (length (instances h v))) in
    omega (arith, few, small, get_or-range_with_len 0 (length (instances h v)) k d small)

pub descend-requires-clause-some : goal.descend-requires-clause-some
descend-requires-clause-some g c =
    let h = c.args.self.now.sealed.now in
    let v = c.args.mother.now.volume in
    let tree = subst (IsCells h v) c.in-Tree.is c.cells.ensures.cells in
    (extent_in h v, ordinals_in h v, record { proper = tree.proper; stands = tree.stands }, ordinals_below h v c.args.offers.now.room c.requires.room)

pub returns-in-Tree-clause-below : goal.returns-in-Tree-clause-below
returns-in-Tree-clause-below g c =
    let h = c.args.self.now.sealed.now in
    let f = c.args.mother.now in
    let v = f.volume in
    let tree = subst (IsCells h v) c.in-Tree.is c.cells.ensures.cells in
    let descended = subst (λ (s : Stretch). IsDescended (extent_in h v) (ordinals_in h v) f.ray s c.args.offers.now c.descend.new.offers c.args.reads.now c.descend.new.reads) c.stretch_of-stretch.ensures.value
    (c.descend.ensures (extent_in h v) (ordinals_in h v) (record { proper = tree.proper; stands = tree.stands })) in
    tree_below h f c.args.span c.requires.known c.args.offers.now c.descend.new.offers c.requires.none c.args.reads.now c.descend.new.reads c.in-Tree.proxy tree descended

pub returns-in-Tree-clause-whole : goal.returns-in-Tree-clause-whole
returns-in-Tree-clause-whole g c =
    let h = c.args.self.now.sealed.now in
    let f = c.args.mother.now in
    let v = f.volume in
    let tree = subst (IsCells h v) c.in-Tree.is c.cells.ensures.cells in
    let descended = subst (λ (s : Stretch). IsDescended (extent_in h v) (ordinals_in h v) f.ray s c.args.offers.now c.descend.new.offers c.args.reads.now c.descend.new.reads) c.stretch_of-stretch.ensures.value
    (c.descend.ensures (extent_in h v) (ordinals_in h v) (record { proper = tree.proper; stands = tree.stands })) in
    tree_whole h f c.args.span c.requires.known c.args.offers.now c.descend.new.offers c.requires.none c.args.reads.now c.descend.new.reads c.in-Tree.proxy tree descended

pub returns-in-Tree-clause-few_tests : goal.returns-in-Tree-clause-few_tests
returns-in-Tree-clause-few_tests g c =
    let h = c.args.self.now.sealed.now in
    let f = c.args.mother.now in
    let v = f.volume in
    let tree = subst (IsCells h v) c.in-Tree.is c.cells.ensures.cells in
    let descended = subst (λ (s : Stretch). IsDescended (extent_in h v) (ordinals_in h v) f.ray s c.args.offers.now c.descend.new.offers c.args.reads.now c.descend.new.reads) c.stretch_of-stretch.ensures.value
    (c.descend.ensures (extent_in h v) (ordinals_in h v) (record { proper = tree.proper; stands = tree.stands })) in
    tree_few_tests h f c.args.span c.requires.known c.args.offers.now c.descend.new.offers c.requires.none c.args.reads.now c.descend.new.reads c.in-Tree.proxy tree descended

pub returns-in-Tree-clause-few_reads : goal.returns-in-Tree-clause-few_reads
returns-in-Tree-clause-few_reads g c =
    let h = c.args.self.now.sealed.now in
    let f = c.args.mother.now in
    let v = f.volume in
    let tree = subst (IsCells h v) c.in-Tree.is c.cells.ensures.cells in
    let descended = subst (λ (s : Stretch). IsDescended (extent_in h v) (ordinals_in h v) f.ray s c.args.offers.now c.descend.new.offers c.args.reads.now c.descend.new.reads) c.stretch_of-stretch.ensures.value
    (c.descend.ensures (extent_in h v) (ordinals_in h v) (record { proper = tree.proper; stands = tree.stands })) in
    tree_few_reads h f c.args.span c.requires.known c.args.offers.now c.descend.new.offers c.requires.none c.args.reads.now c.descend.new.reads c.in-Tree.proxy tree descended

pub returns-in-Tree-clause-some_reads : goal.returns-in-Tree-clause-some_reads
returns-in-Tree-clause-some_reads g c =
    let h = c.args.self.now.sealed.now in
    let f = c.args.mother.now in
    let v = f.volume in
    let tree = subst (IsCells h v) c.in-Tree.is c.cells.ensures.cells in
    let descended = subst (λ (s : Stretch). IsDescended (extent_in h v) (ordinals_in h v) f.ray s c.args.offers.now c.descend.new.offers c.args.reads.now c.descend.new.reads) c.stretch_of-stretch.ensures.value
    (c.descend.ensures (extent_in h v) (ordinals_in h v) (record { proper = tree.proper; stands = tree.stands })) in
    tree_some_reads h f c.args.span c.requires.known c.args.offers.now c.descend.new.offers c.requires.none c.args.reads.now c.descend.new.reads c.in-Tree.proxy tree descended

pub returns-in-Replicas-clause-below : goal.returns-in-Replicas-clause-below
returns-in-Replicas-clause-below g c =
    let h = c.args.self.now.sealed.now in
    let f = c.args.mother.now in
    let r = c.in-Replicas in
    let are = subst (IsCells h f.volume) r.is c.cells.ensures.cells in
    let said = λ (low width : ℤ) (s : Stretch). AreCopiesOffered r.axis low width r.count f.ray s c.args.offers.now c.offer_copies.new.offers in
    let low = by_value r.low (omega (arith, are.from)) in
    let width = by_value r.width (omega (arith, are.narrow)) in
    let offered = subst (λ (s : Stretch). said r.low r.width s) c.stretch_of-stretch.ensures.value
    (subst (λ z. said r.low z c.stretch_of-stretch.result) width (subst (λ z. said z (to_z w64 (of_z w64 r.width)) c.stretch_of-stretch.result) low c.offer_copies.ensures)) in
    copies_below h f c.args.span c.requires.known c.args.offers.now c.offer_copies.new.offers c.requires.none r.axis r.low r.width r.count are offered

pub returns-in-Replicas-clause-whole : goal.returns-in-Replicas-clause-whole
returns-in-Replicas-clause-whole g c =
    let h = c.args.self.now.sealed.now in
    let f = c.args.mother.now in
    let r = c.in-Replicas in
    let are = subst (IsCells h f.volume) r.is c.cells.ensures.cells in
    let said = λ (low width : ℤ) (s : Stretch). AreCopiesOffered r.axis low width r.count f.ray s c.args.offers.now c.offer_copies.new.offers in
    let low = by_value r.low (omega (arith, are.from)) in
    let width = by_value r.width (omega (arith, are.narrow)) in
    let offered = subst (λ (s : Stretch). said r.low r.width s) c.stretch_of-stretch.ensures.value
    (subst (λ z. said r.low z c.stretch_of-stretch.result) width (subst (λ z. said z (to_z w64 (of_z w64 r.width)) c.stretch_of-stretch.result) low c.offer_copies.ensures)) in
    copies_whole h f c.args.span c.requires.known c.args.offers.now c.offer_copies.new.offers c.requires.none r.axis r.low r.width r.count are offered

pub returns-in-Replicas-clause-few_tests : goal.returns-in-Replicas-clause-few_tests
returns-in-Replicas-clause-few_tests g c =
    let h = c.args.self.now.sealed.now in
    let f = c.args.mother.now in
    let r = c.in-Replicas in
    let are = subst (IsCells h f.volume) r.is c.cells.ensures.cells in
    let said = λ (low width : ℤ) (s : Stretch). AreCopiesOffered r.axis low width r.count f.ray s c.args.offers.now c.offer_copies.new.offers in
    let low = by_value r.low (omega (arith, are.from)) in
    let width = by_value r.width (omega (arith, are.narrow)) in
    let offered = subst (λ (s : Stretch). said r.low r.width s) c.stretch_of-stretch.ensures.value
    (subst (λ z. said r.low z c.stretch_of-stretch.result) width (subst (λ z. said z (to_z w64 (of_z w64 r.width)) c.stretch_of-stretch.result) low c.offer_copies.ensures)) in
    copies_few_tests h f c.args.span c.requires.known c.args.offers.now c.offer_copies.new.offers c.requires.none r.axis r.low r.width r.count are offered

pub returns-in-Replicas-clause-some_reads : goal.returns-in-Replicas-clause-some_reads
returns-in-Replicas-clause-some_reads g c =
    let h = c.args.self.now.sealed.now in
    let f = c.args.mother.now in
    let r = c.in-Replicas in
    let are = subst (IsCells h f.volume) r.is c.cells.ensures.cells in
    let said = λ (low width : ℤ) (s : Stretch). AreCopiesOffered r.axis low width r.count f.ray s c.args.offers.now c.offer_copies.new.offers in
    let low = by_value r.low (omega (arith, are.from)) in
    let width = by_value r.width (omega (arith, are.narrow)) in
    let offered = subst (λ (s : Stretch). said r.low r.width s) c.stretch_of-stretch.ensures.value
    (subst (λ z. said r.low z c.stretch_of-stretch.result) width (subst (λ z. said z (to_z w64 (of_z w64 r.width)) c.stretch_of-stretch.result) low c.offer_copies.ensures)) in
    copies_some_reads h f c.args.span c.requires.known c.args.offers.now c.offer_copies.new.offers c.requires.none r.axis r.low r.width r.count are offered c.args.reads.now
