use Rattle.std.proofs.Common.{◌≡◌, ℕ, ◌<◌, nat_eq, length, ap, subst, sym, arith, Some}
use Rattle.std.specs.List.{AllByRecursion, IsDistinct}
use Rattle.std.proofs.lemmas.List.Sorted.{length_permutation}
use Rattle.gx_offers.specs.Offers.{IsOneOf}
use Rattle.gx_offers.proofs.Marked.{offers-few}
use Rattle.gx_walk.specs.declared.met.Met.{Met}
use Rattle.gx_walk.proofs.Sorted.{sorted-are}
use Rattle.gx_walk.proofs.collect.collect.Goals as goal

pub meet_all-requires-clause-room : goal.meet_all-requires-clause-room
meet_all-requires-clause-room g c =
    let n = g.G.Geometry.count_of c.args.geometry.now c.args.mother.now.volume in
    let few = offers-few c.offer.new.offers.numbers n (record { distinct = c.as_slice.ensures.offers.distinct; below = c.offer.ensures.below }) in
    omega (arith, few, c.requires.room, ap length c.as_slice.ensures.numbers)

pub returns-clause-hits : goal.returns-clause-hits
returns-clause-hits g c =
    let mother = c.args.mother.now in
    let met = g.G.Geometry.met_of c.args.geometry.now mother in
    let n = g.G.Geometry.count_of c.args.geometry.now mother.volume in
    let numbered = λ (k : ℕ) (m : Met) (e : met k ≡ Some m). (g.met.G.Geometry.meets c.args.geometry.now mother k m e).0 in
    let same = sym c.as_slice.ensures.numbers in
    (sorted-are met n c.as_slice.result.now c.meet_all.new.hits.items c.sort_by_entry.new.hits.items numbered
    (subst (λ l. IsDistinct nat_eq l) same c.as_slice.ensures.offers.distinct) (subst (λ l. AllByRecursion (λ k. k < n) l) same c.offer.ensures.below)
    (λ k m less e. subst (λ l. IsOneOf k l) same (c.offer.ensures.whole k m less e))
    c.meet_all.ensures.met c.sort_by_entry.ensures.permutation c.sort_by_entry.ensures.sorted).0

pub returns-clause-known : goal.returns-clause-known
returns-clause-known g c =
    let mother = c.args.mother.now in
    let met = g.G.Geometry.met_of c.args.geometry.now mother in
    let n = g.G.Geometry.count_of c.args.geometry.now mother.volume in
    let numbered = λ (k : ℕ) (m : Met) (e : met k ≡ Some m). (g.met.G.Geometry.meets c.args.geometry.now mother k m e).0 in
    let same = sym c.as_slice.ensures.numbers in
    (sorted-are met n c.as_slice.result.now c.meet_all.new.hits.items c.sort_by_entry.new.hits.items numbered
    (subst (λ l. IsDistinct nat_eq l) same c.as_slice.ensures.offers.distinct) (subst (λ l. AllByRecursion (λ k. k < n) l) same c.offer.ensures.below)
    (λ k m less e. subst (λ l. IsOneOf k l) same (c.offer.ensures.whole k m less e))
    c.meet_all.ensures.met c.sort_by_entry.ensures.permutation c.sort_by_entry.ensures.sorted).1

pub returns-clause-some_tests : goal.returns-clause-some_tests
returns-clause-some_tests g c = omega (arith, length_permutation c.meet_all.new.hits.items c.sort_by_entry.new.hits.items c.sort_by_entry.ensures.permutation, c.meet_all.ensures.few, c.meet_all.ensures.tests)
