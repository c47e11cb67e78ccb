use Rattle.std.proofs.Common.{◌≡◌, ◌<◌, ◌∙◌, ℕ, ap, sym, subst, List, map}
use Rattle.std.specs.List.{All, AllByRecursion}
use Rattle.std.specs.List.Sorted.{IsPermutation}
use Rattle.gx_offers.specs.Offers.{IsOffered}
use Rattle.gx_offers.proofs.Offered.{weaker}
use Rattle.gx_boxes.specs.Boxes.{IsMet}
use Rattle.gx_boxes.specs.declared.boxed.Boxed.{Boxed}
use Rattle.gx_voxel.specs.Members.{Held, AreKept}
use Rattle.gx_voxel.specs.Kept.{IsTreeOf, kept_by}
use Rattle.gx_voxel.proofs.Boxed.{boxes-below, offered-boxed}
use Rattle.gx_voxel.proofs.members.Members.offer.Goals as goal

pub offer-requires-clause-room : goal.offer-requires-clause-room
offer-requires-clause-room c =
    let ks = c.self.inside.list.items in
    let numbers = ap (λ (h : Held). h.numbers) c.self.view_is in
    let same = subst (IsTreeOf ks) c.in-Some.is c.self.invariant.boxes in
    boxes-below ks c.in-Some.tree same c.args.offers.now.room (subst (All (λ k. k < c.args.offers.now.room)) (sym numbers) c.requires.room)

pub returns-in-Some : goal.returns-in-Some
returns-in-Some c at kept =
    let ks = c.self.inside.list.items in
    let numbers = ap (λ (h : Held). h.numbers) c.self.view_is in
    let boxes = ap (λ (h : Held). h.boxes) c.self.view_is in
    let same = subst (IsTreeOf ks) c.in-Some.is c.self.invariant.boxes in
    let are = subst (AllByRecursion (λ b. b.extent ≡ at b.number)) (sym boxes ∙ ap kept_by c.in-Some.is) kept in
    subst (λ l. IsOffered (λ k. IsMet (at k) c.args.ray.now) l c.args.offers.now c.offer.new.offers) numbers
    (offered-boxed ks c.in-Some.tree same at c.args.ray.now c.args.offers.now c.offer.new.offers are c.offer.ensures)

pub returns-in_default : goal.returns-in_default
returns-in_default c at kept =
    let numbers = c.deref.ensures.value ∙ ap (λ (h : Held). h.numbers) c.self.view_is in
    subst (λ l. IsOffered (λ k. IsMet (at k) c.args.ray.now) l c.args.offers.now c.offer_all.new.offers) numbers
    (weaker (λ k. Unit {0}) (λ k. IsMet (at k) c.args.ray.now) c.deref.result.now c.args.offers.now c.offer_all.new.offers (λ k one met. tt) c.offer_all.ensures)
