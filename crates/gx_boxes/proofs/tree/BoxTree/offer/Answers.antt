use Rattle.std.proofs.Common.{◌<◌, sym, subst, ap, ◌∙◌}
use Rattle.std.specs.List.{AllByRecursion}
use Rattle.std.proofs.lemmas.List.Elements.{recursion_from_All}
use Rattle.gx_boxes.specs.Tree.{AreOffered, boxes_of}
use Rattle.gx_boxes.specs.declared.boxed.Boxed.{Boxed}
use Rattle.gx_boxes.proofs.Trees.{offered-among}
use Rattle.gx_boxes.proofs.tree.BoxTree.offer.Goals as goal

pub offer_parts-requires-clause-room : goal.offer_parts-requires-clause-room
offer_parts-requires-clause-room c =
    let below : AllByRecursion (λ (b : Boxed). b.number < c.args.offers.now.room) c.args.self.now = recursion_from_All (λ (b : Boxed). b.number < c.args.offers.now.room) c.args.self.now c.requires.room in
    subst (AllByRecursion (λ (b : Boxed). b.number < c.args.offers.now.room)) (sym (ap boxes_of c.deref.ensures.value ∙ c.self.view_is)) below

pub returns : goal.returns
returns c =
    offered-among c.args.ray.now c.args.self.now c.args.offers.now c.offer_parts.new.offers
    (subst (λ bs. AreOffered c.args.ray.now bs c.args.offers.now c.offer_parts.new.offers) (ap boxes_of c.deref.ensures.value ∙ c.self.view_is) c.offer_parts.ensures)
