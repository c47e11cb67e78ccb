use Rattle.std.proofs.Common.{◌∷◌, subst}
use Rattle.gx_boxes.specs.Tree.{AreBelow}
use Rattle.gx_boxes.proofs.Trees.{below-left, passed-more}
use Rattle.gx_boxes.proofs.tree.offer_parts.Goals as goal

pub pass-rest-requires-clause-room : goal.pass-rest-requires-clause-room
pass-rest-requires-clause-room c =
    subst (AreBelow c.loop-part.offers.room) c.in-Some.ensures.cases.0
    (below-left c.args.ray.now c.args.parts.now c.loop-part.rest.now c.args.offers.now c.loop-part.offers c.loop-part.invariant c.requires.room)

pub loop-part-preserved : goal.loop-part-preserved
loop-part-preserved c =
    passed-more c.args.ray.now c.args.parts.now c.loop-part.rest.now (c.in-Some.part.now ∷ c.in-Some.below.now) c.pass-rest.result.now c.args.offers.now c.loop-part.offers c.pass-rest.new.offers
    c.loop-part.invariant c.in-Some.ensures.cases.0 c.pass-rest.ensures.passed
