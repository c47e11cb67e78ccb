use Rattle.std.proofs.Common.{◌<◌, length, ◌∙◌, arith}
use Rattle.std.proofs.lemmas.List.{take_all}
use Rattle.gx_sealed.specs.Placed.{daughters_of}
use Rattle.gx_sealed.proofs.Tables.{one_more, length-daughters_of}
use Rattle.gx_sealed.proofs.placed.daughters.Goals as goal

pub loop-k-preserved : goal.loop-k-preserved
loop-k-preserved c =
    let all = daughters_of c.args.tree.now c.args.v in
    let less : c.loop-k.k < length all = omega (arith, length-daughters_of c.args.tree.now c.args.v, c.loop-k-test.true, c.instances-count.ensures.value) in
    c.in_ok-push.ensures.items ∙ one_more all c.loop-k.daughters.items c.loop-k.k c.in_ok-placed.field-0 less c.loop-k.invariant c.in_ok-placed.ensures

pub returns : goal.returns
returns c =
    let all = daughters_of c.args.tree.now c.args.v in
    c.loop-k.invariant ∙ take_all c.loop-k.k all (omega (arith, length-daughters_of c.args.tree.now c.args.v, c.loop-k-test.false, c.instances-count.ensures.value))
