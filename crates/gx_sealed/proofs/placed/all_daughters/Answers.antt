use Rattle.std.proofs.Common.{◌<◌, Some, length, map, ◌∙◌, sym, ap, arith}
use Rattle.std.proofs.lemmas.List.{map_push, take_all}
use Rattle.gx_sealed.specs.Placed.{all_daughters}
use Rattle.gx_sealed.proofs.Tables.{one_more, length-all_daughters, all_daughters_at}
use Rattle.gx_sealed.proofs.placed.all_daughters.Goals as goal

pub loop-v-preserved : goal.loop-v-preserved
loop-v-preserved c =
    let h = c.args.tree.now in
    let all = c.loop-v.all.items in
    let next = c.in_ok-daughters.field-0 in
    let below : c.loop-v.v < length h.volumes = omega (arith, c.loop-v-test.true, c.count-v-end.ensures.value) in
    ap (map (λ d. d.items)) c.in_ok-push.ensures.items
    ∙ map_push (λ d. d.items) all next
    ∙ one_more (all_daughters h) (map (λ d. d.items) all) c.loop-v.v next.items (omega (arith, length-all_daughters h)) c.loop-v.invariant (all_daughters_at h c.loop-v.v below ∙ ap Some (sym c.in_ok-daughters.ensures))

pub returns : goal.returns
returns c =
    let h = c.args.tree.now in
    c.loop-v.invariant ∙ take_all c.loop-v.v (all_daughters h) (omega (arith, length-all_daughters h, c.loop-v-test.false, c.count-v-end.ensures.value))
