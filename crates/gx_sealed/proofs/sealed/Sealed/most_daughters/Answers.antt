use Rattle.std.proofs.Common.{◌∙◌, ◌+◌, ◌<◌, length, ap, sym, subst, arith}
use Rattle.gx_tree.specs.Hierarchy.{instances}
use Rattle.gx_sealed.proofs.Most.{IsMostUpTo, one_more}
use Rattle.gx_sealed.proofs.sealed.Sealed.most_daughters.Goals as goal

pub loop-v-preserved : goal.loop-v-preserved
loop-v-preserved c =
    let h = c.args.self.now in
    let below : c.loop-v.v < length h.volumes = omega (arith, c.loop-v-test.true, c.count-v-end.ensures.value, ap (λ h. length h.volumes) c.self.view_is) in
    subst (IsMostUpTo h (c.loop-v.v + 1)) (sym c.max-most.ensures)
    (one_more h c.loop-v.v c.loop-v.most c.instances.result c.loop-v.invariant below (c.instances.ensures.value ∙ ap (λ h. length (instances h c.loop-v.v)) c.self.view_is) c.instances.ensures.few)
