use Rattle.std.proofs.Common.{◌≡◌, ◌+◌, ◌∷◌, [], ◌++◌, subst, sym}
use Rattle.gx_gather.specs.Gathering.{IsGathered}
use Rattle.gx_gather.specs.declared.item.Item.TheVariants.{Place}
use Rattle.gx_gather.proofs.Items.{one_placement_more}
use Rattle.gx_gather.proofs.gathered.Gathered.add_placement.Goals as goal

pub invariant_of-self-2 : goal.invariant_of-self-2
invariant_of-self-2 c =
    let g = c.self.inside in
    let a = c.args in
    subst (IsGathered g.param_lines g.volumes (g.placements + 1)) (sym c.in_ok-push.ensures.items)
    (one_placement_more g.param_lines g.volumes g.placements g.items.items c.self.invariant a.line a.volume a.mother a.rotation a.form c.requires c.if-self-ge-MAX_PLACEMENTS.false)
