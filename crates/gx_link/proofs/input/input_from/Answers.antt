use Rattle.std.proofs.Common.{◌∙◌, sym, ap, arith}
use Rattle.gx_gather.specs.Items.{volume_names}
use Rattle.gx_link.specs.declared.known.Known.{Known}
use Rattle.gx_link.proofs.Linked.{AreLinked, are_linked}
use Rattle.gx_link.proofs.input.input_from.Goals as goal

linked : (c : goal.In_ok-links) → AreLinked c.into_parts-solids.result.volumes c.in_ok-links.links
linked c =
    let parts = c.into_parts-solids.ensures in
    let known : Known = record { solids = c.into_parts-solids.result.solids; turns = c.into_parts-solids.result.turns; volumes = c.into_parts-solids.result.volumes } in
    are_linked known c.into_parts-solids.result.items.items c.in_ok-links.links parts.kept (parts.volumes ∙ ap volume_names (sym parts.items)) c.in_ok-links.ensures.ok

pub tree_from-requires-clause-few : goal.tree_from-requires-clause-few
tree_from-requires-clause-few c = omega (arith, (linked c).count)

pub tree_from-requires-clause-linked : goal.tree_from-requires-clause-linked
tree_from-requires-clause-linked c = (linked c).among
