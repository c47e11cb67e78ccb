use Rattle.std.proofs.Common.{◌≡◌, ◌≤◌, ◌∙◌, [], List, length, All, sym, ap, subst, None}
use Rattle.std.proofs.lemmas.List.{length-map}
use Rattle.std.proofs.lemmas.List.Elements.{All-weaker}
use Rattle.gx_tree.specs.Limits.{IsPlaceable, IsWithinLimits}
use Rattle.gx_tree.specs.declared.fault.TreeError.TheVariants.{Fault}
use Rattle.gx_tree.specs.Fault.{hierarchy_of, IsTreeCause}
use Rattle.gx_link.specs.declared.link.LinkedVolume.{LinkedVolume}
use Rattle.gx_link.specs.declared.link.LinkedPlacement.{LinkedPlacement}
use Rattle.gx_link.specs.Links.{Links}
use Rattle.gx_link.specs.Crowd.{first_crowded}
use Rattle.gx_link.specs.Build.{IsLinked, IsTold}
use Rattle.gx_link.specs.Text.{volumes_from, lines_of}
use Rattle.gx_link.proofs.Limits.{within_limits}
use Rattle.gx_link.proofs.Told.{fault-told}
use Rattle.gx_link.proofs.tree.tree_from.Goals as goal

pub new-requires : goal.new-requires
new-requires c =
    let volumes = c.links.inside.volumes.items in
    let ps = c.links.inside.placements.items in
    let few : length volumes ≤ 4096 = subst (λ (l : Links). length l.volumes ≤ 4096) (sym c.links.view_is) c.requires.few in
    let linked : All (IsLinked (length volumes)) ps = subst (λ (l : Links). All (IsLinked (length l.volumes)) l.placements) (sym c.links.view_is) c.requires.linked in
    let placeable = All-weaker (IsLinked (length volumes)) (λ (p : LinkedPlacement). IsPlaceable (length volumes) p.placement) (λ p (is : IsLinked (length volumes) p). is.placeable) ps linked in
    let none : first_crowded [] ps ≡ None = ap (first_crowded []) (sym c.deref.ensures.value) ∙ sym c.in_ok-line.ensures ∙ c.in_default.is in
    subst IsWithinLimits (ap (λ (qs : List LinkedPlacement). volumes_from qs 0 volumes) (sym c.deref-3.ensures.value) ∙ sym c.in_ok-volumes.ensures) (within_limits ps volumes few placeable none)

pub fault_of_tree-requires : goal.fault_of_tree-requires
fault_of_tree-requires c =
    let volumes = c.links.inside.volumes.items in
    let ps = c.links.inside.placements.items in
    let fault = c.in-Err-Fault.fault in
    let cause : IsTreeCause (hierarchy_of c.in_ok-volumes.volumes.items) (Fault fault) = subst (IsTreeCause (hierarchy_of c.in_ok-volumes.volumes.items)) c.in-Err-Fault.field-0-is c.in-Err-Fault.ensures.err in
    let built : volumes_from ps 0 volumes ≡ c.in_ok-volumes.volumes.items = ap (λ (qs : List LinkedPlacement). volumes_from qs 0 volumes) (sym c.deref-3.ensures.value) ∙ sym c.in_ok-volumes.ensures in
    let count : length volumes ≡ length c.deref-in-Err-Fault.result.now =
    sym (ap length (c.deref-in-Err-Fault.ensures.value ∙ c.in_ok-lines.ensures ∙ ap lines_of c.deref-2.ensures.value) ∙ length-map volumes (λ (v : LinkedVolume). v.line)) in
    subst (λ n. IsTold n c.deref-in-Err-Fault-2.result.now fault) count
    (subst (λ (qs : List LinkedPlacement). IsTold (length volumes) qs fault) (sym c.deref-in-Err-Fault-2.ensures.value) (fault-told ps volumes fault (ap hierarchy_of built ∙ cause)))
