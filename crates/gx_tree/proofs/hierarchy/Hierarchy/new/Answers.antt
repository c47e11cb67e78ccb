use Rattle.std.proofs.Common.{◌≡◌, List, All, map, Ok, ap, subst, ◌∙◌}
use Rattle.gx_shapes.specs.Accepted.{IsSolid}
use Rattle.gx_tree.specs.declared.placement.Placement.{Placement}
use Rattle.gx_tree.specs.Volume.{Volume, rotation_of}
use Rattle.gx_tree.specs.Hierarchy.{IsRotation}
use Rattle.gx_tree.specs.Ends.{ends_of}
use Rattle.gx_tree.specs.Fault.{hierarchy_of}
use Rattle.gx_tree.proofs.Tree.{is_tree}
use Rattle.gx_tree.proofs.hierarchy.Hierarchy.new.Goals as goal

pub invariant_of-result : goal.invariant_of-result
invariant_of-result c =
    let volumes = c.args.volumes.items in
    let world = c.in_ok-world.world in
    let judged = c.deref.ensures.value in
    let counted = c.deref-2.ensures.value in (
      is_tree volumes world c.requires
          (subst (λ (vs : List Volume). hierarchy_of vs ≡ Ok (record { volumes = vs; world = world })) judged c.in_ok-world.ensures.ok)
          (subst (All (λ (v : Volume). IsSolid v.solid)) counted c.in_ok-ends.ensures.solids)
          (subst (All (λ (v : Volume). All (λ (p : Placement). IsRotation (rotation_of p)) v.placements)) counted c.in_ok-ends.ensures.turned),
      c.in_ok-ends.ensures.ends ∙ ap (map (λ (v : Volume). ends_of v.placements)) counted,
    )
