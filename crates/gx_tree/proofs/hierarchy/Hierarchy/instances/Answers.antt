use Rattle.std.proofs.Common.{◌≡◌, ◌-◌, ℕ, List, [], length, map, slice_index, ◌∙◌, ap, subst, arith}
use Rattle.gx_tree.specs.Volume.{Volume}
use Rattle.gx_tree.specs.Hierarchy.{Hierarchy, volume_at, instances}
use Rattle.gx_tree.specs.Ends.{ends_of}
use Rattle.gx_tree.specs.Fault.{IsTree}
use Rattle.gx_tree.proofs.Ordinals.{length-instances_in}
use Rattle.gx_tree.proofs.Tree.{ends_at, count_is}
use Rattle.gx_tree.proofs.hierarchy.Hierarchy.instances.Goals as goal

pub returns-clause-value : goal.returns-clause-value
returns-clause-value c =
    let h = c.args.self.now in
    let same : c.self.inside.volumes.items ≡ h.volumes = ap (λ (k : Hierarchy). k.volumes) c.self.view_is in
    let all = c.self.invariant.1 ∙ ap (map (λ (u : Volume). ends_of u.placements)) same in
    let ends = c.deref.ensures.value ∙ ends_at (λ e. e.items) c.self.inside.ends.items h.volumes c.args.v c.index.result.now all c.requires c.index.ensures in
    c.count.ensures ∙ ap (λ (l : List ℕ). slice_index l (length l - 1)) ends ∙ count_is (volume_at h.volumes c.args.v).placements

pub returns-clause-few : goal.returns-clause-few
returns-clause-few c =
    let h = c.args.self.now in
    let tree = subst IsTree c.self.view_is c.self.invariant.0 in
    let value : c.count.result ≡ length (instances h c.args.v) = returns-clause-value c in
    omega (arith, value, length-instances_in (volume_at h.volumes c.args.v).placements, tree.limits.each c.args.v (volume_at [] 0) c.requires)
