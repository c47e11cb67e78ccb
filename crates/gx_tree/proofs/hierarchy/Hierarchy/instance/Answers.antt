use Rattle.std.proofs.Common.{◌≡◌, ◌<◌, ℕ, List, length, map, slice_index_or, slice_get, Some, All, sym, ◌∙◌, ap, subst, arith}
use Rattle.std.proofs.lemmas.List.{get_or_read}
use Rattle.gx_tree.specs.declared.placement.Placement.{Placement}
use Rattle.gx_tree.specs.Volume.{Volume, instances_in}
use Rattle.gx_tree.specs.Hierarchy.{Hierarchy, volume_at}
use Rattle.gx_tree.specs.Ends.{ends_of, IsEven}
use Rattle.gx_tree.specs.Fault.{IsTree}
use Rattle.gx_tree.proofs.Ordinals.{length-instances_in}
use Rattle.gx_tree.proofs.Tree.{ends_at, even_at, instance_at}
use Rattle.gx_tree.proofs.hierarchy.Hierarchy.instance.Goals as goal

-- the placements of the volume, as the code reads them
read : (volumes others : List Volume) (v : ℕ) (u : Volume) (ps : List Placement) → volumes ≡ others → v < length others → u ≡ slice_index_or volumes v u → ps ≡ u.placements → ps ≡ (volume_at others v).placements
read volumes others v u ps same below at is = is ∙ ap (λ (w : Volume). w.placements) (get_or_read others v u below (at ∙ ap (λ (l : List Volume). slice_index_or l v u) same) _)

pub instance_at-requires-clause-ends : goal.instance_at-requires-clause-ends
instance_at-requires-clause-ends c =
    let h = c.args.self.now in
    let same : c.self.inside.volumes.items ≡ h.volumes = ap (λ (k : Hierarchy). k.volumes) c.self.view_is in
    let all = c.self.invariant.1 ∙ ap (map (λ (u : Volume). ends_of u.placements)) same in
    let placements = read c.self.inside.volumes.items h.volumes c.args.v c.index.result.now c.placements.result.now same c.requires.volume c.index.ensures c.placements.ensures in
    c.deref.ensures.value ∙ ends_at (λ e. e.items) c.self.inside.ends.items h.volumes c.args.v c.index-2.result.now all c.requires.volume c.index-2.ensures ∙ ap ends_of (sym placements)

pub instance_at-requires-clause-ordinal : goal.instance_at-requires-clause-ordinal
instance_at-requires-clause-ordinal c =
    let h = c.args.self.now in
    let same : c.self.inside.volumes.items ≡ h.volumes = ap (λ (k : Hierarchy). k.volumes) c.self.view_is in
    let placements = read c.self.inside.volumes.items h.volumes c.args.v c.index.result.now c.placements.result.now same c.requires.volume c.index.ensures c.placements.ensures in
    rw placements (omega (arith, length-instances_in (volume_at h.volumes c.args.v).placements, c.requires.ordinal))

pub instance_at-requires-clause-even : goal.instance_at-requires-clause-even
instance_at-requires-clause-even c =
    let h = c.args.self.now in
    let same : c.self.inside.volumes.items ≡ h.volumes = ap (λ (k : Hierarchy). k.volumes) c.self.view_is in
    let placements = read c.self.inside.volumes.items h.volumes c.args.v c.index.result.now c.placements.result.now same c.requires.volume c.index.ensures c.placements.ensures in
    subst (All IsEven) (sym placements) (even_at h (subst IsTree c.self.view_is c.self.invariant.0) c.args.v c.requires.volume)

pub returns-clause-value : goal.returns-clause-value
returns-clause-value c =
    let h = c.args.self.now in
    let same : c.self.inside.volumes.items ≡ h.volumes = ap (λ (k : Hierarchy). k.volumes) c.self.view_is in
    let placements = read c.self.inside.volumes.items h.volumes c.args.v c.index.result.now c.placements.result.now same c.requires.volume c.index.ensures c.placements.ensures in
    subst (λ (ps : List Placement). slice_get (instances_in ps) c.args.k ≡ Some c.instance_at.result) placements c.instance_at.ensures

pub returns-clause-instance : goal.returns-clause-instance
returns-clause-instance c =
    let h = c.args.self.now in
    let same : c.self.inside.volumes.items ≡ h.volumes = ap (λ (k : Hierarchy). k.volumes) c.self.view_is in
    let placements = read c.self.inside.volumes.items h.volumes c.args.v c.index.result.now c.placements.result.now same c.requires.volume c.index.ensures c.placements.ensures in
    let at = subst (λ (ps : List Placement). slice_get (instances_in ps) c.args.k ≡ Some c.instance_at.result) placements c.instance_at.ensures in
    instance_at h (subst IsTree c.self.view_is c.self.invariant.0) c.args.v c.args.k c.instance_at.result c.requires.ordinal at
