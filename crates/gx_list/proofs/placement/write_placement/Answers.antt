use Rattle.std.proofs.Common.{◌≡◌, ap, ◌∙◌}
use Rattle.gx_tree.specs.Hierarchy.{volume_at}
use Rattle.gx_tree.specs.Volume.{daughter_of}
use Rattle.gx_list.proofs.placement.write_placement.Goals as goal

pub returns-in-Linear-clause-bytes : goal.returns-in-Linear-clause-bytes
returns-in-Linear-clause-bytes g c =
    let volumes = c.args.tree.now.volumes in
    let name : c.name.result.now ≡ (volume_at volumes c.in-Linear.volume).name = c.name.ensures.value ∙ ap (λ v. (volume_at volumes v).name) (c.volume.ensures ∙ ap daughter_of c.in-Linear.is) in
    rw c.in-Linear.is (rw (name, c.name-2.ensures.value, c.linear_word.ensures, c.number-in-Linear.ensures.value) at c.write_line-in-Linear.ensures.bytes)

pub returns-in-Square-clause-bytes : goal.returns-in-Square-clause-bytes
returns-in-Square-clause-bytes g c =
    let volumes = c.args.tree.now.volumes in
    let name : c.name.result.now ≡ (volume_at volumes c.in-Square.volume).name = c.name.ensures.value ∙ ap (λ v. (volume_at volumes v).name) (c.volume.ensures ∙ ap daughter_of c.in-Square.is) in
    rw c.in-Square.is (rw (name, c.name-2.ensures.value, c.square_word.ensures, c.number-in-Square.ensures.value) at c.write_line-in-Square.ensures.bytes)
