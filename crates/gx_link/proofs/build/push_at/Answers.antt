use Rattle.std.proofs.Common.{◌∙◌, ◌++◌, ◌∷◌, [], List, ap, sym, map, set}
use Rattle.std.proofs.lemmas.List.{map-set, get_or-map}
use Rattle.gx_tree.specs.declared.placement.Placement.{Placement}
use Rattle.gx_link.proofs.Lists.{items_of}
use Rattle.gx_link.proofs.build.push_at.Goals as goal

pub returns : goal.returns
returns c =
    let lists = c.args.lists.now in
    let mother = c.args.mother in
    map-set items_of lists mother c.push.new.self
    ∙ ap (set (map items_of lists) mother) (c.in_ok-push.ensures.items ∙ ap (λ (ls : List Placement). ls ++ c.args.placement ∷ []) (sym (get_or-map items_of lists mother _ [] c.requires)))
