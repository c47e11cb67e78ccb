use Rattle.std.proofs.Common.{rules, ◌≡◌, ◌∙◌, ℕ, ap, map, length}
use Rattle.std.specs.List.{zip}
use Rattle.std.proofs.lemmas.Result.{IfOk-weaker}
use Rattle.gx_link.specs.Build.{lists_of, with_list}
use Rattle.gx_link.specs.Text.{volumes_from}
use Rattle.gx_link.proofs.Lists.{items_of, volumes-zip}
use Rattle.gx_link.proofs.build.build.Goals as goal

pub returns : goal.returns
returns c =
    let ps = c.args.placements.now in
    let volumes = c.args.volumes.items in
    let lists = c.in_ok-lists.lists.items in
    let same : map items_of lists ≡ lists_of ps (length volumes) = c.in_ok-lists.ensures ∙ ap (λ (n : ℕ). lists_of ps n) (search rules) in
    IfOk-weaker c.with_lists.result (λ built. built.items ≡ map with_list (zip volumes lists)) (λ built. built.items ≡ volumes_from ps 0 volumes) (λ built is. is ∙ volumes-zip ps 0 volumes lists same) c.with_lists.ensures
