use Rattle.std.proofs.Common.{◌∙◌, sym, rules, nat_eq}
use borrow.Author.Tests.{tests}
use Rattle.std.proofs.lemmas.Iterator.{YieldsList-from_slice, YieldsList-from_map}
use Rattle.std.proofs.lemmas.Iterator.Adapters.{option_map_id}
use Rattle.std.proofs.lemmas.Iterator.Consumers.{nth_from_yields_List, YieldsList-at, YieldsList-from_filter}
use Rattle.gx_link.specs.declared.link.LinkedPlacement.{LinkedPlacement}
use Rattle.gx_link.proofs.tree.placement_line.Goals as goal

pub returns : goal.returns
returns c =
    sym (option_map_id c.nth.result)
    ∙ nth_from_yields_List c.nth.result c.nth.new.self c.args.k c.nth.ensures.ran
    (YieldsList-from_map _ (λ (p : LinkedPlacement). p.line)
    (YieldsList-at c.map.ensures.source (YieldsList-from_filter _ (λ (p : LinkedPlacement). nat_eq p.mother c.args.mother) (YieldsList-at c.filter.ensures.source (YieldsList-from_slice c.args.placements.now cc)) c.filter.ensures.closure (λ x r q k. search (rules, tests))))
    c.map.ensures.closure (λ x r q k. search rules))
