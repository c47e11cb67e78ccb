use Rattle.std.proofs.Common.{rules, reverse, sym, ◌∙◌}
use Rattle.std.proofs.lemmas.Iterator.Adapters.{YieldsList-from_rev_slice}
use Rattle.std.proofs.lemmas.Iterator.Search.{any_from_yields_List}
use Rattle.std.proofs.lemmas.List.Sorted.{list_any-IsPermutation, IsPermutation-reverse}
use Rattle.gx_convex.specs.Faces.{is_same_plane}
use Rattle.gx_faces.proofs.order.is_among.Goals as goal

pub returns : goal.returns
returns c =
    let test = is_same_plane c.args.plane.now in
    let planes = c.args.planes.now in
    any_from_yields_List test _ _ _ c.any.ensures.ran (YieldsList-from_rev_slice planes (cc)) (λ x b q k. search rules)
    ∙ sym (list_any-IsPermutation test planes (reverse planes) (IsPermutation-reverse planes))
