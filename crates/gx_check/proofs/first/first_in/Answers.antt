use Rattle.std.proofs.Common.{refl, sym, ◌∙◌}
use Rattle.gx_check.specs.Verdicts.{daughter_verdicts, pair_verdicts}
use Rattle.gx_check.proofs.Left.{in_parts}
use Rattle.gx_check.proofs.Seeking.{start, found_here, none_here}
use Rattle.gx_check.proofs.first.first_in.Goals as goal

pub returns-then-is_some : goal.returns-then-is_some
returns-then-is_some c =
    let ds = c.in_ok-daughters.daughters in
    let whole = in_parts c.args.tree.now c.args.mother c.solid.result.now c.hull.result.now ds c.solid.ensures.value c.hull.ensures.value c.in_ok-daughters.ensures.value in
    found_here (start _ _ whole) (daughter_verdicts c.args.mother c.hull.result.now ds) (pair_verdicts c.args.mother ds) refl c.first_outer-outer.result c.first_outer-outer.ensures (sym c.is_some.ensures ∙ c.if-is_some.true)

pub returns : goal.returns
returns c =
    let ds = c.in_ok-daughters.daughters in
    let whole = in_parts c.args.tree.now c.args.mother c.solid.result.now c.hull.result.now ds c.solid.ensures.value c.hull.ensures.value c.in_ok-daughters.ensures.value in
    let rest = none_here (start _ _ whole) (daughter_verdicts c.args.mother c.hull.result.now ds) (pair_verdicts c.args.mother ds) refl c.first_outer-outer.result c.first_outer-outer.ensures (sym c.is_some.ensures ∙ c.if-is_some.false) in
    rw rest.same c.first_overlap.ensures
