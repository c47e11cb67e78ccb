use Rattle.std.proofs.Common.{◌≡◌, ◌-◌}
use Rattle.gx_form.specs.Form.{collect, collect_from}
use Rattle.gx_shapes.specs.Figure.{facet_in}
use Rattle.gx_solids.proofs.read.kept_facets.Given as goal

abbrev pub invariant-loop-turn : goal.invariant-loop-turn
invariant-loop-turn g l =
    collect l.n (facet_in g.V.Values.source) l.initial.values ≡ collect_from (facet_in g.V.Values.source) (l.n - l._turn) l.facets l.values
