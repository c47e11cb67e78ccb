use Rattle.std.proofs.Common.{◌≡◌, ◌-◌}
use Rattle.gx_form.specs.Form.{collect, forget}
use Rattle.gx_shapes.specs.Figure.{facet_in}
use Rattle.gx_solids.proofs.read.facets.Given as goal

abbrev pub invariant-loop-turn : goal.invariant-loop-turn
invariant-loop-turn g l =
    forget (collect l.n (facet_in g.V.Values.source) l.initial.values) ≡ forget (collect (l.n - l._turn) (facet_in g.V.Values.source) l.values)
