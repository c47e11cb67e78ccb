use Rattle.std.proofs.Common.{◌≡◌, ◌-◌, length}
use Rattle.gx_form.specs.Form.{collect, collect_from}
use Rattle.gx_shapes.specs.Figure.{corner_in}
use Rattle.gx_solids.proofs.read.polygon.Given as goal

abbrev pub invariant-loop-turn : goal.invariant-loop-turn
invariant-loop-turn g l = record {
  reads : collect l.n (corner_in g.V.Values.source) l.initial.values ≡ collect_from (corner_in g.V.Values.source) (l.n - l._turn) l.corners l.values;
  count : length l.corners ≡ l._turn;
}
