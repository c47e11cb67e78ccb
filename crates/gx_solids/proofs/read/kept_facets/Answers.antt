use Rattle.std.proofs.Common.{◌∙◌}
use Rattle.gx_form.proofs.Turns.{collect_ok}
use Rattle.gx_solids.proofs.read.kept_facets.Goals as goal

pub loop-turn-preserved : goal.loop-turn-preserved
loop-turn-preserved g c = rw c.in_ok-push.ensures (c.loop-turn.invariant ∙ collect_ok _ _ _ _ _ _ _ c.loop-turn-test.true c.in_ok-facet.ensures)
