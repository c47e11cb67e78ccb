use Rattle.std.proofs.Common.{◌∙◌, rules, arith}
use Rattle.std.proofs.lemmas.Grind.{common_steps}
use Rattle.gx_form.proofs.Turns.{collect_ok}
use Rattle.gx_solids.proofs.read.polygon.Goals as goal

pub loop-turn-preserved : goal.loop-turn-preserved
loop-turn-preserved g c = record {
  reads = rw c.push.ensures (c.loop-turn.invariant.reads ∙ collect_ok _ _ _ _ _ _ _ c.loop-turn-test.true c.in_ok-corner.ensures);
  count = first_of (search rules, grind (arith, common_steps));
}
