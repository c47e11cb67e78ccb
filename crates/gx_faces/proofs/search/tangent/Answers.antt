use Rattle.std.proofs.lemmas.List.Elements.{All-contains_itself}
use Rattle.gx_faces.proofs.search.tangent.Goals as goal
use Rattle.gx_faces.proofs.search.tangent.Goals.{then-along-gt0, else-along-gt0}

pub loop-s-preserved : goal.loop-s-preserved
loop-s-preserved c = elim c.if-along-gt0.branch [
  | then-along-gt0 w ↦ record {
    among = rw w.r-is (All-contains_itself c.args.points.now c.loop-s.s-index _ c.loop-s-test.true);
    within = rw w.n-is w.normal-n-then-along-gt0.ensures.within;
  }
  | else-along-gt0 w ↦ record { among = rw w.r-is c.loop-s.invariant.among; within = rw w.n-is c.loop-s.invariant.within }
]
