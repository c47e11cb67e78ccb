use Rattle.gx_plane.proofs.TripleFacts.{triples_left-second}
use Rattle.gx_plane.proofs.triples.TriplesIterator.next.Goals as goal

pub loop-third-preserved-in-Some-take_first : goal.loop-third-preserved-in-Some-take_first
loop-third-preserved-in-Some-take_first c =
    let t = c.loop-third.self-inside in
    triples_left-second t.first t.second c.in-Some-take_first.second _ _ _ _ _ c.in_default.ensures.0 c.in-Some-take_first.ensures c.loop-third.invariant
