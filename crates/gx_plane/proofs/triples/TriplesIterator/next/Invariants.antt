use Rattle.std.proofs.Common.{◌≡◌, ◌++◌, ◌+◌, ◌*◌, length}
use Rattle.gx_plane.specs.Between.{triples_left}
use Rattle.gx_plane.proofs.triples.TriplesIterator.next.Given as goal

-- none is lost
abbrev pub invariant-loop-third : goal.invariant-loop-third
invariant-loop-third l =
    let t = l.self-inside in
    triples_left t.first t.second (t.thirds.a.now ++ t.thirds.b.now) (t.seconds.a.now ++ t.seconds.b.now) (t.firsts.a.now ++ t.firsts.b.now) ≡ l.fn.self

abbrev pub decreases-loop-third : goal.decreases-loop-third
decreases-loop-third l =
    let firsts = length (l.self-inside.firsts.a.now ++ l.self-inside.firsts.b.now) in
    firsts * firsts + length (l.self-inside.seconds.a.now ++ l.self-inside.seconds.b.now)
