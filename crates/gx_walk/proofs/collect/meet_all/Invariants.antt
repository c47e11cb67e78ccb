use Rattle.std.proofs.Common.{◌≡◌, ◌≤◌, ◌+◌, take, vec_len, vec_capacity}
use Rattle.gx_walk.specs.Entry.{AreMet}
use Rattle.gx_walk.proofs.collect.meet_all.Given as goal

abbrev pub invariant-loop-k : goal.invariant-loop-k
invariant-loop-k g l = record {
  met : AreMet (g.G.Geometry.met_of l.geometry l.mother) (take l.k-index l.offered) l.hits.items;
  few : vec_len l.hits ≤ l.k-index;
  room : vec_capacity l.hits ≡ vec_capacity l.fn.hits;
  tests : l.tests ≡ l.initial.tests + l.k-index;
}
