use Rattle.std.proofs.Common.{◌≡◌, [], take, drop}
use Rattle.gx_link.specs.Crowd as spec
use Rattle.gx_link.proofs.Daughters.{IsCounted}
use Rattle.gx_link.proofs.crowd.first_crowded.Given as goal

abbrev pub invariant-loop-placed : goal.invariant-loop-placed
invariant-loop-placed l = record {
  counted : IsCounted (take l.placed-index l.placements) l.volumes l.counts.items l.all;
  rest : spec.first_crowded (take l.placed-index l.placements) (drop l.placed-index l.placements) ≡ spec.first_crowded [] l.placements;
}
