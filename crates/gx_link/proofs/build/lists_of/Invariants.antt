use Rattle.std.proofs.Common.{◌≡◌, take, [], map}
use Rattle.gx_link.specs.Build as spec
use Rattle.gx_link.proofs.build.lists_of.Given as goal

abbrev pub invariant-loop : goal.invariant-loop
invariant-loop l = map (λ list. list.items) l.lists.items ≡ spec.lists_of [] l.counter

abbrev pub invariant-loop-placed : goal.invariant-loop-placed
invariant-loop-placed l = map (λ list. list.items) l.lists.items ≡ spec.lists_of (take l.placed-index l.placements) l.volumes
