use Rattle.std.proofs.Common.{◌≡◌, take}
use Rattle.gx_sealed.specs.Placed.{daughters_of}
use Rattle.gx_sealed.proofs.placed.daughters.Given as goal

abbrev pub invariant-loop-k : goal.invariant-loop-k
invariant-loop-k l = l.daughters.items ≡ take l.k (daughters_of l.tree l.v)
