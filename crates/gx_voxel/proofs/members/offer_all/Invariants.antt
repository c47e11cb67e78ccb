use Rattle.std.proofs.Common.{take}
use Rattle.gx_offers.specs.Offers.{IsOffered}
use Rattle.gx_voxel.proofs.members.offer_all.Given as goal

-- the first numbers were offered, each of which is due
abbrev pub invariant-loop-k : goal.invariant-loop-k
invariant-loop-k l = IsOffered (λ k. Unit {0}) (take l.k-index l.list) l.fn.offers l.offers
