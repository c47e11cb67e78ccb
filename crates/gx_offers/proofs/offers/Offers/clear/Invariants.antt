use Rattle.std.proofs.Common.{◌≡◌, length}
use Rattle.gx_offers.proofs.offers.Offers.clear.Given as goal

abbrev pub invariant-loop-self : goal.invariant-loop-self
invariant-loop-self l = l.self.room ≡ l.fn.self.room

abbrev pub decreases-loop-self : goal.decreases-loop-self
decreases-loop-self l = length l.self.numbers
