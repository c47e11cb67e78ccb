use Rattle.gx_sealed.proofs.Most.{IsMostUpTo}
use Rattle.gx_sealed.proofs.sealed.Sealed.most_daughters.Given as goal

abbrev pub invariant-loop-v : goal.invariant-loop-v
invariant-loop-v l = IsMostUpTo l.fn.self l.v l.most
