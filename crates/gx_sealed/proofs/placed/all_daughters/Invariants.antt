use Rattle.std.proofs.Common.{◌≡◌, map, take}
use Rattle.gx_sealed.specs.Placed.{all_daughters}
use Rattle.gx_sealed.proofs.placed.all_daughters.Given as goal

abbrev pub invariant-loop-v : goal.invariant-loop-v
invariant-loop-v l = map (λ d. d.items) l.all.items ≡ take l.v (all_daughters l.tree)
