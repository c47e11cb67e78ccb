use Rattle.std.proofs.Common.{◌≡◌, length, max, fold, take}
use Rattle.gx_refine.proofs.runs.longest.Given as goal

abbrev pub invariant-loop-run : goal.invariant-loop-run
invariant-loop-run l = l.longest ≡ fold (λ n run. max n (length run.members)) 0 (take l.run-index l.runs)
