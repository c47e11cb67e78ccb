use Rattle.std.proofs.Common.{◌≡◌, ◌≤◌, ◌*◌, length, sum_by, take}
use Rattle.gx_refine.proofs.runs.entries.Given as goal

abbrev pub invariant-loop-run : goal.invariant-loop-run
invariant-loop-run l =
    (l.entries ≡ sum_by (λ run. length run.members) (take l.run-index l.runs))
    × (l.entries ≤ 4096 * l.run-index)
