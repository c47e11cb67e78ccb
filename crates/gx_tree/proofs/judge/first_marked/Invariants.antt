use Rattle.std.proofs.Common.{◌≡◌, ◌<◌, ℕ, false}
use Rattle.gx_tree.specs.Marks.{is_marked}
use Rattle.gx_tree.proofs.judge.first_marked.Given as goal

abbrev pub invariant-loop-v : goal.invariant-loop-v
invariant-loop-v l = (k : ℕ) → k < l.v → is_marked l.marks k ≡ false
