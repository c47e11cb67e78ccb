use Rattle.std.proofs.Common.{◌≡◌, ◌↔◌, ℕ, true, length}
use Rattle.gx_tree.specs.Marks.{is_marked, IsLedBelow}
use Rattle.gx_tree.proofs.chains.daughters.Given as goal

abbrev pub invariant-loop-v : goal.invariant-loop-v
invariant-loop-v l = record {
  count : length l.daughters.items ≡ length l.volumes;
  led : (w : ℕ) → is_marked l.daughters.items w ≡ true ↔ IsLedBelow l.volumes l.marks l.v w;
}
