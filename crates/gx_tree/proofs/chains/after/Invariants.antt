use Rattle.std.proofs.Common.{◌≡◌, ◌↔◌, ◌-◌, ℕ, length}
use Rattle.gx_tree.specs.Marks.{IsLed}
use Rattle.gx_tree.proofs.chains.after.Given as goal

abbrev pub invariant-loop-step : goal.invariant-loop-step
invariant-loop-step l = record {
  count : length l.marks.items ≡ length l.volumes;
  led : (w : ℕ) → IsLed l.volumes l.marks.items (l.steps - l._step) w ↔ IsLed l.volumes l.fn.marks.items l.steps w;
}
