use Rattle.std.proofs.Common.{◌≡◌, ◌↔◌, ◌+◌, ◌-◌, ℕ, List, Bool, true, subst, arith}
use Rattle.gx_tree.specs.Marks.{is_marked, IsLed}
use Rattle.gx_tree.proofs.Leads.{led_on, led-nowhere}
use Rattle.gx_tree.proofs.chains.after.Goals as goal

pub loop-step-preserved : goal.loop-step-preserved
loop-step-preserved c =
    let volumes = c.args.volumes.now in
    let marks = c.loop-step.marks.items in
    let now = c.in_ok-marks.marks.items in
    let left = c.args.steps - (c.loop-step._step + 1) in
    let number : 1 + left ≡ c.args.steps - c.loop-step._step = omega arith in
    let daughters : (u : ℕ) → (is_marked now u ≡ true) ↔ IsLed volumes marks 1 u =
    subst (λ (ms : List Bool). (u : ℕ) → (is_marked now u ≡ true) ↔ IsLed volumes ms 1 u) c.deref.ensures.value c.in_ok-marks.ensures.led in
    record {
      count = c.in_ok-marks.ensures.count;
      led = λ w.
          let on = subst (λ k. IsLed volumes now left w ↔ IsLed volumes marks k w) number (led_on volumes marks now left w daughters) in
          let before = c.loop-step.invariant.led w in
          (λ h. before.0 (on.0 h), λ h. on.1 (before.1 h));
    }

pub returns-clause-led : goal.returns-clause-led
returns-clause-led c =
    let volumes = c.args.volumes.now in
    let marks = c.loop-step.marks.items in
    let none : c.args.steps - c.loop-step._step ≡ 0 = omega arith in
    λ w.
    let before = subst (λ k. IsLed volumes marks k w ↔ IsLed volumes c.args.marks.items c.args.steps w) none (c.loop-step.invariant.led w) in
    let here = led-nowhere volumes marks w in
    (λ h. before.0 (here.1 h), λ h. here.0 (before.1 h))
