use Rattle.std.proofs.Common.{rules, ◌≡◌, ◌↔◌, ℕ, Bool, true, false, not, List, length, replicate, sym, ap, ◌∙◌, subst, arith}
use Rattle.std.specs.Option.{option_to_list}
use Rattle.gx_tree.specs.Fault as spec
use Rattle.gx_tree.specs.Marks.{is_marked, IsLed}
use Rattle.gx_tree.proofs.Judged.{placed_is}
use Rattle.gx_tree.proofs.Roots.{root_found, root_passed, second_root}
use Rattle.gx_tree.proofs.judge.only_world.Goals as goal
use Rattle.gx_tree.proofs.judge.only_world.Goals.{then-not-placed+else-is_some, else-not-placed}

pub returns-then-is_some-clause-err : goal.returns-then-is_some-clause-err
returns-then-is_some-clause-err c =
    let volumes = c.args.volumes.now in
    let n = length volumes in
    let placed = c.in_ok-placed.placed.items in
    let v = c.loop-v.v in
    let all : c.deref.result.now ≡ replicate n true = c.deref.ensures.value ∙ search rules in
    let led = subst (λ (ms : List Bool). (u : ℕ) → is_marked placed u ≡ true ↔ IsLed volumes ms 1 u) all c.in_ok-placed.ensures.led in
    let marked : is_marked placed v ≡ false = ap (λ (ms : List Bool). is_marked ms v) (sym c.deref-placed-items.ensures.value) ∙ c.if-not-placed.true in
    let nowhere : not (spec.is_placed volumes v) ≡ true = ap not (sym (placed_is volumes placed v (led v)) ∙ marked) in
    second_root (λ u. not (spec.is_placed volumes u)) n v c.loop-v.world (omega (arith, c.in_ok-placed.ensures.count, c.deref-placed-items.ensures.len)) nowhere (sym c.if-is_some.ensures) c.loop-v.invariant

pub loop-v-preserved : goal.loop-v-preserved
loop-v-preserved c =
    let volumes = c.args.volumes.now in
    let n = length volumes in
    let placed = c.in_ok-placed.placed.items in
    let v = c.loop-v.v in
    let all : c.deref.result.now ≡ replicate n true = c.deref.ensures.value ∙ search rules in
    let led = subst (λ (ms : List Bool). (u : ℕ) → is_marked placed u ≡ true ↔ IsLed volumes ms 1 u) all c.in_ok-placed.ensures.led in
    let same : is_marked placed v ≡ spec.is_placed volumes v = placed_is volumes placed v (led v) in
    let read : is_marked placed v ≡ is_marked c.deref-placed-items.result.now v = ap (λ (ms : List Bool). is_marked ms v) (sym c.deref-placed-items.ensures.value) in
    elim c.if-not-placed.branch [
      | then-not-placed+else-is_some w ↦
          ap option_to_list w.world-is ∙ root_found (λ u. not (spec.is_placed volumes u)) v c.loop-v.world (ap not (sym same ∙ read ∙ w.if-not-placed.true)) (sym w.if-is_some.ensures) c.loop-v.invariant
      | else-not-placed w ↦
          ap option_to_list w.world-is ∙ root_passed (λ u. not (spec.is_placed volumes u)) v (option_to_list c.loop-v.world) (ap not (sym same ∙ read ∙ w.if-not-placed.false)) c.loop-v.invariant
    ]
