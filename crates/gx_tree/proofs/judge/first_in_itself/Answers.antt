use Rattle.std.proofs.Common.{rules, ◌≡◌, ◌↔◌, ◌<◌, ℕ, inl, inr, Bool, true, false, List, length, replicate, sym, ap, ◌∙◌, subst, arith, true≢false}
use Rattle.std.proofs.lemmas.Bool.{cases_lt, false_from_ne_true}
use Rattle.gx_tree.specs.Fault as spec
use Rattle.gx_tree.specs.Marks.{is_marked, IsLed}
use Rattle.gx_tree.proofs.Numbers.{first_number, no_number}
use Rattle.gx_tree.proofs.Judged.{in_itself-deep}
use Rattle.gx_tree.proofs.judge.first_in_itself.Goals as goal
use Rattle.gx_tree.proofs.judge.first_in_itself.Goals.{else-deep-via-then-deep+in_ok-is_in_itself+else-branch, else-deep-via-else-deep}

pub returns-then-branch : goal.returns-then-branch
returns-then-branch c =
    let volumes = c.args.volumes.now in
    let below : c.loop-v.v < length volumes = omega (arith, c.in_ok-deep.ensures.count) in
    let is : spec.is_in_itself volumes c.loop-v.v ≡ true = sym c.in_ok-is_in_itself.ensures ∙ c.if-branch.true in
    sym (first_number (spec.is_in_itself volumes) (length volumes) c.loop-v.v below is c.loop-v.invariant)

pub loop-v-preserved : goal.loop-v-preserved
loop-v-preserved c =
    let volumes = c.args.volumes.now in
    let v = c.loop-v.v in
    let deep = c.in_ok-deep.deep.items in
    let here : spec.is_in_itself volumes v ≡ false = elim c.else-deep.branch [
      | else-deep-via-then-deep+in_ok-is_in_itself+else-branch w ↦ sym w.in_ok-is_in_itself.ensures ∙ w.if-branch.false
      | else-deep-via-else-deep w ↦
          let all : c.in_ok-all.all.items ≡ replicate (length volumes) true = search rules in
          let led = subst (λ (ms : List Bool). (u : ℕ) → is_marked deep u ≡ true ↔ IsLed volumes ms 33 u) all c.in_ok-deep.ensures.led in
          let fails : is_marked deep v ≡ false = ap (λ (ms : List Bool). is_marked ms v) (sym c.deref-deep-items.ensures.value) ∙ w.if-deep.false in
          false_from_ne_true (spec.is_in_itself volumes v) (λ e. true≢false (sym ((led v).1 (in_itself-deep volumes v 32 e)) ∙ fails))
    ] in
    λ k below. elim (cases_lt k v) [
      | inl earlier ↦ c.loop-v.invariant k earlier
      | inr now ↦ let same : v ≡ k = omega arith in subst (λ u. spec.is_in_itself volumes u ≡ false) same here
    ]

pub returns : goal.returns
returns c = sym (no_number (spec.is_in_itself c.args.volumes.now) (length c.args.volumes.now) (λ k below. c.loop-v.invariant k (omega (arith, c.in_ok-deep.ensures.count, c.deref-deep-items.ensures.len))))
