use Rattle.std.proofs.Common.{List, ◌+◌, drop, refl, sym, ap, ◌∙◌, arith}
use Rattle.gx_common.specs.Sides.{Sided, crossings_of_two, crossings_with}
use Rattle.gx_common.specs.Slots.{after}
use Rattle.gx_common.proofs.Offered.{drop-at, offered_first, filled_first, offered_past}
use Rattle.gx_common.proofs.offers.offer_with.Goals as goal

pub returns-then-offer_of_two-clause-value : goal.returns-then-offer_of_two-clause-value
returns-then-offer_of_two-clause-value c =
    let u = c.args.first.now in
    let slots = c.loop-second.slots in
    filled_first (crossings_with u) (λ (v : Sided) (_ : List Sided). crossings_of_two u v) (λ v vs. refl) _ _ _ slots c.offer_of_two.new.slots
    (drop-at c.args.others.now c.loop-second.second-index c.second-item.result c.loop-second-test.true) (c.offer_of_two.ensures.value ∙ ap (λ (v : Sided). after (crossings_of_two u v) slots) c.second-item.is) (c.offer_of_two.ensures.filled c.if-offer_of_two.true)
    ∙ c.loop-second.invariant

pub loop-second-preserved : goal.loop-second-preserved
loop-second-preserved c =
    let u = c.args.first.now in
    let slots = c.loop-second.slots in
    offered_first (crossings_with u) (λ (v : Sided) (_ : List Sided). crossings_of_two u v) (λ v vs. refl) _ (drop (c.loop-second.second-index + 1) c.args.others.now) _ slots c.offer_of_two.new.slots
    (drop-at c.args.others.now c.loop-second.second-index c.second-item.result c.loop-second-test.true) (c.offer_of_two.ensures.value ∙ ap (λ (v : Sided). after (crossings_of_two u v) slots) c.second-item.is)
    ∙ c.loop-second.invariant

pub returns-clause-value : goal.returns-clause-value
returns-clause-value c =
    let u = c.args.first.now in
    sym (offered_past (crossings_with u) (λ (v : Sided) (_ : List Sided). crossings_of_two u v) (λ v vs. refl) refl c.args.others.now c.loop-second.second-index c.loop-second.slots (omega (arith, c.loop-second-test.false)))
    ∙ c.loop-second.invariant
