use Rattle.std.proofs.Common.{refl, sym, ◌∙◌, arith}
use Rattle.gx_common.specs.Sides.{crossings_with, crossings_in}
use Rattle.gx_common.proofs.Offered.{offered_first, filled_first, offered_past}
use Rattle.gx_common.proofs.offers.offer_crossings.Goals as goal

pub returns-then-offer_with-clause-value : goal.returns-then-offer_with-clause-value
returns-then-offer_with-clause-value c =
    filled_first crossings_in crossings_with (λ u us. refl) _ _ _ c.vertices.slots c.offer_with.new.slots c.in-Some.ensures.cases.0 c.offer_with.ensures.value (c.offer_with.ensures.filled c.if-offer_with.true) ∙ c.vertices.invariant

pub vertices-preserved : goal.vertices-preserved
vertices-preserved c =
    offered_first crossings_in crossings_with (λ u us. refl) _ _ _ c.vertices.slots c.offer_with.new.slots c.in-Some.ensures.cases.0 c.offer_with.ensures.value ∙ c.vertices.invariant

pub returns-clause-value : goal.returns-clause-value
returns-clause-value c =
    sym (offered_past crossings_in crossings_with (λ u us. refl) refl c.vertices.rest.now 0 c.vertices.slots (omega (arith, c.in_default.ensures.cases))) ∙ c.vertices.invariant
