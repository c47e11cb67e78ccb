use Rattle.std.proofs.Common.{List, sym, ap, ◌∙◌}
use Rattle.gx_num.specs.Vector4.{Vec4}
use Rattle.gx_common.specs.Slots.{after}
use Rattle.gx_common.proofs.Sides.{none_beyond}
use Rattle.gx_common.proofs.Offered.{after-nil}
use Rattle.gx_common.proofs.offers.offer_of_two.Goals as goal

pub returns-then-is_beyond_with-clause-value : goal.returns-then-is_beyond_with-clause-value
returns-then-is_beyond_with-clause-value c =
    sym (ap (λ (xs : List Vec4). after xs c.args.slots.now) (none_beyond c.args.first.now c.args.second.now (sym c.is_beyond_with.ensures ∙ c.if-is_beyond_with.true)) ∙ after-nil c.args.slots.now)
