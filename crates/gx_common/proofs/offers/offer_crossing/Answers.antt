use Rattle.std.proofs.Common.{◌≡◌, true, false, pos, ◌*ℤ◌, int_lt, unsigned_abs, List, [], ◌∷◌, refl, sym, ap, ◌∙◌}
use Rattle.gx_num.specs.Vector4.{Vec4}
use Rattle.gx_common.specs.Common.{mixed}
use Rattle.gx_common.specs.Sides.{is_mixed_in}
use Rattle.gx_common.specs.Slots.{after}
use Rattle.gx_common.proofs.Levels.{by_value}
use Rattle.gx_common.proofs.Sides.{crossing_at}
use Rattle.gx_common.proofs.Offered.{after-nil}
use Rattle.gx_common.proofs.offers.offer_crossing.Goals as goal

pub returns-then-is_mixed_in-clause-value : goal.returns-then-is_mixed_in-clause-value
returns-then-is_mixed_in-clause-value c =
    let u = c.args.first.now in
    let v = c.args.second.now in
    let s = c.args.side in
    let t = c.args.other_side in
    let same_s = by_value s c.requires.side in
    let same_t = by_value t c.requires.other_side in
    let opposite : c.are_opposite.result ≡ int_lt (s *ℤ t) (pos 0) = rw (same_s, same_t) at c.are_opposite.ensures in
    let inside : c.is_mixed_in.result ≡ is_mixed_in (unsigned_abs t) u.sides (unsigned_abs s) v.sides = rw (c.unsigned_abs.ensures.value, c.unsigned_abs-then-are_opposite.ensures.value, same_s, same_t) at c.is_mixed_in.ensures in
    let x : c.crossing-crossing.result ≡ mixed (unsigned_abs t) u.point (unsigned_abs s) v.point = rw (same_s, same_t, c.point.ensures.value, c.point-then-is_mixed_in.ensures.value) at c.crossing-crossing.ensures in
    c.offer.ensures.value ∙ ap (λ (y : Vec4). after (y ∷ []) c.args.slots.now) x ∙ ap (λ (xs : List Vec4). after xs c.args.slots.now) (sym (crossing_at u v s t true true (sym opposite ∙ c.if-are_opposite.true) (sym inside ∙ c.if-is_mixed_in.true)))

pub returns-else-is_mixed_in-clause-value : goal.returns-else-is_mixed_in-clause-value
returns-else-is_mixed_in-clause-value c =
    let u = c.args.first.now in
    let v = c.args.second.now in
    let s = c.args.side in
    let t = c.args.other_side in
    let same_s = by_value s c.requires.side in
    let same_t = by_value t c.requires.other_side in
    let opposite : c.are_opposite.result ≡ int_lt (s *ℤ t) (pos 0) = rw (same_s, same_t) at c.are_opposite.ensures in
    let inside : c.is_mixed_in.result ≡ is_mixed_in (unsigned_abs t) u.sides (unsigned_abs s) v.sides = rw (c.unsigned_abs.ensures.value, c.unsigned_abs-then-are_opposite.ensures.value, same_s, same_t) at c.is_mixed_in.ensures in
    sym (ap (λ (xs : List Vec4). after xs c.args.slots.now) (crossing_at u v s t true false (sym opposite ∙ c.if-are_opposite.true) (sym inside ∙ c.if-is_mixed_in.false)) ∙ after-nil c.args.slots.now)

pub returns-else-are_opposite-clause-value : goal.returns-else-are_opposite-clause-value
returns-else-are_opposite-clause-value c =
    let u = c.args.first.now in
    let v = c.args.second.now in
    let s = c.args.side in
    let t = c.args.other_side in
    let opposite : c.are_opposite.result ≡ int_lt (s *ℤ t) (pos 0) = rw (by_value s c.requires.side, by_value t c.requires.other_side) at c.are_opposite.ensures in
    sym (ap (λ (xs : List Vec4). after xs c.args.slots.now) (crossing_at u v s t false (is_mixed_in (unsigned_abs t) u.sides (unsigned_abs s) v.sides) (sym opposite ∙ c.if-are_opposite.false) refl) ∙ after-nil c.args.slots.now)
