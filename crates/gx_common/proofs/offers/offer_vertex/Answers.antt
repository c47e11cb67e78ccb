use Rattle.std.proofs.Common.{◌≡◌, Bool, true, false, cond, [], ◌∷◌, sym, ap, ◌∙◌}
use Rattle.gx_num.specs.Space.{is_in}
use Rattle.gx_num.specs.Vector4.{Vec4}
use Rattle.gx_common.specs.Common.{point_of}
use Rattle.gx_common.specs.Slots.{after}
use Rattle.gx_common.proofs.Sides.{sides_at_most}
use Rattle.gx_common.proofs.Offered.{after-nil}
use Rattle.gx_common.proofs.offers.offer_vertex.Goals as goal

pub returns-then-is_in-clause-value : goal.returns-then-is_in-clause-value
returns-then-is_in-clause-value c =
    let p = point_of c.args.point in
    let there : is_in c.args.faces.now p ≡ true = sym (sides_at_most c.args.faces.now c.args.point) ∙ sym c.is_in.ensures ∙ c.if-is_in.true in
    c.offer.ensures.value ∙ ap (λ (x : Vec4). after (x ∷ []) c.args.slots.now) c.vertex.ensures ∙ ap (λ (b : Bool). after (cond b (p ∷ []) []) c.args.slots.now) (sym there)

pub returns-clause-value : goal.returns-clause-value
returns-clause-value c =
    let p = point_of c.args.point in
    let there : is_in c.args.faces.now p ≡ false = sym (sides_at_most c.args.faces.now c.args.point) ∙ sym c.is_in.ensures ∙ c.if-is_in.false in
    sym (after-nil c.args.slots.now) ∙ ap (λ (b : Bool). after (cond b (p ∷ []) []) c.args.slots.now) (sym there)
