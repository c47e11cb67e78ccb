use Rattle.std.proofs.Common.{◌∷◌, [], ap, add-one, sym, ◌∙◌, subst, take, get_or}
use Rattle.std.proofs.Math.Seq.{take-suc}
use Rattle.gx_offers.specs.Offers.{IsOffered}
use Rattle.gx_offers.proofs.Offered.{both, one}
use Rattle.gx_voxel.proofs.members.offer_all.Goals as goal

pub loop-k-preserved : goal.loop-k-preserved
loop-k-preserved c =
    let ks = c.args.list.now in
    let i = c.loop-k.k-index in
    let k = get_or ks i 0 in
    let next = ap (λ j. take j ks) (add-one i) ∙ take-suc ks i 0 c.loop-k-test.true in
    let now = subst (IsOffered (λ k. Unit {0}) (k ∷ []) c.loop-k.offers) (sym c.offer.ensures) (one (λ k. Unit {0}) c.loop-k.offers k) in
    subst (λ l. IsOffered (λ k. Unit {0}) l c.args.offers.now c.offer.new.self) (sym next) (both (λ k. Unit {0}) (take i ks) (k ∷ []) c.args.offers.now c.loop-k.offers c.offer.new.self c.loop-k.invariant now)
