use Rattle.std.proofs.Common.{[], replicate, sym, subst, arith, rules, ◌≡◌, false}
use Rattle.std.specs.Vec.{vec_capacity}
use Rattle.gx_offers.specs.Marks.{AreMarked}
use Rattle.gx_offers.proofs.Marked.{nothing}
use Rattle.gx_offers.proofs.offers.Offers.new.Goals as goal

pub invariant_of-result : goal.invariant_of-result
invariant_of-result c =
    let n = c.args.room in
    let cap = vec_capacity c.in_ok-list.list in
    let none : c.in_ok-marks.marks.items ≡ replicate n false = search rules in
    let empty : c.in_ok-list.list.items ≡ [] = c.in_ok-list.ensures.items in
    subst (λ ms. AreMarked c.in_ok-list.list.items ms cap) (sym none) (subst (λ ks. AreMarked ks (replicate n false) cap) (sym empty) (nothing n cap (omega (arith, c.in_ok-list.ensures.capacity)) (omega (arith, c.ranges.room.fits))))
