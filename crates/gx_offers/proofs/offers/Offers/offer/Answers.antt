use Rattle.std.proofs.Common.{◌≡◌, ◌<◌, length, set, get_or, sym, subst, arith, true, false}
use Rattle.std.specs.Vec.{vec_capacity}
use Rattle.gx_offers.specs.Marks.{AreMarked}
use Rattle.gx_offers.proofs.Marked.{not-full, pushed}
use Rattle.gx_offers.proofs.offers.Offers.offer.Goals as goal

less : (c : goal.After-push_reserved-arg-1) → c.args.k < length c.self.inside.marks.items
less c = subst (λ o. c.args.k < o.room) (sym c.self.view_is) c.requires

new : (c : goal.After-push_reserved-arg-1) → get_or c.self.inside.marks.items c.args.k false ≡ false
new c = sym (subst (λ b. b ≡ get_or c.self.inside.marks.items c.args.k b) c.if-not-index.true c.index.ensures)

pub push_reserved-requires : goal.push_reserved-requires
push_reserved-requires c =
    let room = not-full c.self.inside.list.items c.self.inside.marks.items (vec_capacity c.self.inside.list) c.args.k c.self.invariant (less c) (new c) in
    omega (arith, room, c.self.inside.list.ok)

pub invariant_of-self : goal.invariant_of-self
invariant_of-self c =
    let marks = c.self.inside.marks.items in
    let after = pushed c.self.inside.list.items marks (vec_capacity c.self.inside.list) c.args.k c.self.invariant (less c.before) (new c.before) in
    let same = subst (λ ks. AreMarked ks (set marks c.args.k true) (vec_capacity c.self.inside.list)) (sym c.push_reserved.ensures.items) after in
    subst (AreMarked c.push_reserved.new.self.items (set marks c.args.k true)) (sym c.push_reserved.ensures.capacity) same
