use Rattle.std.proofs.Common.{◌∷◌, ◌++◌, [], sym, subst}
use Rattle.std.specs.Vec.{vec_capacity}
use Rattle.gx_offers.specs.Marks.{AreMarked}
use Rattle.gx_offers.proofs.Marked.{popped}
use Rattle.gx_offers.proofs.offers.Offers.forget_last.Goals as goal

pub invariant_of-self : goal.invariant_of-self
invariant_of-self c =
    let marks = c.self.inside.marks.items in
    let before = subst (λ ks. AreMarked ks marks (vec_capacity c.self.inside.list)) c.take_last-k.ensures.items c.self.invariant in
    let same = subst (λ n. AreMarked (c.take_last-k.new.self.items ++ c.take_last-k.result ∷ []) marks n) (sym c.take_last-k.ensures.capacity) before in
    popped c.take_last-k.new.self.items marks (vec_capacity c.take_last-k.new.self) c.take_last-k.result same
