use Rattle.std.proofs.Common.{◌∷◌, ◌-◌, ◌*◌, arith, drop, length, sym, subst, take_all}
use Rattle.std.proofs.lemmas.List.{length-drop}
use Rattle.gx_boxes.specs.Tree.{AreTree, HasPassed}
use Rattle.gx_boxes.specs.declared.part.Part.TheVariants.{One}
use Rattle.gx_boxes.proofs.Trees.{passed-missed, passed-offered, passed-into, passed-over}
use Rattle.gx_boxes.proofs.tree.pass.Goals as goal

pub returns-then-not-misses-clause-passed : goal.returns-then-not-misses-clause-passed
returns-then-not-misses-clause-passed c =
    let ray = c.args.ray.now in let below = c.args.below.now in let o = c.args.offers.now in let b = c.in-One.boxed in
    subst (λ p. HasPassed ray (p ∷ below) below o c.offer.new.self) (sym c.in-One.is)
    (subst (HasPassed ray (One b ∷ below) below o) (sym c.offer.ensures) (passed-offered ray o b below (subst (λ p. AreTree (p ∷ below)) c.in-One.is c.requires.tree)))

pub returns-else-not-misses-clause-passed : goal.returns-else-not-misses-clause-passed
returns-else-not-misses-clause-passed c =
    let ray = c.args.ray.now in let below = c.args.below.now in let o = c.args.offers.now in let b = c.in-One.boxed in
    subst (λ p. HasPassed ray (p ∷ below) below o o) (sym c.in-One.is)
    (passed-missed ray o b below (c.misses.ensures c.if-not-misses.false) (subst (λ p. AreTree (p ∷ below)) c.in-One.is c.requires.tree))

pub returns-then-misses-clause-passed : goal.returns-then-misses-clause-passed
returns-then-misses-clause-passed c =
    let ray = c.args.ray.now in let below = c.args.below.now in let o = c.args.offers.now in let k = 2 * (c.in-Many.boxes - 1) in
    let whole = take_all (length below - k) (drop k below) (omega (arith, length-drop k below)) in
    subst (λ l. HasPassed ray (c.args.part.now ∷ below) l o o) (sym whole)
    (subst (λ p. HasPassed ray (p ∷ below) (drop k below) o o) (sym c.in-Many.is)
    (passed-over ray o c.in-Many.bounds c.in-Many.boxes below (c.misses-in-Many.ensures c.if-misses.true) (subst (λ p. AreTree (p ∷ below)) c.in-Many.is c.requires.tree)))

pub returns-else-misses-clause-passed : goal.returns-else-misses-clause-passed
returns-else-misses-clause-passed c =
    let ray = c.args.ray.now in let below = c.args.below.now in let o = c.args.offers.now in
    subst (λ p. HasPassed ray (p ∷ below) below o o) (sym c.in-Many.is)
    (passed-into ray o c.in-Many.bounds c.in-Many.boxes below (subst (λ p. AreTree (p ∷ below)) c.in-Many.is c.requires.tree))
