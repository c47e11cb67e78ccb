use Rattle.std.proofs.Common.{◌≡◌, ◌∙◌, List, length, get_or, ap, subst, arith}
use Rattle.gx_sealed.specs.declared.placed.Daughter.{Daughter}
use Rattle.gx_sealed.specs.Placed.{daughters_of, all_daughters}
use Rattle.gx_sealed.specs.Sealed.{IsSealed}
use Rattle.gx_sealed.proofs.Tables.{length-daughters_of, length-all, items_at, daughter_at}
use Rattle.gx_sealed.proofs.sealed.Sealed.daughter.Goals as goal
use Rattle.gx_sealed.proofs.sealed.Sealed.daughter.Goals.{After-index}

pub index-requires : goal.index-requires
index-requires c =
    let all = c.self.invariant.1 ∙ ap all_daughters c.self.view_is in
    omega (arith, length-all (λ d. d.items) c.self.inside.daughters.items c.args.self.now all, c.requires.mother)

items_are : (c : After-index) → c.index.result.now.items ≡ daughters_of c.args.self.now c.args.mother
items_are c =
    let all = c.self.invariant.1 ∙ ap all_daughters c.self.view_is in
    items_at (λ d. d.items) c.self.inside.daughters.items c.args.self.now all c.args.mother c.index.result.now c.requires.mother c.index.ensures

pub index-requires-2 : goal.index-requires-2
index-requires-2 c = omega (arith, length-daughters_of c.args.self.now c.args.mother, ap length (items_are c), c.requires.ordinal)

pub returns-clause-daughter : goal.returns-clause-daughter
returns-clause-daughter c =
    let d = c.index-2.result.now in
    let items = items_are (goal.at.returns-clause-daughter c).After-index in
    daughter_at c.args.self.now (subst IsSealed c.self.view_is c.self.invariant.0).tree c.args.mother c.args.k d c.requires.ordinal (c.index-2.ensures ∙ ap (λ (l : List Daughter). get_or l c.args.k d) items)
