use Rattle.std.proofs.Common.{Bool, true, false, ap, ap₂, sym, refl, ◌≡◌, ◌∙◌, ◌&&◌}
use Rattle.gx_plane.proofs.Determinants.{found, refuted}
use Rattle.gx_num.specs.declared.vector.V3.{V3}
use Rattle.gx_num.specs.Vector.{opposite_of}
use Rattle.gx_plane.specs.Plane.{supports, flipped, plane_with}
use Rattle.gx_plane.proofs.between.first_of_three.Goals as goal
use Rattle.gx_plane.proofs.between.first_of_three.Goals.{After-with_others-between}

pub returns-then-are_refuted : goal.returns-then-are_refuted
returns-then-are_refuted c =
    let h = c.through-plane.result in
    let on_a = c.senses-on_a.ensures in
    let none = refuted c.senses-on_a.result.forward c.senses-on_a.result.backward (sym c.are_refuted.ensures ∙ c.if-are_refuted.true) in
    found c.args.a.now c.args.b.now c.args.p c.args.q c.args.r h false false c.through-plane.ensures
    (ap (λ (s : Bool). s && supports (flipped h) c.args.b.now) (sym on_a.forward ∙ none.0)) (ap (λ (s : Bool). s && supports h c.args.b.now) (sym on_a.backward ∙ none.1))

-- the senses in which it is between
first : (c : After-with_others-between) (s : Bool) → c.with_others-between.result.forward ≡ s → (supports c.through-plane.result c.args.a.now && supports (flipped c.through-plane.result) c.args.b.now) ≡ s
first c s e = sym (ap₂ (λ (s t : Bool). s && t) c.senses-on_a.ensures.forward c.senses.ensures.backward) ∙ sym c.with_others-between.ensures.forward ∙ e

second : (c : After-with_others-between) (s : Bool) → c.with_others-between.result.backward ≡ s → (supports (flipped c.through-plane.result) c.args.a.now && supports c.through-plane.result c.args.b.now) ≡ s
second c s e = sym (ap₂ (λ (s t : Bool). s && t) c.senses-on_a.ensures.backward c.senses.ensures.forward) ∙ sym c.with_others-between.ensures.backward ∙ e

pub returns-then-between : goal.returns-then-between
returns-then-between c =
    let d = (goal.at.returns-then-between c).After-with_others-between in
    c.with_normal.ensures ∙ ap (λ (n : V3). plane_with n c.args.p) c.n.ensures
    ∙ found c.args.a.now c.args.b.now c.args.p c.args.q c.args.r c.through-plane.result true c.with_others-between.result.backward c.through-plane.ensures (first d true c.if-between.true) (second d _ refl)

pub returns-then-between-2 : goal.returns-then-between-2
returns-then-between-2 c =
    let d = (goal.at.returns-then-between-2 c).After-with_others-between in
    c.with_normal-then-between-2.ensures ∙ ap (λ (n : V3). plane_with n c.args.p) (c.opposite.ensures.value ∙ ap opposite_of c.n-then-between-2.ensures)
    ∙ found c.args.a.now c.args.b.now c.args.p c.args.q c.args.r c.through-plane.result false true c.through-plane.ensures (first d false c.if-between.false) (second d true c.if-between-2.true)

pub returns : goal.returns
returns c =
    let d = (goal.at.returns c).After-with_others-between in
    found c.args.a.now c.args.b.now c.args.p c.args.q c.args.r c.through-plane.result false false c.through-plane.ensures (first d false c.if-between.false) (second d false c.if-between-2.false)
