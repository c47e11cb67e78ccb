use Rattle.std.proofs.Common.{◌≡◌, ◌<◌, ◌-◌, ◌++◌, ◌∷◌, [], ℕ, List, rules, arith, sym, subst, ap, ◌∙◌, not}
use Rattle.std.specs.Prelude.{◌==◌}
use Rattle.std.specs.List.{All}
use Rattle.std.proofs.lemmas.List.Elements.{All-filter}
use Rattle.gx_voxel.specs.Members.{extent_at}
use Rattle.gx_voxel.specs.Cells.{without}
use Rattle.gx_voxel.specs.Proxy.{Alike, IsNode, IsRun, StandsWithin}
use Rattle.gx_voxel.specs.declared.proxy.Proxy.{Proxy}
use Rattle.gx_voxel.proofs.Elements.{all-one}
use Rattle.gx_voxel.proofs.Grown.{turn-runs}
use Rattle.gx_refine.specs.Known.{AreKnown}
use Rattle.gx_refine.proofs.Trees.{if_ok-map, known-cut, part-at, stands-last, stands-node, stands-cut, part-none, part-more, part-all}
use Rattle.gx_refine.proofs.tree.+refine.Goals as goal

pub returns-then-cuts-eq0 : goal.returns-then-cuts-eq0
returns-then-cuts-eq0 t c =
    let at = extent_at c.args.extents.now in let ks = c.args.members.now in let axes = c.args.axes.now in
    if_ok-map (λ p. IsNode at p ks) (λ p. StandsWithin at c.args.cuts p ks axes) c.node.result (λ p h. subst (λ n. StandsWithin at n p ks axes) (sym c.if-cuts-eq0.true) (stands-last at ks axes p h)) c.node.ensures

pub returns-in_default : goal.returns-in_default
returns-in_default t c =
    let at = extent_at c.args.extents.now in let ks = c.args.members.now in let axes = c.args.axes.now in
    if_ok-map (λ p. IsNode at p ks) (λ p. StandsWithin at c.args.cuts p ks axes) c.node-in_default.result (λ p h. stands-node at ks axes p c.args.cuts (sym c.in_ok-cut.ensures ∙ c.in_default.is) h) c.node-in_default.ensures

pub loop-part-init : goal.loop-part-init
loop-part-init t c = part-none (λ q ks. StandsWithin (extent_at c.args.extents.now) (c.args.cuts - 1) q ks c.in_ok-left.left.items) c.new-runs.result.items c.deref-part-items.result.now c.new-runs.ensures.items

pub refine-requires : goal.refine-requires
refine-requires t c =
    let known = known-cut c.args.extents.now c.args.members.now c.args.axes.now c.requires.known c.in-Some.cut (sym c.in_ok-cut.ensures ∙ c.in-Some.is) in
    let items = c.deref-part-items.ensures.value ∙ ap (λ x. x.runs) c.cut-2.view_is in
    let part = part-at c.args.extents.now c.args.axes.now c.in-Some.cut known c.deref-part-items.result.now c.loop-part.part-index c.part-item.result items c.loop-part-test.true c.part-item.is in (
      omega arith,
      (
        subst (AreKnown c.args.extents.now) (sym (c.deref.ensures.value ∙ ap (λ x. x.members) c.part.view_is)) part.members,
        subst (All (λ a. a < 3)) (sym (c.deref-in-loop-part.ensures.value ∙ c.in_ok-left.ensures)) (All-filter (λ a. not (a == c.cut-2.inside.axis)) (λ a. a < 3) c.args.axes.now c.requires.axes),
      ),
    )

pub run_with-requires : goal.run_with-requires
run_with-requires t c =
    let known = known-cut c.args.extents.now c.args.members.now c.args.axes.now c.requires.known c.in-Some.cut (sym c.in_ok-cut.ensures ∙ c.in-Some.is) in
    let items = c.deref-part-items.ensures.value ∙ ap (λ x. x.runs) c.cut-2.view_is in
    let part = part-at c.args.extents.now c.args.axes.now c.in-Some.cut known c.deref-part-items.result.now c.loop-part.part-index c.part-item.result items c.loop-part-test.true c.part-item.is in
    record { slices = part.slices; bounds = part.bounds }

pub loop-part-preserved : goal.loop-part-preserved
loop-part-preserved t c =
    let at = extent_at c.args.extents.now in
    let pushed : c.push.new.self.items ≡ c.loop-part.runs.items ++ c.run_with.result ∷ [] = search rules in
    part-more (λ q ks. StandsWithin at (c.args.cuts - 1) q ks c.in_ok-left.left.items) c.loop-part.runs.items c.push.new.self.items c.deref-part-items.result.now c.loop-part.part-index c.run_with.result c.part-item.result
    c.in_ok-proxy.proxy c.deref.result.now c.loop-part-test.true c.loop-part.invariant pushed c.part-item.is c.run_with.ensures
    (subst (λ l. StandsWithin at (c.args.cuts - 1) c.in_ok-proxy.proxy c.deref.result.now l) c.deref-in-loop-part.ensures.value c.in_ok-proxy.ensures)
    (c.deref.ensures.value ∙ ap (λ x. x.members) c.part.view_is)

pub header-requires-clause-axis : goal.header-requires-clause-axis
header-requires-clause-axis t c =
    let known = known-cut c.args.extents.now c.args.members.now c.args.axes.now c.requires.known c.in-Some.cut (sym c.in_ok-cut.ensures ∙ c.in-Some.is) in
    subst (λ a. a < 3) (sym (ap (λ x. x.axis) c.cut-2.view_is)) (all-one (λ a. a < 3) c.args.axes.now c.in-Some.cut.axis c.requires.axes known.axis)

pub header-requires-clause-runs : goal.header-requires-clause-runs
header-requires-clause-runs t c =
    let known = known-cut c.args.extents.now c.args.members.now c.args.axes.now c.requires.known c.in-Some.cut (sym c.in_ok-cut.ensures ∙ c.in-Some.is) in
    let Q : Proxy → List ℕ → Type 0 = λ q ks. StandsWithin (extent_at c.args.extents.now) (c.args.cuts - 1) q ks c.in_ok-left.left.items in
    turn-runs known.grid (AreKnown c.args.extents.now) Q known.grid.count c.loop-part.runs.items c.in-Some.cut.runs known.some known.few
    (part-all Q c.loop-part.runs.items c.deref-part-items.result.now c.loop-part.part-index c.in-Some.cut c.loop-part-test.false (c.deref-part-items.ensures.value ∙ ap (λ x. x.runs) c.cut-2.view_is) c.loop-part.invariant) known.turn

pub returns : goal.returns
returns t c =
    let at = extent_at c.args.extents.now in let ks = c.args.members.now in let axes = c.args.axes.now in let n = c.args.cuts in let cut = c.in-Some.cut in
    let Q : List ℕ → Proxy → List ℕ → Type 0 = λ left q ks. StandsWithin at (n - 1) q ks left in
    let axis : c.cut-2.inside.axis ≡ cut.axis = ap (λ x. x.axis) c.cut-2.view_is in
    let all : Alike (IsRun (Q (without cut.axis axes))) c.loop-part.runs.items cut.runs =
    subst (λ left. Alike (IsRun (Q left)) c.loop-part.runs.items cut.runs) (c.in_ok-left.ensures ∙ ap (λ a. without a axes) axis)
    (part-all (Q c.in_ok-left.left.items) c.loop-part.runs.items c.deref-part-items.result.now c.loop-part.part-index cut c.loop-part-test.false (c.deref-part-items.ensures.value ∙ ap (λ x. x.runs) c.cut-2.view_is) c.loop-part.invariant) in
    if_ok-map _ (λ p. StandsWithin at n p ks axes) c.header.result
    (λ p h. stands-cut at ks axes p n (n - 1) cut h.0 (omega (arith, c.if-cuts-eq0.false)) (sym c.in_ok-cut.ensures ∙ c.in-Some.is) h.1 (h.2 ∙ axis) (subst (λ l. Alike (IsRun (Q (without cut.axis axes))) l cut.runs) (sym h.3) all))
    c.header.ensures
