use Rattle.std.proofs.Common.{◌≡◌, sym, ap, ◌∙◌, subst, length, nat_lt, true, false, cond, None, take, take_all}
use Rattle.std.proofs.lemmas.Bool.{lt-ltb, le-ltb}
use Rattle.gx_voxel.specs.Members.{extent_at}
use Rattle.gx_voxel.specs.Cut.{cut_of, best_of}
use Rattle.gx_refine.specs.Best.{IsBest, candidates}
use Rattle.gx_refine.proofs.Better.{best-is, best-next}
use Rattle.gx_refine.proofs.best.cut.Goals as goal

pub returns-then-members-lt4 : goal.returns-then-members-lt4
unfolding cut_of
returns-then-members-lt4 c =
    let few : nat_lt (length c.args.members.now) 4 ≡ true = lt-ltb _ _ c.if-members-lt4.true in
    ap (λ b. cond b None (best_of (candidates (extent_at c.args.extents.now) c.args.members.now c.args.axes.now))) (sym few)

pub loop-axis-preserved : goal.loop-axis-preserved
loop-axis-preserved c =
    best-next (extent_at c.args.extents.now) c.args.members.now c.args.axes.now c.loop-axis.axis-index c.loop-axis-test.true c.loop-axis.best c.best_with-best.result c.in_ok-cut.cut c.loop-axis.invariant c.in_ok-cut.ensures c.best_with-best.ensures

pub returns : goal.returns
unfolding cut_of
returns c =
    let at = extent_at c.args.extents.now in let ks = c.args.members.now in let axes = c.args.axes.now in
    let many : nat_lt (length ks) 4 ≡ false = le-ltb _ _ c.if-members-lt4.false in
    let whole : take c.loop-axis.axis-index axes ≡ axes = take_all c.loop-axis.axis-index axes c.loop-axis-test.false in
    best-is (candidates at ks axes) c.loop-axis.best (subst (λ l. IsBest (candidates at ks l) c.loop-axis.best) whole c.loop-axis.invariant)
    ∙ ap (λ b. cond b None (best_of (candidates at ks axes))) (sym many)
