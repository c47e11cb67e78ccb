use Rattle.std.proofs.Common.{◌≡◌, ◌+◌, List, ◌++◌, length, drop, reverse, sym, ap, ◌∙◌, arith}
use Rattle.std.proofs.Math.ListN.{drop_of_length-le}
use Rattle.std.proofs.lemmas.List.{length_push, append-nil}
use Rattle.std.proofs.lemmas.List.Elements.{All-same}
use Rattle.gx_num.specs.declared.vector.V3.{V3}
use Rattle.gx_num.specs.Vector.{is_same, IsWithin}
use Rattle.gx_plane.specs.Plane.{reach}
use Rattle.gx_convex.specs.Points.{distinct_by, distinct}
use Rattle.gx_convex.proofs.Distinct.{All-distinct}
use Rattle.gx_hull.proofs.HullFacts.{hull_of-too_many}
use Rattle.gx_hull.proofs.Loops.{drop-at, first_time, passed_over, kept_now}
use Rattle.gx_hull.proofs.points.distinct.Goals as goal
use Rattle.gx_hull.proofs.points.distinct.Goals.{then-not-is_among+else-len-eq-MAX_VERTICES+in_ok-push, else-not-is_among}

pub loop-p-preserved : goal.loop-p-preserved
loop-p-preserved c =
    let kept = c.loop-p.kept.items in
    let points = c.args.points.now in
    let i = c.loop-p.p-index in
    let rest = ap (λ (ps : List V3). kept ++ distinct_by is_same (reverse kept) ps) (sym (drop-at points i _ c.loop-p-test.true)) ∙ c.loop-p.invariant.all in
    elim c.if-not-is_among.branch [
      | then-not-is_among+else-len-eq-MAX_VERTICES+in_ok-push w ↦ record {
        all = kept_now is_same kept c.if-not-is_among.kept.items _ (drop (i + 1) points) (ap (λ v. v.items) w.kept-is ∙ w.in_ok-push.ensures.items) (rw c.deref.ensures.value at (sym c.is_among.ensures ∙ w.if-not-is_among.true)) ∙ rest;
        few = omega (arith, ap (λ v. length v.items) w.kept-is, ap length w.in_ok-push.ensures.items, length_push {X = V3}, c.loop-p.kept.ok.0);
      }
      | else-not-is_among w ↦ record {
        all = passed_over is_same kept c.if-not-is_among.kept.items _ (drop (i + 1) points) (ap (λ v. v.items) w.kept-is) (rw c.deref.ensures.value at (sym c.is_among.ensures ∙ w.if-not-is_among.false)) ∙ rest;
        few = omega (arith, ap (λ v. length v.items) w.kept-is);
      }
    ]

pub returns-then-len-eq-MAX_VERTICES-clause-err : goal.returns-then-len-eq-MAX_VERTICES-clause-err
returns-then-len-eq-MAX_VERTICES-clause-err c =
    let kept = c.loop-p.kept.items in
    let points = c.args.points.now in
    let i = c.loop-p.p-index in
    hull_of-too_many points kept _ (distinct_by is_same _ (drop (i + 1) points)) (omega arith)
    (ap (λ (ps : List V3). kept ++ ps) (sym (ap (distinct_by is_same (reverse kept)) (drop-at points i _ c.loop-p-test.true) ∙ first_time is_same kept _ (drop (i + 1) points) (rw c.deref.ensures.value at (sym c.is_among.ensures ∙ c.if-not-is_among.true))))
    ∙ c.loop-p.invariant.all)

pub returns-clause-within : goal.returns-clause-within
returns-clause-within c =
    let kept = c.loop-p.kept.items in
    let points = c.args.points.now in
    let all : kept ≡ distinct points = sym (ap (λ (ps : List V3). kept ++ distinct_by is_same (reverse kept) ps) (drop_of_length-le points c.loop-p-test.false) ∙ append-nil kept) ∙ c.loop-p.invariant.all in
    All-same (IsWithin reach) kept (distinct points) all (All-distinct (IsWithin reach) points c.requires)
