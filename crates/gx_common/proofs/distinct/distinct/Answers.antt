use Rattle.std.proofs.Common.{◌≡◌, ◌+◌, Some, List, ◌∷◌, ◌++◌, map, drop, reverse, sym, ap, ◌∙◌}
use Rattle.std.specs.List.{list_any}
use Rattle.gx_num.specs.Vector4.{Vec4, lowest4}
use Rattle.gx_convex.specs.Points.{distinct_by}
use Rattle.gx_common.specs.Common.{is_same_point}
use Rattle.gx_common.proofs.Lists.{passed_over}
use Rattle.gx_common.proofs.Offered.{drop-at}
use Rattle.gx_common.proofs.distinct.distinct.Goals as goal
use Rattle.gx_common.proofs.distinct.distinct.Goals.{then-not-is_repeated+in_ok-add, else-not-is_repeated}

some_same : (x y : Vec4) → Some x ≡ Some y → x ≡ y
some_same x y e = cc

pub loop-candidate-preserved : goal.loop-candidate-preserved
loop-candidate-preserved c =
    let kept = c.loop-candidate.points.items in
    let all = c.args.candidates.now in
    let i = c.loop-candidate.candidate-index in
    let x = c.candidate-item.result in
    let later = map lowest4 (drop (i + 1) all) in
    let rest = ap (λ (ps : List Vec4). kept ++ distinct_by is_same_point (reverse kept) (map lowest4 ps)) (sym (drop-at all i x c.loop-candidate-test.true)) ∙ c.loop-candidate.invariant.all in
    let here = ap (λ (y : Vec4). kept ++ distinct_by is_same_point (reverse kept) (lowest4 y ∷ later)) c.candidate-item.is ∙ rest in
    elim c.if-not-is_repeated.branch [
      | then-not-is_repeated+in_ok-add w ↦
          let is = ap (λ v. v.items) w.points-is in
          record {
            all = ap (λ (ys : List Vec4). ys ++ distinct_by is_same_point (reverse ys) later) is ∙ w.in_ok-add.ensures.kept later ∙ ap (λ (y : Vec4). kept ++ distinct_by is_same_point (reverse kept) (y ∷ later)) w.point.ensures ∙ here;
            last = λ y e. ap (list_any (is_same_point (lowest4 y))) is ∙ ap (λ (z : Vec4). list_any (is_same_point z) w.add.new.points.items) (sym (w.point.ensures ∙ ap lowest4 (sym w.copy.ensures ∙ some_same w.copy.result y (sym w.last-is ∙ e)))) ∙ w.in_ok-add.ensures.among;
          }
      | else-not-is_repeated w ↦
          let is = ap (λ v. v.items) w.points-is in
          record {
            all = ap (λ (ys : List Vec4). ys ++ distinct_by is_same_point (reverse ys) later) is ∙ passed_over is_same_point kept (lowest4 x) later (c.loop-candidate.invariant.last x (c.is_repeated.ensures w.if-not-is_repeated.false)) ∙ here;
            last = λ y e. ap (list_any (is_same_point (lowest4 y))) is ∙ c.loop-candidate.invariant.last y (sym w.last-is ∙ e);
          }
    ]
