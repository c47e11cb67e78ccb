use Rattle.std.proofs.Common.{◌≡◌, ◌≤◌, ◌*◌, ◌+◌, ℤ, List, [], ◌∷◌, ◌++◌, drop, map, unsigned_abs, sym, ap, ◌∙◌}
use Rattle.std.proofs.lemmas.List.{append_assoc}
use Rattle.std.proofs.lemmas.List.Elements.{All-same, All-push}
use Rattle.gx_num.specs.Space.{HalfSpace}
use Rattle.gx_plane.specs.Plane.{offset_reach, side_of}
use Rattle.gx_common.proofs.Levels.{by_value}
use Rattle.gx_common.proofs.Offered.{drop-at}
use Rattle.gx_common.proofs.vertex.sides.Goals as goal

pub loop-face-preserved : goal.loop-face-preserved
loop-face-preserved c =
    let kept = c.loop-face.sides.items in
    let faces = c.args.faces.now in
    let p = c.args.point in
    let i = c.loop-face.face-index in
    let pushed : c.push.new.self.items ≡ kept ++ c.side.result ∷ [] = c.in_ok-push.ensures.items ∙ ap (λ (z : ℤ). kept ++ z ∷ []) (by_value c.side.result c.side.ensures.within) in
    let later = map (λ (h : HalfSpace). side_of h p) (drop (i + 1) faces) in
    record {
      all = ap (λ (ys : List ℤ). ys ++ later) pushed ∙ append_assoc kept (c.side.result ∷ []) later
          ∙ ap (λ (z : ℤ). kept ++ z ∷ later) (c.side.ensures.value ∙ ap (λ (h : HalfSpace). side_of h p) c.face-item.is)
          ∙ ap (λ (hs : List HalfSpace). kept ++ map (λ (h : HalfSpace). side_of h p) hs) (sym (drop-at faces i c.face-item.result c.loop-face-test.true)) ∙ c.loop-face.invariant.all;
      within = All-same (λ z. unsigned_abs z ≤ 2 * offset_reach) c.push.new.self.items (kept ++ c.side.result ∷ []) pushed
          (All-push (λ z. unsigned_abs z ≤ 2 * offset_reach) kept c.side.result c.loop-face.invariant.within c.side.ensures.within);
    }
