use Rattle.std.proofs.Common.{◌≡◌, [], ◌∷◌, List, ap, sym, ◌∙◌}
use Rattle.std.proofs.lemmas.List.{append-nil}
use Rattle.gx_num.specs.declared.vector.V3.{V3}
use Rattle.gx_num.specs.Vector.{IsWithin}
use Rattle.gx_plane.specs.Plane.{reach}
use Rattle.gx_plane.specs.Between.{triples_of}
use Rattle.gx_plane.proofs.TripleFacts.{All-triples_of, All-first}
use Rattle.gx_faces.specs.Order.{after}
use Rattle.gx_faces.proofs.Adding.{after-append}
use Rattle.gx_faces.proofs.find.each_face.Goals as goal

pub loop-a-init : goal.loop-a-init
loop-a-init c =
    let points = c.args.points.now in
    let all : c.into_iter-a-iterator.result ≡ triples_of points = c.into_iter-a-iterator.ensures.into_iter_gives ∙ c.new-a-items.ensures ∙ ap triples_of (append-nil points) in
    record {
      all = ap (after points c.into_iter-a-iterator.result) c.new-faces.ensures.items ∙ ap (λ (ts : List (V3 × V3 × V3)). after points ts []) all;
      within = rw all (All-triples_of (IsWithin reach) points c.requires.within);
    }

pub add_of_three-requires-clause-first : goal.add_of_three-requires-clause-first
add_of_three-requires-clause-first c = (All-first (IsWithin reach) _ _ _ _ _ c.in-Some.ensures.steps c.loop-a.invariant.within).0

pub add_of_three-requires-clause-second : goal.add_of_three-requires-clause-second
add_of_three-requires-clause-second c = (All-first (IsWithin reach) _ _ _ _ _ c.in-Some.ensures.steps c.loop-a.invariant.within).1

pub add_of_three-requires-clause-third : goal.add_of_three-requires-clause-third
add_of_three-requires-clause-third c = (All-first (IsWithin reach) _ _ _ _ _ c.in-Some.ensures.steps c.loop-a.invariant.within).2

pub loop-a-preserved : goal.loop-a-preserved
loop-a-preserved c =
    let points = c.args.points.now in
    let faces = c.loop-a.faces.items in
    record {
      all = ap (after points c.next.new.self) c.in_ok-add_of_three.ensures
          ∙ sym (after-append points ((c.in-Some.a, c.in-Some.b, c.in-Some.c) ∷ []) c.next.new.self faces)
          ∙ ap (λ (ts : List (V3 × V3 × V3)). after points ts faces) (sym c.in-Some.ensures.steps)
          ∙ c.loop-a.invariant.all;
      within = (All-first (IsWithin reach) _ _ _ _ _ c.in-Some.ensures.steps c.loop-a.invariant.within).3;
    }
