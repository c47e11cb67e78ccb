use Rattle.std.proofs.Common.{◌≡◌, ◌++◌, ap, refl}
use Rattle.std.proofs.lemmas.List.Elements.{All-rest}
use Rattle.gx_num.specs.Vector.{IsWithin}
use Rattle.gx_plane.specs.Plane.{reach}
use Rattle.gx_plane.specs.Between.{triples_of}
use Rattle.gx_convex.specs.Faces.{faces_of}
use Rattle.gx_faces.specs.Order.{triples_from}
use Rattle.gx_faces.proofs.Adding.{next_listed, AreLeft-after, listed_in_all}
use Rattle.gx_faces.proofs.order.in_order.Goals as goal

pub loop-a-init : goal.loop-a-init
loop-a-init c = record {
  within = c.requires.within;
  left = rw c.new-faces.ensures.items (record { listed = listed_in_all c.args.planes.items c.args.points.now c.requires.all; rest = refl });
}

pub add_of_first-requires-clause-seconds : goal.add_of_first-requires-clause-seconds
add_of_first-requires-clause-seconds c = All-rest (IsWithin reach) _ _ _ c.in-Some.ensures.cases.0 c.loop-a.invariant.within

pub add_of_first-requires-clause-all : goal.add_of_first-requires-clause-all
add_of_first-requires-clause-all c =
    let these = triples_from c.in-Some.field-0-0.now c.in-Some.seconds.now in
    let left = triples_of c.in-Some.seconds.now in
    let split : triples_of c.loop-a.firsts.now ≡ these ++ left = ap triples_of c.in-Some.ensures.cases.0 in
    next_listed c.loop-a.missing.items c.args.points.now (faces_of c.args.points.now) these left (triples_of c.loop-a.firsts.now) c.loop-a.faces.items split c.loop-a.invariant.left

pub loop-a-preserved : goal.loop-a-preserved
loop-a-preserved c =
    let these = triples_from c.in-Some.field-0-0.now c.in-Some.seconds.now in
    let left = triples_of c.in-Some.seconds.now in
    let split : triples_of c.loop-a.firsts.now ≡ these ++ left = ap triples_of c.in-Some.ensures.cases.0 in
    let done = c.in_ok-add_of_first.ensures in
    record {
      within = All-rest (IsWithin reach) _ _ _ c.in-Some.ensures.cases.0 c.loop-a.invariant.within;
      left = AreLeft-after c.loop-a.missing.items c.args.points.now (faces_of c.args.points.now) these left (triples_of c.loop-a.firsts.now) c.loop-a.faces.items c.add_of_first.new.missing.items c.add_of_first.new.faces.items split done.added done.left c.loop-a.invariant.left;
    }
