use Rattle.std.proofs.Common.{◌≡◌, ◌++◌, List, [], All, vec_len, arith, eqb-true, sym, ap, ◌∙◌, subst}
use Rattle.std.proofs.lemmas.List.{nil_from_length}
use Rattle.std.proofs.lemmas.List.Elements.{All-rest}
use Rattle.gx_num.specs.Space.{HalfSpace}
use Rattle.gx_num.specs.Vector.{IsWithin}
use Rattle.gx_plane.specs.Plane.{reach}
use Rattle.gx_faces.specs.Order.{triples_along, triples_from, faces_through, after, IsListed}
use Rattle.gx_faces.proofs.Adding.{next_listed, triples_from-cons, none_left, AreLeft-after}
use Rattle.gx_faces.proofs.order.add_from.Goals as goal

pub add_of_two-requires-clause-all : goal.add_of_two-requires-clause-all
add_of_two-requires-clause-all c =
    let a = c.args.a in
    let these = triples_along a c.in-Some.field-0-0.now c.in-Some.thirds.now in
    let left = triples_from a c.in-Some.thirds.now in
    let points = c.args.points.now in
    let all = after points (triples_from a c.args.seconds.now) c.args.faces.now.items in
    let split : triples_from a c.loop-b.rest.now ≡ these ++ left = ap (triples_from a) c.in-Some.ensures.cases.0 ∙ triples_from-cons a c.in-Some.field-0-0.now c.in-Some.thirds.now in
    next_listed c.loop-b.missing.items points all these left (triples_from a c.loop-b.rest.now) c.loop-b.faces.items split c.loop-b.invariant.left

pub returns-then-is_empty : goal.returns-then-is_empty
returns-then-is_empty c =
    let a = c.args.a in
    let points = c.args.points.now in
    let faces = c.loop-b.faces.items in
    let missing = c.loop-b.missing.items in
    let none : missing ≡ [] = nil_from_length missing (omega (arith, c.loop-b.missing.ok.0, eqb-true (vec_len c.loop-b.missing) 0 (sym c.is_empty.ensures ∙ c.if-is_empty.true))) in
    none_left faces points (triples_from a c.loop-b.rest.now)
    (subst (λ (hs : List HalfSpace). All (IsListed hs faces) (faces_through points (triples_from a c.loop-b.rest.now))) none c.loop-b.invariant.left.listed)
    ∙ c.loop-b.invariant.left.rest

pub loop-b-preserved : goal.loop-b-preserved
loop-b-preserved c =
    let a = c.args.a in
    let these = triples_along a c.in-Some.field-0-0.now c.in-Some.thirds.now in
    let left = triples_from a c.in-Some.thirds.now in
    let points = c.args.points.now in
    let all = after points (triples_from a c.args.seconds.now) c.args.faces.now.items in
    let split : triples_from a c.loop-b.rest.now ≡ these ++ left = ap (triples_from a) c.in-Some.ensures.cases.0 ∙ triples_from-cons a c.in-Some.field-0-0.now c.in-Some.thirds.now in
    let done = c.in_ok-add_of_two.ensures in
    record {
      within = All-rest (IsWithin reach) _ _ _ c.in-Some.ensures.cases.0 c.loop-b.invariant.within;
      left = AreLeft-after c.loop-b.missing.items points all these left (triples_from a c.loop-b.rest.now) c.loop-b.faces.items c.add_of_two.new.missing.items c.add_of_two.new.faces.items split done.added done.left c.loop-b.invariant.left;
    }
