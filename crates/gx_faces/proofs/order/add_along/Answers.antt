use Rattle.std.proofs.Common.{◌≡◌, ◌+◌, pos, List, [], ◌∷◌, ◌++◌, All, get_or, drop, vec_len, arith, eqb-true, sym, subst, ap, ◌∙◌}
use Rattle.std.proofs.lemmas.List.{drop_more, nil_from_length}
use Rattle.gx_num.specs.declared.vector.V3.{V3}
use Rattle.gx_num.specs.Space.{HalfSpace}
use Rattle.gx_faces.specs.Order.{triples_along, faces_through, after, IsListed}
use Rattle.gx_faces.proofs.Adding.{none_left, next_listed, AreLeft-after}
use Rattle.gx_faces.proofs.order.add_along.Goals as goal

abbrev origin : V3
origin = record { x = pos 0; y = pos 0; z = pos 0 }

pub returns-then-is_empty : goal.returns-then-is_empty
returns-then-is_empty c =
    let points = c.args.points.now in
    let faces = c.loop-c.faces.items in
    let missing = c.loop-c.missing.items in
    let left = triples_along c.args.a c.args.b (drop c.loop-c.c-index c.args.thirds.now) in
    let none : missing ≡ [] = nil_from_length missing (omega (arith, c.loop-c.missing.ok.0, eqb-true (vec_len c.loop-c.missing) 0 (sym c.is_empty.ensures ∙ c.if-is_empty.true))) in
    none_left faces points left
    (subst (λ (hs : List HalfSpace). All (IsListed hs faces) (faces_through points left)) none c.loop-c.invariant.listed)
    ∙ c.loop-c.invariant.rest

pub add_missing-requires-clause-all : goal.add_missing-requires-clause-all
add_missing-requires-clause-all c =
    let a = c.args.a in
    let b = c.args.b in
    let points = c.args.points.now in
    let thirds = c.args.thirds.now in
    let i = c.loop-c.c-index in
    let all = after points (triples_along a b thirds) c.args.faces.now.items in
    let now = (a, b, get_or thirds i origin) ∷ [] in
    let left = triples_along a b (drop (i + 1) thirds) in
    let split : triples_along a b (drop i thirds) ≡ now ++ left = ap (triples_along a b) (drop_more thirds i origin c.loop-c-test.true) in
    next_listed c.loop-c.missing.items points all now left (triples_along a b (drop i thirds)) c.loop-c.faces.items split c.loop-c.invariant

pub loop-c-preserved : goal.loop-c-preserved
loop-c-preserved c =
    let a = c.args.a in
    let b = c.args.b in
    let points = c.args.points.now in
    let thirds = c.args.thirds.now in
    let i = c.loop-c.c-index in
    let all = after points (triples_along a b thirds) c.args.faces.now.items in
    let now = (a, b, get_or thirds i origin) ∷ [] in
    let left = triples_along a b (drop (i + 1) thirds) in
    let split : triples_along a b (drop i thirds) ≡ now ++ left = ap (triples_along a b) (drop_more thirds i origin c.loop-c-test.true) in
    let done = c.in_ok-add_missing.ensures in
    AreLeft-after c.loop-c.missing.items points all now left (triples_along a b (drop i thirds)) c.loop-c.faces.items c.add_missing.new.missing.items c.add_missing.new.faces.items split done.added done.left c.loop-c.invariant
