use Rattle.std.proofs.Common.{◌≡◌, List, [], All, filter, vec_len, arith, eqb-true, sym, ap, ◌∙◌, subst, not, ◌&&◌}
use Rattle.std.specs.List.{list_any}
use Rattle.std.proofs.lemmas.List.{nil_from_length}
use Rattle.gx_num.specs.Space.{HalfSpace}
use Rattle.gx_convex.specs.Faces.{is_same_plane}
use Rattle.gx_faces.specs.Steps.{is_on}
use Rattle.gx_faces.specs.Order.{triples_from, faces_through, IsListed}
use Rattle.gx_faces.proofs.Adding.{on_from, IsListed-through, none_left, all_listed, all_listed-closed}
use Rattle.gx_faces.proofs.order.add_of_first.Goals as goal

pub returns-then-is_empty-clause-added : goal.returns-then-is_empty-clause-added
returns-then-is_empty-clause-added c =
    let faces = c.args.faces.now.items in
    let points = c.args.points.now in
    let these = triples_from c.args.a c.args.seconds.now in
    let through = c.in_ok-through.through.items in
    let none : through ≡ [] = nil_from_length through (omega (arith, c.in_ok-through.through.ok.0, eqb-true (vec_len c.in_ok-through.through) 0 (sym c.is_empty.ensures ∙ c.if-is_empty.true))) in
    let is : filter (λ h. is_on h c.args.a) c.args.missing.now.items ≡ [] = sym (c.in_ok-through.ensures ∙ ap (filter (λ h. is_on h c.args.a)) c.deref.ensures.value) ∙ none in
    none_left faces points these
    (subst (λ (hs : List HalfSpace). All (IsListed hs faces) (faces_through points these)) is
    (IsListed-through c.args.missing.now.items faces points c.args.a these (on_from c.args.a c.args.seconds.now) c.requires.all))

pub returns-then-is_empty-clause-left : goal.returns-then-is_empty-clause-left
returns-then-is_empty-clause-left c = all_listed c.args.missing.now.items c.args.faces.now.items

pub add_from-requires-clause-all : goal.add_from-requires-clause-all
add_from-requires-clause-all c =
    let faces = c.args.faces.now.items in
    let points = c.args.points.now in
    let these = triples_from c.args.a c.args.seconds.now in
    subst (λ (hs : List HalfSpace). All (IsListed hs faces) (faces_through points these)) (sym (c.in_ok-through.ensures ∙ ap (filter (λ h. is_on h c.args.a)) c.deref.ensures.value))
    (IsListed-through c.args.missing.now.items faces points c.args.a these (on_from c.args.a c.args.seconds.now) c.requires.all)

pub returns-clause-left : goal.returns-clause-left
returns-clause-left c =
    let missing = c.args.missing.now.items in
    let faces = c.add_from.new.faces.items in
    subst (λ (hs : List HalfSpace). All (IsListed hs faces) missing)
    (sym (c.drop_found.ensures ∙ ap (λ (fs : List HalfSpace). filter (λ h. not (is_on h c.args.a && list_any (is_same_plane h) fs)) missing) c.deref-2.ensures.value))
    (all_listed-closed missing faces c.args.a)
