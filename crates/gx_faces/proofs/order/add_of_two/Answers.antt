use Rattle.std.proofs.Common.{◌≡◌, List, [], All, filter, vec_len, arith, eqb-true, sym, ap, ◌∙◌, subst, not, ◌&&◌}
use Rattle.std.specs.List.{list_any}
use Rattle.std.proofs.lemmas.List.{nil_from_length}
use Rattle.gx_num.specs.Space.{HalfSpace}
use Rattle.gx_convex.specs.Faces.{is_same_plane}
use Rattle.gx_faces.specs.Steps.{is_on}
use Rattle.gx_faces.specs.Order.{triples_along, faces_through, IsListed}
use Rattle.gx_faces.proofs.Adding.{on_along, IsListed-through, none_left, all_listed, all_listed-closed}
use Rattle.gx_faces.proofs.order.add_of_two.Goals as goal

pub returns-then-is_empty-clause-added : goal.returns-then-is_empty-clause-added
returns-then-is_empty-clause-added c =
    let faces = c.args.faces.now.items in
    let points = c.args.points.now in
    let these = triples_along c.args.a c.args.b c.args.thirds.now in
    let through = c.in_ok-through.through.items in
    let none : through ≡ [] = nil_from_length through (omega (arith, c.in_ok-through.through.ok.0, eqb-true (vec_len c.in_ok-through.through) 0 (sym c.is_empty.ensures ∙ c.if-is_empty.true))) in
    let is : filter (λ h. is_on h c.args.b) c.args.missing.now.items ≡ [] = sym (c.in_ok-through.ensures ∙ ap (filter (λ h. is_on h c.args.b)) c.deref.ensures.value) ∙ none in
    none_left faces points these
    (subst (λ (hs : List HalfSpace). All (IsListed hs faces) (faces_through points these)) is
    (IsListed-through c.args.missing.now.items faces points c.args.b these (on_along c.args.a c.args.b c.args.thirds.now) c.requires.all))

pub returns-then-is_empty-clause-left : goal.returns-then-is_empty-clause-left
returns-then-is_empty-clause-left c = all_listed c.args.missing.now.items c.args.faces.now.items

pub add_along-requires-clause-all : goal.add_along-requires-clause-all
add_along-requires-clause-all c =
    let faces = c.args.faces.now.items in
    let points = c.args.points.now in
    let these = triples_along c.args.a c.args.b c.args.thirds.now in
    subst (λ (hs : List HalfSpace). All (IsListed hs faces) (faces_through points these)) (sym (c.in_ok-through.ensures ∙ ap (filter (λ h. is_on h c.args.b)) c.deref.ensures.value))
    (IsListed-through c.args.missing.now.items faces points c.args.b these (on_along c.args.a c.args.b c.args.thirds.now) c.requires.all)

pub returns-clause-left : goal.returns-clause-left
returns-clause-left c =
    let missing = c.args.missing.now.items in
    let faces = c.add_along.new.faces.items in
    subst (λ (hs : List HalfSpace). All (IsListed hs faces) missing)
    (sym (c.drop_found.ensures ∙ ap (λ (fs : List HalfSpace). filter (λ h. not (is_on h c.args.b && list_any (is_same_plane h) fs)) missing) c.deref-2.ensures.value))
    (all_listed-closed missing faces c.args.b)
