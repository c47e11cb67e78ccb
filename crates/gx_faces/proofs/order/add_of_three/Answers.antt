use Rattle.std.proofs.Common.{◌≡◌, Option, Some, None, [], ◌∷◌, ◌++◌, sym, ◌∙◌}
use Rattle.std.specs.List.{cons_option}
use Rattle.std.proofs.lemmas.List.{append-nil}
use Rattle.gx_num.specs.Space.{HalfSpace}
use Rattle.gx_convex.specs.Faces.{is_same_plane}
use Rattle.gx_faces.specs.Order.{after}
use Rattle.gx_faces.proofs.Adding.{kept_with, kept_with-old, kept_with-new, after-one}
use Rattle.gx_faces.proofs.order.add_of_three.Goals as goal
use Rattle.gx_faces.proofs.order.add_of_three.Goals.{After-supporting}

-- what the three points add
adds : (c : After-supporting) (o : Option HalfSpace) → c.supporting.result ≡ o → after c.args.points.now ((c.args.a, c.args.b, c.args.c) ∷ []) c.args.faces.now.items ≡ kept_with is_same_plane c.args.faces.now.items (cons_option o [])
adds c o e = after-one c.args.points.now c.requires.solid c.args.a c.args.b c.args.c o c.args.faces.now.items (sym e ∙ c.supporting.ensures)

pub returns-in_ok-push : goal.returns-in_ok-push
returns-in_ok-push c =
    let faces = c.args.faces.now.items in
    let new = rw c.deref.ensures.value at (sym c.is_among.ensures ∙ c.if-not-is_among.true) in
    c.in_ok-push.ensures.items
    ∙ sym (adds (goal.at.returns-in_ok-push c).After-supporting (Some c.in-Some.face) c.in-Some.is
    ∙ kept_with-new is_same_plane faces c.in-Some.face [] new ∙ append-nil (faces ++ c.in-Some.face ∷ []))

pub returns-else-not-is_among : goal.returns-else-not-is_among
returns-else-not-is_among c =
    let faces = c.args.faces.now.items in
    let old = rw c.deref.ensures.value at (sym c.is_among.ensures ∙ c.if-not-is_among.false) in
    sym (adds (goal.at.returns-else-not-is_among c).After-supporting (Some c.in-Some.face) c.in-Some.is
    ∙ kept_with-old is_same_plane faces c.in-Some.face [] old ∙ append-nil faces)

pub returns-in_default : goal.returns-in_default
returns-in_default c =
    sym (adds (goal.at.returns-in_default c).After-supporting None c.in_default.is ∙ append-nil c.args.faces.now.items)
