use Rattle.std.proofs.Common.{◌∙◌, ◌&&◌, not, List, All, filter, sym, ap, subst}
use Rattle.std.specs.List.{list_any}
use Rattle.gx_num.specs.Space.{HalfSpace}
use Rattle.gx_convex.specs.Faces.{is_same_plane}
use Rattle.gx_faces.specs.Steps.{is_on}
use Rattle.gx_faces.specs.Order.{IsListed}
use Rattle.gx_faces.proofs.Adding.{none_missed, all_listed, all_listed-closed}
use Rattle.gx_faces.proofs.order.add_missing.Goals as goal

pub returns-then-not-is_any_on-clause-added : goal.returns-then-not-is_any_on-clause-added
returns-then-not-is_any_on-clause-added c =
    none_missed c.args.missing.now.items c.args.faces.now.items c.args.points.now c.args.a c.args.b c.args.c c.requires.all
    (rw c.deref.ensures.value at (sym c.is_any_on.ensures ∙ c.if-not-is_any_on.true))

pub returns-then-not-is_any_on-clause-left : goal.returns-then-not-is_any_on-clause-left
returns-then-not-is_any_on-clause-left c = all_listed c.args.missing.now.items c.args.faces.now.items

pub returns-clause-left : goal.returns-clause-left
returns-clause-left c =
    let missing = c.args.missing.now.items in
    let faces = c.add_of_three.new.faces.items in
    subst (λ (hs : List HalfSpace). All (IsListed hs faces) missing)
    (sym (c.drop_found.ensures ∙ ap (λ (fs : List HalfSpace). filter (λ h. not (is_on h c.args.c && list_any (is_same_plane h) fs)) missing) c.deref-2.ensures.value))
    (all_listed-closed missing faces c.args.c)
