use Rattle.std.proofs.Common.{◌∙◌, [], ◌∷◌, ◌++◌, sym, true≢false}
use Rattle.std.proofs.lemmas.List.Elements.{All-contains, Contains-append_right}
use Rattle.gx_algebra.proofs.Lists.{Contains-head}
use Rattle.gx_convex.proofs.Distinct.{Decides-is_same}
use Rattle.gx_num.specs.Vector.{IsWithin}
use Rattle.gx_plane.specs.Plane.{reach}
use Rattle.gx_faces.proofs.Found.{member, within_on, left_of_edge, joined_by, some_joined, one_more}
use Rattle.gx_faces.proofs.closed.close_edge.Goals as goal
use Rattle.gx_faces.proofs.closed.close_edge.Goals.{then-is_same-via-then-is_same, then-is_same-via-else-is_same+then-not-is_edge, then-is_same-via-else-is_same+else-not-is_edge+then-is_joined}

pub is_edge-requires-clause-first : goal.is_edge-requires-clause-first
is_edge-requires-clause-first c = All-contains (IsWithin reach) c.args.points.now c.args.p c.requires.within (member c.args.face.now c.args.points.now c.args.p (rw c.requires.on at c.requires.first))

pub is_edge-requires-clause-second : goal.is_edge-requires-clause-second
is_edge-requires-clause-second c = All-contains (IsWithin reach) c.args.points.now c.args.q c.requires.within (member c.args.face.now c.args.points.now c.args.q (rw c.requires.on at c.requires.second))

pub is_edge-requires-clause-points : goal.is_edge-requires-clause-points
is_edge-requires-clause-points c = rw c.requires.on (within_on c.args.face.now c.args.points.now c.requires.within)

pub is_joined-requires-clause-first : goal.is_joined-requires-clause-first
is_joined-requires-clause-first c = All-contains (IsWithin reach) c.args.points.now c.args.p c.requires.within (member c.args.face.now c.args.points.now c.args.p (rw c.requires.on at c.requires.first))

pub is_joined-requires-clause-second : goal.is_joined-requires-clause-second
is_joined-requires-clause-second c = All-contains (IsWithin reach) c.args.points.now c.args.q c.requires.within (member c.args.face.now c.args.points.now c.args.q (rw c.requires.on at c.requires.second))

pub returns-then-is_same-clause-closed : goal.returns-then-is_same-clause-closed
returns-then-is_same-clause-closed c done edge = elim c.then-is_same.branch [
  | then-is_same-via-then-is_same w ↦ absurd (edge.apart ((Decides-is_same c.args.p c.args.q).0 (sym c.is_same.ensures ∙ w.if-is_same.true)))
  | then-is_same-via-else-is_same+then-not-is_edge w ↦ absurd (true≢false (sym (rw c.requires.on (left_of_edge c.args.points.now c.args.face.now c.args.p c.args.q edge)) ∙ sym w.is_edge.ensures ∙ w.if-not-is_edge.true))
  | then-is_same-via-else-is_same+else-not-is_edge+then-is_joined w ↦ some_joined c.args.faces.now.items c.args.face.now c.args.p c.args.q (rw w.deref.ensures.value at (sym w.is_joined.ensures ∙ w.if-is_joined.true))
]

pub neighbour-requires-clause-first : goal.neighbour-requires-clause-first
neighbour-requires-clause-first c = member c.args.face.now c.args.points.now c.args.p (rw c.requires.on at c.requires.first)

pub neighbour-requires-clause-second : goal.neighbour-requires-clause-second
neighbour-requires-clause-second c = member c.args.face.now c.args.points.now c.args.q (rw c.requires.on at c.requires.second)

pub returns-clause-closed : goal.returns-clause-closed
returns-clause-closed c done edge =
    rw c.in_ok-push.ensures.items (joined_by (c.args.faces.now.items ++ c.in-Some.other ∷ []) c.args.face.now c.args.p c.args.q c.in-Some.other (Contains-append_right c.args.faces.now.items (c.in-Some.other ∷ []) c.in-Some.other (Contains-head c.in-Some.other [])) c.in-Some.ensures.1)

pub returns-clause-more : goal.returns-clause-more
returns-clause-more c = rw c.in_ok-push.ensures.items (one_more c.args.points.now c.args.faces.now.items c.in-Some.other c.in-Some.ensures.0)
