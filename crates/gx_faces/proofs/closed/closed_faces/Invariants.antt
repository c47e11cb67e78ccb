use Rattle.std.proofs.Common.{◌<◌, ◌≤◌, All, Contains, length, take}
use Rattle.gx_convex.specs.Faces.{faces_of}
use Rattle.gx_faces.specs.Closed.{IsClosedAt}
use Rattle.gx_faces.proofs.closed.closed_faces.Given as goal

abbrev pub invariant-loop-i : goal.invariant-loop-i
invariant-loop-i l = record {
  bound : l.i ≤ length l.faces.items;
  some : 0 < length l.faces.items;
  each : All (Contains (faces_of l.points)) l.faces.items;
  closed : All (IsClosedAt l.points l.faces.items) (take l.i l.faces.items);
}
