use Rattle.std.proofs.Common.{◌≡◌, All}
use Rattle.gx_num.specs.Vector.{IsWithin}
use Rattle.gx_plane.specs.Plane.{reach}
use Rattle.gx_convex.specs.Faces.{faces_of}
use Rattle.gx_faces.specs.Order.{after}
use Rattle.gx_faces.proofs.find.each_face.Given as goal

-- the faces so far, and behind them those of the triples that are left, are all faces
abbrev pub invariant-loop-a : goal.invariant-loop-a
invariant-loop-a l = record {
  all : after l.points l.a-iterator l.faces.items ≡ faces_of l.fn.points;
  within : All (λ t. IsWithin reach t.0 × IsWithin reach t.1 × IsWithin reach t.2) l.a-iterator;
}
