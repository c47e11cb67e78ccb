use Rattle.std.proofs.Common.{length, All}
use Rattle.gx_num.specs.Vector.{IsWithin}
use Rattle.gx_plane.specs.Plane.{reach}
use Rattle.gx_plane.specs.Between.{triples_of}
use Rattle.gx_convex.specs.Faces.{faces_of}
use Rattle.gx_faces.proofs.Adding.{AreLeft}
use Rattle.gx_faces.proofs.order.in_order.Given as goal

-- the triples with the first points that are left
abbrev pub invariant-loop-a : goal.invariant-loop-a
invariant-loop-a l = record {
  within : All (IsWithin reach) l.firsts;
  left : AreLeft l.missing.items l.points (faces_of l.fn.points) (triples_of l.firsts) l.faces.items;
}

abbrev pub decreases-loop-a : goal.decreases-loop-a
decreases-loop-a l = length l.firsts
