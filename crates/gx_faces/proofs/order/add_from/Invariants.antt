use Rattle.std.proofs.Common.{length, All}
use Rattle.gx_num.specs.Vector.{IsWithin}
use Rattle.gx_plane.specs.Plane.{reach}
use Rattle.gx_faces.specs.Order.{triples_from, after}
use Rattle.gx_faces.proofs.Adding.{AreLeft}
use Rattle.gx_faces.proofs.order.add_from.Given as goal

-- the triples with the second points that are left
abbrev pub invariant-loop-b : goal.invariant-loop-b
invariant-loop-b l = record {
  within : All (IsWithin reach) l.rest;
  left : AreLeft l.missing.items l.points (after l.fn.points (triples_from l.fn.a l.fn.seconds) l.fn.faces.items) (triples_from l.a l.rest) l.faces.items;
}

abbrev pub decreases-loop-b : goal.decreases-loop-b
decreases-loop-b l = length l.rest
