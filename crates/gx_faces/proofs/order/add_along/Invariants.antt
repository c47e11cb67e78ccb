use Rattle.std.proofs.Common.{drop}
use Rattle.gx_faces.specs.Order.{triples_along, after}
use Rattle.gx_faces.proofs.Adding.{AreLeft}
use Rattle.gx_faces.proofs.order.add_along.Given as goal

-- the triples with the third points that are left
abbrev pub invariant-loop-c : goal.invariant-loop-c
invariant-loop-c l = AreLeft l.missing.items l.points (after l.fn.points (triples_along l.fn.a l.fn.b l.fn.thirds) l.fn.faces.items) (triples_along l.a l.b (drop l.c-index l.thirds)) l.faces.items
