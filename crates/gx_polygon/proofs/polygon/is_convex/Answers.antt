use Rattle.std.proofs.Common.{Bool, ◌&&◌, cond, map, sym, ap, ◌∙◌}
use Rattle.gx_polygon.specs.Around.{around}
use Rattle.gx_polygon.specs.Polygon.{are_left, edges_of}
use Rattle.gx_polygon.proofs.Convex.{backwards}
use Rattle.gx_polygon.proofs.polygon.is_convex.Goals as goal

pub returns-else-are_left : goal.returns-else-are_left
returns-else-are_left c =
    let corners = c.args.corners.now in
    let edges = around corners in
    c.are_right.ensures
    ∙ sym (ap (λ (b : Bool). b && are_left (edges_of corners) corners) (sym c.are_distinct.ensures ∙ c.if-are_distinct.true)
    ∙ ap (λ (b : Bool). are_left (cond b edges (map backwards edges)) corners) (sym c.are_left.ensures ∙ c.if-are_left.false))
