use Rattle.std.proofs.Common.{inl, inr, subst, sym, ◌∙◌}
use Rattle.gx_hull.specs.Hull.{IsVertices}
use Rattle.gx_common.proofs.Quick.{none_apart, none_unreached}
use Rattle.gx_common.proofs.common.taken_points.Goals as goal

pub returns-then-are_apart-clause-value : goal.returns-then-are_apart-clause-value
returns-then-are_apart-clause-value c =
    sym (none_apart c.args.a.now c.args.b.now
    (subst IsVertices c.vertices-vertices.ensures.value c.vertices-vertices.ensures.kept).solid
    (subst IsVertices c.vertices-others.ensures.value c.vertices-others.ensures.kept).solid
    (rw (c.extent.ensures, c.extent-2.ensures) at (sym c.are_apart.ensures ∙ c.if-are_apart.true)))

pub returns-then-not-are_reached-clause-value : goal.returns-then-not-are_reached-clause-value
returns-then-not-are_reached-clause-value c =
    sym (none_unreached c.args.a.now c.args.b.now
    (subst IsVertices c.vertices-vertices.ensures.value c.vertices-vertices.ensures.kept).solid
    (subst IsVertices c.vertices-others.ensures.value c.vertices-others.ensures.kept).solid
    (inl (rw (c.vertices-others.ensures.value, c.faces.ensures) at (sym c.are_reached.ensures ∙ c.if-not-are_reached.true))))

pub returns-then-not-are_reached-2-clause-value : goal.returns-then-not-are_reached-2-clause-value
returns-then-not-are_reached-2-clause-value c =
    sym (none_unreached c.args.a.now c.args.b.now
    (subst IsVertices c.vertices-vertices.ensures.value c.vertices-vertices.ensures.kept).solid
    (subst IsVertices c.vertices-others.ensures.value c.vertices-others.ensures.kept).solid
    (inr (rw (c.vertices-vertices.ensures.value, c.faces-2.ensures) at (sym c.are_reached-2.ensures ∙ c.if-not-are_reached-2.true))))
