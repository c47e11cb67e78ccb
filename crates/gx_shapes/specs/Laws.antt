-- The faces of a solid's vertices are the solid, for each kind.
use Rattle.gx_convex.specs.Laws.{AreTheSolid}
use Rattle.gx_convex.specs.Points.{distinct}
use Rattle.gx_shapes.specs.declared.figure.Figure.{Figure}
use Rattle.gx_shapes.specs.Solid.{solid_of, vertices_of}
use Rattle.gx_shapes.specs.Accepted.{IsSolid}

abbrev pub FacesAreTheSolid : Type 0
FacesAreTheSolid = (figure : Figure) → IsSolid figure → AreTheSolid (solid_of figure) (distinct (vertices_of figure))
