-- The fault of a whole figure in the order of its tests: those of a polygon come before the hull, those of facets after it.
use Rattle.std.specs.Prelude.{Option, None}
use Rattle.gx_table.specs.declared.fault.FaultName.{FaultName}
use Rattle.gx_convex.specs.Points.{distinct}
use Rattle.gx_shapes.specs.declared.figure.Figure.{Figure}
use Rattle.gx_shapes.specs.declared.figure.Figure.TheVariants as figure
use Rattle.gx_shapes.specs.Tessellation.{tessellation_vertices}
use Rattle.gx_shapes.specs.Solid.{first_true, facet_faults, whole_fault}

-- the fault of an extrusion, which is that of its polygon
abbrev pub polygon_fault : Figure → Option FaultName
polygon_fault (figure.Cuboid hx hy hz) = None
polygon_fault (figure.Trd dx1 dx2 dy1 dy2 dz) = None
polygon_fault (figure.Tet a b c d) = None
polygon_fault (figure.Extruded corners s t) = whole_fault (figure.Extruded corners s t)
polygon_fault (figure.Tessellated facets) = None

-- the fault of a tessellation whose vertices have a hull
abbrev pub facet_fault : Figure → Option FaultName
facet_fault (figure.Cuboid hx hy hz) = None
facet_fault (figure.Trd dx1 dx2 dy1 dy2 dz) = None
facet_fault (figure.Tet a b c d) = None
facet_fault (figure.Extruded corners s t) = None
facet_fault (figure.Tessellated facets) = first_true (facet_faults facets (distinct (tessellation_vertices facets)))
