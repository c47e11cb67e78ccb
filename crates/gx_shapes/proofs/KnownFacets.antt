-- Facets and their faults worked by hand.
use Rattle.std.proofs.Common.{◌≡◌, pos, List, [], ◌∷◌, ◌++◌, None, Some, Option, refl}
use Rattle.gx_num.specs.declared.vector.V3.{V3}
use Rattle.gx_num.specs.Number.{common_divisor}
use Rattle.gx_table.specs.declared.fault.FaultName.{FaultName}
use Rattle.gx_table.specs.declared.fault.FaultName.TheVariants.{NotConvex, MissingFace, OpenEdge}
use Rattle.gx_convex.specs.Points.{distinct}
use Rattle.gx_shapes.specs.declared.facet.Facet.{Facet}
use Rattle.gx_shapes.specs.Space.{point}
use Rattle.gx_shapes.specs.Tessellation.{tessellation_vertices}
use Rattle.gx_shapes.specs.Solid.{first_true, tessellation_faults}

abbrev fault : List Facet → Option FaultName
fault facets = first_true (tessellation_faults facets (distinct (tessellation_vertices facets)))

abbrev three : V3 → V3 → V3 → Facet
three a b c = record { a = a; b = b; c = c; d = None }

abbrev o : V3
o = point (pos 0) (pos 0) (pos 0)

abbrev a : V3
a = point (pos 4) (pos 0) (pos 0)

abbrev b : V3
b = point (pos 0) (pos 4) (pos 0)

abbrev c : V3
c = point (pos 0) (pos 0) (pos 4)

-- the facets at the origin
abbrev at_origin : List Facet
at_origin = three o b a ∷ three o a c ∷ three o c b ∷ []

tetrahedron_known : fault (at_origin ++ three a b c ∷ []) ≡ None
unfolding common_divisor
tetrahedron_known = refl

-- a corner at the middle of an edge
half_open_known : fault (at_origin ++ three a (point (pos 2) (pos 2) (pos 0)) c ∷ []) ≡ Some OpenEdge
unfolding common_divisor
half_open_known = refl

missing_known : fault at_origin ≡ Some MissingFace
unfolding common_divisor
missing_known = refl

-- three facets to an inner point
abbrev d : V3
d = point (pos 1) (pos 1) (pos 1)

dented_known : fault (at_origin ++ three a b d ∷ three b c d ∷ three c a d ∷ []) ≡ Some NotConvex
dented_known = refl
