-- The values of each kind in their order, with the fault of each after those before it, and the figure that they give.
-- The order of values is that of Geant4's text geometry format for BOX, TRD and TET; that of EXTRUDED and TESSELLATED, and the faults,
-- are this project's own.
use Rattle.std.specs.Prelude.{ℕ, ℤ, pos, unsigned_abs, int_lt, int_le, nat_le, Bool, ◌&&◌, not, Option, None, Some, List, if◌then◌else◌}
use Rattle.std.specs.List.{list_all}
use Rattle.std.specs.Ordering.{int_eq}
use Rattle.gx_num.specs.declared.vector.V3.{V3}
use Rattle.gx_num.specs.declared.vector.TheConstants.{M}
use Rattle.gx_table.specs.declared.fault.FaultName.TheVariants.{Half, Count, Vertices, Sections, Scale as ScaleName, TooFar}
use Rattle.gx_form.specs.Form.{Form, ◌>>=◌, ◌>>◌, pure, collect}
use Rattle.gx_shapes.specs.declared.section.Section.{Section}
use Rattle.gx_shapes.specs.declared.facet.Facet.{Facet}
use Rattle.gx_shapes.specs.declared.figure.Figure.{Figure}
use Rattle.gx_shapes.specs.declared.figure.Figure.TheVariants as figure
use Rattle.gx_shapes.specs.declared.kind.SolidKind.{SolidKind}
use Rattle.gx_shapes.specs.declared.kind.SolidKind.TheVariants as kind
use Rattle.gx_shapes.specs.Space.{point}
use Rattle.gx_shapes.specs.Extrusion.{are_whole, corner}
use Rattle.gx_shapes.specs.Source.{Source, refuse}

-- ---- half-lengths and points

-- above 0
abbrev pub half : {S : Type 0} → Source S → Form S ℤ
half source = do
  v ← source.length
  if int_le v (pos 0) then refuse source Half else pure v

-- not below 0
abbrev pub width : {S : Type 0} → Source S → Form S ℤ
width source = do
  v ← source.length
  if int_lt v (pos 0) then refuse source Half else pure v

-- not below 0, and not 0 where the first is
abbrev pub second_width : {S : Type 0} → Source S → ℤ → Form S ℤ
second_width source first = do
  v ← width source
  if int_eq first (pos 0) && int_eq v (pos 0) then refuse source Half else pure v

abbrev pub point_in : {S : Type 0} → Source S → Form S V3
point_in source = do
  x ← source.length
  y ← source.length
  z ← source.length
  pure (point x y z)

-- ---- extrusions

-- a whole number from 3, at most 16
abbrev pub corner_count : {S : Type 0} → Source S → Form S ℕ
corner_count source = do
  n ← source.whole (pos 3) (pos 9223372036854775807) Count
  if int_lt (pos 16) n then refuse source Vertices else pure (unsigned_abs n)

-- a corner of the polygon, at height 0
abbrev pub corner_in : {S : Type 0} → Source S → Form S V3
corner_in source = do
  x ← source.length
  y ← source.length
  pure (point x y (pos 0))

-- at most M in magnitude
abbrev pub is_near : V3 → Bool
is_near p = nat_le (unsigned_abs p.x) (unsigned_abs M) && nat_le (unsigned_abs p.y) (unsigned_abs M)

-- all corners in the section are at most M in magnitude
abbrev pub are_near : Section → List V3 → Bool
are_near s corners = list_all (λ c. is_near (corner s c)) corners

-- a section's scale: above 0, with all corners whole, and these at most M in magnitude
abbrev pub section_from : {S : Type 0} → Source S → List V3 → Section → Form S Section
section_from source corners s =
    if int_le s.scale.num (pos 0) then refuse source ScaleName
    else if not (are_whole s.scale corners) then refuse source ScaleName
    else if not (are_near s corners) then refuse source TooFar
    else pure s

-- OX OY S
abbrev pub section_at : {S : Type 0} → Source S → List V3 → ℤ → Form S Section
section_at source corners z = do
  x ← source.length
  y ← source.length
  scale ← source.scale
  section_from source corners (record { z = z; x = x; y = y; scale = scale })

-- above the first height
abbrev pub second_height : {S : Type 0} → Source S → ℤ → Form S ℤ
second_height source first = do
  z ← source.length
  if int_le z first then refuse source Sections else pure z

-- Z1 OX1 OY1 S1 Z2 OX2 OY2 S2
abbrev pub sections : {S : Type 0} → Source S → List V3 → Form S (Section × Section)
sections source corners = do
  z1 ← source.length
  s ← section_at source corners z1
  z2 ← second_height source z1
  t ← section_at source corners z2
  pure (s, t)

-- ---- facets

abbrev pub fourth_in : {S : Type 0} → Source S → ℤ → Form S (Option V3)
fourth_in source n = if int_eq n (pos 3) then pure None else (do d ← point_in source; pure (Some d))

-- 3 or 4, and that many points
abbrev pub facet_in : {S : Type 0} → Source S → Form S Facet
facet_in source = do
  n ← source.whole (pos 3) (pos 4) Count
  a ← point_in source
  b ← point_in source
  c ← point_in source
  d ← fourth_in source n
  pure (record { a = a; b = b; c = c; d = d })

-- ---- the kinds

abbrev pub figure_in : {S : Type 0} → Source S → SolidKind → Form S Figure
-- `BOX` hx hy hz
figure_in source kind.Cuboid = do
  hx ← half source
  hy ← half source
  hz ← half source
  pure (figure.Cuboid hx hy hz)
-- `TRD` dx1 dx2 dy1 dy2 dz
figure_in source kind.Trd = do
  dx1 ← width source
  dx2 ← second_width source dx1
  dy1 ← width source
  dy2 ← second_width source dy1
  dz ← half source
  pure (figure.Trd dx1 dx2 dy1 dy2 dz)
-- `TET` and four points
figure_in source kind.Tet = do
  a ← point_in source
  b ← point_in source
  c ← point_in source
  d ← point_in source
  pure (figure.Tet a b c d)
-- `EXTRUDED` N X1 Y1 .. XN YN 2 Z1 OX1 OY1 S1 Z2 OX2 OY2 S2
figure_in source kind.Extruded = do
  n ← corner_count source
  corners ← collect n (corner_in source)
  source.whole (pos 2) (pos 2) Sections
  ends ← sections source corners
  pure (figure.Extruded corners ends.0 ends.1)
-- `TESSELLATED` F and that many facets
figure_in source kind.Tessellated = do
  n ← source.whole (pos 1) (pos 4096) Count
  facets ← collect (unsigned_abs n) (facet_in source)
  pure (figure.Tessellated facets)
