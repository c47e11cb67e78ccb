-- The lines of solids and volumes: `:SOLID` and `:VOLU`.
-- After the documentation of Geant4's ASCII text geometry format.
use Rattle.std.specs.Prelude.{ℕ, ◌^◌, pos, unsigned_abs, int_lt, nat_le, Bool, ◌&&◌, ◌||◌, ◌==◌, List, [], ◌∷◌, codes, Option, None, Some, if◌then◌else◌}
use Rattle.gx_table.specs.declared.fault.FaultName.{FaultName}
use Rattle.gx_table.specs.declared.fault.FaultName.TheVariants.{UnitKind, TooWide, SolidKind as UnknownKind}
use Rattle.gx_table.specs.Table.{TableEntry}
use Rattle.gx_fraction.specs.Fraction.{Fraction}
use Rattle.gx_expr.specs.Quantity.{Quantity}
use Rattle.gx_form.specs.Form.{◌>>=◌, ◌>>◌, pure}
use Rattle.gx_shapes.specs.declared.kind.SolidKind.{SolidKind}
use Rattle.gx_shapes.specs.declared.kind.SolidKind.TheVariants.{Cuboid, Trd, Tet, Extruded, Tessellated}
use Rattle.gx_shapes.specs.declared.figure.Figure.{Figure}
use Rattle.gx_shapes.specs.declared.section.Scale.{Scale}
use Rattle.gx_shapes.specs.Figure.{figure_in}
use Rattle.gx_shapes.specs.Solid.{whole_fault}
use Rattle.gx_shapes.specs.Source.{Source}
use Rattle.gx_decl.specs.declared.declaration.Declaration.{Declaration}
use Rattle.gx_decl.specs.declared.declaration.Declaration.TheVariants.{Solid, Volume, Named}
use Rattle.gx_decl.specs.Words.{Words, Reader, refuse, refuse_at, left, end, name, expression, steps, whole, row_of, row}

-- ---- the values of a solid

abbrev pub as_scale : Fraction → Scale
as_scale f = record { num = f.num; den = pos f.den }

-- the second number above 0, and neither above 2^62 in magnitude, as the numbers of all values are
abbrev pub is_scale : Scale → Bool
is_scale s = nat_le (unsigned_abs s.num) (2 ^ 62) && int_lt (pos 0) s.den && nat_le (unsigned_abs s.den) (2 ^ 62)

-- a scale is a value without a mark
abbrev pub scale_of : Quantity → Reader Scale
scale_of value =
    if value.length || value.angle then refuse UnitKind
    else if is_scale (as_scale value.number) then pure (as_scale value.number)
    else refuse TooWide

abbrev pub scale : Reader Scale
scale = expression >>= scale_of

-- the words as the source of a solid's values
abbrev pub of_words : Source Words
of_words = record { length = steps; whole = whole; scale = scale; place = λ w. w.count }

-- ---- the solid

abbrev pub kinds : List TableEntry
kinds = row (codes "BOX") 0 ∷ row (codes "TRD") 1 ∷ row (codes "TET") 2 ∷ row (codes "EXTRUDED") 3 ∷ row (codes "TESSELLATED") 4 ∷ []

abbrev pub kind_of : ℕ → SolidKind
kind_of n = if n == 0 then Cuboid else if n == 1 then Trd else if n == 2 then Tet else if n == 3 then Extruded else Tessellated

abbrev pub kind : Reader SolidKind
kind = do
  n ← row_of kinds UnknownKind
  pure (kind_of n)

-- the fault of a whole solid stands at its kind, which is word 3
abbrev pub unless_fault : Figure → Option FaultName → Reader Figure
unless_fault figure None = pure figure
unless_fault figure (Some fault) = refuse_at 3 fault

abbrev pub made : Figure → Reader Figure
made figure = unless_fault figure (whole_fault figure)

-- `:SOLID` NAME KIND values
abbrev pub solid : Reader Declaration
solid = do
  n ← name
  k ← kind
  f ← figure_in of_words k
  end
  s ← made f
  pure (Solid n s)

-- SOLIDNAME MATERIAL
abbrev pub of_name : List ℕ → Reader Declaration
of_name n = do
  s ← name
  material ← name
  end
  pure (Named n s material)

-- KIND values MATERIAL
abbrev pub of_kind : List ℕ → Reader Declaration
of_kind n = do
  k ← kind
  f ← figure_in of_words k
  material ← name
  end
  s ← made f
  pure (Volume n s material)

-- `:VOLU` NAME, and a solid's name where the line has exactly two words more, else a solid
abbrev pub volume : Reader Declaration
volume = do
  n ← name
  count ← left
  if count == 2 then of_name n else of_kind n
