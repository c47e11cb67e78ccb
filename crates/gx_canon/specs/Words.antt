-- The words of declarations as they are printed: numbers in decimal, a scale as p/q, and as p where q is 1, kinds and axes in capitals.
-- Lengths are in steps. The forms are those that lines are read in.
use Rattle.std.specs.Prelude.{ℕ, unsigned_abs, ◌==◌, if◌then◌else◌, List, [], ◌∷◌, ◌++◌, codes, flat_map, length, Option, None, Some}
use Rattle.std.specs.Fmt.{decimal, signed_decimal}
use Rattle.gx_num.specs.declared.vector.V3.{V3}
use Rattle.gx_shapes.specs.declared.section.Scale.{Scale}
use Rattle.gx_shapes.specs.declared.section.Section.{Section}
use Rattle.gx_shapes.specs.declared.facet.Facet.{Facet}
use Rattle.gx_shapes.specs.declared.figure.Figure.{Figure}
use Rattle.gx_shapes.specs.declared.figure.Figure.TheVariants as figure
use Rattle.gx_shapes.specs.declared.kind.SolidKind.{SolidKind}
use Rattle.gx_shapes.specs.declared.kind.SolidKind.TheVariants as kind
use Rattle.gx_shapes.specs.Solid.{kind_of}
use Rattle.gx_decl.specs.declared.declaration.Declaration.{Declaration}
use Rattle.gx_decl.specs.declared.declaration.Declaration.TheVariants as declaration
use Rattle.gx_decl.specs.declared.declaration.Form.{Form}
use Rattle.gx_decl.specs.declared.declaration.Form.TheVariants as form

abbrev pub vector_words : V3 → List (List ℕ)
vector_words v = signed_decimal v.x ∷ signed_decimal v.y ∷ signed_decimal v.z ∷ []

-- ---- solids

abbrev pub scale_word : Scale → List ℕ
scale_word s =
    if unsigned_abs s.den == 1 then signed_decimal s.num else signed_decimal s.num ++ 47 ∷ decimal (unsigned_abs s.den)

abbrev pub corner_words : V3 → List (List ℕ)
corner_words c = signed_decimal c.x ∷ signed_decimal c.y ∷ []

abbrev pub section_words : Section → List (List ℕ)
section_words s = signed_decimal s.z ∷ signed_decimal s.x ∷ signed_decimal s.y ∷ scale_word s.scale ∷ []

-- three points, or four
abbrev pub points_words : V3 → V3 → V3 → Option V3 → List (List ℕ)
points_words a b c None = decimal 3 ∷ vector_words a ++ vector_words b ++ vector_words c
points_words a b c (Some d) = decimal 4 ∷ vector_words a ++ vector_words b ++ vector_words c ++ vector_words d

abbrev pub facet_words : Facet → List (List ℕ)
facet_words f = points_words f.a f.b f.c f.d

abbrev pub kind_word : SolidKind → List ℕ
kind_word kind.Cuboid = codes "BOX"
kind_word kind.Trd = codes "TRD"
kind_word kind.Tet = codes "TET"
kind_word kind.Extruded = codes "EXTRUDED"
kind_word kind.Tessellated = codes "TESSELLATED"

abbrev pub value_words : Figure → List (List ℕ)
value_words (figure.Cuboid hx hy hz) = signed_decimal hx ∷ signed_decimal hy ∷ signed_decimal hz ∷ []
value_words (figure.Trd dx1 dx2 dy1 dy2 dz) =
    signed_decimal dx1 ∷ signed_decimal dx2 ∷ signed_decimal dy1 ∷ signed_decimal dy2 ∷ signed_decimal dz ∷ []
value_words (figure.Tet a b c d) = vector_words a ++ vector_words b ++ vector_words c ++ vector_words d
value_words (figure.Extruded corners s t) =
    decimal (length corners) ∷ flat_map corner_words corners ++ (decimal 2 ∷ section_words s ++ section_words t)
value_words (figure.Tessellated facets) = decimal (length facets) ∷ flat_map facet_words facets

-- ---- placements

abbrev pub axis_word : ℕ → List ℕ
axis_word axis = if axis == 0 then codes "X" else if axis == 1 then codes "Y" else codes "Z"

abbrev pub linear_word : ℕ → List ℕ
linear_word axis = if axis == 0 then codes "LINEAR_X" else if axis == 1 then codes "LINEAR_Y" else codes "LINEAR_Z"

abbrev pub square_word : ℕ → List ℕ
square_word plane = if plane == 0 then codes "SQUARE_XY" else if plane == 1 then codes "SQUARE_XZ" else codes "SQUARE_YZ"

-- a rotation's name, where there is one
abbrev pub rotation_words : Option (List ℕ) → List (List ℕ)
rotation_words None = []
rotation_words (Some name) = name ∷ []

-- the copy number of `:PLACE_PARAM` has no effect, and is 0
abbrev pub place_words : List ℕ → List ℕ → List (List ℕ) → Form → List (List ℕ)
place_words volume mother rotation (form.Single copy offset) =
    codes ":PLACE" ∷ volume ∷ signed_decimal copy ∷ mother ∷ rotation ++ vector_words offset
place_words volume mother rotation (form.Replica axis count width) =
    codes ":REPL" ∷ volume ∷ mother ∷ axis_word axis ∷ decimal count ∷ signed_decimal width ∷ []
place_words volume mother rotation (form.Linear axis count step offset) =
    codes ":PLACE_PARAM" ∷ volume ∷ decimal 0 ∷ mother ∷ linear_word axis
    ∷ rotation ++ decimal count ∷ signed_decimal step ∷ signed_decimal offset ∷ []
place_words volume mother rotation (form.Square plane first_count second_count first_step second_step first_offset second_offset) =
    codes ":PLACE_PARAM" ∷ volume ∷ decimal 0 ∷ mother ∷ square_word plane
    ∷ rotation ++ decimal first_count ∷ decimal second_count ∷ signed_decimal first_step ∷ signed_decimal second_step
    ∷ signed_decimal first_offset ∷ signed_decimal second_offset ∷ []

-- ---- lines

-- the words of a line; of a declaration that no canonical text has, none
abbrev pub words_of : Declaration → List (List ℕ)
words_of (declaration.Turn name rotation) =
    codes ":ROTM" ∷ name ∷ vector_words rotation.x ++ vector_words rotation.y ++ vector_words rotation.z
words_of (declaration.Volume name solid material) = codes ":VOLU" ∷ name ∷ kind_word (kind_of solid) ∷ value_words solid ++ material ∷ []
words_of (declaration.Place volume mother rotation form) = place_words volume mother (rotation_words rotation) form
words_of (declaration.Trace ray) = codes ":RAY" ∷ vector_words ray.o ++ vector_words ray.d
words_of declaration = []
