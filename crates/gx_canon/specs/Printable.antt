-- What a reader keeps of what it read, so that a canonical text has it: names are words, scales are in lowest terms, and numbers are
-- in the ranges of their lines.
use Rattle.std.specs.Prelude.{ℕ, ℤ, negsuc, pos, ◌≤ℤ◌, unsigned_abs, List, All}
use Rattle.gx_num.specs.Number.{IsLowest}
use Rattle.gx_fraction.specs.Fraction.{Fraction}
use Rattle.gx_expr.specs.Param.{Param}
use Rattle.gx_shapes.specs.declared.section.Scale.{Scale}
use Rattle.gx_shapes.specs.declared.figure.Figure.{Figure}
use Rattle.gx_shapes.specs.declared.figure.Figure.TheVariants as figure
use Rattle.gx_tree.specs.declared.placement.Placement.{Placement}
use Rattle.gx_tree.specs.Hierarchy.{IsRotation}
use Rattle.gx_tree.specs.Volume.{Volume}
use Rattle.gx_decl.specs.declared.declaration.Declaration.{Declaration}
use Rattle.gx_decl.specs.declared.declaration.Declaration.TheVariants as declaration
use Rattle.gx_decl.specs.declared.declaration.Form.{Form}
use Rattle.gx_decl.specs.declared.declaration.Form.TheVariants as form
use Rattle.gx_decl.specs.Range.{IsName, IsForm, IsInRange}
use Rattle.gx_canon.specs.Text.{IsWord}
use Rattle.gx_canon.specs.Canonical.{form_of}

-- in lowest terms
abbrev pub IsLowestFraction : Fraction → Type 0
IsLowestFraction f = IsLowest (unsigned_abs f.num) f.den

-- the values of parameters are
abbrev pub AreLowest : List Param → Type 0
AreLowest params = All (λ p. IsLowestFraction p.value.number) params

abbrev pub IsLowestScale : Scale → Type 0
IsLowestScale s = IsLowest (unsigned_abs s.num) (unsigned_abs s.den)

-- the scales of a figure are in lowest terms
abbrev pub HasLowestScales : Figure → Type 0
HasLowestScales (figure.Extruded corners s t) = IsLowestScale s.scale × IsLowestScale t.scale
HasLowestScales figure = Unit {0}

-- of 32 bits
pub record IsCopy (n : ℤ) : Type 0 where
  pub low : negsuc 2147483647 ≤ℤ n
  pub high : n ≤ℤ pos 2147483647

-- the copy number of a single placement is one
abbrev pub HasCopy : Form → Type 0
HasCopy (form.Single copy offset) = IsCopy copy
HasCopy form = Unit {0}

-- in its range; a rotation is one of the 24
abbrev pub IsRanged : Declaration → Type 0
IsRanged (declaration.Turn name rotation) = IsName name × IsRotation rotation
IsRanged declaration = IsInRange declaration

-- what is known of a declaration that was read, beside its range
abbrev pub IsPrintable : Declaration → Type 0
IsPrintable (declaration.Param name value) = IsLowestFraction value.number
IsPrintable (declaration.Solid name solid) = HasLowestScales solid
IsPrintable (declaration.Volume name solid material) = IsWord name × HasLowestScales solid × IsWord material
IsPrintable (declaration.Named name solid material) = IsWord name × IsWord material
IsPrintable (declaration.Place volume mother rotation form) = HasCopy form
IsPrintable declaration = Unit {0}

-- all that is known of it
abbrev pub IsKept : Declaration → Type 0
IsKept d = IsRanged d × IsPrintable d

-- ---- in a hierarchy

-- a name that is a word of a line
pub record IsNameWord (name : List ℕ) : Type 0 where
  pub named : IsName name
  pub word : IsWord name

pub record IsPrintablePlacement (p : Placement) : Type 0 where
  pub formed : IsForm (form_of p)
  pub copy : HasCopy (form_of p)

pub record IsPrintableVolume (v : Volume) : Type 0 where
  pub named : IsNameWord v.name
  pub made_of : IsNameWord v.material
  pub scales : HasLowestScales v.solid
  pub placed : All IsPrintablePlacement v.placements
