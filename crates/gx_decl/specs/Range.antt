-- What is known of a declaration, whatever the line.
use Rattle.std.specs.Prelude.{◌≡◌, ℕ, ◌*◌, ◌<◌, ◌≤◌, ℤ, false, unsigned_abs, List, Option, None, Some, IsTrue}
use Rattle.gx_num.specs.declared.vector.TheConstants.{M}
use Rattle.gx_num.specs.declared.ray.Ray.{Ray}
use Rattle.gx_num.specs.Vector.{IsWithin}
use Rattle.gx_text.specs.Names.{is_name_of}
use Rattle.gx_shapes.specs.Accepted.{IsSolid}
use Rattle.gx_param.specs.Param.{place}
use Rattle.gx_decl.specs.declared.declaration.Declaration.{Declaration}
use Rattle.gx_decl.specs.declared.declaration.Declaration.TheVariants as declaration
use Rattle.gx_decl.specs.declared.declaration.Form.{Form}
use Rattle.gx_decl.specs.declared.declaration.Form.TheVariants as form
use Rattle.gx_decl.specs.declared.placements.Row.{Row}
use Rattle.gx_decl.specs.Words.{is_param_name}
use Rattle.gx_decl.specs.Lines.{is_zero}

abbrev pub IsName : List ℕ → Type 0
IsName name = IsTrue (is_name_of name)

abbrev pub IsNameIfAny : Option (List ℕ) → Type 0
IsNameIfAny None = Unit {0}
IsNameIfAny (Some name) = IsName name

-- at most M in magnitude
abbrev pub IsNear : ℤ → Type 0
IsNear n = unsigned_abs n ≤ unsigned_abs M

-- from 1 to 4096 copies
pub record IsCount (count : ℕ) : Type 0 where
  pub some : 1 ≤ count
  pub few : count ≤ 4096

-- a row as it is given
pub record IsGiven (row : Row) : Type 0 where
  pub counted : IsCount row.count
  pub near_step : IsNear row.step
  pub near_offset : IsNear row.offset

-- copies in a row, each at most M away
pub record IsRow (count : ℕ) (step offset : ℤ) : Type 0 where
  pub counted : IsCount count
  pub near_step : IsNear step
  pub near_offset : IsNear offset
  pub copies : (i : ℕ) → i < count → IsNear (place offset step i)

pub record IsReplica (axis count : ℕ) (width : ℤ) : Type 0 where
  pub along : axis < 3
  pub counted : IsCount count
  pub near_width : IsNear width

pub record IsLinear (axis count : ℕ) (step offset : ℤ) : Type 0 where
  pub along : axis < 3
  pub row : IsRow count step offset

pub record IsSquare (plane first_count second_count : ℕ) (first_step second_step first_offset second_offset : ℤ) : Type 0 where
  pub along : plane < 3
  pub first : IsRow first_count first_step first_offset
  pub second : IsRow second_count second_step second_offset
  pub few : first_count * second_count ≤ 4096

abbrev pub IsForm : Form → Type 0
IsForm (form.Single copy offset) = IsWithin (unsigned_abs M) offset
IsForm (form.Replica axis count width) = IsReplica axis count width
IsForm (form.Linear axis count step offset) = IsLinear axis count step offset
IsForm (form.Square plane n1 n2 s1 s2 o1 o2) = IsSquare plane n1 n2 s1 s2 o1 o2

pub record IsPlacement (volume mother : List ℕ) (rotation : Option (List ℕ)) (form : Form) : Type 0 where
  pub volume_named : IsName volume
  pub mother_named : IsName mother
  pub rotation_named : IsNameIfAny rotation
  pub formed : IsForm form

pub record IsTraceable (ray : Ray) : Type 0 where
  pub origin : IsWithin (unsigned_abs M) ray.o
  pub near : IsWithin (unsigned_abs M) ray.d
  pub direction : is_zero ray.d ≡ false

-- names are names, lengths are at most M, counts and copies are in their ranges, a solid is one, and a ray has a direction
abbrev pub IsInRange : Declaration → Type 0
IsInRange (declaration.Param name value) = IsTrue (is_param_name name)
IsInRange (declaration.Solid name solid) = IsName name × IsSolid solid
IsInRange (declaration.Volume name solid material) = IsName name × IsSolid solid × IsName material
IsInRange (declaration.Named name solid material) = IsName name × IsName solid × IsName material
IsInRange (declaration.Place volume mother rotation form) = IsPlacement volume mother rotation form
IsInRange (declaration.Turn name rotation) = IsName name
IsInRange (declaration.Trace ray) = IsTraceable ray
IsInRange declaration.Passed = Unit {0}
