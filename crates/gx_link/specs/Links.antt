-- The names in the lines of volumes and placements resolved, once all lines are read: lines in order, and words from the left.
use Rattle.std.specs.Prelude.{ℕ, List, [], ◌∷◌, ◌++◌, Option, None, Some, Result, Ok, Err}
use Rattle.gx_table.specs.declared.fault.FaultName.{FaultName}
use Rattle.gx_table.specs.declared.fault.FaultName.TheVariants.{NoSolid, NoVolume, NoRotation}
use Rattle.gx_form.specs.First.{◌>>=◌}
use Rattle.gx_shapes.specs.declared.figure.Figure.{Figure}
use Rattle.gx_rotation.specs.Matrix.{Matrix, identity}
use Rattle.gx_names.specs.Names.{number_of}
use Rattle.gx_decl.specs.declared.declaration.Form.{Form}
use Rattle.gx_decl.specs.declared.declaration.Form.TheVariants as form
use Rattle.gx_tree.specs.declared.placement.Placement.{Placement}
use Rattle.gx_tree.specs.declared.placement.Placement.TheVariants as placement
use Rattle.gx_gather.specs.declared.fault.TextFault.{TextFault}
use Rattle.gx_gather.specs.declared.item.Item.{Item}
use Rattle.gx_gather.specs.declared.item.Item.TheVariants.{Volume, Place}
use Rattle.gx_gather.specs.declared.item.Shape.{Shape}
use Rattle.gx_gather.specs.declared.item.Shape.TheVariants.{Own, Named}
use Rattle.gx_gather.specs.Faults.{fault_at}
use Rattle.gx_gather.specs.Items.{volume_names}
use Rattle.gx_gather.specs.Table.{value_of}
use Rattle.gx_gather.specs.Declarations.{Declarations}
use Rattle.gx_link.specs.declared.known.Known.{Known}
use Rattle.gx_link.specs.declared.link.LinkedVolume.{LinkedVolume}
use Rattle.gx_link.specs.declared.link.LinkedPlacement.{LinkedPlacement}

-- volumes and placements, each with its line
pub record Links : Type 0 where
  pub volumes : List LinkedVolume
  pub placements : List LinkedPlacement

abbrev pub no_links : Links
no_links = record { volumes = []; placements = [] }

-- what a name stands for; one that stands for nothing is at fault at its word
abbrev pub found : {A : Type 0} → Option A → ℕ → ℕ → FaultName → Result A TextFault
found (Some a) line word fault = Ok a
found None line word fault = Err (fault_at line word fault)

abbrev pub figure_of : Known → ℕ → Shape → Result Figure TextFault
figure_of known line (Own figure) = Ok figure
figure_of known line (Named name) = found (value_of known.solids name) line 3 NoSolid

abbrev pub volume_at_word : Known → ℕ → ℕ → List ℕ → Result ℕ TextFault
volume_at_word known line word name = found (number_of known.volumes name) line word NoVolume

-- the word of the mother's name
abbrev pub mother_word : Form → ℕ
mother_word (form.Replica axis count width) = 3
mother_word form = 4

-- the word of the rotation's name
abbrev pub turn_word : Form → ℕ
turn_word (form.Single copy offset) = 5
turn_word form = 6

-- a placement without the name of a rotation isn't turned
abbrev pub matrix_at_word : Known → ℕ → ℕ → Option (List ℕ) → Result Matrix TextFault
matrix_at_word known line word None = Ok identity
matrix_at_word known line word (Some name) = found (value_of known.turns name) line word NoRotation

-- a form as a placement of a volume
abbrev pub placement_of : ℕ → Matrix → Form → Placement
placement_of volume rotation (form.Single copy offset) = placement.Single volume copy rotation offset
placement_of volume rotation (form.Replica axis count width) = placement.Replica volume axis count width
placement_of volume rotation (form.Linear axis count step offset) = placement.Linear volume axis rotation count step offset
placement_of volume rotation (form.Square plane n1 n2 s1 s2 o1 o2) = placement.Square volume plane rotation n1 n2 s1 s2 o1 o2

-- one more line with its names resolved, or the first that stands for nothing
abbrev pub linked_with : Known → Links → Item → Result Links TextFault
linked_with known links (Volume line name shape material) = do
  solid ← figure_of known line shape
  Ok (record links { volumes = links.volumes ++ record { line = line; name = name; solid = solid; material = material } ∷ [] })
linked_with known links (Place line volume mother rotation form) = do
  v ← volume_at_word known line 2 volume
  m ← volume_at_word known line (mother_word form) mother
  r ← matrix_at_word known line (turn_word form) rotation
  Ok (record links { placements = links.placements ++ record { line = line; mother = m; placement = placement_of v r form } ∷ [] })

abbrev pub linked_from : Known → Links → List Item → Result Links TextFault
linked_from known links [] = Ok links
linked_from known links (item ∷ items) = linked_with known links item >>= (λ next. linked_from known next items)

abbrev pub known_of : Declarations → Known
known_of d = record { solids = d.solids; turns = d.turns; volumes = volume_names d.items }

-- all lines with their names resolved, or the first fault
abbrev pub links_of : Declarations → Result Links TextFault
links_of d = linked_from (known_of d) no_links d.items
