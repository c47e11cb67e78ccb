-- The canonical text of a hierarchy and its rays: rotations, volumes, placements and rays, a line for each. It is this project's own.
use Rattle.std.specs.Prelude.{ℕ, pos, nat_eq, Bool, false, List, ◌∷◌, ◌++◌, map, flat_map, filter, Option, None, Some}
use Rattle.std.specs.List.{list_any, range_with_len}
use Rattle.std.specs.Option.{option_map, unwrap_or}
use Rattle.std.specs.Fmt.{decimal}
use Rattle.gx_num.specs.declared.ray.Ray.{Ray}
use Rattle.gx_fraction.specs.Fraction.{Fraction}
use Rattle.gx_rotation.specs.Rotation.{matrix_of, number_of}
use Rattle.gx_tree.specs.declared.placement.Placement.{Placement}
use Rattle.gx_tree.specs.declared.placement.Placement.TheVariants as placement
use Rattle.gx_tree.specs.Volume.{Volume, daughter_of}
use Rattle.gx_tree.specs.Hierarchy.{Hierarchy, volume_at}
use Rattle.gx_decl.specs.declared.declaration.Declaration.{Declaration}
use Rattle.gx_decl.specs.declared.declaration.Declaration.TheVariants as declaration
use Rattle.gx_decl.specs.declared.declaration.Form.{Form}
use Rattle.gx_decl.specs.declared.declaration.Form.TheVariants as form
use Rattle.gx_canon.specs.Text.{text_of}
use Rattle.gx_canon.specs.Words.{words_of}

-- `R` (82) and the rotation's number
abbrev pub rotation_name : ℕ → List ℕ
rotation_name k = 82 ∷ decimal k

-- the number of a placement's rotation; replicas have none
abbrev pub rotation_number : Placement → Option ℕ
rotation_number (placement.Single volume copy rotation offset) = Some (number_of rotation)
rotation_number (placement.Replica volume axis count width) = None
rotation_number (placement.Linear volume axis rotation count step offset) = Some (number_of rotation)
rotation_number (placement.Square volume plane rotation first_count second_count first_step second_step first_offset second_offset) = Some (number_of rotation)

abbrev pub form_of : Placement → Form
form_of (placement.Single volume copy rotation offset) = form.Single copy offset
form_of (placement.Replica volume axis count width) = form.Replica axis count width
form_of (placement.Linear volume axis rotation count step offset) = form.Linear axis count step offset
form_of (placement.Square volume plane rotation first_count second_count first_step second_step first_offset second_offset) =
    form.Square plane first_count second_count first_step second_step first_offset second_offset

-- some placement has the rotation of this number
abbrev pub is_used : List Volume → ℕ → Bool
is_used volumes k = list_any (λ v. list_any (λ p. unwrap_or (option_map (nat_eq k) (rotation_number p)) false) v.placements) volumes

-- the rotations of placements, each once, in increasing order
abbrev pub turns : List Volume → List Declaration
turns volumes = map (λ k. declaration.Turn (rotation_name k) (matrix_of k)) (filter (is_used volumes) (range_with_len 0 24))

abbrev pub volume_declared : Volume → Declaration
volume_declared v = declaration.Volume v.name v.solid v.material

-- a placement in a mother
abbrev pub placed : List Volume → Volume → Placement → Declaration
placed volumes mother p =
    declaration.Place (volume_at volumes (daughter_of p)).name mother.name (option_map rotation_name (rotation_number p)) (form_of p)

-- mothers in order, and the placements of each in order
abbrev pub placements : List Volume → List Declaration
placements volumes = flat_map (λ mother. map (placed volumes mother) mother.placements) volumes

abbrev pub declarations_of : Hierarchy → List Ray → List Declaration
declarations_of h rays = turns h.volumes ++ map volume_declared h.volumes ++ placements h.volumes ++ map declaration.Trace rays

abbrev pub canonical : Hierarchy → List Ray → List ℕ
canonical h rays = text_of (map words_of (declarations_of h rays))

-- the grid on which it is read: its lengths are in steps
abbrev pub millimetre : Fraction
millimetre = record { num = pos 1; den = 1 }
