-- Lines of volumes and placements, in the order of the text.
use Rattle.std.specs.Prelude.{ℕ, Bool, true, false, List, filter_map, filter, length, Option, Some, None}
use Rattle.gx_decl.specs.Range.{IsName, IsPlacement}
use Rattle.gx_gather.specs.declared.item.Item.{Item}
use Rattle.gx_gather.specs.declared.item.Item.TheVariants.{Volume, Place}
use Rattle.gx_gather.specs.declared.item.Shape.{Shape}
use Rattle.gx_gather.specs.declared.item.Shape.TheVariants.{Own, Named}

-- a volume's name
abbrev pub name_of : Item → Option (List ℕ)
name_of (Volume line name shape material) = Some name
name_of (Place line volume mother rotation form) = None

abbrev pub is_placement : Item → Bool
is_placement (Volume line name shape material) = false
is_placement (Place line volume mother rotation form) = true

-- the names of the volumes in the order of their lines, which gives each its number, from 0
abbrev pub volume_names : List Item → List (List ℕ)
volume_names items = filter_map name_of items

abbrev pub placement_count : List Item → ℕ
placement_count items = length (filter is_placement items)

-- names are names, and forms are in their ranges
abbrev pub IsShape : Shape → Type 0
IsShape (Own figure) = Unit {0}
IsShape (Named name) = IsName name

abbrev pub IsItem : Item → Type 0
IsItem (Volume line name shape material) = IsName name × IsShape shape × IsName material
IsItem (Place line volume mother rotation form) = IsPlacement volume mother rotation form
