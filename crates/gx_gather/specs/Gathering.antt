-- What is declared so far, in steps of a grid, and what is kept beside it. No public contract stands on `IsGathered`.
use Rattle.std.specs.Prelude.{◌≡◌, ℕ, ◌≤◌, List, length, All}
use Rattle.gx_fraction.specs.Fraction.{Fraction}
use Rattle.gx_gather.specs.Declarations.{Declarations}
use Rattle.gx_gather.specs.Items.{volume_names, placement_count, IsItem}
use Rattle.gx_gather.specs.declared.item.Item.{Item}
use Rattle.gx_gather.specs.declared.gathered.TheConstants.{MAX_PARAMS, MAX_VOLUMES, MAX_PLACEMENTS}

pub record Gathering : Type 0 where
  pub grid : Fraction
  pub so_far : Declarations

-- the names of the volumes, the number of the placements, and that the lines are within their limits
pub record IsGathered (param_lines : ℕ) (volumes : List (List ℕ)) (placements : ℕ) (items : List Item) : Type 0 where
  pub few_params : param_lines ≤ MAX_PARAMS
  pub few_volumes : length volumes ≤ MAX_VOLUMES
  pub few_placements : placements ≤ MAX_PLACEMENTS
  pub names : volumes ≡ volume_names items
  pub count : placements ≡ placement_count items
  pub kept : All IsItem items
