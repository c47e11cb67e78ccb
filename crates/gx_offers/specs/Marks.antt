-- Private to this crate: the numbers with a mark at each.
use Rattle.std.specs.Prelude.{◌≡◌, ◌<◌, ◌≤◌, ◌^◌, ℕ, nat_eq, Bool, false, List, length, slice_index_or}
use Rattle.std.specs.List.{list_any}
use Rattle.gx_offers.specs.Offers.{AreOffers}

-- the numbers with a mark for each that may come, and room for all of these
pub record AreMarked (numbers : List ℕ) (marks : List Bool) (capacity : ℕ) : Type 0 where
  pub offers : AreOffers (record { numbers = numbers; room = length marks })
  pub agree : (k : ℕ) → k < length marks → slice_index_or marks k false ≡ list_any (nat_eq k) numbers
  pub fits : length marks ≤ capacity
  pub small : length marks < 2 ^ 32
