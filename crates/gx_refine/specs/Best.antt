-- Private to this crate: the best cut, from one after another.
use Rattle.std.specs.Prelude.{◌≡◌, ℕ, true, false, List, [], ◌∷◌, ◌++◌, length, map, filter, Option, None, Some, if◌then◌else◌}
use Rattle.std.specs.List.{AllByRecursion}
use Rattle.gx_num.specs.declared.extent.Extent.{Extent}
use Rattle.gx_voxel.specs.Cut.{Cut, cut_along, is_worth_it, is_as_good}

-- the first, unless another comes that it isn't as good as
abbrev pub better_of : Option Cut → Cut → Cut
better_of None cut = cut
better_of (Some best) cut = if is_as_good best cut then best else cut

-- the best so far, with one cut more
abbrev pub best_with : ℕ → Option Cut → Cut → Option Cut
best_with members best cut = if is_worth_it members cut then Some (better_of best cut) else best

-- the cuts that are worth it
abbrev pub candidates : (ℕ → Extent) → List ℕ → List ℕ → List Cut
candidates at ks axes = filter (is_worth_it (length ks)) (map (cut_along at ks) axes)

-- better than each before it, and as good as each after it
pub record IsFirstBest (cuts : List Cut) (best : Cut) : Type 0 where
  pub front : List Cut
  pub back : List Cut
  pub split : cuts ≡ front ++ best ∷ back
  pub before : AllByRecursion (λ c. is_as_good c best ≡ false) front
  pub after : AllByRecursion (λ c. is_as_good best c ≡ true) back

abbrev pub IsBest : List Cut → Option Cut → Type 0
IsBest cuts None = cuts ≡ []
IsBest cuts (Some best) = IsFirstBest cuts best
