-- A map from names to their places, as the list of the names that it numbers.
use Rattle.std.specs.Prelude.{◌≡◌, ℕ, zero, suc, ◌<◌, List, [], ◌∷◌, ◌++◌, length, if◌then◌else◌}
use Rattle.std.specs.List.{AllByRecursion}
use Rattle.std.specs.Map.{lookup}
use Rattle.std.specs.Bool.{nat_eq}
use Rattle.std.specs.Str.{bytes_eq}
use Rattle.gx_names.specs.Names.{number_of, AreDistinct}

module _ {K : Type 0} (items : K → List ℕ) where
  -- the name at a place
  abbrev pub name_at : List (K × ℕ) → ℕ → List ℕ
  name_at [] place = []
  name_at (entry ∷ entries) place = if nat_eq entry.1 place then items entry.0 else name_at entries place

  -- the names at the first places
  abbrev pub first_names : List (K × ℕ) → ℕ → List (List ℕ)
  first_names entries zero = []
  first_names entries (suc count) = first_names entries count ++ name_at entries count ∷ []

  -- the names by their places
  unfoldable pub names_of : List (K × ℕ) → List (List ℕ)
  names_of entries = first_names entries (length entries)

  -- a name that is looked for has its place in the list, and no place is above the last
  pub record IsNumbered (entries : List (K × ℕ)) : Type 0 where
    pub below : AllByRecursion (λ entry. entry.1 < length entries) entries
    pub found : (name : List ℕ) → lookup (λ k. bytes_eq name (items k)) entries ≡ number_of (names_of entries) name
    pub distinct : AreDistinct (names_of entries)
