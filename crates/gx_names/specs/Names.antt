-- Names and their numbers: a list of names, each of which has its place as its number.
use Rattle.std.specs.Prelude.{◌≡◌, ℕ, List, [], ◌∷◌, ◌++◌, length, position, Option, None, Result, Ok, Err, IsSome}
use Rattle.std.specs.List.{IsDistinct}
use Rattle.std.specs.Str.{bytes_eq}
use Rattle.gx_names.specs.declared.fault.NameFault.{NameFault}
use Rattle.gx_names.specs.declared.fault.NameFault.TheVariants.{Twice, NoMemory}

-- the place of the first name that is this one, from 0
abbrev pub number_of : List (List ℕ) → List ℕ → Option ℕ
number_of names name = position (bytes_eq name) names

-- no two names are the same
abbrev pub AreDistinct : List (List ℕ) → Type 0
AreDistinct names = IsDistinct bytes_eq names

-- what `old` becomes where a name is given a number
abbrev pub Defines : List (List ℕ) → List ℕ → List (List ℕ) → Result ℕ NameFault → Type 0
Defines old name new (Ok number) = (number_of old name ≡ None) × (number ≡ length old) × (new ≡ old ++ name ∷ [])
Defines old name new (Err Twice) = (new ≡ old) × IsSome (number_of old name)
Defines old name new (Err NoMemory) = (new ≡ old) × (number_of old name ≡ None)
