-- What the report of a ray is: the maximal open intervals of parameters above 0 at which the deepest volume is one.
use Rattle.std.specs.Prelude.{◌≡◌, ◌≢◌, ◌⊎◌, ℕ, List, [], ◌∷◌, Option, Some}
use Rattle.std.specs.List.{AllByRecursion}
use Rattle.gx_num.specs.Number.{IsLowest}
use Rattle.gx_num.specs.Ray.{RayParameter, IsPositive, IsBelow, IsUpTo}
use Rattle.gx_fraction.specs.Fraction.{Fraction, parameter_of}

-- between two parameters a list of ordinals leads from the world to the deepest volume
pub record Row : Type 0 where
  pub from : RayParameter
  pub to : RayParameter
  pub path : List ℕ

-- the row between two fractions that aren't negative
abbrev pub row_of : Fraction → Fraction → List ℕ → Row
row_of from to path = record { from = parameter_of from; to = parameter_of to; path = path }

-- R holds of an element and the first of those after it, if there is one
abbrev pub WithNext : {X : Type 0} → (X → X → Type 0) → X → List X → Type 0
WithNext R x [] = Unit {0}
WithNext R x (next ∷ xs) = R x next

-- R holds of each element and the next
abbrev pub EachNext : {X : Type 0} → (X → X → Type 0) → List X → Type 0
EachNext R [] = Unit {0}
EachNext R (x ∷ xs) = WithNext R x xs × EachNext R xs

-- P holds of some element
abbrev pub AnyByRecursion : {X : Type 0} → (X → Type 0) → List X → Type 0
AnyByRecursion P [] = ⊥
AnyByRecursion P (x ∷ xs) = P x ⊎ AnyByRecursion P xs

-- These rows are the report of a ray for which `place` tells where each parameter is: nowhere in the world, or in the volume at a path.
pub record IsReport (place : RayParameter → Option (List ℕ)) (rows : List Row) : Type 0 where
  -- each row's ends are in lowest terms, the first below the second
  pub reduced : AllByRecursion (λ row. IsLowest row.from.num row.from.den × IsLowest row.to.num row.to.den × IsBelow row.from row.to) rows
  -- each row ends no later than the next begins
  pub ordered : EachNext (λ row next. IsUpTo row.to next.from) rows
  -- strictly between a row's ends, each parameter is at the row's path
  pub constant : AllByRecursion (λ row. (t : RayParameter) → IsPositive t → IsBelow row.from t → IsBelow t row.to → place t ≡ Some row.path) rows
  -- two rows that meet have different paths
  pub maximal : EachNext (λ row next. IsUpTo next.from row.to → row.path ≢ next.path) rows
  -- each parameter above 0 that is in the world is in a row or an end of one
  pub complete : (t : RayParameter) (path : List ℕ) → IsPositive t → place t ≡ Some path → AnyByRecursion (λ row. IsUpTo row.from t × IsUpTo t row.to) rows
