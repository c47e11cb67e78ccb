-- A list of different numbers, and what offering some does to it.
use Rattle.std.specs.Prelude.{◌≡◌, ◌⊎◌, ◌<◌, ◌≤◌, ◌+◌, ℕ, nat_eq, if◌then◌else◌, List, [], ◌∷◌, ◌++◌, length}
use Rattle.std.specs.List.{AllByRecursion, IsDistinct, list_any}

-- P holds of some element
abbrev pub AnyByRecursion : {X : Type 0} → (X → Type 0) → List X → Type 0
AnyByRecursion P [] = ⊥
AnyByRecursion P (x ∷ xs) = P x ⊎ AnyByRecursion P xs

-- the number is one of the list
abbrev pub IsOneOf : ℕ → List ℕ → Type 0
IsOneOf k ks = AnyByRecursion (λ j. k ≡ j) ks

-- The numbers offered so far, each below a bound.
pub record Offered : Type 0 where
  pub numbers : List ℕ
  pub room : ℕ

-- a number comes at the end, unless it is one of them already
unfoldable pub with_number : Offered → ℕ → Offered
with_number o k = if list_any (nat_eq k) o.numbers then o else record o { numbers = o.numbers ++ k ∷ [] }

-- no number is there twice, and each is below the bound
pub record AreOffers (o : Offered) : Type 0 where
  pub distinct : IsDistinct nat_eq o.numbers
  pub below : AllByRecursion (λ k. k < o.room) o.numbers

-- Some numbers were offered: what was there stays, nothing else comes than these, each that is due is there, and no more than so many come.
pub record IsOffered (due : ℕ → Type 0) (ks : List ℕ) (old new : Offered) : Type 0 where
  pub room : new.room ≡ old.room
  pub kept : (k : ℕ) → IsOneOf k old.numbers → IsOneOf k new.numbers
  pub only : (k : ℕ) → IsOneOf k new.numbers → IsOneOf k old.numbers ⊎ IsOneOf k ks
  pub whole : (k : ℕ) → IsOneOf k ks → due k → IsOneOf k new.numbers
  pub few : length new.numbers ≤ length old.numbers + length ks
