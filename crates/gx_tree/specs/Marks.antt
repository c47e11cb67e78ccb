-- Volumes marked in a list of booleans. No public contract stands on this file.
use Rattle.std.specs.Prelude.{◌≡◌, ℕ, ◌<◌, ◌≤◌, Bool, true, false, List, length, All, Contains, count_by, take, slice_index, slice_index_or}
use Rattle.gx_tree.specs.declared.placement.Placement.{Placement}
use Rattle.gx_tree.specs.Volume.{Volume, daughter_of}
use Rattle.gx_tree.specs.Hierarchy.{volume_at, leads, is_reached}

-- placements name volumes of the list
abbrev pub AreInRange : List Volume → Type 0
AreInRange volumes = All (λ v. All (λ p. daughter_of p < length volumes) v.placements) volumes

abbrev pub is_marked : List Bool → ℕ → Bool
is_marked marks v = slice_index_or marks v false

-- a chain of so many placements leads to the volume from a marked one
pub record IsLed (volumes : List Volume) (marks : List Bool) (n w : ℕ) : Type 0 where
  pub from : ℕ
  pub marked : is_marked marks from ≡ true
  pub leads : leads volumes n from w ≡ true

-- some chain does
pub record IsReached (volumes : List Volume) (marks : List Bool) (w : ℕ) : Type 0 where
  pub from : ℕ
  pub marked : is_marked marks from ≡ true
  pub reached : is_reached volumes from w ≡ true

-- a placement leads to the volume from a marked one of the first so many
pub record IsLedBelow (volumes : List Volume) (marks : List Bool) (count w : ℕ) : Type 0 where
  pub from : ℕ
  pub below : from < count
  pub marked : is_marked marks from ≡ true
  pub leads : leads volumes 1 from w ≡ true

-- ---- the search for all that are reached: which volumes are marked so far, and the list of those that were found

-- at most so many placements lead to the volume from one that was marked at first
pub record IsNear (volumes : List Volume) (first : List Bool) (most v : ℕ) : Type 0 where
  pub from : ℕ
  pub steps : ℕ
  pub few : steps ≤ most
  pub marked : is_marked first from ≡ true
  pub leads : leads volumes steps from v ≡ true

pub record IsSearch (volumes : List Volume) (first marks : List Bool) (found : List ℕ) : Type 0 where
  pub count : length marks ≡ length volumes
  pub once : length found ≡ count_by (λ marked. marked) marks
  pub within : All (λ v. v < length volumes) found
  pub listed : (v : ℕ) → is_marked marks v ≡ true → Contains found v
  pub near : (k : ℕ) → k < length found → IsNear volumes first k (slice_index found k)

-- the volumes that are marked stay so
abbrev pub AreStill : List Bool → List Bool → Type 0
AreStill first marks = (v : ℕ) → is_marked first v ≡ true → is_marked marks v ≡ true

abbrev pub AreMarked : List Bool → List Placement → Type 0
AreMarked marks placements = All (λ p. is_marked marks (daughter_of p) ≡ true) placements

-- the daughters of the first so many that were found are marked
abbrev pub AreClosed : List Volume → List Bool → List ℕ → ℕ → Type 0
AreClosed volumes marks found count = (k : ℕ) → k < count → AreMarked marks (volume_at volumes (slice_index found k)).placements

-- the daughters of these first so many are marked, and the first so many placements of the next
pub record IsVisit (volumes : List Volume) (first marks : List Bool) (found : List ℕ) (next : ℕ) (placements : List Placement) (seen : ℕ) : Type 0 where
  pub search : IsSearch volumes first marks found
  pub still : AreStill first marks
  pub closed : AreClosed volumes marks found next
  pub here : next < length found
  pub same : placements ≡ (volume_at volumes (slice_index found next)).placements
  pub marked : AreMarked marks (take seen placements)
