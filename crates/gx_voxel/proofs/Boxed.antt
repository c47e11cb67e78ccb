-- Boxes of members, and offering them.
use Rattle.std.proofs.Common.{◌≡◌, ℕ, zero, suc, ◌<◌, ◌≤◌, inl, inr, refl, sym, ap, subst, arith, List, [], ◌∷◌, length, map, get_or, Option, Some}
use Rattle.std.specs.List.{All, AllByRecursion}
use Rattle.std.specs.List.Sorted.{IsPermutation}
use Rattle.std.proofs.lemmas.List.Elements.{All-map, All-weaker, All-from_recursion, recursion_from_All}
use Rattle.std.proofs.lemmas.List.Sorted.{All-permutation, IsPermutation-map, IsPermutation-sym, length_permutation}
use Rattle.gx_num.specs.declared.extent.Extent.{Extent}
use Rattle.gx_num.specs.declared.ray.Ray.{Ray}
use Rattle.gx_algebra.proofs.Lists.{All-from_map}
use Rattle.gx_offers.specs.Offers.{IsOneOf, Offered, IsOffered}
use Rattle.gx_offers.proofs.Offered.{wider}
use Rattle.gx_boxes.specs.Boxes.{IsProper, IsMet, IsMetAmong}
use Rattle.gx_boxes.specs.declared.boxed.Boxed.{Boxed}
use Rattle.gx_voxel.specs.Members.{extent_at}
use Rattle.gx_voxel.specs.Kept.{boxed_at}
use Rattle.gx_voxel.proofs.Elements.{all-one}

abbrev numbers_of : List Boxed → List ℕ
numbers_of boxes = map (λ b. b.number) boxes

numbers-boxed : (extents : List Extent) (ks : List ℕ) → numbers_of (map (boxed_at extents) ks) ≡ ks
numbers-boxed extents [] = refl
numbers-boxed extents (k ∷ ks) = ap (λ l. k ∷ l) (numbers-boxed extents ks)

module _ (extents : List Extent) (ks : List ℕ) where
  pub proper-boxed : All (λ k. k < length extents) ks → All IsProper extents → All (λ b. IsProper b.extent) (map (boxed_at extents) ks)
  proper-boxed below proper = All-map (λ b. IsProper b.extent) (boxed_at extents) ks (All-weaker (λ k. k < length extents) (λ k. IsProper (extent_at extents k)) (λ k less. proper k _ less) ks below)

  module _ (boxes : List Boxed) (same : IsPermutation (map (boxed_at extents) ks) boxes) where
    pub numbers-same : IsPermutation ks (numbers_of boxes)
    numbers-same = subst (λ l. IsPermutation l (numbers_of boxes)) (numbers-boxed extents ks) (IsPermutation-map (λ (b : Boxed). b.number) (map (boxed_at extents) ks) boxes same)

    pub kept-same : AllByRecursion (λ b. b.extent ≡ extent_at extents b.number) boxes
    kept-same = recursion_from_All (λ b. b.extent ≡ extent_at extents b.number) boxes
        (All-permutation (λ b. b.extent ≡ extent_at extents b.number) (map (boxed_at extents) ks) boxes same (All-map (λ b. b.extent ≡ extent_at extents b.number) (boxed_at extents) ks (λ k d less. refl)))

-- ---- lists with the same numbers
each-one : (ks ls : List ℕ) → ((k : ℕ) → IsOneOf k ls → IsOneOf k ks) → AllByRecursion (λ k. IsOneOf k ks) ls
each-one ks [] within = tt
each-one ks (l ∷ ls) within = (within l (inl refl), each-one ks ls (λ k one. within k (inr one)))

one-same : (ks ls : List ℕ) → IsPermutation ks ls → (k : ℕ) → IsOneOf k ls → IsOneOf k ks
one-same ks ls same k one = all-one (λ j. IsOneOf j ks) ls k (All-permutation (λ j. IsOneOf j ks) ks ls same (All-from_recursion (λ j. IsOneOf j ks) ks (each-one ks ks (λ j is. is)))) one

met-among : (at : ℕ → Extent) (ray : Ray) (boxes : List Boxed) (k : ℕ) → AllByRecursion (λ b. b.extent ≡ at b.number) boxes → IsOneOf k (numbers_of boxes) → IsMet (at k) ray → IsMetAmong boxes ray k
met-among at ray [] k kept one met = absurd one
met-among at ray (b ∷ boxes) k kept (inl e) met = inl (sym e, subst (λ (x : Extent). IsMet x ray) (sym kept.0) (subst (λ j. IsMet (at j) ray) e met))
met-among at ray (b ∷ boxes) k kept (inr one) met = inr (met-among at ray boxes k kept.1 one met)

module _ (ks : List ℕ) (boxes : List Boxed) (same : IsPermutation ks (numbers_of boxes)) where
  pub boxes-below : (room : ℕ) → All (λ k. k < room) ks → All (λ b. b.number < room) boxes
  boxes-below room below = All-from_map (λ k. k < room) (λ (b : Boxed). b.number) boxes (All-permutation (λ k. k < room) ks (numbers_of boxes) same below)

  -- where the boxes are the members' extents, each member that the ray meets is there
  pub offered-boxed : (at : ℕ → Extent) (ray : Ray) (old new : Offered) → AllByRecursion (λ b. b.extent ≡ at b.number) boxes → IsOffered (IsMetAmong boxes ray) (numbers_of boxes) old new → IsOffered (λ k. IsMet (at k) ray) ks old new
  offered-boxed at ray old new kept offered =
      wider (IsMetAmong boxes ray) (λ k. IsMet (at k) ray) (numbers_of boxes) ks old new
      (one-same ks (numbers_of boxes) same)
      (omega (arith, length_permutation ks (numbers_of boxes) same))
      (λ k one met. let there = one-same (numbers_of boxes) ks (IsPermutation-sym ks (numbers_of boxes) same) k one in (there, met-among at ray boxes k kept there met))
      offered
