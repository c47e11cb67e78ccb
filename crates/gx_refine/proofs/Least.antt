-- The least and the greatest of some numbers, from the first on.
use Rattle.std.proofs.Common.{◌≡◌, ℕ, ◌<◌, ℤ, refl, ap, ◌∙◌, arith, Bool, true, false, cond, List, [], ◌∷◌, length, map, fold, slice_index}
use Rattle.std.specs.Prelude.{int_lt}
use Rattle.std.specs.Int.{int_min, int_max}
use Rattle.std.proofs.lemmas.List.Folds.{fold-map}
use Rattle.gx_voxel.specs.Cut.{least, greatest}

either : (b : Bool) (z : ℤ) → z ≡ cond b z z
either true z = refl
either false z = refl

module _ (f : ℕ → ℤ) where
  pub least_is : (ks : List ℕ) → 0 < length ks → least (map f ks) ≡ fold (λ z k. int_min z (f k)) (f (slice_index ks 0)) ks
  least_is [] h = absurd (omega arith)
  least_is (k ∷ ks) h = fold-map int_min f (f k) ks ∙ ap (λ z. fold (λ z k. int_min z (f k)) z ks) (either (int_lt (f k) (f k)) (f k))

  pub greatest_is : (ks : List ℕ) → 0 < length ks → greatest (map f ks) ≡ fold (λ z k. int_max z (f k)) (f (slice_index ks 0)) ks
  greatest_is [] h = absurd (omega arith)
  greatest_is (k ∷ ks) h = fold-map int_max f (f k) ks ∙ ap (λ z. fold (λ z k. int_max z (f k)) z ks) (either (int_lt (f k) (f k)) (f k))
