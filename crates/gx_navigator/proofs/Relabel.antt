-- Two ways of saying what is known of a daughter: the pieces of a walk are the same, and so is its cost.
use Rattle.std.proofs.Common.{◌≡◌, ℕ, zero, suc, ◌+◌, Bool, true, false, refl, sym, ap, ◌∙◌, List, [], ◌∷◌, ◌++◌, map, Option, None, Some}
use Rattle.std.specs.Prelude.{if◌then◌else◌, sum_by}
use Rattle.std.specs.Option.{option_map}
use Rattle.std.proofs.lemmas.List.Sums.{sum_by-cons}
use Rattle.gx_num.specs.Ray.{RayParameter}
use Rattle.gx_partition.specs.Partition.{Piece, is_below}
use Rattle.gx_partition.specs.Walk.{Hit, gap, under, walk, pieces_of, insert_hit, insert_found, sorted}
use Rattle.gx_walk.specs.Hits.{CountOf, cost_of}

module _ {D E : Type 0} (f : D → E) where
  abbrev pub relabel : Hit D → Hit E
  relabel h = record { ordinal = h.ordinal; from = h.from; to = h.to; daughter = f h.daughter }

  insert-relabel : (h : Hit D) (hits : List (Hit D)) → insert_hit (relabel h) (map relabel hits) ≡ map relabel (insert_hit h hits)
  insert-relabel h [] = refl
  insert-relabel h (g ∷ hits) = go (is_below h.from g.from) (insert-relabel h hits)
    where
      go : (b : Bool) → insert_hit (relabel h) (map relabel hits) ≡ map relabel (insert_hit h hits)
          → (if b then relabel h ∷ relabel g ∷ map relabel hits else relabel g ∷ insert_hit (relabel h) (map relabel hits)) ≡ map relabel (if b then h ∷ g ∷ hits else g ∷ insert_hit h hits)
      go true e = refl
      go false e = ap (λ l. relabel g ∷ l) e

  pub sorted-relabel : (found : ℕ → Option (Hit D)) (n : ℕ) → sorted (λ k. option_map relabel (found k)) n ≡ map relabel (sorted found n)
  sorted-relabel found zero = refl
  sorted-relabel found (suc n) = go (found n) (sorted-relabel found n)
    where
      go : (o : Option (Hit D)) → sorted (λ k. option_map relabel (found k)) n ≡ map relabel (sorted found n)
          → insert_found (option_map relabel o) (sorted (λ k. option_map relabel (found k)) n) ≡ map relabel (insert_found o (sorted found n))
      go None e = e
      go (Some h) e = ap (insert_hit (relabel h)) e ∙ insert-relabel h (sorted found n)

  walk-relabel : (pieces : Hit D → List Piece) (others : Hit E → List Piece) → ((h : Hit D) → others (relabel h) ≡ pieces h)
      → (s : RayParameter) (m : Bool) (to : RayParameter) (hits : List (Hit D)) → walk others s m to (map relabel hits) ≡ walk pieces s m to hits
  walk-relabel pieces others each s m to [] = refl
  walk-relabel pieces others each s m to (h ∷ hits) =
      ap (λ l. gap s m h.from true ++ (map (under h.ordinal) l ++ walk others h.to true to (map relabel hits))) (each h)
      ∙ ap (λ l. gap s m h.from true ++ (map (under h.ordinal) (pieces h) ++ l)) (walk-relabel pieces others each h.to true to hits)

  sum-relabel : (cost : Hit D → ℕ) (other : Hit E → ℕ) → ((h : Hit D) → other (relabel h) ≡ cost h) → (hits : List (Hit D)) → sum_by other (map relabel hits) ≡ sum_by cost hits
  sum-relabel cost other each [] = refl
  sum-relabel cost other each (h ∷ hits) =
      sum_by-cons other (relabel h) (map relabel hits) ∙ ap (λ n. n + sum_by other (map relabel hits)) (each h) ∙ ap (λ n. cost h + n) (sum-relabel cost other each hits) ∙ sym (sum_by-cons cost h hits)

  module _ (hits : D → List (Hit D)) (others : E → List (Hit E)) (same : (d : D) → others (f d) ≡ map relabel (hits d)) where
    pub pieces-relabel : (n : ℕ) (from to : RayParameter) (d : D) → pieces_of others n from to (f d) ≡ pieces_of hits n from to d
    pieces-relabel zero from to d = refl
    pieces-relabel (suc n) from to d =
        ap (walk (λ h. pieces_of others n h.from h.to h.daughter) from false to) (same d)
        ∙ walk-relabel (λ h. pieces_of hits n h.from h.to h.daughter) (λ h. pieces_of others n h.from h.to h.daughter) (λ h. pieces-relabel n h.from h.to h.daughter) from false to (hits d)

    pub cost-relabel : (count : CountOf E) (n : ℕ) (from to : RayParameter) (d : D) → cost_of count others n from to (f d) ≡ cost_of (λ d. count (f d)) hits n from to d
    cost-relabel count zero from to d = refl
    cost-relabel count (suc n) from to d =
        ap (λ l. count (f d) from to + sum_by (λ h. cost_of count others n h.from h.to h.daughter) l) (same d)
        ∙ ap (λ s. count (f d) from to + s)
        (sum-relabel (λ h. cost_of (λ d. count (f d)) hits n h.from h.to h.daughter) (λ h. cost_of count others n h.from h.to h.daughter) (λ h. cost-relabel count n h.from h.to h.daughter) (hits d))
