-- What holds of each daughter's verdict and of each pair's holds of all verdicts.
use Rattle.std.proofs.Common.{◌≡◌, ℕ, ◌+◌, ◌-◌, ◌<◌, ◌≤◌, List, [], ◌∷◌, length, sym, subst, All, arith}
use Rattle.std.specs.Prelude.{flat_map}
use Rattle.std.specs.List.{range_with_len}
use Rattle.std.proofs.lemmas.List.{length-map}
use Rattle.std.proofs.lemmas.List.Elements.{All-nil, All-head, All-tail, All-append, All-map}
use Rattle.std.proofs.lemmas.List.FromFn.{length-range_with_len, get_or-range_with_len}
use Rattle.gx_tree.specs.Hierarchy.{Hierarchy, instances}
use Rattle.gx_check.specs.declared.verdict.Verdict.{Verdict}
use Rattle.gx_check.specs.Verdicts.{solid_vertices, placed_vertices, placed_daughters, daughter_verdict, pair_verdict, ordinals_from, daughter_verdicts, verdicts_with, pair_verdicts, verdicts_in, verdicts}

All-flat_map : {X Y : Type 0} (P : Y → Type 0) (f : X → List Y) (xs : List X) → All (λ x. All P (f x)) xs → All P (flat_map f xs)
All-flat_map P f [] all = All-nil P
All-flat_map P f (x ∷ xs) all = All-append P (f x) (flat_map f xs) (All-head (λ x. All P (f x)) x xs all) (All-flat_map P f xs (All-tail (λ x. All P (f x)) x xs all))

All-range : (P : ℕ → Type 0) (a n : ℕ) → ((k : ℕ) → a ≤ k → k < a + n → P k) → All P (range_with_len a n)
All-range P a n h k d less =
    let below : k < n = omega (arith, length-range_with_len a n) in
    subst P (sym (get_or-range_with_len a n k d below)) (h (a + k) (omega arith) (omega arith))

pub All-verdicts : (P : Verdict → Type 0) (h : Hierarchy) → ((v k : ℕ) → v < length h.volumes → k < length (instances h v) → P (daughter_verdict v (solid_vertices h v) (placed_daughters h v) k)) → ((v i j : ℕ) → v < length h.volumes → i < j → j < length (instances h v) → P (pair_verdict v (placed_daughters h v) i j)) → All P (verdicts h)
unfolding verdicts verdicts_in daughter_verdicts verdicts_with pair_verdicts
All-verdicts P h daughter pair =
    All-flat_map P (verdicts_in h) (range_with_len 0 (length h.volumes)) (All-range (λ v. All P (verdicts_in h v)) 0 (length h.volumes) (λ v from below. mother v (omega arith)))
  where
    mother : (v : ℕ) → v < length h.volumes → All P (verdicts_in h v)
    mother v below =
        let ds = placed_daughters h v in
        let count : length ds ≡ length (instances h v) = length-map (instances h v) (placed_vertices h) in
        All-append P (daughter_verdicts v (solid_vertices h v) ds) (pair_verdicts v ds)
        (All-map P (daughter_verdict v (solid_vertices h v) ds) (ordinals_from 0 ds) (All-range (λ k. P (daughter_verdict v (solid_vertices h v) ds k)) 0 (length ds - 0) (λ k from less. daughter v k below (omega arith))))
        (All-flat_map P (verdicts_with v ds) (ordinals_from 0 ds)
        (All-range (λ i. All P (verdicts_with v ds i)) 0 (length ds - 0) (λ i _ _.
        All-map P (pair_verdict v ds i) (ordinals_from (i + 1) ds) (All-range (λ j. P (pair_verdict v ds i j)) (i + 1) (length ds - (i + 1)) (λ j from less. pair v i j below (omega arith) (omega arith))))))
