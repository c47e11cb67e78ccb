-- Runs that grow slice by slice are the runs of all slices.
use Rattle.std.proofs.Common.{◌≡◌, ℕ, suc, ◌+◌, ◌-◌, ◌<◌, ◌≤◌, refl, sym, ap, subst, ◌∙◌, arith, Bool, true, false, List, [], ◌∷◌, ◌++◌, append_assoc, map, nat_eq, cond}
use Rattle.std.specs.List.{range_with_len}
use Rattle.std.specs.Cmp.Lexicographic.{pointwise}
use Rattle.gx_voxel.specs.Cut.{Grid, SliceRun, bound_at, run_of, grown, runs_of}
use Rattle.gx_refine.specs.Grown.{last_after, ended_after, AreRunsSoFar}

module _ (grid : Grid) (slice : ℕ → List ℕ) where
  abbrev rest : ℕ → List (List ℕ)
  rest i = map slice (range_with_len i (grid.count - i))

  rest-next : (i : ℕ) → i < grid.count → rest i ≡ slice i ∷ rest (i + 1)
  rest-next i h = let e : grid.count - i ≡ suc (grid.count - (i + 1)) = omega arith in ap (λ n. map slice (range_with_len i n)) e

  pub first-run : 0 < grid.count → (ended : List SliceRun) (run : SliceRun) (ks : List ℕ) → ended ≡ [] → run ≡ run_of grid 0 0 ks → ks ≡ slice 0
      → AreRunsSoFar grid slice 1 ended run (runs_of grid (map slice (range_with_len 0 grid.count)))
  first-run some ended run ks e f g =
      let all : List SliceRun = runs_of grid (map slice (range_with_len 0 grid.count)) in
      let none : grid.count ≡ grid.count - 0 = omega arith in
      subst (λ l. AreRunsSoFar grid slice 1 l run all) (sym e) (subst (λ r. AreRunsSoFar grid slice 1 [] r all) (sym (f ∙ ap (run_of grid 0 0) g)) (record {
        is = refl;
        last = refl;
        whole = sym (ap (λ n. runs_of grid (map slice (range_with_len 0 n))) none ∙ ap (runs_of grid) (rest-next 0 some));
      }))

  pub next-run : (i : ℕ) (ended : List SliceRun) (run : SliceRun) (all : List SliceRun) (ended' : List SliceRun) (run' : SliceRun) (ks : List ℕ) → i < grid.count
      → AreRunsSoFar grid slice i ended run all → ended' ≡ ended_after ended run ks → run' ≡ last_after grid run i ks → ks ≡ slice i → AreRunsSoFar grid slice (i + 1) ended' run' all
  next-run i ended run all ended' run' ks h far e f g = go (pointwise nat_eq run.members ks) refl e f
    where
      low : run.low ≡ bound_at grid run.first
      low = ap (λ r. r.low) far.is

      longer : SliceRun
      longer = record { first = run.first; last = i; low = run.low; high = bound_at grid (i + 1); members = run.members }

      -- what is still to come, with the next slice in front
      whole : ended ++ grown grid run.first run.last run.members (ks ∷ rest (i + 1)) ≡ all
      whole = ap (λ l. ended ++ grown grid run.first run.last run.members l) (ap (λ x. x ∷ rest (i + 1)) g ∙ sym (rest-next i h)) ∙ far.whole

      go : (b : Bool) → pointwise nat_eq run.members ks ≡ b → ended' ≡ cond b ended (ended ++ run ∷ []) → run' ≡ cond b longer (run_of grid i i ks) → AreRunsSoFar grid slice (i + 1) ended' run' all
      go true same e f =
          let step : grown grid run.first run.last run.members (ks ∷ rest (i + 1)) ≡ grown grid run.first (run.last + 1) run.members (rest (i + 1)) =
          ap (λ b. cond b (grown grid run.first (run.last + 1) run.members (rest (i + 1))) (run_of grid run.first run.last run.members ∷ grown grid (run.last + 1) (run.last + 1) ks (rest (i + 1)))) same in
          subst (λ l. AreRunsSoFar grid slice (i + 1) l run' all) (sym e) (subst (λ r. AreRunsSoFar grid slice (i + 1) ended r all) (sym f) (record {
            is = ap (λ z. record { first = run.first; last = i; low = z; high = bound_at grid (i + 1); members = run.members }) low;
            last = refl;
            whole = ap (λ n. ended ++ grown grid run.first n run.members (rest (i + 1))) (sym far.last) ∙ sym (ap (λ l. ended ++ l) step) ∙ whole;
          }))
      go false same e f =
          let step : grown grid run.first run.last run.members (ks ∷ rest (i + 1)) ≡ run ∷ grown grid i i ks (rest (i + 1)) =
          ap (λ b. cond b (grown grid run.first (run.last + 1) run.members (rest (i + 1))) (run_of grid run.first run.last run.members ∷ grown grid (run.last + 1) (run.last + 1) ks (rest (i + 1)))) same
          ∙ ap (λ r. r ∷ grown grid (run.last + 1) (run.last + 1) ks (rest (i + 1))) (sym far.is) ∙ ap (λ n. run ∷ grown grid n n ks (rest (i + 1))) far.last in
          subst (λ l. AreRunsSoFar grid slice (i + 1) l run' all) (sym e) (subst (λ r. AreRunsSoFar grid slice (i + 1) (ended ++ run ∷ []) r all) (sym f) (record {
            is = refl;
            last = refl;
            whole = append_assoc ended (run ∷ []) (grown grid i i ks (rest (i + 1))) ∙ sym (ap (λ l. ended ++ l) step) ∙ whole;
          }))

  pub last-run : (i : ℕ) (ended : List SliceRun) (run : SliceRun) (all : List SliceRun) → grid.count ≤ i → AreRunsSoFar grid slice i ended run all → ended ++ run ∷ [] ≡ all
  last-run i ended run all h far =
      let none : grid.count - i ≡ 0 = omega arith in
      ap (λ r. ended ++ r ∷ []) far.is ∙ ap (λ n. ended ++ grown grid run.first run.last run.members (map slice (range_with_len i n))) (sym none) ∙ far.whole
