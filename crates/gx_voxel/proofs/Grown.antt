-- Runs of slices: each slice is in one of them, they follow one another, and two that are adjacent differ.
use Rattle.std.proofs.Common.{◌≡◌, ◌≢◌, ℕ, zero, suc, ◌+◌, ◌<◌, ◌≤◌, inl, inr, refl, sym, ap, ◌∙◌, arith, true, List, [], ◌∷◌, nat_eq, map, length, subst}
use Rattle.std.specs.List.{All, AllByRecursion, range_with_len}
use Rattle.std.proofs.lemmas.List.FromFn.{length-map-range_with_len}
use Rattle.std.specs.Cmp.Lexicographic.{pointwise, same_text}
use Rattle.std.proofs.lemmas.Bool.{cases_lt}
use Rattle.gx_voxel.specs.Cut.{Grid, SliceRun, bound_at, grown, run_of, runs_of}
use Rattle.gx_voxel.specs.Proxy.{last_of, FollowOn, AreRuns, Alike, IsRun}
use Rattle.gx_voxel.specs.declared.proxy.Proxy.{Proxy}
use Rattle.gx_voxel.specs.declared.proxy.Run.{Run}
use Rattle.gx_offers.specs.Offers.{AnyByRecursion}
use Rattle.gx_voxel.specs.Laws.{EachNext}
use Rattle.gx_voxel.proofs.Elements.{by_test}

-- a run of the grid that has slice i, whose members are these
pub record HasSlice (grid : Grid) (i : ℕ) (ks : List ℕ) (run : SliceRun) : Type 0 where
  pub first : run.first ≤ i
  pub last : i ≤ run.last
  pub is : run ≡ run_of grid run.first run.last ks

module _ (grid : Grid) (slice : ℕ → List ℕ) where
  abbrev Has : ℕ → List SliceRun → Type 0
  Has i runs = AnyByRecursion (HasSlice grid i (slice i)) runs

  abbrev rest : ℕ → ℕ → List (List ℕ)
  rest last n = map slice (range_with_len (last + 1) n)

  -- a slice of the run that grows
  now : (n first last : ℕ) (ks : List ℕ) (i : ℕ) → first ≤ i → i ≤ last → ks ≡ slice i → Has i (grown grid first last ks (rest last n))
  now zero first last ks i h k e = inl (record { first = h; last = k; is = ap (run_of grid first last) e })
  now (suc n) first last ks i h k e =
      by_test (Has i) (pointwise nat_eq ks (slice (last + 1))) (grown grid first (last + 1) ks (rest (last + 1) n)) (run_of grid first last ks ∷ grown grid (last + 1) (last + 1) (slice (last + 1)) (rest (last + 1) n))
      (λ _. now n first (last + 1) ks i h (omega arith) e)
      (λ _. inl (record { first = h; last = k; is = ap (run_of grid first last) e }))

  -- a slice that comes later
  later : (n first last : ℕ) (ks : List ℕ) (i : ℕ) → first ≤ last → last < i → i ≤ last + n → Has i (grown grid first last ks (rest last n))
  later zero first last ks i f h k = absurd (omega arith)
  later (suc n) first last ks i f h k =
      by_test (Has i) (pointwise nat_eq ks (slice (last + 1))) (grown grid first (last + 1) ks (rest (last + 1) n)) (run_of grid first last ks ∷ grown grid (last + 1) (last + 1) (slice (last + 1)) (rest (last + 1) n))
      (λ e. elim (cases_lt (last + 1) i) [
        | inl less ↦ later n first (last + 1) ks i (omega arith) less (omega arith)
        | inr most ↦ let is : last + 1 ≡ i = omega arith in now n first (last + 1) ks i (omega arith) (omega arith) (same_text ks (slice (last + 1)) (sym e) ∙ ap slice is)
      ])
      (λ _. inr (elim (cases_lt (last + 1) i) [
        | inl less ↦ later n (last + 1) (last + 1) (slice (last + 1)) i (omega arith) less (omega arith)
        | inr most ↦ let is : last + 1 ≡ i = omega arith in now n (last + 1) (last + 1) (slice (last + 1)) i (omega arith) (omega arith) (ap slice is)
      ]))

  pub runs-have : (n i : ℕ) → i < n → Has i (runs_of grid (map slice (range_with_len 0 n)))
  runs-have zero i h = absurd (omega arith)
  runs-have (suc n) i h = elim (cases_lt 0 i) [
    | inl less ↦ later n 0 0 (slice 0) i (omega arith) less (omega arith)
    | inr most ↦ let is : 0 ≡ i = omega arith in now n 0 0 (slice 0) i (omega arith) (omega arith) (ap slice is)
  ]

abbrev Differs : SliceRun → SliceRun → Type 0
Differs run next = run.members ≢ next.members

-- these runs differ from one to the next, and the first has these members
abbrev Begins : List ℕ → List SliceRun → Type 0
Begins ks [] = ⊥
Begins ks (run ∷ runs) = (run.members ≡ ks) × EachNext Differs (run ∷ runs)

same : (xs : List ℕ) → pointwise nat_eq xs xs ≡ true
same [] = refl
same (x ∷ xs) = grind (arith, same xs)

module _ (grid : Grid) where
  one_more : (run : SliceRun) (ks : List ℕ) (runs : List SliceRun) → run.members ≢ ks → Begins ks runs → Begins run.members (run ∷ runs)
  one_more run ks [] other begins = absurd begins
  one_more run ks (next ∷ runs) other begins = (refl, ((λ e. other (e ∙ begins.0)), begins.1))

  grown-differ : (first last : ℕ) (ks : List ℕ) (slices : List (List ℕ)) → Begins ks (grown grid first last ks slices)
  grown-differ first last ks [] = (refl, tt)
  grown-differ first last ks (next ∷ slices) =
      by_test (Begins ks) (pointwise nat_eq ks next) (grown grid first (last + 1) ks slices) (run_of grid first last ks ∷ grown grid (last + 1) (last + 1) next slices)
      (λ _. grown-differ first (last + 1) ks slices)
      (λ e. one_more (run_of grid first last ks) next (grown grid (last + 1) (last + 1) next slices) (λ is. absurd (cc (same ks, ap (λ n. pointwise nat_eq ks n) is))) (grown-differ (last + 1) (last + 1) next slices))

  begins-each : (ks : List ℕ) (runs : List SliceRun) → Begins ks runs → EachNext Differs runs
  begins-each ks [] h = absurd h
  begins-each ks (run ∷ runs) h = h.1

  pub runs-differ : (slices : List (List ℕ)) → EachNext Differs (runs_of grid slices)
  runs-differ [] = tt
  runs-differ (ks ∷ slices) = begins-each ks (grown grid 0 0 ks slices) (grown-differ 0 0 ks slices)

-- a run from slice i on, below slice n, with the bounds of its slices, and members of which Q holds
pub record IsPiece (grid : Grid) (Q : List ℕ → Type 0) (i n : ℕ) (run : SliceRun) : Type 0 where
  pub first : run.first ≡ i
  pub last : i ≤ run.last
  pub below : run.last < n
  pub is : run ≡ run_of grid run.first run.last run.members
  pub has : Q run.members

-- runs one after another, of all slices from i up to n
abbrev pub InTurn : Grid → (List ℕ → Type 0) → ℕ → ℕ → List SliceRun → Type 0
InTurn grid Q i n [] = i ≡ n
InTurn grid Q i n (run ∷ runs) = IsPiece grid Q i n run × InTurn grid Q (run.last + 1) n runs

module _ (grid : Grid) (Q : List ℕ → Type 0) where
  grown-turn : (first last : ℕ) (ks : List ℕ) (slices : List (List ℕ)) → first ≤ last → Q ks → AllByRecursion Q slices → InTurn grid Q first (last + 1 + length slices) (grown grid first last ks slices)
  grown-turn first last ks [] h q all = (record { first = refl; last = h; below = omega arith; is = refl; has = q }, omega arith)
  grown-turn first last ks (next ∷ slices) h q all =
      let e : last + 1 + 1 + length slices ≡ last + 1 + suc (length slices) = omega arith in
      by_test (InTurn grid Q first (last + 1 + suc (length slices))) (pointwise nat_eq ks next) (grown grid first (last + 1) ks slices) (run_of grid first last ks ∷ grown grid (last + 1) (last + 1) next slices)
      (λ _. subst (λ n. InTurn grid Q first n (grown grid first (last + 1) ks slices)) e (grown-turn first (last + 1) ks slices (omega arith) q all.1))
      (λ _. (
        record { first = refl; last = h; below = omega arith; is = refl; has = q },
        subst (λ n. InTurn grid Q (last + 1) n (grown grid (last + 1) (last + 1) next slices)) e (grown-turn (last + 1) (last + 1) next slices (omega arith) all.0 all.1),
      ))

  pub runs-turn : (slice : ℕ → List ℕ) → ((i : ℕ) → Q (slice i)) → (n : ℕ) → InTurn grid Q 0 n (runs_of grid (map slice (range_with_len 0 n)))
  runs-turn slice each zero = refl
  runs-turn slice each (suc n) =
      let e : 0 + 1 + length (map slice (range_with_len 1 n)) ≡ suc n = omega (arith, length-map-range_with_len slice 1 n) in
      subst (λ m. InTurn grid Q 0 m (grown grid 0 0 (slice 0) (map slice (range_with_len 1 n)))) e (grown-turn 0 0 (slice 0) (map slice (range_with_len 1 n)) (omega arith) (each 0) (all 1 n))
    where
      all : (i n : ℕ) → AllByRecursion Q (map slice (range_with_len i n))
      all i zero = tt
      all i (suc n) = (each i, all (i + 1) n)

  pub turn-few : (i n : ℕ) (runs : List SliceRun) → InTurn grid Q i n runs → i + length runs ≤ n
  turn-few i n [] turn = omega (arith, turn)
  turn-few i n (run ∷ runs) turn = omega (arith, turn-few (run.last + 1) n runs turn.1, turn.0.last)

  pub turn-each : (P : SliceRun → Type 0) → ((i n : ℕ) (run : SliceRun) → IsPiece grid Q i n run → P run) → (i n : ℕ) (runs : List SliceRun) → InTurn grid Q i n runs → All P runs
  turn-each P each i n [] turn = λ k d h. absurd (omega arith)
  turn-each P each i n (run ∷ runs) turn = go (each i n run turn.0) (turn-each P each (run.last + 1) n runs turn.1)
    where
      go : P run → All P runs → All P (run ∷ runs)
      go p all zero d h = p
      go p all (suc k) d h = all k d (omega arith)

  -- the runs of a header that has these
  pub turn-follow : (Stands : Proxy → List ℕ → Type 0) (i n : ℕ) (hs : List Run) (runs : List SliceRun) → Alike (IsRun Stands) hs runs → InTurn grid Q i n runs → FollowOn i (bound_at grid i) hs
  turn-follow Stands i n [] runs all turn = tt
  turn-follow Stands i n (h ∷ hs) [] all turn = absurd all
  turn-follow Stands i n (h ∷ hs) (run ∷ runs) all turn =
      let low : run.low ≡ bound_at grid run.first = ap (λ r. r.low) turn.0.is in
      let high : run.high ≡ bound_at grid (run.last + 1) = ap (λ r. r.high) turn.0.is in (
        all.0.first ∙ turn.0.first,
        all.0.low ∙ low ∙ ap (bound_at grid) turn.0.first,
        subst (λ z. FollowOn (last_of h + 1) z hs) (sym (all.0.high ∙ high))
            (subst (λ j. FollowOn (j + 1) (bound_at grid (run.last + 1)) hs) (sym all.0.last) (turn-follow Stands (run.last + 1) n hs runs all.1 turn.1)),
      )

  pub turn-runs : (Stands : Proxy → List ℕ → Type 0) (n : ℕ) (hs : List Run) (runs : List SliceRun) → 0 < n → n ≤ 1000 → Alike (IsRun Stands) hs runs → InTurn grid Q 0 n runs → AreRuns hs
  turn-runs Stands n hs runs some few all turn = record {
    some = go hs runs all turn;
    few = omega (arith, length-alike hs runs all, turn-few 0 n runs turn);
    low = bound_at grid 0;
    turn = turn-follow Stands 0 n hs runs all turn;
  }
    where
      go : (hs : List Run) (runs : List SliceRun) → Alike (IsRun Stands) hs runs → InTurn grid Q 0 n runs → 0 < length hs
      go [] [] all turn = absurd (omega (arith, turn))
      go [] (run ∷ runs) all turn = absurd all
      go (h ∷ hs) runs all turn = omega arith

      length-alike : (hs : List Run) (runs : List SliceRun) → Alike (IsRun Stands) hs runs → length hs ≡ length runs
      length-alike [] [] all = refl
      length-alike [] (run ∷ runs) all = absurd all
      length-alike (h ∷ hs) [] all = absurd all
      length-alike (h ∷ hs) (run ∷ runs) all = omega (arith, length-alike hs runs all.1)
