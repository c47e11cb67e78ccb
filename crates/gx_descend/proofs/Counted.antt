-- Sums over the runs gone into are at most sums over all runs.
use Rattle.std.proofs.Common.{◌≡◌, ℕ, zero, suc, ◌+◌, ◌-◌, ◌<◌, ◌≤◌, refl, ap, arith, ℤ, pos, Bool, true, false, List, [], ◌∷◌, length, get_or, take, subst, sym}
use Rattle.std.specs.Prelude.{int_lt, if◌then◌else◌, sum_by, flat_map}
use Rattle.std.proofs.lemmas.List.Sums.{sum_by_more, sum_by-take-le, sum_by-cons, sum_by-append}
use Rattle.gx_voxel.specs.Cells.{Cell}
use Rattle.gx_voxel.specs.Cut.{SliceRun}
use Rattle.gx_voxel.specs.Proxy.{list_of}
use Rattle.gx_voxel.specs.declared.proxy.Header.{Header}
use Rattle.gx_along.specs.Line.{Seen}
use Rattle.gx_along.specs.Along.{index_of, left_of, part_at}
use Rattle.gx_along.specs.Walked.{Walks, walked}
use Rattle.gx_along.specs.declared.line.Stretch.{Stretch}
use Rattle.gx_descend.proofs.Placed.{no_run}

pub sum-flat : (F : Cell → ℕ) (f : SliceRun → List Cell) (runs : List SliceRun) → sum_by F (flat_map f runs) ≡ sum_by (λ run. sum_by F (f run)) runs
sum-flat F f [] = refl
sum-flat F f (g ∷ runs) = omega (arith, sum_by-append F (f g) (flat_map f runs), sum-flat F f runs, sum_by-cons (λ (run : SliceRun). sum_by F (f run)) g runs)

module _ (o d : ℤ) (h : Header) (s : Stretch) (start : ℕ) (G : SliceRun → ℕ) (runs : List SliceRun) where
  abbrev cost : Seen → ℕ
  cost one = G (get_or runs one.index no_run)

  abbrev so_far : ℕ → ℕ
  so_far j = sum_by cost (walked o d h s start j)

  next : (j i : ℕ) → index_of d start j ≡ i → i < length runs → so_far (suc j) + sum_by G (take i runs) ≡ so_far j + sum_by G (take (i + 1) runs)
  next j i e less =
      let one : Seen = record { index = index_of d start j; part = part_at o d h s (index_of d start j) } in
      let same : cost one ≡ G (get_or runs i no_run) = ap (λ k. G (get_or runs k no_run)) e in
      let end : sum_by cost (one ∷ []) ≡ cost one + 0 = sum_by-cons cost one [] in
      omega (arith, same, end, sum_by-append cost (walked o d h s start j) (one ∷ []), sum_by_more G runs i no_run less)

  taken : (i k : ℕ) → i ≡ k → sum_by G (take i runs) ≡ sum_by G (take k runs)
  taken i k e = ap (λ n. sum_by G (take n runs)) e

  up : int_lt d (pos 0) ≡ false → (j : ℕ) → start + j ≤ length runs → so_far j + sum_by G (take start runs) ≡ sum_by G (take (start + j) runs)
  up e zero within = omega (arith, taken (start + 0) start (omega arith))
  up e (suc j) within =
      let i : index_of d start j ≡ start + j = ap (λ b. if b then start - 1 - j else start + j) e in
      omega (arith, up e j (omega (arith, within)), next j (start + j) i (omega (arith, within)), taken (start + suc j) (start + j + 1) (omega arith))

  down : int_lt d (pos 0) ≡ true → start ≤ length runs → (j : ℕ) → j ≤ start → so_far j + sum_by G (take (start - j) runs) ≡ sum_by G (take start runs)
  down e bound zero within = omega (arith, taken (start - 0) start (omega arith))
  down e bound (suc j) within =
      let i : index_of d start j ≡ start - 1 - j = ap (λ b. if b then start - 1 - j else start + j) e in
      omega (arith, down e bound j (omega (arith, within)), next j (start - 1 - j) i (omega (arith, within, bound)), taken (start - 1 - j + 1) (start - j) (omega (arith, within)), taken (start - suc j) (start - 1 - j) (omega (arith, within)))

  sum-walked : (j : ℕ) → start ≤ length runs → j ≤ left_of d (length runs) start → so_far j ≤ sum_by G runs
  sum-walked j bound within = go (int_lt d (pos 0)) refl
    where
      go : (b : Bool) → int_lt d (pos 0) ≡ b → so_far j ≤ sum_by G runs
      go true e =
          let w : left_of d (length runs) start ≡ start = ap (λ b. if b then start else length runs - start) e in
          omega (arith, down e bound j (omega (arith, within, w)), sum_by-take-le G runs start)
      go false e =
          let w : left_of d (length runs) start ≡ length runs - start = ap (λ b. if b then start else length runs - start) e in
          omega (arith, up e j (omega (arith, within, w, bound)), sum_by-take-le G runs (start + j))

pub sum-seen : (o d : ℤ) (h : Header) (s : Stretch) (seen : List Seen) → Walks o d h s seen → (G : SliceRun → ℕ) (runs : List SliceRun) → length (list_of h) ≡ length runs → sum_by (λ one. G (get_or runs one.index no_run)) seen ≤ sum_by G runs
sum-seen o d h s seen w G runs count =
    subst (λ l. sum_by (λ (one : Seen). G (get_or runs one.index no_run)) l ≤ sum_by G runs) (sym w.all)
    (sum-walked o d h s w.start G runs w.steps (omega (arith, w.bound, count)) (subst (λ n. w.steps ≤ left_of d n w.start) count w.within))
