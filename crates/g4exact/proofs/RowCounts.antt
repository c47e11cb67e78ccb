-- How the rows of rays add up.
use Rattle.std.proofs.Common.{◌≡◌, ℕ, zero, suc, ◌+◌, ◌≤◌, List, [], ◌∷◌, ◌++◌, length, drop, Some, Result, Ok, Err, OnOk, refl, sym, ap, ◌∙◌, subst, arith, length-append}
use Rattle.std.specs.Prelude.{slice_get, sum_by}
use Rattle.std.specs.List.{range_with_len}
use Rattle.std.proofs.lemmas.List.Sums.{sum_by_push}
use Rattle.std.proofs.lemmas.List.{drop_all}
use Rattle.gx_num.specs.declared.ray.Ray.{Ray}
use Rattle.gx_io.specs.declared.fault.Failed.{Failed}
use Rattle.gx_io.specs.Bytes.{with_after, HasCause}
use Rattle.gx_path.specs.Report.{Row, IsReport}
use Rattle.gx_tree.specs.Hierarchy.{Hierarchy}
use Rattle.gx_tree.specs.Deepest.{path_along}
use Rattle.gx_walk.specs.Hits.{items_of}
use Rattle.g4exact.specs.Marks.{marks}
use Rattle.g4exact.specs.Output.{AreRows}
use Rattle.g4exact.proofs.Traces.{drop_get}

-- the first rays have so many rows, which goes on with those of the rays that are left
pub record Counted (h : Hierarchy) (rays : List Ray) (i : ℕ) (count : ℕ) : Type 0 where
  pub goes_on : (rest : ℕ) → AreRows h (drop i rays) rest → AreRows h rays (count + rest)

pub counted_none : (h : Hierarchy) (rays : List Ray) → Counted h rays 0 0
counted_none h rays = record { goes_on = λ rest rows. let same : rest ≡ 0 + rest = omega arith in subst (AreRows h rays) same rows }

-- one mark more
marks-append : (n m k : ℕ) → k ≡ n + m → marks n ++ marks m ≡ marks k
marks-append zero m k e = let same : m ≡ k = omega (arith, e) in ap marks same
marks-append (suc n) m zero e = absurd (omega (arith, e))
marks-append (suc n) m (suc k) e = ap (λ l. 0 ∷ l) (marks-append n m k (omega (arith, e)))

pub next_mark : (n next : ℕ) → next ≡ n + 1 → Some (marks next) ≡ with_after (Some (marks n)) (0 ∷ [])
unfolding with_after
next_mark n next e = ap Some (sym (marks-append n 1 next e))

marks_of_rows : (rows : List Row) → items_of (λ row. 0 ∷ []) rows ≡ marks (length rows)
marks_of_rows [] = refl
marks_of_rows (row ∷ rows) = ap (λ l. 0 ∷ l) (marks_of_rows rows)

length-marks : (n : ℕ) → length (marks n) ≡ n
length-marks zero = refl
length-marks (suc n) = ap suc (length-marks n)

-- marks tell how many there are
marks_told : (n m : ℕ) (xs : List ℕ) → Some (marks m) ≡ with_after (Some (marks n)) xs → m ≡ n + length xs
unfolding with_after
marks_told n m xs e = by (same (marks m) (marks n ++ xs) e)
  where
    same : (a b : List ℕ) → Some a ≡ Some b → a ≡ b
    same a b q = cc

    by : marks m ≡ marks n ++ xs → m ≡ n + length xs
    by q = omega (arith, ap length q, length-marks m, length-marks n, length-append (marks n) xs)

-- counting never fails
pub never_fails : {T : Type 0} (result : Result T Failed) → HasCause 0 0 result → (P : Type 0) → OnOk result P → P
never_fails (Ok value) cause P is = is
never_fails (Err failed) cause P is = absurd (omega (arith, cause.rose))

module _ (h : Hierarchy) (rays : List Ray) (i : ℕ) (count : ℕ) (so_far : Counted h rays i count) (ray : Ray) (at : slice_get rays i ≡ Some ray) (rows : List Row) (report : IsReport (path_along h ray) rows) where
  pub counted_more : (next : ℕ) → Some (marks next) ≡ with_after (Some (marks count)) (items_of (λ row. 0 ∷ []) rows) → Counted h rays (i + 1) next
  counted_more next e = record {
    goes_on = λ rest others.
        let more : next ≡ count + length rows = marks_told count next (items_of (λ row. 0 ∷ []) rows) e ∙ ap (λ n. count + n) (ap length (marks_of_rows rows) ∙ length-marks (length rows)) in
        let same : count + (length rows + rest) ≡ next + rest = omega (arith, more) in
        subst (AreRows h rays) same (so_far.goes_on (length rows + rest) (rw (drop_get rays i ray at) (rows, rest, report, others, refl)));
  }

pub counted_whole : (h : Hierarchy) (rays : List Ray) (i count : ℕ) → Counted h rays i count → length rays ≤ i → AreRows h rays count
counted_whole h rays i count so_far done =
    let none : AreRows h (drop i rays) 0 = rw (drop_all i rays done) refl in
    let same : count + 0 ≡ count = omega arith in
    subst (AreRows h rays) same (so_far.goes_on 0 none)

-- ---- daughters of all mothers

range_more : (a n : ℕ) → range_with_len a (suc n) ≡ range_with_len a n ++ (a + n) ∷ []
range_more a zero = let same : a ≡ a + 0 = omega arith in ap (λ x. x ∷ []) same
range_more a (suc n) =
    let same : a + 1 + n ≡ a + suc n = omega arith in
    ap (λ l. a ∷ l) (range_more (a + 1) n) ∙ ap (λ x. a ∷ (range_with_len (a + 1) n ++ x ∷ [])) same

pub sum_more : (f : ℕ → ℕ) (n : ℕ) → sum_by f (range_with_len 0 (n + 1)) ≡ sum_by f (range_with_len 0 n) + f n
sum_more f n =
    let next : n + 1 ≡ suc n = omega arith in
    let same : 0 + n ≡ n = omega arith in
    ap (λ k. sum_by f (range_with_len 0 k)) next ∙ ap (sum_by f) (range_more 0 n) ∙ sum_by_push f (range_with_len 0 n) (0 + n) ∙ ap (λ k. sum_by f (range_with_len 0 n) + f k) same
