-- Traces: each list of rays has one, and it grows ray by ray.
use Rattle.std.proofs.Common.{◌≡◌, ℕ, Bool, true, false, suc, zero, ◌+◌, ◌≤◌, List, [], ◌∷◌, ◌++◌, length, drop, Option, Some, Result, refl, sym, ap, ◌∙◌, subst, append_assoc, append-nil}
use Rattle.std.specs.Prelude.{slice_get, find}
use Rattle.std.proofs.Math.Bool.{cond}
use Rattle.std.specs.List.{flat_map, All, AllByRecursion}
use Rattle.std.proofs.lemmas.List.{drop_more, drop_all}
use Rattle.std.proofs.lemmas.List.Elements.{All-head, All-tail}
use Rattle.std.proofs.lemmas.Option.{slice_get_within, get_or_from_slice_get}
use Rattle.gx_num.specs.declared.ray.Ray.{Ray}
use Rattle.gx_io.specs.Bytes.{with_after, AppendsFront}
use Rattle.gx_io.proofs.Joined.{with_after-twice, with_after-nothing, front-of_first, front-of_second}
use Rattle.gx_path.specs.declared.row.Row.{Row as Given}
use Rattle.gx_path.specs.Report.{Row, row_of, IsReport}
use Rattle.gx_gather.specs.Rays.{IsTraceable}
use Rattle.gx_tree.specs.Hierarchy.{Hierarchy}
use Rattle.gx_tree.specs.Deepest.{path_along}
use Rattle.gx_nest.proofs.Found.{each_ray}
use Rattle.gx_walk.specs.Hits.{items_of}
use Rattle.gx_sealed.specs.Sealed.{IsSealed}
use Rattle.gx_print.specs.Range.{is_path}
use Rattle.gx_print.specs.Texts.{ray_head, row_text}
use Rattle.gx_io.specs.declared.error.IoError.{IoError}
use Rattle.gx_check.specs.declared.verdict.Verdict.{Verdict}
use Rattle.gx_check.specs.Verdicts.{verdicts, refutes}
use Rattle.gx_check.specs.Laws.{CleanWhereUnrefuted}
use Rattle.gx_link.specs.declared.input.Input.{Input}
use Rattle.g4exact.specs.declared.outcome.Status.{Status}
use Rattle.g4exact.specs.declared.command.Verb.TheVariants.{Trace}
use Rattle.g4exact.specs.Ends.{Answers}
use Rattle.g4exact.specs.declared.command.Telling.{Telling}
use Rattle.g4exact.specs.Output.{ray_text, IsTrace, IsReported, IsRefuted, IsTraced, IsWritten}

-- the line of each row, and the rows that have one
abbrev pub texts_in : Hierarchy → Given → List ℕ
texts_in h row = row_text h (row_of row.from row.to row.path)

abbrev pub places_in : Hierarchy → Given → Bool
places_in h row = is_path h h.world row.path

-- each of the rays has a report
traced_all : (h : Hierarchy) → IsSealed h → (number : ℕ) (rays : List Ray) → AllByRecursion IsTraceable rays → (bytes : List ℕ) × IsTrace h number rays bytes
traced_all h kept number [] all = ([], refl)
traced_all h kept number (ray ∷ rays) all =
    let report = each_ray h kept.tree kept.clean ray all.0.moves in
    let rest = traced_all h kept (number + 1) rays all.1 in
    (ray_text h number report.0 ++ rest.0, (report.0, rest.0, report.1, rest.1, refl))

pub all_after : (i : ℕ) (rays : List Ray) → AllByRecursion IsTraceable rays → AllByRecursion IsTraceable (drop i rays)
all_after zero rays all = all
all_after (suc i) [] all = all
all_after (suc i) (ray ∷ rays) all = all_after i rays all.1

pub drop_get : (rays : List Ray) (i : ℕ) (ray : Ray) → slice_get rays i ≡ Some ray → drop i rays ≡ ray ∷ drop (i + 1) rays
drop_get rays i ray e = drop_more rays i ray (slice_get_within rays i ray e) ∙ ap (λ x. x ∷ drop (i + 1) rays) (get_or_from_slice_get rays i ray ray e)

pub record Traced (h : Hierarchy) (rays : List Ray) (i : ℕ) (old new : Option (List ℕ)) : Type 0 where
  pub written : List ℕ
  pub is : new ≡ with_after old written
  pub goes_on : (rest : List ℕ) → IsTrace h (i + 1) (drop i rays) rest → IsTrace h 1 rays (written ++ rest)

-- a trace that goes on with a ray's report
next : (h : Hierarchy) (rays : List Ray) (i : ℕ) (ray : Ray) → slice_get rays i ≡ Some ray → (rows : List Row) → IsReport (path_along h ray) rows
    → (rest : List ℕ) → IsTrace h (i + 1 + 1) (drop (i + 1) rays) rest → IsTrace h (i + 1) (drop i rays) (ray_text h (i + 1) rows ++ rest)
next h rays i ray e rows report rest trace = rw (drop_get rays i ray e) (rows, rest, report, trace, refl)

pub traced_none : (h : Hierarchy) (rays : List Ray) (old : Option (List ℕ)) → Traced h rays 0 old old
traced_none h rays old = record { written = []; is = sym (with_after-nothing old); goes_on = λ rest trace. trace }

module _ (h : Hierarchy) (rays : List Ray) (i : ℕ) (old mid new : Option (List ℕ)) (so_far : Traced h rays i old mid) (ray : Ray) (at : slice_get rays i ≡ Some ray) where
  front : IsSealed h → AllByRecursion IsTraceable rays → (rows : List Row) → IsReport (path_along h ray) rows → AppendsFront mid new (ray_text h (i + 1) rows)
      → (bytes : List ℕ) × IsTrace h 1 rays bytes × AppendsFront old new bytes
  front kept all rows report stopped =
      let rest = traced_all h kept (i + 1 + 1) (drop (i + 1) rays) (all_after (i + 1) rays all) in
      let tail = ray_text h (i + 1) rows ++ rest.0 in (
        so_far.written ++ tail,
        so_far.goes_on tail (next h rays i ray at rows report rest.0 rest.1),
        front-of_second old new so_far.written tail
            (front-of_first (with_after old so_far.written) new (ray_text h (i + 1) rows) rest.0 (subst (λ t. AppendsFront t new (ray_text h (i + 1) rows)) so_far.is stopped)),
      )

  -- its head was stopped
  pub head_stopped : IsSealed h → AllByRecursion IsTraceable rays → IsTraceable ray → AppendsFront mid new (ray_head (i + 1)) → (bytes : List ℕ) × IsTrace h 1 rays bytes × AppendsFront old new bytes
  head_stopped kept all one stopped =
      let report = each_ray h kept.tree kept.clean ray one.moves in
      front kept all report.0 report.1 (front-of_first mid new (ray_head (i + 1)) (flat_map (row_text h) report.0) stopped)

  module _ (rows : List Row) (report : IsReport (path_along h ray) rows) (headed : Option (List ℕ)) (head : headed ≡ with_after mid (ray_head (i + 1))) where
    -- its rows were stopped
    pub rows_stopped : IsSealed h → AllByRecursion IsTraceable rays → AppendsFront headed new (flat_map (row_text h) rows) → (bytes : List ℕ) × IsTrace h 1 rays bytes × AppendsFront old new bytes
    rows_stopped kept all stopped =
        front kept all rows report (front-of_second mid new (ray_head (i + 1)) (flat_map (row_text h) rows) (subst (λ t. AppendsFront t new (flat_map (row_text h) rows)) head stopped))

    -- both were written
    pub traced_more : new ≡ with_after headed (flat_map (row_text h) rows) → Traced h rays (i + 1) old new
    traced_more e =
        let one : new ≡ with_after mid (ray_text h (i + 1) rows) = e ∙ ap (λ t. with_after t (flat_map (row_text h) rows)) head ∙ with_after-twice mid (ray_head (i + 1)) (flat_map (row_text h) rows) in
        record {
          written = so_far.written ++ ray_text h (i + 1) rows;
          is = one ∙ ap (λ t. with_after t (ray_text h (i + 1) rows)) so_far.is ∙ with_after-twice old so_far.written (ray_text h (i + 1) rows);
          goes_on = λ rest trace.
              subst (IsTrace h 1 rays) (sym (append_assoc so_far.written (ray_text h (i + 1) rows) rest))
              (so_far.goes_on (ray_text h (i + 1) rows ++ rest) (next h rays i ray at rows report rest trace));
        }

pub traced_whole : (h : Hierarchy) (rays : List Ray) (i : ℕ) (old new : Option (List ℕ)) → Traced h rays i old new → length rays ≤ i
    → (bytes : List ℕ) × IsTrace h 1 rays bytes × (new ≡ with_after old bytes)
traced_whole h rays i old new so_far done =
    let none : IsTrace h (i + 1) (drop i rays) [] = rw (drop_all i rays done) refl in
    (so_far.written ++ [], so_far.goes_on [] none, so_far.is ∙ ap (with_after old) (sym (append-nil so_far.written)))

-- ---- what is written

-- what is found holds what all hold
pub found_holds : {X : Type 0} (P : X → Type 0) (test : X → Bool) (xs : List X) (x : X) → All P xs → find test xs ≡ Some x → P x
found_holds P test [] x all e = absurd cc
found_holds P test (y ∷ ys) x all e = by (found_holds P test ys x (All-tail P y ys all)) (test y) e
  where
    by : (find test ys ≡ Some x → P x) → (b : Bool) → cond b (Some y) (find test ys) ≡ Some x → P x
    by later true e = let same : y ≡ x = cc in subst P same (All-head P y ys all)
    by later false e = later e

-- a report's rows, as they are given, have its lines
items_of_report : (h : Hierarchy) (rows : List Row) → items_of (texts_in h) rows ≡ flat_map (row_text h) rows
items_of_report h [] = refl
items_of_report h (row ∷ rows) = ap (λ rest. row_text h row ++ rest) (items_of_report h rows)

pub lines_of_report : (h : Hierarchy) (texts : Given → List ℕ) (rows : List Row) → texts ≡ texts_in h → items_of texts rows ≡ flat_map (row_text h) rows
lines_of_report h texts rows e = ap (λ f. items_of f rows) e ∙ items_of_report h rows

module _ (telling : Telling) (input : Input) (h : Hierarchy) (same : h ≡ input.tree) where
  -- what is told of reports is written where the hierarchy is clean
  pub reports_written : (old new : Option (List ℕ)) (result : Result Status IoError) → CleanWhereUnrefuted → IsSealed h
      → Answers (Trace telling) (IsReported telling h input.rays) old new result → Answers (Trace telling) (IsWritten (Trace telling) input) old new result
  reports_written old new result law kept is =
      subst (λ (t : Hierarchy). Answers (Trace telling) (IsTraced telling (find refutes (verdicts t)) input) old new result) same
      (subst (λ o. Answers (Trace telling) (IsTraced telling o input) old new result) (sym ((law h kept.tree).0 kept.clean))
      (subst (λ (t : Hierarchy). Answers (Trace telling) (IsReported telling t input.rays) old new result) same is))

  -- and else the first verdict that refutes it
  pub refuted_written : (verdict : Verdict) → find refutes (verdicts input.tree) ≡ Some verdict → (old new : Option (List ℕ)) (result : Result Status IoError)
      → Answers (Trace telling) (IsRefuted h verdict) old new result → Answers (Trace telling) (IsWritten (Trace telling) input) old new result
  refuted_written verdict found old new result is =
      subst (λ o. Answers (Trace telling) (IsTraced telling o input) old new result) (sym found)
      (subst (λ (t : Hierarchy). Answers (Trace telling) (IsRefuted t verdict) old new result) same is)
