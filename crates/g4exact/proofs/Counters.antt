-- How the tests and reads of rays add up.
use Rattle.std.proofs.Common.{◌≡◌, ℕ, ◌+◌, ◌≤◌, List, [], ◌∷◌, length, drop, Option, None, Some, Result, Ok, Err, refl, sym, subst, arith}
use Rattle.std.specs.Prelude.{slice_get, find}
use Rattle.std.specs.List.{AllByRecursion}
use Rattle.std.proofs.lemmas.List.{drop_all}
use Rattle.gx_num.specs.declared.ray.Ray.{Ray}
use Rattle.gx_gather.specs.Rays.{IsTraceable}
use Rattle.gx_tree.specs.Hierarchy.{Hierarchy}
use Rattle.gx_tree.specs.Fault.{IsTree}
use Rattle.gx_check.specs.declared.verdict.Verdict.{Verdict}
use Rattle.gx_link.specs.declared.input.Input.{Input}
use Rattle.gx_tree.specs.Deepest.{path_along}
use Rattle.gx_path.specs.Report.{Row, IsReport}
use Rattle.gx_nest.specs.Met.{Frame}
use Rattle.gx_walk.specs.Hits.{CountOf}
use Rattle.gx_navigator.specs.Tests.{BoxTest, IsBoxTest, IsCost, HasPaths, IsToDaughter, IsToHeader, tests_in, reads_in}
use Rattle.gx_navigator.proofs.Counted.{counted}
use Rattle.gx_check.specs.Laws.{CleanWhereUnrefuted}
use Rattle.gx_check.specs.Verdicts.{verdicts, refutes}
use Rattle.gx_gather.specs.declared.fault.TextFault.{TextFault}
use Rattle.gx_sealed.specs.Sealed.{IsSealed}
use Rattle.g4exact.specs.declared.command.Verb.{Verb}
use Rattle.g4exact.specs.declared.command.Verb.TheVariants.{Trace, Check, List as Listed}
use Rattle.g4exact.specs.declared.outcome.Status.{Status}
use Rattle.g4exact.specs.declared.outcome.Status.TheVariants.{Clean, Refuted, TextFault as Faulty, WordsFault, ReadFault, WriteFault, NoMemory}
use Rattle.g4exact.specs.Output.{IsTraced, IsAnswer}
use Rattle.g4exact.specs.Counters.{AreCosts, AreEnough, AreFew, ArePaths, Counters, RisesAtLeast, RiseBy, AreCounted, AnswersCounted}
use Rattle.g4exact.proofs.Answered.{Tells, traced_tells}
use Rattle.g4exact.proofs.Traces.{all_after, drop_get}

-- each of the rays has a cost
costs : (h : Hierarchy) → IsTree h → (count : CountOf Frame) (rays : List Ray) → AllByRecursion IsTraceable rays → (n : ℕ) × AreCosts h count rays n
costs h tree count [] all = (0, refl)
costs h tree count (ray ∷ rays) all =
    let one = counted h tree count ray all.0.moves in
    let rest = costs h tree count rays all.1 in
    (one.0 + rest.0, (one.0, rest.0, one.1, rest.1, refl))

-- the first rays cost no more, and with those that are left they are all
pub record CostsSoFar (h : Hierarchy) (count : CountOf Frame) (rays : List Ray) (i : ℕ) (old new : ℕ) : Type 0 where
  pub sum : ℕ
  pub few : new ≤ old + sum
  pub goes_on : (rest : ℕ) → AreCosts h count (drop i rays) rest → AreCosts h count rays (sum + rest)

-- the paths of all rays are no more than what was counted and the paths of those that are left
pub record PathsSoFar (h : Hierarchy) (Is : List Row → List ℕ → Type 0) (rays : List Ray) (i : ℕ) (old new : ℕ) : Type 0 where
  pub left : (n : ℕ) → ArePaths h Is rays n → (rest : ℕ) × ArePaths h Is (drop i rays) rest × (old + n ≤ new + rest)

pub record SoFar (h : Hierarchy) (rays : List Ray) (i : ℕ) (old new : Counters) : Type 0 where
  pub tests : (passes : BoxTest) → IsBoxTest passes → CostsSoFar h (tests_in h passes) rays i old.tests new.tests
  pub reads : (passes : BoxTest) → IsBoxTest passes → CostsSoFar h (reads_in h passes) rays i old.reads new.reads
  pub tested : PathsSoFar h IsToDaughter rays i old.tests new.tests
  pub read : PathsSoFar h (IsToHeader h) rays i old.reads new.reads

-- what a ray's report costs at most, and at least
abbrev RayAtMost : Hierarchy → (BoxTest → CountOf Frame) → Ray → ℕ → ℕ → Type 0
RayAtMost h count ray old new = (passes : BoxTest) → IsBoxTest passes → (n : ℕ) × IsCost h (count passes) ray n × (new ≤ old + n)

abbrev RayAtLeast : Hierarchy → (List Row → List ℕ → Type 0) → Ray → ℕ → ℕ → Type 0
RayAtLeast h Is ray old new = (report : List Row) → IsReport (path_along h ray) report → (n : ℕ) → HasPaths (Is report) n → old + n ≤ new

module _ (h : Hierarchy) (rays : List Ray) where
  costs_none : (count : CountOf Frame) (old : ℕ) → CostsSoFar h count rays 0 old old
  costs_none count old = record { sum = 0; few = omega arith; goes_on = λ rest are. let same : rest ≡ 0 + rest = omega arith in subst (AreCosts h count rays) same are }

  paths_none : (Is : List Row → List ℕ → Type 0) (old : ℕ) → PathsSoFar h Is rays 0 old old
  paths_none Is old = record { left = λ n are. (n, are, omega arith) }

  pub none_so_far : (old : Counters) → SoFar h rays 0 old old
  none_so_far old = record {
    tests = λ passes is. costs_none (tests_in h passes) old.tests;
    reads = λ passes is. costs_none (reads_in h passes) old.reads;
    tested = paths_none IsToDaughter old.tests;
    read = paths_none (IsToHeader h) old.reads;
  }

  costs_all : IsTree h → AllByRecursion IsTraceable rays → (count : CountOf Frame) (i old new : ℕ) → CostsSoFar h count rays i old new → (n : ℕ) × AreCosts h count rays n × (new ≤ old + n)
  costs_all tree all count i old new so_far =
      let rest = costs h tree count (drop i rays) (all_after i rays all) in
      (so_far.sum + rest.0, so_far.goes_on rest.0 rest.1, omega (arith, so_far.few))

  module _ (i : ℕ) (ray : Ray) (at : slice_get rays i ≡ Some ray) where
    costs_more : (count : CountOf Frame) (old mid new one : ℕ) → CostsSoFar h count rays i old mid → IsCost h count ray one → new ≤ mid + one → CostsSoFar h count rays (i + 1) old new
    costs_more count old mid new one so_far cost few = record {
      sum = so_far.sum + one;
      few = omega (arith, few, so_far.few);
      goes_on = λ rest are.
          let same : so_far.sum + (one + rest) ≡ so_far.sum + one + rest = omega arith in
          subst (AreCosts h count rays) same (so_far.goes_on (one + rest) (rw (drop_get rays i ray at) (one, rest, cost, are, refl)));
    }

    paths_more : (Is : List Row → List ℕ → Type 0) (old mid new : ℕ) → PathsSoFar h Is rays i old mid → RayAtLeast h Is ray mid new → PathsSoFar h Is rays (i + 1) old new
    paths_more Is old mid new so_far enough = record { left = λ n are. go n (so_far.left n are) }
      where
        go : (n : ℕ) → (rest : ℕ) × ArePaths h Is (drop i rays) rest × (old + n ≤ mid + rest) → (rest : ℕ) × ArePaths h Is (drop (i + 1) rays) rest × (old + n ≤ new + rest)
        go n (all, are, most) =
            let split = subst (λ l. ArePaths h Is l all) (drop_get rays i ray at) are in
            let one = enough split.0 split.3 split.1 split.4 in
            (split.2, split.5, omega (arith, most, one, split.6))

    module _ (old mid new : Counters) (so_far : SoFar h rays i old mid) (tests : RayAtMost h (tests_in h) ray mid.tests new.tests) (reads : RayAtMost h (reads_in h) ray mid.reads new.reads) where
      tests_more : (passes : BoxTest) → IsBoxTest passes → CostsSoFar h (tests_in h passes) rays (i + 1) old.tests new.tests
      tests_more passes is = let one = tests passes is in costs_more (tests_in h passes) old.tests mid.tests new.tests one.0 (so_far.tests passes is) one.1 one.2

      reads_more : (passes : BoxTest) → IsBoxTest passes → CostsSoFar h (reads_in h passes) rays (i + 1) old.reads new.reads
      reads_more passes is = let one = reads passes is in costs_more (reads_in h passes) old.reads mid.reads new.reads one.0 (so_far.reads passes is) one.1 one.2

      pub more_so_far : RayAtLeast h IsToDaughter ray mid.tests new.tests → RayAtLeast h (IsToHeader h) ray mid.reads new.reads → SoFar h rays (i + 1) old new
      more_so_far tested read = record {
        tests = tests_more;
        reads = reads_more;
        tested = paths_more IsToDaughter old.tests mid.tests new.tests so_far.tested tested;
        read = paths_more (IsToHeader h) old.reads mid.reads new.reads so_far.read read;
      }

      -- it was stopped within this ray
      pub few_within : IsTree h → AllByRecursion IsTraceable rays → AreFew h rays old new
      few_within tree all = record {
        tests = λ passes is. costs_all tree all (tests_in h passes) (i + 1) old.tests new.tests (tests_more passes is);
        reads = λ passes is. costs_all tree all (reads_in h passes) (i + 1) old.reads new.reads (reads_more passes is);
      }

  module _ (i : ℕ) (old new : Counters) (so_far : SoFar h rays i old new) where
    -- it was stopped before a ray, or not at all
    pub few_before : IsTree h → AllByRecursion IsTraceable rays → AreFew h rays old new
    few_before tree all = record {
      tests = λ passes is. costs_all tree all (tests_in h passes) i old.tests new.tests (so_far.tests passes is);
      reads = λ passes is. costs_all tree all (reads_in h passes) i old.reads new.reads (so_far.reads passes is);
    }

    paths_all : (Is : List Row → List ℕ → Type 0) (old new : ℕ) → length rays ≤ i → PathsSoFar h Is rays i old new → RisesAtLeast h Is rays old new
    paths_all Is old new done paths n are =
        let left = paths.left n are in
        let none : left.0 ≡ 0 = subst (λ l. ArePaths h Is l left.0) (drop_all i rays done) left.1 in
        omega (arith, left.2, none)

    pub enough_whole : length rays ≤ i → AreEnough h rays old new
    enough_whole done = record {
      tests = paths_all IsToDaughter old.tests new.tests done so_far.tested;
      reads = paths_all (IsToHeader h) old.reads new.reads done so_far.read;
    }

-- ---- by the status

module _ (input : Input) (h : Hierarchy) (same : h ≡ input.tree) (old new : Counters) (status : Status) where
  pub reports_counted : CleanWhereUnrefuted → IsSealed h → RiseBy h input.rays old new status → AreCounted (find refutes (verdicts input.tree)) input old new status
  reports_counted law kept is =
      subst (λ (t : Hierarchy). AreCounted (find refutes (verdicts t)) input old new status) same
      (subst (λ o. AreCounted o input old new status) (sym ((law h kept.tree).0 kept.clean))
      (subst (λ (t : Hierarchy). RiseBy t input.rays old new status) same is))

  pub refuted_counted : (verdict : Verdict) → find refutes (verdicts input.tree) ≡ Some verdict → new ≡ old → AreCounted (find refutes (verdicts input.tree)) input old new status
  refuted_counted verdict found e = subst (λ o. AreCounted o input old new status) (sym found) e

-- nothing is counted for the line of a fault
pub fault_counted : (verb : Verb) (fault : TextFault) (old : Counters) (status : Status) → AnswersCounted verb (Err fault) old old status
fault_counted (Trace telling) fault old status = refl
fault_counted (Check selection) fault old status = refl
fault_counted Listed fault old status = refl

-- nothing was counted before memory was wanting
pub memory_counted : (refuted : Option Verdict) (input : Input) (old : Counters) → AreCounted refuted input old old NoMemory
memory_counted None input old = refl
memory_counted (Some verdict) input old = refl

pub memory_answers : (verb : Verb) (read : Result Input TextFault) (old : Counters) → AnswersCounted verb read old old NoMemory
memory_answers (Trace telling) (Ok input) old = memory_counted (find refutes (verdicts input.tree)) input old
memory_answers (Trace telling) (Err fault) old = refl
memory_answers (Check selection) read old = refl
memory_answers Listed read old = refl

-- nor before a read failed
pub read_answers : (verb : Verb) (read : Result Input TextFault) (old : Counters) → AnswersCounted verb read old old ReadFault
read_answers (Trace telling) (Ok input) old = by (find refutes (verdicts input.tree))
  where
    by : (refuted : Option Verdict) → AreCounted refuted input old old ReadFault
    by None = refl
    by (Some verdict) = refl
read_answers (Trace telling) (Err fault) old = refl
read_answers (Check selection) read old = refl
read_answers Listed read old = refl

-- what was told whole may be handed on in part
pub answers_stopped : (verb : Verb) (read : Result Input TextFault) (bytes : List ℕ) (old new : Counters) (status : Status) → IsAnswer verb read bytes status → AnswersCounted verb read old new status → AnswersCounted verb read old new WriteFault
answers_stopped (Trace telling) (Ok input) bytes old new status is counts = by (find refutes (verdicts input.tree)) is counts
  where
    no_more : (status : Status) → Tells status → RiseBy input.tree input.rays old new status → RiseBy input.tree input.rays old new WriteFault
    no_more Clean t rises = rises.0
    no_more Refuted t rises = rises.0
    no_more Faulty t rises = rises.0
    no_more WordsFault t rises = absurd t
    no_more ReadFault t rises = absurd t
    no_more WriteFault t rises = absurd t
    no_more NoMemory t rises = absurd t

    by : (refuted : Option Verdict) → IsTraced telling refuted input bytes status → AreCounted refuted input old new status → AreCounted refuted input old new WriteFault
    by None is counts = no_more status (traced_tells telling None input bytes status is) counts
    by (Some verdict) is counts = counts
answers_stopped (Trace telling) (Err fault) bytes old new status is counts = counts
answers_stopped (Check selection) (Ok input) bytes old new status is counts = counts
answers_stopped (Check selection) (Err fault) bytes old new status is counts = counts
answers_stopped Listed (Ok input) bytes old new status is counts = counts
answers_stopped Listed (Err fault) bytes old new status is counts = counts
