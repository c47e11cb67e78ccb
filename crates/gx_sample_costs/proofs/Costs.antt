-- The costs of the second sample's rays.
use Rattle.std.proofs.Common.{◌≡◌, ℕ, zero, suc, ◌+◌, ◌<◌, pos, neg_ℤ, inl, inr, List, [], ◌∷◌, Option, None, Some, refl, sym, ap, ◌∙◌, subst, arith}
use Rattle.std.specs.Prelude.{sum_by}
use Rattle.std.proofs.lemmas.List.Sums.{sum_by-cons}
use Rattle.gx_num.specs.Ray.{RayParameter, HasDirection}
use Rattle.gx_num.specs.declared.ray.Ray.{Ray}
use Rattle.gx_clip.specs.declared.span.Span.{Span}
use Rattle.gx_clip.specs.Clip.{IsClip}
use Rattle.gx_clip.specs.Interval.{whole, part_inside}
use Rattle.gx_clip.proofs.Clips.{from_none, from_span}
use Rattle.gx_shapes.specs.Space.{point}
use Rattle.gx_tree.specs.Fault.{IsTree}
use Rattle.gx_tree.specs.Hierarchy.{Hierarchy, max_depth}
use Rattle.gx_tree.specs.Volume.{instances_of}
use Rattle.gx_tree.specs.Deepest.{path_along}
use Rattle.gx_check.specs.Clean.{IsClean}
use Rattle.gx_frame.specs.Frames.{IsMet, local_ray}
use Rattle.gx_path.specs.Report.{Row, IsReport}
use Rattle.gx_partition.specs.Partition.{open_rows}
use Rattle.gx_partition.specs.Walk.{Hit, pieces_of}
use Rattle.gx_nest.specs.Met.{Frame, IsFound, met_in, pieces_along}
use Rattle.gx_nest.proofs.Nested.{solid_at}
use Rattle.gx_nest.proofs.Found.{found, is_found}
use Rattle.gx_nest.proofs.Steady.{open_report}
use Rattle.gx_voxel.specs.Cut.{Cut, SliceRun, interval_on, bound_at, meets, cut_of}
use Rattle.gx_voxel.specs.Cells.{cells_within}
use Rattle.gx_sealed.specs.Cells.{extents_in}
use Rattle.gx_along.specs.Bounds.{reads_within}
use Rattle.gx_along.specs.Digits.{digits}
use Rattle.gx_walk.specs.Hits.{CountOf, cost_of}
use Rattle.gx_navigator.specs.Tests.{IsCost, HasPaths, IsToDaughter, IsToHeader, HasHeader, tests_in, reads_in}
use Rattle.gx_sample_clean.specs.Sample.{ray}
use Rattle.gx_sample_costs.specs.Costs.{Costs, SecondSampleCosts, across}
use Rattle.gx_sample_costs.proofs.Across.{across_tests}
use Rattle.gx_sample_costs.proofs.Rays.{h, at, span, clip_is, cell, inner, world, in_cell, in_world, within_cell, spread, cost_is}

no_paths : (Is : List ℕ → Type 0) → HasPaths Is 0
no_paths Is = record { paths = []; different = tt; each = tt; many = refl }

-- ---- a ray that meets no cell
module _ (r : Ray) (moves : HasDirection r) (none : (k : ℕ) → k < 4 → IsMet h (cell k) r None) where
  alone : (f : Frame → ℕ → Option (Hit Frame)) → IsFound h f → met_in h f (world r) ≡ []
  alone f is = in_world f is r moves None None None None (none 0 (omega arith)) (none 1 (omega arith)) (none 2 (omega arith)) (none 3 (omega arith))

  alone_cost : (count : CountOf Frame) (a b : ℕ) (less : a < b) → IsClip (solid_at h 0) r (Some (span a b less)) → (n : ℕ) → IsCost h count r n → n ≡ count (world r) (at a) (at b) + 0
  unfolding max_depth
  alone_cost count a b less clip n c = cost_is count r a b less clip n c ∙ spread count (met_in h c.found) 31 (at a) (at b) (world r) [] (alone c.found c.is_found)

-- ---- along x
abbrev along : Ray
along = ray (point (neg_ℤ (pos 50)) (pos 0) (pos 0)) (point (pos 1) (pos 0) (pos 0))

along_moves : HasDirection along
along_moves x y z = absurd cc

along_none : (k : ℕ) → k < 4 → IsMet h (cell k) along None
along_none k less = from_none (solid_at h 1) (local_ray (cell k) along) (by k less)
  where
    by : (k : ℕ) → k < 4 → part_inside (Some whole) (solid_at h 1) (local_ray (cell k) along) ≡ None
    by zero less = refl
    by (suc zero) less = refl
    by (suc (suc zero)) less = refl
    by (suc (suc (suc zero))) less = refl
    by (suc (suc (suc (suc k)))) less = absurd (omega (arith, less))

along_world : IsClip (solid_at h 0) along (Some (span 10 90 (omega arith)))
along_world = clip_is (solid_at h 0) along (at 10) (at 90) 10 90 (omega arith) refl (omega arith) (omega arith) (omega arith) refl refl

along_tests : tests_in h across (world along) (at 10) (at 90) ≡ 4
unfolding extents_in interval_on bound_at meets cut_of cells_within instances_of
along_tests = refl

along_reads : reads_in h across (world along) (at 10) (at 90) ≡ 7
unfolding extents_in interval_on bound_at meets cut_of reads_within digits instances_of
along_reads = refl

-- ---- along z
abbrev up : Ray
up = ray (point (pos 0) (pos 5) (neg_ℤ (pos 120))) (point (pos 0) (pos 0) (pos 1))

up_moves : HasDirection up
up_moves x y z = absurd cc

up_none : (k : ℕ) → k < 4 → IsMet h (cell k) up None
up_none k less = from_none (solid_at h 1) (local_ray (cell k) up) (by k less)
  where
    by : (k : ℕ) → k < 4 → part_inside (Some whole) (solid_at h 1) (local_ray (cell k) up) ≡ None
    by zero less = refl
    by (suc zero) less = refl
    by (suc (suc zero)) less = refl
    by (suc (suc (suc zero))) less = refl
    by (suc (suc (suc (suc k)))) less = absurd (omega (arith, less))

up_world : IsClip (solid_at h 0) up (Some (span 20 220 (omega arith)))
up_world = clip_is (solid_at h 0) up (at 20) (at 220) 20 220 (omega arith) refl (omega arith) (omega arith) (omega arith) refl refl

up_tests : tests_in h across (world up) (at 20) (at 220) ≡ 2
unfolding extents_in interval_on bound_at meets cut_of cells_within instances_of
up_tests = refl

up_reads : reads_in h across (world up) (at 20) (at 220) ≡ 6
unfolding extents_in interval_on bound_at meets cut_of reads_within digits instances_of
up_reads = refl

-- ---- along the diagonal
abbrev diagonal : Ray
diagonal = ray (point (neg_ℤ (pos 50)) (neg_ℤ (pos 50)) (pos 0)) (point (pos 1) (pos 1) (pos 0))

diagonal_moves : HasDirection diagonal
diagonal_moves x y z = absurd cc

diagonal_world : IsClip (solid_at h 0) diagonal (Some (span 10 90 (omega arith)))
diagonal_world = clip_is (solid_at h 0) diagonal (at 10) (at 90) 10 90 (omega arith) refl (omega arith) (omega arith) (omega arith) refl refl

-- the ray in the frames of the first and of the last cell, and of the cores there
abbrev first : Ray
first = local_ray (cell 0) diagonal

abbrev last : Ray
last = local_ray (cell 3) diagonal

local_moves : (a : ℕ) → HasDirection (ray (point (neg_ℤ (pos a)) (neg_ℤ (pos a)) (pos 0)) (point (pos 1) (pos 1) (pos 0)))
local_moves a x y z = absurd cc

in_first : IsMet h (cell 0) diagonal (Some (span 30 50 (omega arith)))
in_first = clip_is (solid_at h 1) first (at 30) (at 50) 30 50 (omega arith) refl (omega arith) (omega arith) (omega arith) refl refl

in_last : IsMet h (cell 3) diagonal (Some (span 50 70 (omega arith)))
in_last = clip_is (solid_at h 1) last (at 50) (at 70) 50 70 (omega arith) refl (omega arith) (omega arith) (omega arith) refl refl

-- it only touches the two others, at their corners
touches : (k : ℕ) → part_inside (Some whole) (solid_at h 1) (local_ray (cell k) diagonal) ≡ Some (record { from = at 50; to = Some (at 50) }) → IsMet h (cell k) diagonal None
touches k is = from_span (solid_at h 1) (local_ray (cell k) diagonal) (record { from = at 50; to = Some (at 50) }) (at 50) None is refl (omega arith)

core_in_first : IsMet h inner first (Some (span 34 46 (omega arith)))
core_in_first = clip_is (solid_at h 2) (local_ray inner first) (record { num = 2720; den = 80 }) (record { num = 3680; den = 80 }) 34 46 (omega arith) refl (omega arith) (omega arith) (omega arith) refl refl

core_in_last : IsMet h inner last (Some (span 54 66 (omega arith)))
core_in_last = clip_is (solid_at h 2) (local_ray inner last) (record { num = 4320; den = 80 }) (record { num = 5280; den = 80 }) 54 66 (omega arith) refl (omega arith) (omega arith) (omega arith) refl refl

abbrev hit : ℕ → ℕ → ℕ → ℕ → Ray → Hit Frame
hit k a b v r = record { ordinal = k; from = at a; to = at b; daughter = record { volume = v; ray = r } }

module _ (f : Frame → ℕ → Option (Hit Frame)) (is : IsFound h f) where
  cells_met : met_in h f (world diagonal) ≡ hit 0 30 50 1 first ∷ hit 3 50 70 1 last ∷ []
  cells_met = in_world f is diagonal diagonal_moves (Some (span 30 50 (omega arith))) None None (Some (span 50 70 (omega arith))) in_first (touches 1 refl) (touches 2 refl) in_last

  first_core : met_in h f (in_cell first) ≡ hit 0 34 46 2 (local_ray inner first) ∷ []
  first_core = within_cell f is first (local_moves 40) (Some (span 34 46 (omega arith))) core_in_first

  last_core : met_in h f (in_cell last) ≡ hit 0 54 66 2 (local_ray inner last) ∷ []
  last_core = within_cell f is last (local_moves 60) (Some (span 54 66 (omega arith))) core_in_last

  -- all that it comes to
  diagonal_sum : (count : CountOf Frame) → cost_of count (met_in h f) max_depth (at 10) (at 90) (world diagonal)
      ≡ count (world diagonal) (at 10) (at 90) + ((count (in_cell first) (at 30) (at 50) + count (record { volume = 2; ray = local_ray inner first }) (at 34) (at 46)) + (count (in_cell last) (at 50) (at 70) + count (record { volume = 2; ray = local_ray inner last }) (at 54) (at 66)))
  unfolding max_depth
  diagonal_sum count =
      let hits = met_in h f in
      let F : Hit Frame → ℕ = λ x. cost_of count hits 31 x.from x.to x.daughter in
      let G : Hit Frame → ℕ = λ x. cost_of count hits 30 x.from x.to x.daughter in
      let core_first = hit 0 34 46 2 (local_ray inner first) in
      let core_last = hit 0 54 66 2 (local_ray inner last) in
      let all = spread count hits 31 (at 10) (at 90) (world diagonal) (hit 0 30 50 1 first ∷ hit 3 50 70 1 last ∷ []) cells_met in
      let one : F (hit 0 30 50 1 first) ≡ count (in_cell first) (at 30) (at 50) + sum_by G (core_first ∷ []) = spread count hits 30 (at 30) (at 50) (in_cell first) (core_first ∷ []) first_core in
      let two : F (hit 3 50 70 1 last) ≡ count (in_cell last) (at 50) (at 70) + sum_by G (core_last ∷ []) = spread count hits 30 (at 50) (at 70) (in_cell last) (core_last ∷ []) last_core in
      let inner_one : G core_first ≡ count core_first.daughter (at 34) (at 46) + 0 = refl in
      let inner_two : G core_last ≡ count core_last.daughter (at 54) (at 66) + 0 = refl in
      let none : sum_by F [] ≡ 0 = refl in
      let none_within : sum_by G [] ≡ 0 = refl in
      omega (arith, all, one, two, inner_one, inner_two, none, none_within, sum_by-cons F (hit 0 30 50 1 first) (hit 3 50 70 1 last ∷ []), sum_by-cons F (hit 3 50 70 1 last) [], sum_by-cons G core_first [], sum_by-cons G core_last [])

  diagonal_rows : open_rows (pieces_along h f diagonal (Some (span 10 90 (omega arith))))
      ≡ record { from = at 10; to = at 30; path = [] } ∷ record { from = at 30; to = at 34; path = 0 ∷ [] } ∷ record { from = at 34; to = at 46; path = 0 ∷ 0 ∷ [] } ∷ record { from = at 46; to = at 50; path = 0 ∷ [] }
      ∷ record { from = at 50; to = at 54; path = 3 ∷ [] } ∷ record { from = at 54; to = at 66; path = 3 ∷ 0 ∷ [] } ∷ record { from = at 66; to = at 70; path = 3 ∷ [] } ∷ record { from = at 70; to = at 90; path = [] } ∷ []
  unfolding max_depth
  diagonal_rows = rw (cells_met, first_core, last_core) refl

tests_at : (tests_in h across (world diagonal) (at 10) (at 90) ≡ 4) × (tests_in h across (in_cell first) (at 30) (at 50) ≡ 1) × (tests_in h across (record { volume = 2; ray = local_ray inner first }) (at 34) (at 46) ≡ 0)
    × (tests_in h across (in_cell last) (at 50) (at 70) ≡ 1) × (tests_in h across (record { volume = 2; ray = local_ray inner last }) (at 54) (at 66) ≡ 0)
unfolding extents_in interval_on bound_at meets cut_of cells_within instances_of
tests_at = (refl, refl, refl, refl, refl)

reads_at : (reads_in h across (world diagonal) (at 10) (at 90) ≡ 7) × (reads_in h across (in_cell first) (at 30) (at 50) ≡ 0) × (reads_in h across (record { volume = 2; ray = local_ray inner first }) (at 34) (at 46) ≡ 0)
    × (reads_in h across (in_cell last) (at 50) (at 70) ≡ 0) × (reads_in h across (record { volume = 2; ray = local_ray inner last }) (at 54) (at 66) ≡ 0)
unfolding extents_in interval_on bound_at meets cut_of reads_within digits instances_of
reads_at = (refl, refl, refl, refl, refl)

-- the world's space is cut along x into two runs
world_header : HasHeader h 0
unfolding extents_in interval_on bound_at meets cut_of instances_of
world_header = (
  record {
    axis = 0;
    runs = record { first = 0; last = 3; low = neg_ℤ (pos 20); high = pos 0; members = 0 ∷ 2 ∷ [] } ∷ record { first = 4; last = 7; low = pos 0; high = pos 20; members = 1 ∷ 3 ∷ [] } ∷ [];
  },
  refl,
)

-- ---- together
module _ (tree : IsTree h) (clean : IsClean h) where
  report_of : (r : Ray) → HasDirection r → (a b : ℕ) (less : a < b) → IsClip (solid_at h 0) r (Some (span a b less)) → IsReport (path_along h r) (open_rows (pieces_along h (found h tree) r (Some (span a b less))))
  report_of r moves a b less clip = open_report h tree clean (found h tree) (is_found h tree) r moves (Some (span a b less)) clip

  pub second_costs : SecondSampleCosts
  second_costs = record {
    test = across_tests;
    along = record {
      tested = λ n c. alone_cost along along_moves along_none (tests_in h across) 10 90 (omega arith) along_world n c ∙ ap (λ (m : ℕ). m + 0) along_tests;
      read = λ n c. alone_cost along along_moves along_none (reads_in h across) 10 90 (omega arith) along_world n c ∙ ap (λ (m : ℕ). m + 0) along_reads;
      report = open_rows (pieces_along h (found h tree) along (Some (span 10 90 (omega arith))));
      is_report = report_of along along_moves 10 90 (omega arith) along_world;
      to_daughters = no_paths _;
      to_headers = no_paths _;
    };
    diagonal = record {
      tested = λ n c. cost_is (tests_in h across) diagonal 10 90 (omega arith) diagonal_world n c ∙ diagonal_sum c.found c.is_found (tests_in h across)
          ∙ (λ i. tests_at.0 i + ((tests_at.1 i + tests_at.2 i) + (tests_at.3 i + tests_at.4 i)));
      read = λ n c. cost_is (reads_in h across) diagonal 10 90 (omega arith) diagonal_world n c ∙ diagonal_sum c.found c.is_found (reads_in h across)
          ∙ (λ i. reads_at.0 i + ((reads_at.1 i + reads_at.2 i) + (reads_at.3 i + reads_at.4 i)));
      report = open_rows (pieces_along h (found h tree) diagonal (Some (span 10 90 (omega arith))));
      is_report = report_of diagonal diagonal_moves 10 90 (omega arith) diagonal_world;
      to_daughters = subst (λ rows. HasPaths (IsToDaughter rows) 4) (sym (diagonal_rows (found h tree) (is_found h tree))) (record {
        paths = (0 ∷ []) ∷ (0 ∷ 0 ∷ []) ∷ (3 ∷ []) ∷ (3 ∷ 0 ∷ []) ∷ [];
        different = (((λ e. cc), ((λ e. cc), ((λ e. cc), tt))), (((λ e. cc), ((λ e. cc), tt)), (((λ e. cc), tt), (tt, tt))));
        each = (((λ e. cc), inr (inl refl)), (((λ e. cc), inr (inr (inl refl))), (((λ e. cc), inr (inr (inr (inr (inl refl))))), (((λ e. cc), inr (inr (inr (inr (inr (inl refl)))))), tt))));
        many = refl;
      });
      to_headers = subst (λ rows. HasPaths (IsToHeader h rows) 1) (sym (diagonal_rows (found h tree) (is_found h tree))) (record {
        paths = [] ∷ [];
        different = (tt, tt);
        each = (record { volume = 0; leads = refl; header = world_header; on = inr (inl (0, [], refl)) }, tt);
        many = refl;
      });
    };
    up = record {
      tested = λ n c. alone_cost up up_moves up_none (tests_in h across) 20 220 (omega arith) up_world n c ∙ ap (λ (m : ℕ). m + 0) up_tests;
      read = λ n c. alone_cost up up_moves up_none (reads_in h across) 20 220 (omega arith) up_world n c ∙ ap (λ (m : ℕ). m + 0) up_reads;
      report = open_rows (pieces_along h (found h tree) up (Some (span 20 220 (omega arith))));
      is_report = report_of up up_moves 20 220 (omega arith) up_world;
      to_daughters = no_paths _;
      to_headers = no_paths _;
    };
  }
