-- What the rays of the second sample cost, by the boxes that hold the origin on each axis on which the ray doesn't move.
use Rattle.std.specs.Prelude.{◌≡◌, ℕ, ℤ, pos, neg_ℤ, int_le, int_lt, Bool, true, ◌&&◌, if◌then◌else◌, List}
use Rattle.std.specs.List.{list_all}
use Rattle.std.specs.Ordering.{int_eq}
use Rattle.gx_num.specs.declared.ray.Ray.{Ray}
use Rattle.gx_shapes.specs.Space.{point}
use Rattle.gx_tree.specs.Hierarchy.{Hierarchy}
use Rattle.gx_tree.specs.Deepest.{path_along}
use Rattle.gx_path.specs.Report.{Row, IsReport}
use Rattle.gx_voxel.specs.Cut.{coordinate}
use Rattle.gx_voxel.specs.Cells.{Side}
use Rattle.gx_navigator.specs.Tests.{BoxTest, IsBoxTest, IsCost, HasPaths, IsToDaughter, IsToHeader, tests_in, reads_in}
use Rattle.gx_sample_clean.specs.Sample.{sample_tree, ray}

-- the ray moves on the side's axis, or is between its coordinates all along
abbrev pub is_across : Ray → Side → Bool
is_across r s = if int_eq (coordinate s.axis r.d) (pos 0) then int_le s.low (coordinate s.axis r.o) && int_lt (coordinate s.axis r.o) s.high else true

abbrev pub across : BoxTest
across f from to box = list_all (is_across f.ray) box

-- by this test so many daughters are tested along a ray and so much is read, and its report has so many paths to daughters and to headers
pub record Costs (h : Hierarchy) (r : Ray) (tests reads daughters headers : ℕ) : Type 0 where
  pub tested : (n : ℕ) → IsCost h (tests_in h across) r n → n ≡ tests
  pub read : (n : ℕ) → IsCost h (reads_in h across) r n → n ≡ reads
  pub report : List Row
  pub is_report : IsReport (path_along h r) report
  pub to_daughters : HasPaths (IsToDaughter report) daughters
  pub to_headers : HasPaths (IsToHeader h report) headers

-- along x, along the diagonal and along z
pub record SecondSampleCosts : Type 0 where
  pub test : IsBoxTest across
  pub along : Costs (sample_tree 2) (ray (point (neg_ℤ (pos 50)) (pos 0) (pos 0)) (point (pos 1) (pos 0) (pos 0))) 4 7 0 0
  pub diagonal : Costs (sample_tree 2) (ray (point (neg_ℤ (pos 50)) (neg_ℤ (pos 50)) (pos 0)) (point (pos 1) (pos 1) (pos 0))) 6 7 4 1
  pub up : Costs (sample_tree 2) (ray (point (pos 0) (pos 5) (neg_ℤ (pos 120))) (point (pos 0) (pos 0) (pos 1))) 2 6 0 0
