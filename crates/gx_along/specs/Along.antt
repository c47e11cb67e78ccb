-- What going from run to run along a ray does.
use Rattle.std.specs.Prelude.{◌≡◌, ◌≤◌, ◌<◌, ◌+◌, ◌-◌, ℕ, ℤ, pos, int_lt, Bool, if◌then◌else◌, List, length, get_or}
use Rattle.std.specs.List.{AllByRecursion}
use Rattle.gx_num.specs.Ray.{RayParameter}
use Rattle.gx_offers.specs.Offers.{AnyByRecursion}
use Rattle.gx_voxel.specs.declared.proxy.Header.{Header}
use Rattle.gx_voxel.specs.Proxy.{list_of}
use Rattle.gx_along.specs.declared.line.Stretch.{Stretch}
use Rattle.gx_along.specs.Line.{Seen, is_entered, part_of, IsWithin, IsInRun, IsPart}
use Rattle.gx_along.specs.Runs.{low_at, high_at}

-- the j-th run along the ray, from the place that the search gave, and how many are left there
abbrev pub index_of : ℤ → ℕ → ℕ → ℕ
index_of d start j = if int_lt d (pos 0) then start - 1 - j else start + j

abbrev pub left_of : ℤ → ℕ → ℕ → ℕ
left_of d count start = if int_lt d (pos 0) then start else count - start

-- the run at a place: whether the ray has come to it before a time, and the part of a stretch in it
abbrev pub is_entered_at : ℤ → ℤ → Header → RayParameter → ℕ → Bool
is_entered_at o d h t i = is_entered o d (low_at h i) (high_at h i) t

abbrev pub part_at : ℤ → ℤ → Header → Stretch → ℕ → Stretch
part_at o d h s i = part_of o d (low_at h i) (high_at h i) s

-- Exactly the runs that have a point of the stretch, one after another along the ray from a first one on, each with its part of the stretch.
pub record IsExact (o d : ℤ) (h : Header) (s : Stretch) (seen : List Seen) : Type 0 where
  pub start : ℕ
  pub few : length seen ≤ left_of d (length (list_of h)) start
  pub order : (m : ℕ) (x : Seen) → m < length seen → (get_or seen m x).index ≡ index_of d start m
  pub parts : AllByRecursion (λ one. (one.index < length (list_of h)) × IsPart o d (low_at h one.index) (high_at h one.index) s one.part) seen
  pub whole : (i : ℕ) (t : RayParameter) → i < length (list_of h) → 0 < t.den → IsWithin s t → IsInRun o d (low_at h i) (high_at h i) t → AnyByRecursion (λ (one : Seen). one.index ≡ i) seen
