-- The runs of a header as bounds.
use Rattle.std.specs.Prelude.{◌≤◌, ◌<◌, ℕ, ℤ, pos, ◌≤ℤ◌, ◌<ℤ◌, unsigned_abs, ◌^◌, Bool, not, int_lt, if◌then◌else◌, length, map, get_or}
use Rattle.gx_num.specs.Ray.{RayParameter}
use Rattle.gx_voxel.specs.declared.proxy.Header.{Header}
use Rattle.gx_voxel.specs.Proxy.{list_of, low_of, high_of}
use Rattle.gx_along.specs.Line.{is_left}

-- where the run at a place begins, and where it ends
abbrev pub low_at : Header → ℕ → ℤ
low_at h i = get_or (map low_of (list_of h)) i (pos 0)

abbrev pub high_at : Header → ℕ → ℤ
high_at h i = get_or (map high_of (list_of h)) i (pos 0)

-- the bounds of runs rise, and are small
pub record IsRising (h : Header) : Type 0 where
  pub lows : (i j : ℕ) → i ≤ j → j < length (list_of h) → low_at h i ≤ℤ low_at h j
  pub highs : (i j : ℕ) → i ≤ j → j < length (list_of h) → high_at h i ≤ℤ high_at h j
  pub low : (i : ℕ) → unsigned_abs (low_at h i) ≤ 2 ^ 31
  pub high : (i : ℕ) → unsigned_abs (high_at h i) ≤ 2 ^ 31
  pub count : length (list_of h) ≤ 1000

-- Runs before the one sought, in the order of the header: those that are left, and where the ray goes down those that aren't.
unfoldable pub is_run_before : ℤ → ℤ → ℤ → ℤ → RayParameter → Bool
is_run_before o d low high t = if int_lt d (pos 0) then not (is_left o d low high t) else is_left o d low high t

-- the run at a place is one of them
abbrev pub is_before : ℤ → ℤ → Header → RayParameter → ℕ → Bool
is_before o d h t i = is_run_before o d (low_at h i) (high_at h i) t

-- each run has coordinates
abbrev pub HasRuns : Header → Type 0
HasRuns h = (i : ℕ) → i < length (list_of h) → low_at h i <ℤ high_at h i
