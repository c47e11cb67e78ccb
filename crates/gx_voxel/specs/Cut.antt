-- Along which axis members are cut apart, and into which runs of slices (this project's own).
use Rattle.std.specs.Prelude.{ℕ, ◌+◌, ◌*◌, ◌/◌, min, max, nat_lt, nat_le, nat_eq, ◌==◌, ℤ, pos, ◌+ℤ◌, ◌-ℤ◌, unsigned_abs, int_lt, Bool, ◌&&◌, ◌||◌, if◌then◌else◌, List, [], ◌∷◌, length, map, filter, fold, sum_by, Option, None}
use Rattle.std.specs.Int.{int_min, int_max}
use Rattle.std.specs.List.{find, list_all, range_with_len}
use Rattle.std.specs.Cmp.Lexicographic.{pointwise}
use Rattle.gx_num.specs.declared.vector.V3.{V3}
use Rattle.gx_num.specs.declared.extent.Extent.{Extent}

-- the coordinate on axis 0, 1 or 2: X, Y or Z
abbrev pub coordinate : ℕ → V3 → ℤ
coordinate axis v = if axis == 0 then v.x else if axis == 1 then v.y else v.z

-- from one coordinate to another
pub record Interval : Type 0 where
  pub low : ℤ
  pub high : ℤ

-- what an extent has of an axis
unfoldable pub interval_on : ℕ → Extent → Interval
interval_on axis e = record { low = coordinate axis e.low; high = coordinate axis e.high }

-- the least and the greatest of some numbers; of none it is 0
abbrev pub least : List ℤ → ℤ
least [] = pos 0
least (z ∷ zs) = fold int_min z zs

abbrev pub greatest : List ℤ → ℤ
greatest [] = pos 0
greatest (z ∷ zs) = fold int_max z zs

-- The slices of an axis: where they begin, how far they go, and how many they are.
pub record Grid : Type 0 where
  pub low : ℤ
  pub span : ℕ
  pub count : ℕ

-- from the least coordinate of the members to the greatest: two slices a member, at most 1000, and none without a whole coordinate
abbrev pub grid_over : ℤ → ℤ → ℕ → Grid
grid_over low high members = record { low = low; span = unsigned_abs (high -ℤ low); count = min (min (2 * members) 1000) (unsigned_abs (high -ℤ low)) }

-- the slices of members whose intervals on the axis are given by their numbers
abbrev pub grid_of : (ℕ → Interval) → List ℕ → Grid
grid_of on ks = grid_over (least (map (λ k. (on k).low) ks)) (greatest (map (λ k. (on k).high) ks)) (length ks)

-- where slice i begins, and the one before it ends
unfoldable pub bound_at : Grid → ℕ → ℤ
bound_at grid i = grid.low +ℤ pos ((grid.span * i) / grid.count)

-- the open interval has a point from one bound up to, and without, another
unfoldable pub meets : Interval → ℤ → ℤ → Bool
meets e from to = int_lt e.low to && int_lt from e.high

-- the members in slice i
abbrev pub members_in : (ℕ → Interval) → List ℕ → Grid → ℕ → List ℕ
members_in on ks grid i = filter (λ k. meets (on k) (bound_at grid i) (bound_at grid (i + 1))) ks

-- Slices `first` to `last`, from one coordinate up to, and without, another, and the members in each of them.
pub record SliceRun : Type 0 where
  pub first : ℕ
  pub last : ℕ
  pub low : ℤ
  pub high : ℤ
  pub members : List ℕ

-- the run of slices of a grid, with its bounds
abbrev pub run_of : Grid → ℕ → ℕ → List ℕ → SliceRun
run_of grid first last ks = record { first = first; last = last; low = bound_at grid first; high = bound_at grid (last + 1); members = ks }

-- A run grows over the next slice where this has the same members; else the next run begins there.
abbrev pub grown : Grid → ℕ → ℕ → List ℕ → List (List ℕ) → List SliceRun
grown grid first last ks [] = run_of grid first last ks ∷ []
grown grid first last ks (next ∷ slices) =
    if pointwise nat_eq ks next then grown grid first (last + 1) ks slices else run_of grid first last ks ∷ grown grid (last + 1) (last + 1) next slices

-- the runs of all slices
abbrev pub runs_of : Grid → List (List ℕ) → List SliceRun
runs_of grid [] = []
runs_of grid (ks ∷ slices) = grown grid 0 0 ks slices

-- the runs of members on an axis
abbrev pub runs_on : (ℕ → Interval) → List ℕ → List SliceRun
runs_on on ks = let grid = grid_of on ks in runs_of grid (map (members_in on ks grid) (range_with_len 0 grid.count))

-- how many members the longest run has, and how many all have together
abbrev pub longest_of : List SliceRun → ℕ
longest_of runs = fold (λ n run. max n (length run.members)) 0 runs

abbrev pub entries_of : List SliceRun → ℕ
entries_of runs = sum_by (λ run. length run.members) runs

-- Members cut apart along an axis.
pub record Cut : Type 0 where
  pub axis : ℕ
  pub runs : List SliceRun

-- the members cut apart along an axis, worth it or not
abbrev pub cut_along : (ℕ → Extent) → List ℕ → ℕ → Cut
cut_along at ks axis = record { axis = axis; runs = runs_on (λ k. interval_on axis (at k)) ks }

-- of so many members: on average a member is in at most 8 runs
abbrev pub is_worth_it : ℕ → Cut → Bool
is_worth_it members cut = nat_le (entries_of cut.runs) (8 * members)

-- the longest run of one is shorter than that of the other, or as long, with no more entries
abbrev pub is_as_good : Cut → Cut → Bool
is_as_good a b = nat_lt (longest_of a.runs) (longest_of b.runs) || (longest_of a.runs == longest_of b.runs && nat_le (entries_of a.runs) (entries_of b.runs))

-- the first that is as good as each
abbrev pub best_of : List Cut → Option Cut
best_of cuts = find (λ c. list_all (is_as_good c) cuts) cuts

-- the best cut of the members along an axis that is left and worth it, if there is one; fewer than 4 members aren't cut
unfoldable pub cut_of : (ℕ → Extent) → List ℕ → List ℕ → Option Cut
cut_of at ks axes = if nat_lt (length ks) 4 then None else best_of (filter (is_worth_it (length ks)) (map (cut_along at ks) axes))
