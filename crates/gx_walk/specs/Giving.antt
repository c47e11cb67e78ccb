-- The rows of a volume below a path, without the pieces' marks. No public contract stands on this file.
use Rattle.std.specs.Prelude.{◌≡◌, ℕ, zero, suc, ◌≤◌, IsTrue, if◌then◌else◌, Bool, List, [], ◌∷◌, ◌++◌, map, Option}
use Rattle.std.specs.List.{flat_map, AllByRecursion}
use Rattle.gx_num.specs.Ray.{RayParameter}
use Rattle.gx_path.specs.declared.row.Row.{Row as Given}
use Rattle.gx_path.specs.Report.{Row}
use Rattle.gx_partition.specs.Partition.{is_below}
use Rattle.gx_partition.specs.Walk.{Hit}
use Rattle.gx_walk.specs.declared.met.Frame.{Frame}
use Rattle.gx_walk.specs.Hits.{Leads, fraction_of}

-- the row between two parameters in the mother herself, where anything lies between
abbrev pub between : RayParameter → RayParameter → List Row
between s t = if is_below s t then record { from = s; to = t; path = [] } ∷ [] else []

-- a row of the daughter with this ordinal, seen from her mother
abbrev pub within : ℕ → Row → Row
within k row = record { from = row.from; to = row.to; path = k ∷ row.path }

-- the rows of a mother from a beginning on, given the daughters met, in turn, and the rows of each
abbrev pub rows_from : (Hit Frame → List Row) → RayParameter → RayParameter → List (Hit Frame) → List Row
rows_from rows s to [] = between s to
rows_from rows s to (h ∷ hits) = between s h.from ++ (map (within h.ordinal) (rows h) ++ rows_from rows h.to to hits)

-- the rows of a volume between two parameters, so many levels deep
abbrev pub rows_of : (Frame → List (Hit Frame)) → ℕ → RayParameter → RayParameter → Frame → List Row
rows_of hits zero from to d = between from to
rows_of hits (suc n) from to d = rows_from (λ h. rows_of hits n h.from h.to h.daughter) from to (hits d)

-- the items of rows below a path
abbrev pub items_below : {X : Type 0} → (Given → List X) → List ℕ → List Row → List X
items_below items path rows = flat_map (λ row. items (record { from = fraction_of row.from; to = fraction_of row.to; path = path ++ row.path })) rows

-- each row is taken whose path goes on by daughters
pub record TakesBelow (takes : Given → Bool) (daughter : ℕ → ℕ → Option ℕ) (path : List ℕ) (v : ℕ) : Type 0 where
  pub each : (row : Given) (further : List ℕ) (w : ℕ) → Leads daughter v further w → row.path ≡ path ++ further → IsTrue (takes row)

-- at levels of these capacities there is room for each volume's daughters
abbrev pub HaveRoom : (ℕ → ℕ) → List ℕ → Type 0
HaveRoom count capacities = AllByRecursion (λ capacity. (v : ℕ) → count v ≤ capacity) capacities
