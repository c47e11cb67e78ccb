-- The law of reports.
use Rattle.std.specs.Prelude.{◌≡◌, ℕ, List, Option}
use Rattle.gx_num.specs.Ray.{RayParameter}
use Rattle.gx_path.specs.Report.{Row, IsReport}

-- two lists of rows that are reports for one ray are equal
abbrev pub OneReport : Type 0
OneReport = (place : RayParameter → Option (List ℕ)) (xs ys : List Row) → IsReport place xs → IsReport place ys → xs ≡ ys
