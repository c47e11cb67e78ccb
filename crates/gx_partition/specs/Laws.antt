-- The laws of partitions and walks.
use Rattle.std.specs.Prelude.{◌≡◌, ◌<◌, ℕ, List, Option, Some}
use Rattle.gx_num.specs.Ray.{RayParameter, IsPositive, IsBelow}
use Rattle.gx_path.specs.Report.{IsReport}
use Rattle.gx_partition.specs.Partition.{Piece, IsPartition, IsSteady, open_rows}
use Rattle.gx_partition.specs.Walk.{Hit, IsNest, IsCollected, pieces_of, sorted}

-- two partitions of one ray are equal
abbrev pub OnePartition : Type 0
OnePartition = (place : RayParameter → Option (List ℕ)) (xs ys : List Piece) → IsPartition place xs → IsPartition place ys → xs ≡ ys

-- where no single parameter matters, the open rows of a partition are the report
abbrev pub OpenRowsAreTheReport : Type 0
OpenRowsAreTheReport = (place : RayParameter → Option (List ℕ)) (pieces : List Piece) → IsPartition place pieces → IsSteady place → IsReport place (open_rows pieces)

-- the pieces of a nest are the partition of a ray that is in the world within its ends alone
abbrev pub NestIsPartition : Type 0 → Type 0
NestIsPartition D = (hits : D → List (Hit D)) (at : ℕ → D → RayParameter → List ℕ) (n : ℕ) (from to : RayParameter) (d : D) (place : RayParameter → Option (List ℕ))
    → IsNest hits at n from to d
    → ((t : RayParameter) → IsPositive t → IsBelow from t → IsBelow t to → place t ≡ Some (at n d t))
    → ((t : RayParameter) (path : List ℕ) → IsPositive t → place t ≡ Some path → IsBelow from t × IsBelow t to)
    → IsPartition place (pieces_of hits n from to d)

-- what is collected, however that is done, is one list
abbrev pub CollectedIsSorted : Type 0 → Type 0
CollectedIsSorted D = (found : ℕ → Option (Hit D)) (n : ℕ) (from to : RayParameter) (hits : List (Hit D)) → 0 < from.den
    → ((k : ℕ) (h : Hit D) → found k ≡ Some h → h.ordinal ≡ k)
    → IsCollected found n from to hits → hits ≡ sorted found n
