-- Two daughters that touch, along a ray through both; and a mother that they fill.
use Rattle.std.proofs.Common.{◌≡◌, ℕ, zero, refl, Bool, true, false, List, [], ◌∷◌}
use Rattle.gx_num.specs.Ray.{RayParameter}
use Rattle.gx_path.specs.Report.{Row}
use Rattle.gx_partition.specs.Partition.{Piece, open_rows}
use Rattle.gx_partition.specs.Walk.{Hit, pieces_of}

abbrev at : ℕ → RayParameter
at n = record { num = n; den = 1 }

abbrev piece : ℕ → Bool → ℕ → Bool → List ℕ → Piece
piece from from_in to to_in path = record { from = at from; from_in = from_in; to = at to; to_in = to_in; path = path }

abbrev row : ℕ → ℕ → List ℕ → Row
row from to path = record { from = at from; to = at to; path = path }

abbrev hit : ℕ → ℕ → ℕ → ℕ → Hit ℕ
hit k from to d = record { ordinal = k; from = at from; to = at to; daughter = d }

-- volume 0 has two daughters that are volume 1
abbrev hits : ℕ → List (Hit ℕ)
hits zero = hit 0 20 30 1 ∷ hit 1 30 40 1 ∷ []
hits d = []

touching : pieces_of hits 2 (at 10) (at 50) 0
    ≡ piece 10 false 20 true [] ∷ piece 20 false 30 false (0 ∷ []) ∷ piece 30 true 30 true [] ∷ piece 30 false 40 false (1 ∷ []) ∷ piece 40 true 50 false [] ∷ []
touching = refl

touching-open : open_rows (pieces_of hits 2 (at 10) (at 50) 0) ≡ row 10 20 [] ∷ row 20 30 (0 ∷ []) ∷ row 30 40 (1 ∷ []) ∷ row 40 50 [] ∷ []
touching-open = refl

-- touching daughters that fill the mother leave her a single parameter
filled : pieces_of hits 2 (at 20) (at 40) 0 ≡ piece 20 false 30 false (0 ∷ []) ∷ piece 30 true 30 true [] ∷ piece 30 false 40 false (1 ∷ []) ∷ []
filled = refl
