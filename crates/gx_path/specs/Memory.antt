-- Rows that are kept in memory.
use Rattle.std.specs.Prelude.{◌≡◌, ◌==◌, ℕ, List, [], ◌∷◌, ◌++◌, length, ◌||◌, ◌↔◌, Result, IsErr, IsTrue, OnOk, OnErr}
use Rattle.gx_io.specs.Bytes.{next_fault}
use Rattle.gx_io.specs.Memory.{fails_next, next_call}
use Rattle.gx_path.specs.declared.row.Row.{Row}

-- The rows that were kept, how many there is room for, and the calls that fail; the calls that were numbered; the faults.
pub record RowsState : Type 0 where
  pub kept : List Row
  pub room : ℕ
  pub fails : List ℕ
  pub calls : ℕ
  pub faults : ℕ

-- one call: exactly the listed calls fail, and those that find no room
pub record Keeps {T E : Type 0} (old new : RowsState) (row : Row) (result : Result T E) : Type 0 where
  pub fails : IsErr result ↔ IsTrue (fails_next old.fails old.calls || length old.kept == old.room)
  pub ok : OnOk result (new ≡ record old { kept = old.kept ++ row ∷ []; calls = next_call old.calls })
  pub err : OnErr result (new ≡ record old { calls = next_call old.calls; faults = next_fault old.faults })
