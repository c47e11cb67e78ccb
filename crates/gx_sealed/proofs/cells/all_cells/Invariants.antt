use Rattle.std.proofs.Common.{ℕ, ◌<◌, ◌≡◌, length, get_or}
use Rattle.gx_sealed.specs.declared.cells.Cells.{Cells}
use Rattle.gx_sealed.specs.Cells.{IsCells}
use Rattle.gx_sealed.proofs.cells.all_cells.Given as goal

abbrev pub invariant-loop-v : goal.invariant-loop-v
invariant-loop-v l = (length l.all.items ≡ l.v) × ((v : ℕ) (d : Cells) → v < l.v → IsCells l.tree v (get_or l.all.items v d))
