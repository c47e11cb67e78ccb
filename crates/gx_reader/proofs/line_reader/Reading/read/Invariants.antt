use Rattle.std.proofs.Common.{◌≡◌, ℕ, ◌+◌, List, ◌++◌, length}
use Rattle.gx_reader.specs.Resumed.{left_by, IsOpen}
use Rattle.gx_reader.proofs.line_reader.Reading.read.Given as goal

-- what is left of the piece makes of what is declared so far what the whole piece does
abbrev pub invariant-loop-rest : goal.invariant-loop-rest
invariant-loop-rest l = record {
  same : (later : List ℕ) → left_by l.self (l.rest ++ later) ≡ left_by l.fn.self (l.piece ++ later);
  kept : (more : ℕ) → IsOpen (length l.piece + more) l.fn.self.lines → IsOpen (length l.rest + more) l.self.lines;
  here : IsOpen (length l.rest) l.self.lines;
}

abbrev pub decreases-loop-rest : goal.decreases-loop-rest
decreases-loop-rest l = length l.rest
