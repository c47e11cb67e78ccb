-- What an array with a text at its front holds.
use Rattle.std.proofs.Common.{refl, ◌<◌, ℕ, List, ◌++◌, length, take, drop, replicate, IsTrue}
use Rattle.std.proofs.Math.Seq.{take-append_seam}
use Rattle.std.proofs.lemmas.List.{drop-replicate}
use Rattle.gx_table.specs.Table.{Holds, is_ascii_text}

-- zeros over which a text was written hold the text
pub holds_written : (text : List ℕ) → 0 < length text → IsTrue (is_ascii_text text)
    → Holds (text ++ drop (length text) (replicate 16 0)) (length text) (take (length text) (text ++ drop (length text) (replicate 16 0)))
holds_written text some ascii =
    rw (take-append_seam text (drop (length text) (replicate 16 0)))
    record { some = some; whole = refl; padding = rw (drop-replicate {X = ℕ} (length text) 16 0) refl; ascii = ascii }
