use Rattle.std.proofs.Common.{◌≡◌, ◌++◌, drop}
use Rattle.std.specs.Vec.Iter.{into_iter_items}
use Rattle.g4exact.proofs.words.after_first.Given as goal

-- the words taken and those to come are those after the first
abbrev pub invariant-loop-word : goal.invariant-loop-word
invariant-loop-word l = l.rest.items ++ into_iter_items l.word-iterator ≡ drop 1 (into_iter_items l.fn.words)
