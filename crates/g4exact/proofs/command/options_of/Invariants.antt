use Rattle.std.proofs.Common.{◌≡◌, map, string_bytes, drop}
use Rattle.g4exact.specs.Commands.{options_from, no_options}
use Rattle.g4exact.proofs.command.options_of.Given as goal

-- the words that are left make of the options so far what all words make of none
abbrev pub invariant-loop-word : goal.invariant-loop-word
invariant-loop-word l = options_from l.verb l.options (map string_bytes (drop l.word-index l.words)) ≡ options_from l.verb no_options (map string_bytes l.words)
