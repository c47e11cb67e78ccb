use Rattle.std.proofs.Common.{◌≡◌}
use Rattle.g4exact.specs.Commands.{number_up_to, greatest_sample}
use Rattle.g4exact.proofs.command.number_from.Given as goal

-- no greater number is the word's
abbrev pub invariant-loop-number : goal.invariant-loop-number
invariant-loop-number l = number_up_to l.number l.word ≡ number_up_to greatest_sample l.word

abbrev pub decreases-loop-number : goal.decreases-loop-number
decreases-loop-number l = l.number
