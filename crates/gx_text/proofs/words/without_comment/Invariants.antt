use Rattle.std.proofs.Common.{◌≡◌, ◌++◌, take, drop}
use Rattle.gx_text.specs.Lines.{before_comment}
use Rattle.gx_text.proofs.words.without_comment.Given as goal

-- no comment begins before i
abbrev pub invariant-loop-i : goal.invariant-loop-i
invariant-loop-i l = before_comment l.line ≡ take l.i l.line ++ before_comment (drop l.i l.line)
