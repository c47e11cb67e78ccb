use Rattle.std.proofs.Common.{sym, arith}
use Rattle.gx_text.proofs.CommentLemmas.{no_comment}
use Rattle.gx_text.proofs.words.without_comment.Goals as goal

pub returns : goal.returns
returns c = sym (no_comment c.args.line.now c.loop-i.i (omega arith) c.loop-i.invariant)
