use Rattle.std.proofs.Common.{length, sym, ap, arith}
use Rattle.gx_text.proofs.CommentLemmas.{visible_le}
use Rattle.gx_text.proofs.FaultLemmas.{short}
use Rattle.gx_text.proofs.line.Line.ended.Goals as goal

pub new-requires : goal.new-requires
new-requires c =
    let line = c.args.line.now in
    let none = c.in-None.ensures in
    omega (arith, ap length c.visible-visible.ensures, visible_le line, short c.args.number line (sym none))
