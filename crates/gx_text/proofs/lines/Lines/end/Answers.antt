use Rattle.gx_text.proofs.StepLemmas.{no_error, scanning, end_fails}
use Rattle.gx_text.proofs.lines.Lines.end.Goals as goal

pub returns-in-Err : goal.returns-in-Err
returns-in-Err c =
    let s = c.self.inside in
    let is = scanning _ _ _ c.args.self.now c.self.view_is (no_error _ _ _ c.args.self.now c.self.view_is c.requires) in
    rw (c.fail.ensures.kept, c.fail.ensures.answer) (end_fails c.args.self.now s.number s.line is c.in-Err.error (rw c.bytes.ensures at c.in-Err.ensures.err))
