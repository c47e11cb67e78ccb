use Rattle.gx_text.proofs.StepLemmas.{no_error, scanning, part_goes, part_fails}
use Rattle.gx_text.proofs.lines.Lines.take_part.Goals as goal

pub returns-in-Ok : goal.returns-in-Ok
returns-in-Ok c =
    let s = c.self.inside in
    let none = no_error _ _ _ c.args.self.now c.self.view_is c.requires.open in
    let is = scanning _ _ _ c.args.self.now c.self.view_is none in
    rw (none, c.in-Ok.ensures.line)
    (part_goes c.args.self.now s.number s.line c.args.part.now is c.requires.part (c.self.invariant none) c.in-Ok.ensures.kept)

pub returns-in-Err : goal.returns-in-Err
returns-in-Err c =
    let s = c.self.inside in
    let none = no_error _ _ _ c.args.self.now c.self.view_is c.requires.open in
    let is = scanning _ _ _ c.args.self.now c.self.view_is none in
    rw (c.fail.ensures.kept, c.fail.ensures.answer) (part_fails c.args.self.now s.number s.line c.args.part.now is c.requires.part (c.self.invariant none) c.in-Err.error c.in-Err.ensures.err)
