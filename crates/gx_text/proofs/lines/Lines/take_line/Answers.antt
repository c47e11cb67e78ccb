use Rattle.std.proofs.Common.{◌≡◌, ◌++◌, refl, sym, ap, ◌∙◌, subst}
use Rattle.gx_text.specs.Lines.{ended, fault_of, IsCause}
use Rattle.gx_text.proofs.StepLemmas.{no_error, scanning, line_ends, line_goes, line_fails, no_bytes}
use Rattle.gx_text.proofs.lines.Lines.take_line.Goals as goal

pub returns-in-Ok : goal.returns-in-Ok
returns-in-Ok c =
    let s = c.self.inside in
    let none = no_error _ _ _ c.args.self.now c.self.view_is c.requires.open in
    let is = scanning _ _ _ c.args.self.now c.self.view_is none in
    line_ends c.args.self.now s.number s.line c.args.rest.now is c.requires.rest _ c.end.new.self c.end.result
    (rw (none, c.in-Ok.ensures.line) refl) c.end.ensures

pub returns-in-Err : goal.returns-in-Err
returns-in-Err c =
    let s = c.self.inside in
    let none = no_error _ _ _ c.args.self.now c.self.view_is c.requires.open in
    let is = scanning _ _ _ c.args.self.now c.self.view_is none in
    rw (c.fail.ensures.kept, c.fail.ensures.answer) (line_fails c.args.self.now s.number s.line c.args.rest.now is c.requires.rest c.in-Err.error c.in-Err.ensures.err)

pub returns-in-Ok-ended : goal.returns-in-Ok-ended
returns-in-Ok-ended c =
    let s = c.self.inside in
    let rest = c.args.rest.now in
    let none = no_error _ _ _ c.args.self.now c.self.view_is c.requires.open in
    let is = scanning _ _ _ c.args.self.now c.self.view_is none in
    let whole : s.line ++ rest ≡ rest = ap (λ line. line ++ rest) (no_bytes s.line (sym c.if-not-is_empty.ensures)) in
    rw c.next_line.ensures (line_goes c.args.self.now s.number s.line rest is c.requires.rest c.in-Ok-ended.line
    (ap (ended s.number) whole ∙ c.in-Ok-ended.ensures.ok))

pub returns-in-Err-ended : goal.returns-in-Err-ended
returns-in-Err-ended c =
    let s = c.self.inside in
    let rest = c.args.rest.now in
    let none = no_error _ _ _ c.args.self.now c.self.view_is c.requires.open in
    let is = scanning _ _ _ c.args.self.now c.self.view_is none in
    let whole : s.line ++ rest ≡ rest = ap (λ line. line ++ rest) (no_bytes s.line (sym c.if-not-is_empty.ensures)) in
    rw (c.fail-in-Err-ended.ensures.kept, c.fail-in-Err-ended.ensures.answer) (line_fails c.args.self.now s.number s.line rest is c.requires.rest c.in-Err-ended.error
    (subst (λ line. IsCause (fault_of s.number line) c.in-Err-ended.error) (sym whole) c.in-Err-ended.ensures.err))
