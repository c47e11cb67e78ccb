use Rattle.std.proofs.Common.{◌≡◌, ◌+◌, ◌++◌, Err, Ok, length, sym, ap, ◌∙◌, subst}
use Rattle.gx_reader.specs.Resumed.{IsOpenReader, lines_as}
use Rattle.gx_reader.proofs.Resume.{ok_err, stopped_as}
use Rattle.gx_reader.proofs.line_reader.LineReader.read.Goals as goal
use Rattle.gx_reader.proofs.line_reader.LineReader.read.Goals.{in-Reading, in-Stopped}

pub returns-in-Err-clause-same : goal.returns-in-Err-clause-same
returns-in-Err-clause-same c = λ memory later. elim c.match-self.branch [
  | in-Reading w ↦
      let failed : w.read-outcome.result ≡ Err c.in-Err.error = sym w.outcome-is ∙ c.in-Err.is in
      subst (λ lines. Err c.in-Err.error ≡ lines_as lines (c.args.piece.now ++ later)) (sym w.in-Reading.is) (stopped_as _ c.in-Err.error memory ((rw failed at w.read-outcome.ensures.err) later))
  | in-Stopped w ↦ absurd (ok_err _ c.in-Err.error (sym w.outcome-is ∙ c.in-Err.is))
]

pub returns-in_default-clause-kept : goal.returns-in_default-clause-kept
returns-in_default-clause-kept c = λ more h. elim c.match-self.branch [
  | in-Reading w ↦
      let okay : w.read-outcome.result ≡ Ok c.in_default.field-0 = sym w.outcome-is ∙ c.in_default.is in
      let before = subst (IsOpenReader (length c.args.piece.now + more)) w.in-Reading.is h in
      subst (IsOpenReader more) (sym w.self-is) ((rw okay at w.read-outcome.ensures.kept) more before)
  | in-Stopped w ↦ subst (IsOpenReader more) (sym (w.self-is ∙ w.in-Stopped.is)) tt
]
