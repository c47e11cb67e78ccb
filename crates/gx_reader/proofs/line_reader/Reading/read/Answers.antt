use Rattle.std.proofs.Common.{◌≡◌, ℕ, ◌+◌, List, [], ◌++◌, length, sym, ap, ◌∙◌, arith}
use Rattle.std.proofs.lemmas.Result.{err_from_is_err_and}
use Rattle.gx_text.proofs.StepLemmas.{no_bytes}
use Rattle.gx_reader.proofs.Resume.{cause_same, open_for_less}
use Rattle.gx_reader.proofs.line_reader.Reading.read.Goals as goal

pub returns-in_err-rest-clause-err : goal.returns-in_err-rest-clause-err
returns-in_err-rest-clause-err c =
    let p = err_from_is_err_and c.from_residual.result c.from_residual.ensures.1 in
    rw (p.1, p.2) (λ later. cause_same _ _ _ (sym (c.loop-rest.invariant.same later)) (c.in_err-rest.ensures.err later))

pub returns-clause-ok : goal.returns-clause-ok
returns-clause-ok c = rw (no_bytes c.loop-rest.rest.now (sym c.loop-rest-test.ensures)) at c.loop-rest.invariant.same

pub returns-clause-kept : goal.returns-clause-kept
returns-clause-kept c = λ more h. open_for_less c.loop-rest.self.lines (length c.loop-rest.rest.now + more) more (omega arith) (c.loop-rest.invariant.kept more h)

pub loop-rest-preserved : goal.loop-rest-preserved
loop-rest-preserved c =
    let rest = c.loop-rest.rest.now in
    let next = c.in_ok-rest.rest.now in
    let more_is = c.in_ok-rest.ensures.kept 0 (open_for_less c.loop-rest.self.lines (length rest) (length rest + 0) (omega arith) c.loop-rest.invariant.here) in
    record {
      same = λ later. c.in_ok-rest.ensures.ok later ∙ c.loop-rest.invariant.same later;
      kept = λ more h. c.in_ok-rest.ensures.kept more (c.loop-rest.invariant.kept more h);
      here = open_for_less c.take.new.self.lines (length next + 0) (length next) (omega arith) more_is;
    }
