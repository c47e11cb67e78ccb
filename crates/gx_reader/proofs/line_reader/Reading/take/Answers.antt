use Rattle.std.proofs.Common.{◌≡◌, ◌-◌, ◌++◌, length, take, drop, sym, ap, ◌∙◌, arith}
use Rattle.std.specs.Io.BufRead.{take_through}
use Rattle.std.proofs.lemmas.List.{take_rest}
use Rattle.std.proofs.lemmas.Result.{err_from_is_err_and}
use Rattle.gx_form.specs.First.{◌>>=◌}
use Rattle.gx_reader.specs.Resumed.{resumed}
use Rattle.gx_reader.proofs.Resume.{take_goes, take_stops, through_le, cause_then, cause_same}
use Rattle.gx_reader.proofs.line_reader.Reading.take.Goals as goal

pub returns-in_err-count-clause-err : goal.returns-in_err-count-clause-err
returns-in_err-count-clause-err c =
    let s = c.args.self.now in
    let fault = c.in_err-count.field-0.0 in
    let p = err_from_is_err_and c.from_residual.result c.from_residual.ensures.1 in
    rw (p.1, p.2) (take_stops s.declared.grid s.declared.so_far s.lines c.args.text.now fault c.take.new.self c.requires.kept c.requires.some c.in_err-count.ensures.answer)

pub returns-in_err-declare-clause-err : goal.returns-in_err-declare-clause-err
returns-in_err-declare-clause-err c =
    let s = c.args.self.now in
    let p = err_from_is_err_and c.from_residual-in_err-declare.result c.from_residual-in_err-declare.ensures.1 in
    let goes = take_goes s.declared.grid s.declared.so_far s.lines c.args.text.now c.in_ok-count.line c.take.new.self c.requires.kept c.requires.some c.in_ok-count.ensures.answer in
    rw (p.1, p.2) (λ later. cause_same _ _ _ (goes.same later) (cause_then _ _ _ c.in_err-declare.ensures.err))

pub slice_bounds-result-count : goal.slice_bounds-result-count
slice_bounds-result-count c = omega (arith, c.in_ok-count.ensures.count, through_le c.args.text.now)

pub slice_bounds-result-start : goal.slice_bounds-result-start
slice_bounds-result-start c = omega (arith, c.in_ok-count.ensures.count, through_le c.args.text.now)

pub returns-clause-ok : goal.returns-clause-ok
returns-clause-ok c =
    let s = c.args.self.now in
    let text = c.args.text.now in
    let count = c.in_ok-count.count in
    let goes = take_goes s.declared.grid s.declared.so_far s.lines text c.in_ok-count.line c.take.new.self c.requires.kept c.requires.some c.in_ok-count.ensures.answer in
    let rest : take (length text - count) (drop count text) ≡ drop (length (take_through 10 text)) text = take_rest text count ∙ ap (λ n. drop n text) c.in_ok-count.ensures.count in
    rw (rest, c.in_ok-declare.ensures.grid)
    (λ later. sym (goes.same later ∙ ap (λ r. (r >>= (λ next. resumed s.declared.grid next c.take.new.self (drop (length (take_through 10 text)) text ++ later)))) c.in_ok-declare.ensures.ok))

pub returns-clause-kept : goal.returns-clause-kept
returns-clause-kept c =
    let s = c.args.self.now in
    let text = c.args.text.now in
    let count = c.in_ok-count.count in
    let goes = take_goes s.declared.grid s.declared.so_far s.lines text c.in_ok-count.line c.take.new.self c.requires.kept c.requires.some c.in_ok-count.ensures.answer in
    let rest : take (length text - count) (drop count text) ≡ drop (length (take_through 10 text)) text = take_rest text count ∙ ap (λ n. drop n text) c.in_ok-count.ensures.count in
    rw rest goes.kept
