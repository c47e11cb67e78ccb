use Rattle.std.proofs.Common.{◌≡◌, Ok, IfOk, IfErr, sym, ap, subst, ◌∙◌}
use Rattle.gx_gather.specs.Faults.{IsCause}
use Rattle.std.proofs.lemmas.Result.{err_from_is_err_and}
use Rattle.gx_link.specs.Text.{input_of}
use Rattle.gx_reader.specs.Reading.{input_from}
use Rattle.gx_reader.proofs.Resume.{ends, end_stops, cause_then, cause_same}
use Rattle.gx_reader.proofs.line_reader.Reading.finish.Goals as goal

pub returns-in_err-finish-clause-err : goal.returns-in_err-finish-clause-err
returns-in_err-finish-clause-err c =
    let s = c.args.self in
    let p = err_from_is_err_and c.from_residual.result c.from_residual.ensures.1 in
    let stops = end_stops s.declared.grid s.declared.so_far s.lines c.in_err-finish.field-0.0 c.requires c.in_err-finish.ensures in
    rw (p.1, p.2) (cause_then _ _ input_of stops)

pub returns-in_err-declare-clause-err : goal.returns-in_err-declare-clause-err
returns-in_err-declare-clause-err c =
    let s = c.args.self in
    let p = err_from_is_err_and c.from_residual-in_err-declare.result c.from_residual-in_err-declare.ensures.1 in
    let same = ends s.declared.grid s.declared.so_far s.lines c.in_ok-finish.field-0 c.requires c.in_ok-finish.ensures in
    rw (p.1, p.2) (cause_same _ _ _ (ap input_from same) (cause_then _ _ input_of c.in_err-declare.ensures.err))

pub returns-clause-ok : goal.returns-clause-ok
returns-clause-ok c =
    let s = c.args.self in
    let same = ends s.declared.grid s.declared.so_far s.lines c.in_ok-finish.field-0 c.requires c.in_ok-finish.ensures ∙ c.in_ok-declare.ensures.ok in
    subst (λ r. IfOk c.input_from.result (λ input. input_from r ≡ Ok input)) (sym same) c.input_from.ensures.ok

pub returns-clause-err : goal.returns-clause-err
returns-clause-err c =
    let s = c.args.self in
    let same = ends s.declared.grid s.declared.so_far s.lines c.in_ok-finish.field-0 c.requires c.in_ok-finish.ensures ∙ c.in_ok-declare.ensures.ok in
    subst (λ r. IfErr c.input_from.result (IsCause (input_from r))) (sym same) c.input_from.ensures.err
