use Rattle.std.proofs.Common.{Err, sym, ap, ◌∙◌}
use Rattle.std.proofs.lemmas.Result.{err_from_is_err_and}
use Rattle.gx_io.specs.declared.error.IoError.TheVariants.{Failed}
use Rattle.g4exact.proofs.Feeding.{from_nothing, finished, finished_from, err_same}
use Rattle.g4exact.proofs.input.read_input.Goals as goal

pub returns-in_err-buffer-clause-err : goal.returns-in_err-buffer-clause-err
returns-in_err-buffer-clause-err g c = let p = err_from_is_err_and c.from_residual.result c.from_residual.ensures.1 in rw p.1 (from_nothing _)

pub returns-in_err-feed-clause-last : goal.returns-in_err-feed-clause-last
returns-in_err-feed-clause-last g c = λ failed.
    let p = err_from_is_err_and c.from_residual-in_err-feed.result c.from_residual-in_err-feed.ensures.1 in
    c.feed.ensures.last (c.in_err-feed.was ∙ ap Err (sym p.2 ∙ err_same p.0 Failed (sym p.1 ∙ failed)))

pub returns-in_err-finish-clause-err : goal.returns-in_err-finish-clause-err
returns-in_err-finish-clause-err g c =
    let p = err_from_is_err_and c.from_residual-in_err-finish.result c.from_residual-in_err-finish.ensures.1 in
    rw p.1 (finished_from _ _ c.new-reader.result c.feed.new.reader c.in_ok-feed.ensures.ok)

pub returns-clause-ok : goal.returns-clause-ok
returns-clause-ok g c = finished _ _ c.new-reader.result c.feed.new.reader c.in_ok-feed.ensures.ok c.args.grid.now c.in_ok-finish.field-0 c.new-reader.ensures c.in_ok-finish.ensures
