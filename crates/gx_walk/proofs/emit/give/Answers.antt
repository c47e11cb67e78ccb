use Rattle.std.proofs.Common.{sym, ap, ◌∙◌}
use Rattle.std.specs.Ordering.{is_lt}
use Rattle.gx_fraction.specs.Fraction.{parameter_of}
use Rattle.gx_walk.proofs.Items.{is_lt-compare, no_row}
use Rattle.gx_walk.proofs.emit.give.Goals as goal

pub returns-clause-rows : goal.returns-clause-rows
returns-clause-rows g c =
    let from = c.args.from in
    let to = c.args.to in
    no_row (g.R.Rows.items c.args.rows.now) c.args.row.now.path (g.R.Rows.held c.args.rows.now) (parameter_of from) (parameter_of to) (sym (is_lt-compare from to c.requires.from c.requires.to) ∙ ap is_lt (sym c.cmp.ensures) ∙ sym c.is_lt.ensures ∙ c.if-is_lt.false)
