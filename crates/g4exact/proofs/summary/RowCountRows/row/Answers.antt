use Rattle.std.proofs.Common.{◌+◌, ◌∙◌, ap}
use Rattle.g4exact.proofs.RowCounts.{next_mark}
use Rattle.g4exact.proofs.summary.RowCountRows.row.Goals as goal

pub returns-clause-given : goal.returns-clause-given
returns-clause-given g c = record { all = next_mark c.args.self.now c.tick.new.self (c.tick.ensures ∙ ap (λ n. n + 1) c.self.view_is); front = tt }
