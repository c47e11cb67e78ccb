use Rattle.std.proofs.Common.{sym, ◌∙◌}
use Rattle.gx_common.specs.Common.{is_same_point}
use Rattle.gx_common.proofs.Lists.{passed_over, kept_now}
use Rattle.gx_common.proofs.distinct.add.Goals as goal

pub returns-then-is_among-clause-kept : goal.returns-then-is_among-clause-kept
returns-then-is_among-clause-kept c =
    λ xs. passed_over is_same_point c.args.points.now.items c.args.point.now xs (rw c.deref.ensures.value at (sym c.is_among.ensures ∙ c.if-is_among.true))

pub returns-clause-kept : goal.returns-clause-kept
returns-clause-kept c =
    λ xs. kept_now is_same_point c.args.points.now.items c.push.new.self.items c.args.point.now xs c.in_ok-push.ensures.items (rw c.deref.ensures.value at (sym c.is_among.ensures ∙ c.if-is_among.false))
