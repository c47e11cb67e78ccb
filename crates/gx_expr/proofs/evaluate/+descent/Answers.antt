use Rattle.gx_expr.proofs.Descent.{factor_reads, term_none, expr_none}
use Rattle.gx_expr.proofs.evaluate.+descent.Goals as goal

pub expr-returns-in_err-next-clause-read : goal.expr-returns-in_err-next-clause-read
expr-returns-in_err-next-clause-read t c =
    rw c.from_residual-in_err-next.ensures (expr_none _ _ _ _ _ _ _ c.loop-sign.invariant.0 c.in-Some.ensures c.in_err-next.ensures.read)

pub term-returns-in_err-next-clause-read : goal.term-returns-in_err-next-clause-read
term-returns-in_err-next-clause-read t c =
    rw c.from_residual-in_err-next.ensures (term_none _ _ _ _ _ _ _ c.loop-sign.invariant c.in-Some.ensures c.in_err-next.ensures)

pub factor-returns : goal.factor-returns
factor-returns t c = rw c.opposite_if.ensures (factor_reads _ _ _ _ _ _ _ c.signs-negative.ensures.signs c.in_ok-value.ensures)

pub primary-returns-then-not-take : goal.primary-returns-then-not-take
primary-returns-then-not-take t c = let missed = rw c.if-not-take.true at c.take.ensures in rw (← missed.0) (c.leaf.ensures c.args.depth)
