use Rattle.std.proofs.Common.{◌+◌, sym, ◌∙◌, arith}
use Rattle.gx_check.specs.Verdicts.{verdicts_with}
use Rattle.gx_check.proofs.Left.{pairs_left, pairs_all, pairs_next, pairs_end}
use Rattle.gx_check.proofs.Seeking.{start, found_here, none_here, none_left}
use Rattle.gx_check.proofs.first.first_overlap.Goals as goal

pub loop-first-init : goal.loop-first-init
loop-first-init c = start _ _ (pairs_all c.args.mother c.args.daughters.now)

pub returns-then-is_some : goal.returns-then-is_some
returns-then-is_some c =
    let k = c.loop-first.first in
    found_here c.loop-first.invariant (verdicts_with c.args.mother c.args.daughters.now k) (pairs_left c.args.mother c.args.daughters.now (k + 1)) (pairs_next c.args.mother c.args.daughters.now k (omega arith)) c.in_ok-found.found c.in_ok-found.ensures (sym c.is_some.ensures ∙ c.if-is_some.true)

pub loop-first-preserved : goal.loop-first-preserved
loop-first-preserved c =
    let k = c.loop-first.first in
    none_here c.loop-first.invariant (verdicts_with c.args.mother c.args.daughters.now k) (pairs_left c.args.mother c.args.daughters.now (k + 1)) (pairs_next c.args.mother c.args.daughters.now k (omega arith)) c.in_ok-found.found c.in_ok-found.ensures (sym c.is_some.ensures ∙ c.if-is_some.false)

pub returns : goal.returns
returns c = none_left c.loop-first.invariant (pairs_end c.args.mother c.args.daughters.now c.loop-first.first (omega arith))
