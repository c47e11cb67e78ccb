use Rattle.std.proofs.Common.{◌+◌, None, sym, ◌∙◌, arith}
use Rattle.gx_check.specs.Verdicts.{verdicts_in}
use Rattle.gx_check.proofs.Left.{mothers_left, mothers_all, mothers_next, mothers_end}
use Rattle.gx_check.proofs.Seeking.{start, found_here, none_here, none_left, none_clean}
use Rattle.gx_check.proofs.first.first_refuted.Goals as goal

pub loop-mother-init : goal.loop-mother-init
loop-mother-init c = start _ _ (mothers_all c.args.tree.now)

pub returns-then-is_some : goal.returns-then-is_some
returns-then-is_some c =
    let k = c.loop-mother.mother in
    let found = found_here c.loop-mother.invariant (verdicts_in c.args.tree.now k) (mothers_left c.args.tree.now (k + 1)) (mothers_next c.args.tree.now k (omega arith)) c.in_ok-found.found c.in_ok-found.ensures (sym c.is_some.ensures ∙ c.if-is_some.true) in
    record { value = found; clean = none_clean c.args.tree.now c.count-mother-end.ensures.tree c.in_ok-found.found found }

pub loop-mother-preserved : goal.loop-mother-preserved
loop-mother-preserved c =
    let k = c.loop-mother.mother in
    none_here c.loop-mother.invariant (verdicts_in c.args.tree.now k) (mothers_left c.args.tree.now (k + 1)) (mothers_next c.args.tree.now k (omega arith)) c.in_ok-found.found c.in_ok-found.ensures (sym c.is_some.ensures ∙ c.if-is_some.false)

pub returns : goal.returns
returns c =
    let none = none_left c.loop-mother.invariant (mothers_end c.args.tree.now c.loop-mother.mother (omega arith)) in
    record { value = none; clean = none_clean c.args.tree.now c.count-mother-end.ensures.tree None none }
