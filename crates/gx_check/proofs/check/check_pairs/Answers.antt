use Rattle.std.proofs.Common.{◌+◌, arith}
use Rattle.std.proofs.lemmas.Result.{err_from_is_err_and}
use Rattle.gx_check.specs.Verdicts.{verdicts_with}
use Rattle.gx_check.proofs.Giving.{start, few_more, takes_more, more, stopped, ended}
use Rattle.gx_check.proofs.Left.{pairs_left, pairs_all, pairs_next, pairs_end}
use Rattle.gx_check.proofs.Sizes.{few_pairs}
use Rattle.gx_check.proofs.check.check_pairs.Goals as goal

pub loop-first-init : goal.loop-first-init
loop-first-init g c = start c.args.selection c.args.out.now _ _ c.none-counts.result (pairs_all c.args.mother c.args.daughters.now) c.none-counts.ensures

pub check_with-requires-clause-takes : goal.check_with-requires-clause-takes
check_with-requires-clause-takes g c =
    let k = c.loop-first.first in
    takes_more c.loop-first.invariant (verdicts_with c.args.mother c.args.daughters.now k) (pairs_left c.args.mother c.args.daughters.now (k + 1)) (pairs_next c.args.mother c.args.daughters.now k (omega arith)) c.requires

pub returns-in_err-check_with-clause-gives : goal.returns-in_err-check_with-clause-gives
returns-in_err-check_with-clause-gives g c =
    let k = c.loop-first.first in
    let p = err_from_is_err_and c.from_residual.result c.from_residual.ensures.1 in
    rw (p.1, p.2) (stopped c.loop-first.invariant (verdicts_with c.args.mother c.args.daughters.now k) (pairs_left c.args.mother c.args.daughters.now (k + 1)) (pairs_next c.args.mother c.args.daughters.now k (omega arith)) c.check_with.new.out c.in_err-check_with.field-0.0 c.in_err-check_with.ensures.gives)

pub plus-counts-requires : goal.plus-counts-requires
plus-counts-requires g c =
    let k = c.loop-first.first in
    let few = few_more c.loop-first.invariant (verdicts_with c.args.mother c.args.daughters.now k) (pairs_left c.args.mother c.args.daughters.now (k + 1)) (pairs_next c.args.mother c.args.daughters.now k (omega arith)) c.in_ok-check_with.field-0 c.in_ok-check_with.ensures.counts (few_pairs c.args.mother c.args.daughters.now (omega arith)) in
    record { few = few.0; other_few = few.1 }

pub loop-first-preserved : goal.loop-first-preserved
loop-first-preserved g c =
    let k = c.loop-first.first in
    more c.loop-first.invariant (verdicts_with c.args.mother c.args.daughters.now k) (pairs_left c.args.mother c.args.daughters.now (k + 1)) (pairs_next c.args.mother c.args.daughters.now k (omega arith)) c.check_with.new.out c.in_ok-check_with.field-0 c.plus-counts.result c.in_ok-check_with.ensures.gives c.in_ok-check_with.ensures.counts c.plus-counts.ensures

pub returns : goal.returns
returns g c =
    let all = ended c.loop-first.invariant c.loop-first.counts (pairs_end c.args.mother c.args.daughters.now c.loop-first.first (omega arith)) in
    record { gives = all.0; counts = all.1 }
