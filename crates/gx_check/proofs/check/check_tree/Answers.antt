use Rattle.std.proofs.Common.{◌+◌, arith}
use Rattle.std.proofs.lemmas.Result.{err_from_is_err_and}
use Rattle.gx_check.specs.Verdicts.{verdicts_in}
use Rattle.gx_check.proofs.Giving.{start, few_more, takes_more, more, stopped, ended}
use Rattle.gx_check.proofs.Left.{mothers_left, mothers_all, mothers_next, mothers_end}
use Rattle.gx_check.proofs.Sizes.{few_verdicts}
use Rattle.gx_check.proofs.check.check_tree.Goals as goal

pub loop-mother-init : goal.loop-mother-init
loop-mother-init g c = start c.args.selection c.args.out.now _ _ c.none-counts.result (mothers_all c.args.tree.now) c.none-counts.ensures

pub check_mother-requires-clause-takes : goal.check_mother-requires-clause-takes
check_mother-requires-clause-takes g c =
    let k = c.loop-mother.mother in
    takes_more c.loop-mother.invariant (verdicts_in c.args.tree.now k) (mothers_left c.args.tree.now (k + 1)) (mothers_next c.args.tree.now k (omega arith)) c.requires

pub returns-in_err-check_mother-clause-gives : goal.returns-in_err-check_mother-clause-gives
returns-in_err-check_mother-clause-gives g c =
    let k = c.loop-mother.mother in
    let p = err_from_is_err_and c.from_residual.result c.from_residual.ensures.1 in
    rw (p.1, p.2) (stopped c.loop-mother.invariant (verdicts_in c.args.tree.now k) (mothers_left c.args.tree.now (k + 1)) (mothers_next c.args.tree.now k (omega arith)) c.check_mother.new.out c.in_err-check_mother.field-0.0 c.in_err-check_mother.ensures.gives)

pub plus-counts-requires : goal.plus-counts-requires
plus-counts-requires g c =
    let k = c.loop-mother.mother in
    let few = few_more c.loop-mother.invariant (verdicts_in c.args.tree.now k) (mothers_left c.args.tree.now (k + 1)) (mothers_next c.args.tree.now k (omega arith)) c.in_ok-check_mother.field-0 c.in_ok-check_mother.ensures.counts (few_verdicts c.args.tree.now c.count-mother-end.ensures.tree) in
    record { few = few.0; other_few = few.1 }

pub loop-mother-preserved : goal.loop-mother-preserved
loop-mother-preserved g c =
    let k = c.loop-mother.mother in
    more c.loop-mother.invariant (verdicts_in c.args.tree.now k) (mothers_left c.args.tree.now (k + 1)) (mothers_next c.args.tree.now k (omega arith)) c.check_mother.new.out c.in_ok-check_mother.field-0 c.plus-counts.result c.in_ok-check_mother.ensures.gives c.in_ok-check_mother.ensures.counts c.plus-counts.ensures

pub returns : goal.returns
returns g c =
    let all = ended c.loop-mother.invariant c.loop-mother.counts (mothers_end c.args.tree.now c.loop-mother.mother (omega arith)) in
    record { gives = all.0; counts = all.1 }
