use Rattle.std.proofs.Common.{◌+◌, [], ◌∷◌, arith}
use Rattle.std.proofs.lemmas.Result.{err_from_is_err_and}
use Rattle.gx_check.proofs.Giving.{start, few_more, takes_more, more, stopped, ended}
use Rattle.gx_check.proofs.Left.{daughters_left, daughters_all, daughters_next, daughters_end}
use Rattle.gx_check.proofs.Sizes.{few_daughters}
use Rattle.gx_check.proofs.check.check_daughters.Goals as goal

pub loop-ordinal-init : goal.loop-ordinal-init
loop-ordinal-init g c = start c.args.selection c.args.out.now _ _ c.none-counts.result (daughters_all c.args.mother c.args.outer.now c.args.daughters.now) c.none-counts.ensures

pub give-requires : goal.give-requires
give-requires g c =
    let k = c.loop-ordinal.ordinal in
    let x = c.daughter_verdict-verdict.result in
    let next = daughters_next c.args.mother c.args.outer.now c.args.daughters.now k x (omega arith) c.daughter_verdict-verdict.ensures in
    takes_more c.loop-ordinal.invariant (x ∷ []) (daughters_left c.args.mother c.args.outer.now c.args.daughters.now (k + 1)) next c.requires 0 x (omega arith)

pub plus-counts-requires : goal.plus-counts-requires
plus-counts-requires g c =
    let k = c.loop-ordinal.ordinal in
    let x = c.daughter_verdict-verdict.result in
    let next = daughters_next c.args.mother c.args.outer.now c.args.daughters.now k x (omega arith) c.daughter_verdict-verdict.ensures in
    let few = few_more c.loop-ordinal.invariant (x ∷ []) (daughters_left c.args.mother c.args.outer.now c.args.daughters.now (k + 1)) next c.in_ok-give.field-0 c.in_ok-give.ensures.counts
    (few_daughters c.args.mother c.args.outer.now c.args.daughters.now (omega arith)) in
    record { few = few.0; other_few = few.1 }

pub returns-in_err-give-clause-gives : goal.returns-in_err-give-clause-gives
returns-in_err-give-clause-gives g c =
    let k = c.loop-ordinal.ordinal in
    let x = c.daughter_verdict-verdict.result in
    let next = daughters_next c.args.mother c.args.outer.now c.args.daughters.now k x (omega arith) c.daughter_verdict-verdict.ensures in
    let p = err_from_is_err_and c.from_residual.result c.from_residual.ensures.1 in
    rw (p.1, p.2) (stopped c.loop-ordinal.invariant (x ∷ []) (daughters_left c.args.mother c.args.outer.now c.args.daughters.now (k + 1)) next c.give.new.out c.in_err-give.field-0.0 c.in_err-give.ensures.gives)

pub loop-ordinal-preserved : goal.loop-ordinal-preserved
loop-ordinal-preserved g c =
    let k = c.loop-ordinal.ordinal in
    let x = c.daughter_verdict-verdict.result in
    let next = daughters_next c.args.mother c.args.outer.now c.args.daughters.now k x (omega arith) c.daughter_verdict-verdict.ensures in
    more c.loop-ordinal.invariant (x ∷ []) (daughters_left c.args.mother c.args.outer.now c.args.daughters.now (k + 1)) next c.give.new.out c.in_ok-give.field-0 c.plus-counts.result c.in_ok-give.ensures.gives c.in_ok-give.ensures.counts c.plus-counts.ensures

pub returns : goal.returns
returns g c =
    let all = ended c.loop-ordinal.invariant c.loop-ordinal.counts (daughters_end c.args.mother c.args.outer.now c.args.daughters.now c.loop-ordinal.ordinal (omega arith)) in
    record { gives = all.0; counts = all.1 }
