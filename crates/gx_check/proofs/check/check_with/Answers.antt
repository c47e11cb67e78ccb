use Rattle.std.proofs.Common.{◌+◌, [], ◌∷◌, arith, refl, sym, ◌∙◌}
use Rattle.std.proofs.lemmas.Result.{err_from_is_err_and}
use Rattle.gx_check.specs.Verdicts.{pair_verdict}
use Rattle.gx_check.proofs.Giving.{start, few_more, takes_more, more, stopped, ended, given_none}
use Rattle.gx_check.proofs.Judged.{parted_given, parted_counted}
use Rattle.gx_check.proofs.Left.{with_left, with_all, with_next, with_end}
use Rattle.gx_check.proofs.Sizes.{few_with}
use Rattle.gx_check.proofs.check.check_with.Goals as goal

pub loop-second-init : goal.loop-second-init
loop-second-init g c = start c.args.selection c.args.out.now _ _ c.none-counts.result (with_all c.args.mother c.args.daughters.now c.args.first) c.none-counts.ensures

-- ---- passed over
pub plus-counts-requires : goal.plus-counts-requires
plus-counts-requires g c =
    let k = c.loop-second.second in
    let x = pair_verdict c.args.mother c.args.daughters.now c.args.first k in
    let counted = c.pair.ensures ∙ sym (parted_counted c.args.mother c.args.daughters.now c.args.first k (c.are_apart.ensures.parted c.if-are_apart.true)) in
    let few = few_more c.loop-second.invariant (x ∷ []) (with_left c.args.mother c.args.daughters.now c.args.first (k + 1)) (with_next c.args.mother c.args.daughters.now c.args.first k x (omega arith) refl) c.pair.result counted (few_with c.args.mother c.args.daughters.now c.args.first (omega arith)) in
    record { few = few.0; other_few = few.1 }

pub loop-second-preserved-then-are_apart : goal.loop-second-preserved-then-are_apart
loop-second-preserved-then-are_apart g c =
    let k = c.loop-second.second in
    let x = pair_verdict c.args.mother c.args.daughters.now c.args.first k in
    let parted = c.are_apart.ensures.parted c.if-are_apart.true in
    let none = given_none c.pair.result c.args.selection x c.loop-second.out (rw (c.is_refuting.ensures c.if-is_refuting.true) (parted_given c.args.mother c.args.daughters.now c.args.first k parted)) in
    let counted = c.pair.ensures ∙ sym (parted_counted c.args.mother c.args.daughters.now c.args.first k parted) in
    more c.loop-second.invariant (x ∷ []) (with_left c.args.mother c.args.daughters.now c.args.first (k + 1)) (with_next c.args.mother c.args.daughters.now c.args.first k x (omega arith) refl) c.loop-second.out c.pair.result c.plus-counts.result none counted c.plus-counts.ensures

-- ---- judged
pub check_pair-requires-clause-takes : goal.check_pair-requires-clause-takes
check_pair-requires-clause-takes g c =
    let k = c.loop-second.second in
    let x = pair_verdict c.args.mother c.args.daughters.now c.args.first k in
    takes_more c.loop-second.invariant (x ∷ []) (with_left c.args.mother c.args.daughters.now c.args.first (k + 1)) (with_next c.args.mother c.args.daughters.now c.args.first k x (omega arith) refl) c.requires.takes 0 x (omega arith)

pub returns-in_err-check_pair-clause-gives : goal.returns-in_err-check_pair-clause-gives
returns-in_err-check_pair-clause-gives g c =
    let k = c.loop-second.second in
    let x = pair_verdict c.args.mother c.args.daughters.now c.args.first k in
    let p = err_from_is_err_and c.from_residual.result c.from_residual.ensures.1 in
    rw (p.1, p.2) (stopped c.loop-second.invariant (x ∷ []) (with_left c.args.mother c.args.daughters.now c.args.first (k + 1)) (with_next c.args.mother c.args.daughters.now c.args.first k x (omega arith) refl) c.check_pair.new.out c.in_err-check_pair.field-0.0 c.in_err-check_pair.ensures.gives)

pub plus-counts-requires-in-loop-second : goal.plus-counts-requires-in-loop-second
plus-counts-requires-in-loop-second g c =
    let k = c.loop-second.second in
    let x = pair_verdict c.args.mother c.args.daughters.now c.args.first k in
    let few = few_more c.loop-second.invariant (x ∷ []) (with_left c.args.mother c.args.daughters.now c.args.first (k + 1)) (with_next c.args.mother c.args.daughters.now c.args.first k x (omega arith) refl) c.in_ok-check_pair.field-0 c.in_ok-check_pair.ensures.counts (few_with c.args.mother c.args.daughters.now c.args.first (omega arith)) in
    record { few = few.0; other_few = few.1 }

pub loop-second-preserved : goal.loop-second-preserved
loop-second-preserved g c =
    let k = c.loop-second.second in
    let x = pair_verdict c.args.mother c.args.daughters.now c.args.first k in
    more c.loop-second.invariant (x ∷ []) (with_left c.args.mother c.args.daughters.now c.args.first (k + 1)) (with_next c.args.mother c.args.daughters.now c.args.first k x (omega arith) refl) c.check_pair.new.out c.in_ok-check_pair.field-0 c.plus-counts-in-loop-second.result c.in_ok-check_pair.ensures.gives c.in_ok-check_pair.ensures.counts c.plus-counts-in-loop-second.ensures

pub returns : goal.returns
returns g c =
    let all = ended c.loop-second.invariant c.loop-second.counts (with_end c.args.mother c.args.daughters.now c.args.first c.loop-second.second (omega arith)) in
    record { gives = all.0; counts = all.1 }
