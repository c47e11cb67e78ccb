use Rattle.std.proofs.Common.{◌+◌, [], ◌∷◌, Some, None, refl, sym, arith}
use Rattle.gx_check.specs.declared.verdict.Verdict.TheVariants.{Overlap}
use Rattle.gx_check.specs.Verdicts.{pair_verdict}
use Rattle.gx_check.proofs.Judged.{overlap_is, parted_from, parted_found}
use Rattle.gx_check.proofs.Left.{with_left, with_all, with_next, with_end}
use Rattle.gx_check.proofs.Seeking.{start, found_here, none_here, none_left}
use Rattle.gx_check.proofs.first.first_overlap_with.Goals as goal

pub loop-second-init : goal.loop-second-init
loop-second-init c = start _ _ (with_all c.args.mother c.args.daughters.now c.args.first)

pub loop-second-preserved-then-are_apart : goal.loop-second-preserved-then-are_apart
loop-second-preserved-then-are_apart c =
    let k = c.loop-second.second in
    let x = pair_verdict c.args.mother c.args.daughters.now c.args.first k in
    let next = with_next c.args.mother c.args.daughters.now c.args.first k x (omega arith) refl in
    none_here c.loop-second.invariant (x ∷ []) (with_left c.args.mother c.args.daughters.now c.args.first (k + 1)) next None (sym (parted_found c.args.mother c.args.daughters.now c.args.first k (c.are_apart.ensures.parted c.if-are_apart.true))) refl

pub returns-in-Some : goal.returns-in-Some
returns-in-Some c =
    let k = c.loop-second.second in
    let x = Overlap c.args.mother c.args.first k c.in-Some.points in
    let is = overlap_is c.args.mother c.args.daughters.now c.args.first k c.hull-a.result.now c.hull-b.result.now c.hull-a.ensures c.hull-b.ensures c.in-Some.points (rw c.in-Some.is at c.in_ok-points.ensures.value) (rw c.in-Some.is at c.in_ok-points.ensures.apart) in
    let next = with_next c.args.mother c.args.daughters.now c.args.first k x (omega arith) (sym is) in
    found_here c.loop-second.invariant (x ∷ []) (with_left c.args.mother c.args.daughters.now c.args.first (k + 1)) next (Some x) refl refl

pub loop-second-preserved : goal.loop-second-preserved
loop-second-preserved c =
    let k = c.loop-second.second in
    let x = pair_verdict c.args.mother c.args.daughters.now c.args.first k in
    let parted = parted_from c.args.mother c.args.daughters.now c.args.first k c.hull-a.result.now c.hull-b.result.now c.hull-a.ensures c.hull-b.ensures (sym (rw c.in_default.is at c.in_ok-points.ensures.apart)) in
    let next = with_next c.args.mother c.args.daughters.now c.args.first k x (omega arith) refl in
    none_here c.loop-second.invariant (x ∷ []) (with_left c.args.mother c.args.daughters.now c.args.first (k + 1)) next None (sym (parted_found c.args.mother c.args.daughters.now c.args.first k parted)) refl

pub returns : goal.returns
returns c = none_left c.loop-second.invariant (with_end c.args.mother c.args.daughters.now c.args.first c.loop-second.second (omega arith))
