use Rattle.std.proofs.Common.{◌+◌, [], ◌∷◌, Some, None, refl, sym, arith}
use Rattle.gx_check.specs.declared.verdict.Verdict.TheVariants.{Inner, Outer}
use Rattle.gx_check.proofs.Judged.{daughter_is}
use Rattle.gx_check.proofs.Left.{daughters_left, daughters_all, daughters_next, daughters_end}
use Rattle.gx_check.proofs.Seeking.{start, found_here, none_here, none_left}
use Rattle.gx_check.proofs.first.first_outer.Goals as goal

pub loop-ordinal-init : goal.loop-ordinal-init
loop-ordinal-init c = start _ _ (daughters_all c.args.mother c.args.outer.now c.args.daughters.now)

pub returns-in-Some : goal.returns-in-Some
returns-in-Some c =
    let k = c.loop-ordinal.ordinal in
    let x = Outer c.args.mother k c.in-Some.point in
    let is = daughter_is c.args.mother k c.args.outer.now c.hull.result.now c.args.daughters.now (Some c.in-Some.point) c.hull.ensures (rw c.in-Some.is at c.first_outside.ensures) in
    let next = daughters_next c.args.mother c.args.outer.now c.args.daughters.now k x (omega arith) (sym is) in
    found_here c.loop-ordinal.invariant (x ∷ []) (daughters_left c.args.mother c.args.outer.now c.args.daughters.now (k + 1)) next (Some x) refl refl

pub loop-ordinal-preserved : goal.loop-ordinal-preserved
loop-ordinal-preserved c =
    let k = c.loop-ordinal.ordinal in
    let x = Inner c.args.mother k in
    let is = daughter_is c.args.mother k c.args.outer.now c.hull.result.now c.args.daughters.now None c.hull.ensures (rw c.in_default.is at c.first_outside.ensures) in
    let next = daughters_next c.args.mother c.args.outer.now c.args.daughters.now k x (omega arith) (sym is) in
    none_here c.loop-ordinal.invariant (x ∷ []) (daughters_left c.args.mother c.args.outer.now c.args.daughters.now (k + 1)) next None refl refl

pub returns : goal.returns
returns c = none_left c.loop-ordinal.invariant (daughters_end c.args.mother c.args.outer.now c.args.daughters.now c.loop-ordinal.ordinal (omega arith))
