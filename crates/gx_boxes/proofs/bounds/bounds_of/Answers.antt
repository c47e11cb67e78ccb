use Rattle.std.proofs.Common.{arith, subst, take, take_all}
use Rattle.std.specs.List.{All}
use Rattle.std.proofs.lemmas.List.Elements.{All-more, All-weaker}
use Rattle.gx_boxes.specs.declared.boxed.Boxed.{Boxed}
use Rattle.gx_boxes.specs.Tree.{IsEnclosed}
use Rattle.gx_boxes.proofs.Trees.{enclosed-trans}
use Rattle.gx_boxes.proofs.bounds.bounds_of.Goals as goal

pub loop-boxed-preserved : goal.loop-boxed-preserved
loop-boxed-preserved c =
    let xs = c.args.boxes.now in let i = c.loop-boxed.boxed-index in let bounds = c.joined-bounds.result in (
      All-more (λ (b : Boxed). IsEnclosed bounds b.extent) xs i _ c.loop-boxed-test.true
          (All-weaker (λ (b : Boxed). IsEnclosed c.loop-boxed.bounds b.extent) (λ (b : Boxed). IsEnclosed bounds b.extent) (λ b e. enclosed-trans bounds c.loop-boxed.bounds b.extent c.joined-bounds.ensures.first e) (take i xs) c.loop-boxed.invariant.0)
          c.joined-bounds.ensures.second,
      c.joined-bounds.ensures.reach,
    )

pub returns-clause-each : goal.returns-clause-each
returns-clause-each c = subst (All (λ (b : Boxed). IsEnclosed c.loop-boxed.bounds b.extent)) (take_all c.loop-boxed.boxed-index c.args.boxes.now (omega (arith, c.loop-boxed-test.false))) c.loop-boxed.invariant.0
