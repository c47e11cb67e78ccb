use Rattle.std.proofs.Common.{sym, subst, arith}
use Rattle.gx_refine.specs.Near.{IsNear}
use Rattle.gx_refine.proofs.Blocks.{near-block}
use Rattle.gx_refine.proofs.near.Near.of_block.Goals as goal

pub returns-clause-near : goal.returns-clause-near
returns-clause-near c =
    subst (λ l. IsNear c.args.extents.now c.args.axis c.args.members.now c.args.slices.now c.args.i l c.min-until.result) (sym c.in_ok-members.ensures)
    (near-block c.args.extents.now c.args.axis c.args.members.now c.args.slices.now (omega (arith, c.requires.i)) c.requires.known c.args.i c.min-until.result (omega (arith, c.requires.i, c.min-until.ensures, c.count-count.ensures.value)))
