use Rattle.std.proofs.Common.{◌∙◌, arith}
use Rattle.gx_sealed.proofs.Tables.{length-all, items_at}
use Rattle.gx_sealed.proofs.cells.all_cells.Goals as goal

pub bounds-daughters-v : goal.bounds-daughters-v
bounds-daughters-v c = omega (arith, length-all (λ d. d.items) c.args.daughters.now c.args.tree.now c.requires, c.loop-v-test.true, c.count-v-end.ensures.value)

pub cells_of-requires-clause-daughters : goal.cells_of-requires-clause-daughters
cells_of-requires-clause-daughters c =
    c.deref.ensures.value
    ∙ items_at (λ d. d.items) c.args.daughters.now c.args.tree.now c.requires c.loop-v.v c.index-daughters-v.result (omega (arith, c.loop-v-test.true, c.count-v-end.ensures.value)) c.index-daughters-v.is
