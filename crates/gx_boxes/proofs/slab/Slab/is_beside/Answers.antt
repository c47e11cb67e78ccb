use Rattle.gx_boxes.proofs.Slabs.{not_beside}
use Rattle.gx_boxes.proofs.slab.Slab.is_beside.Goals as goal

pub returns-then-moves : goal.returns-then-moves
returns-then-moves c = λ apart t positive at at_other.
    not_beside c.args.self c.args.o t c.reached.result c.reached-then-moves.result c.reached.ensures c.reached-then-moves.ensures (c.moves.ensures c.if-moves.true) (c.is_apart.ensures apart) at at_other
