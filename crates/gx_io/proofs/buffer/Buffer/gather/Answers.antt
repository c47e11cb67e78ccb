use Rattle.std.proofs.Common.{take, arith}
use Rattle.std.proofs.lemmas.Grind.{common_steps}
use Rattle.gx_io.proofs.Gathered.{but-more}
use Rattle.gx_io.proofs.buffer.Buffer.gather.Goals as goal

pub returns-clause-bytes : goal.returns-clause-bytes
returns-clause-bytes g c =
    let more = but-more _ _ c.args.self.now c.make_room.new.self (take c.min-n.result c.args.piece.now) c.in_ok-make_room.ensures.bytes in
    grind (arith, common_steps, more)
