use Rattle.gx_io.proofs.Gathered.{but-all}
use Rattle.gx_io.proofs.buffer.Buffer.make_room.Goals as goal

pub returns-else-len-eq-PIECE-clause-bytes : goal.returns-else-len-eq-PIECE-clause-bytes
returns-else-len-eq-PIECE-clause-bytes g c = but-all _ c.args.self.now
