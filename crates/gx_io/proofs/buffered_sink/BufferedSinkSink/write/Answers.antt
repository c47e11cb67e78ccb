use Rattle.std.proofs.Common.{arith}
use Rattle.gx_io.proofs.Joined.{with_after-twice}
use Rattle.gx_io.proofs.Gathered.{but-whole}
use Rattle.gx_io.proofs.buffered_sink.BufferedSinkSink.write.Goals as goal

pub returns-clause-bytes : goal.returns-clause-bytes
returns-clause-bytes g c = grind (arith, but-whole, with_after-twice)

pub returns-clause-err : goal.returns-clause-err
returns-clause-err g c = grind (arith, but-whole)
