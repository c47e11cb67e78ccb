use Rattle.std.proofs.Common.{rules}
use Rattle.gx_io.specs.Bytes.{with_after}
use Rattle.gx_io.proofs.std_sink.StdSinkSink.TheImpl.Goals as goal

pub write-tells : goal.write-tells
unfolding with_after
write-tells = search rules
