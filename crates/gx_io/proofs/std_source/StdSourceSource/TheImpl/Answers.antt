use Rattle.std.proofs.Common.{rules}
use Rattle.gx_io.specs.Bytes.{with_before}
use Rattle.gx_io.proofs.std_source.StdSourceSource.TheImpl.Goals as goal

pub read-tells : goal.read-tells
unfolding with_before
read-tells = search rules
