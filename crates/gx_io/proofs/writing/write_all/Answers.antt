use Rattle.gx_io.proofs.Places.{writes-front}
use Rattle.gx_io.proofs.writing.write_all.Goals as goal

pub returns-clause-bytes : goal.returns-clause-bytes
returns-clause-bytes g c =
    let wrote = c.write_front.ensures in
    writes-front _ _ c.args.bytes.now c.write_front.result.0 c.write_front.result.1 wrote.all wrote.bytes
