use Rattle.gx_io.proofs.Gathered.{grows-write}
use Rattle.gx_io.proofs.lent.LentSink.write.Goals as goal

pub invariant_of-self : goal.invariant_of-self
invariant_of-self g c =
    let lent = c.args.self.now in
    record { same_reference = lent.same_reference; grows = grows-write _ _ _ c.args.piece.now c.write.result lent.grows c.write.ensures.bytes c.write.ensures.err }
