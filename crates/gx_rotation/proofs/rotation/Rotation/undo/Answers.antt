use Rattle.gx_rotation.proofs.Tables.{IsWithin-image_back}
use Rattle.gx_rotation.proofs.rotation.Rotation.undo.Goals as goal

pub returns-clause-within : goal.returns-clause-within
returns-clause-within c bound h =
    rw (c.apply.ensures, c.inverse.ensures.transposed, ← c.self.view_is) (IsWithin-image_back _ c.self.invariant bound c.args.v h)
