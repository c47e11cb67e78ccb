use Rattle.std.proofs.Common.{arith}
use Rattle.gx_refine.proofs.Parts.{known-some}
use Rattle.gx_refine.proofs.grid.Slices.new.Goals as goal

pub returns-clause-some : goal.returns-clause-some
returns-clause-some c = let some = known-some c.args.extents.now c.args.axis c.args.members.now c.requires.known c.requires.some in grind (arith, some)
