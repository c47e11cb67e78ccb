use Rattle.std.proofs.Common.{Some, None, sym}
use Rattle.gx_check.proofs.Judged.{daughter_is}
use Rattle.gx_check.proofs.check.daughter_verdict.Goals as goal

pub returns-in-Some : goal.returns-in-Some
returns-in-Some c = sym (daughter_is c.args.mother c.args.ordinal c.args.outer.now c.hull.result.now c.args.daughters.now (Some c.in-Some.point) c.hull.ensures (rw c.in-Some.is at c.first_outside.ensures))

pub returns-in-None : goal.returns-in-None
returns-in-None c = sym (daughter_is c.args.mother c.args.ordinal c.args.outer.now c.hull.result.now c.args.daughters.now None c.hull.ensures (rw c.in-None.is at c.first_outside.ensures))
