use Rattle.std.proofs.Common.{◌∙◌}
use Rattle.gx_along.proofs.Parts.{part-is}
use Rattle.gx_along.proofs.line.part.Goals as goal

pub returns : goal.returns
returns c =
    c.within.ensures
    ∙ part-is c.args.line.o c.args.line.d c.args.run.low c.args.run.high c.args.stretch c.enter.result c.exit.result c.speed-speed.result c.if-speed-eq0.false c.enter.ensures c.exit.ensures c.speed-speed.ensures
