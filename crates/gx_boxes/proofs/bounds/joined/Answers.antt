use Rattle.gx_boxes.proofs.Trees.{joined-second, joined-reach}
use Rattle.gx_boxes.proofs.bounds.joined.Goals as goal

pub returns-clause-second : goal.returns-clause-second
returns-clause-second c = joined-second c.args.a c.args.b c.least.result c.greatest.result c.least.ensures c.greatest.ensures

pub returns-clause-reach : goal.returns-clause-reach
returns-clause-reach c = joined-reach c.args.a c.args.b c.least.result c.greatest.result c.least.ensures c.greatest.ensures c.requires.first c.requires.second
