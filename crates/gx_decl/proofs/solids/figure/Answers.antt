use Rattle.gx_decl.proofs.Values.{IfOk-figure}
use Rattle.gx_decl.proofs.solids.figure.Goals as goal

pub returns-clause-figure : goal.returns-clause-figure
returns-clause-figure c = IfOk-figure c.args.kind c.args.words.now c.read_figure.result c.read_figure.new.values c.read_figure.ensures.reads c.read_figure.ensures.kind
