use Rattle.gx_expr.proofs.laws.grammar.Goals as goal
use Rattle.gx_expr.proofs.Derivations.{grammar}

pub returns : goal.returns
returns c = grammar
