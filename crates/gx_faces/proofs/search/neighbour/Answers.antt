use Rattle.std.proofs.Common.{sym, ◌∙◌}
use Rattle.gx_faces.proofs.Found.{supported}
use Rattle.gx_faces.proofs.search.neighbour.Goals as goal

pub returns-then-joins : goal.returns-then-joins
returns-then-joins c = (
  rw c.in_ok-other.was at (supported c.args.points.now c.args.p c.args.q c.tangent-r.result c.supporting.result c.supporting.ensures c.requires.first c.requires.second c.tangent-r.ensures),
  sym c.joins.ensures ∙ c.if-joins.true,
)
