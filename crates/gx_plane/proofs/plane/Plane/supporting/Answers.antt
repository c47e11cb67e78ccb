use Rattle.std.proofs.Common.{◌∙◌}
use Rattle.gx_plane.specs.Plane.{plane_through}
use Rattle.gx_plane.specs.Between.{both_ways}
use Rattle.gx_plane.proofs.Determinants.{find-supports}
use Rattle.gx_plane.proofs.plane.Plane.supporting.Goals as goal

pub returns : goal.returns
returns c = c.first_of_three.ensures ∙ find-supports c.args.points.now (both_ways (plane_through c.args.a c.args.b c.args.c))
