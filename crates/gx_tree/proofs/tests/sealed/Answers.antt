use Rattle.std.proofs.Common.{◌≡◌, Bool, true, false, cond, List, Option, Some, Result, Ok, Err, refl, sym, ◌∙◌, ap}
use Rattle.gx_num.specs.declared.vector.V3.{V3}
use Rattle.gx_hull.specs.declared.fault.HullFault.{HullFault}
use Rattle.gx_hull.specs.declared.fault.HullFault.TheVariants.{Vertices, Flat}
use Rattle.gx_hull.specs.Hull.{hull_of}
use Rattle.gx_tree.proofs.tests.sealed.Goals as goal

made : (many flat : Bool) (points hull : List V3) → cond many (Err Vertices) (cond flat (Err Flat) (Ok points)) ≡ Ok hull → hull ≡ points
made true flat points hull e = absurd (cc)
made false true points hull e = absurd (cc)
made false false points hull e = cc

pub seal-requires-clause-hull : goal.seal-requires-clause-hull
seal-requires-clause-hull c =
    let points = c.in_ok-points.ensures.items ∙ c.requires.vertices in
    made _ _ _ c.in-Ok.hull (ap hull_of (sym points) ∙ c.in-Ok.ensures.ok)
