use Rattle.std.proofs.Common.{◌≡◌, filter, take}
use Rattle.gx_faces.specs.Steps.{is_on}
use Rattle.gx_faces.proofs.order.planes_through.Given as goal

abbrev pub invariant-loop-plane : goal.invariant-loop-plane
invariant-loop-plane l = l.found.items ≡ filter (λ h. is_on h l.p) (take l.plane-index l.planes)
