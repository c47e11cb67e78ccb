-- What a ray meets can be found, so what it costs can be added up.
use Rattle.std.proofs.Common.{ℕ, refl}
use Rattle.gx_num.specs.declared.ray.Ray.{Ray}
use Rattle.gx_num.specs.Ray.{HasDirection}
use Rattle.gx_clip.proofs.Clips.{clip_exists}
use Rattle.gx_tree.specs.Hierarchy.{Hierarchy}
use Rattle.gx_tree.specs.Fault.{IsTree}
use Rattle.gx_nest.specs.Met.{Frame}
use Rattle.gx_nest.proofs.Found.{found, is_found}
use Rattle.gx_nest.proofs.Nested.{solid_at, bounded_at}
use Rattle.gx_walk.specs.Hits.{CountOf}
use Rattle.gx_navigator.specs.Tests.{cost_along, IsCost}

pub counted : (h : Hierarchy) → IsTree h → (count : CountOf Frame) (ray : Ray) → HasDirection ray → (n : ℕ) × IsCost h count ray n
counted h tree count ray moves =
    let clip = clip_exists (solid_at h h.world) ray (bounded_at h tree h.world tree.world) moves in
    (cost_along h count (found h tree) ray clip.0, record { found = found h tree; is_found = is_found h tree; span = clip.0; is_span = clip.1; sum = refl })
