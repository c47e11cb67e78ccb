-- The law of costs.
use Rattle.std.specs.Prelude.{ℕ}
use Rattle.gx_num.specs.declared.ray.Ray.{Ray}
use Rattle.gx_num.specs.Ray.{HasDirection}
use Rattle.gx_tree.specs.Hierarchy.{Hierarchy}
use Rattle.gx_tree.specs.Fault.{IsTree}
use Rattle.gx_nest.specs.Met.{Frame}
use Rattle.gx_walk.specs.Hits.{CountOf}
use Rattle.gx_navigator.specs.Tests.{IsCost}

-- whatever is counted, it adds up to some number along each ray that has a direction
abbrev pub EachRayHasACost : Type 0
EachRayHasACost = (h : Hierarchy) → IsTree h → (count : CountOf Frame) (ray : Ray) → HasDirection ray → (n : ℕ) × IsCost h count ray n
