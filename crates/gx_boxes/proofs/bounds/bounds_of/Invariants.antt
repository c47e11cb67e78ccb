use Rattle.std.proofs.Common.{take}
use Rattle.std.specs.List.{All}
use Rattle.gx_boxes.specs.Tree.{IsEnclosed, IsInReach}
use Rattle.gx_boxes.proofs.bounds.bounds_of.Given as goal

abbrev pub invariant-loop-boxed : goal.invariant-loop-boxed
invariant-loop-boxed l = All (λ b. IsEnclosed l.bounds b.extent) (take l.boxed-index l.boxes) × IsInReach l.bounds
