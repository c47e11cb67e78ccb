use Rattle.std.proofs.Common.{◌≡◌, take, map, All}
use Rattle.gx_convex.specs.Extent.{extent_of}
use Rattle.gx_hull.specs.Hull.{IsVertices}
use Rattle.gx_check.specs.Verdicts.{placed_daughters}
use Rattle.gx_check.proofs.daughters.Daughters.placed.Given as goal

-- so many are placed
abbrev pub invariant-loop-ordinal : goal.invariant-loop-ordinal
invariant-loop-ordinal l = record {
  placed : l.hulls.items ≡ take l.ordinal (placed_daughters l.tree l.mother);
  vertices : All IsVertices l.hulls.items;
  extents : l.extents.items ≡ map extent_of l.hulls.items;
}
