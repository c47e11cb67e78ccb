use Rattle.std.proofs.Common.{unsigned_abs}
use Rattle.gx_num.specs.declared.vector.TheConstants.{M}
use Rattle.gx_num.specs.Vector.{IsWithin}
use Rattle.gx_algebra.proofs.Lists.{All-from_map}
use Rattle.gx_shapes.specs.Extrusion.{corner}
use Rattle.gx_solids.proofs.vertices.push_section.Goals as goal

pub corner-requires-clause-near : goal.corner-requires-clause-near
corner-requires-clause-near c =
    All-from_map (IsWithin (unsigned_abs M)) (corner c.args.section) c.args.corners.now c.requires.within c.loop-c.c-index _ c.loop-c-test.true
