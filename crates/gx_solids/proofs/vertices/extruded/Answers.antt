use Rattle.std.proofs.Common.{map, unsigned_abs}
use Rattle.gx_num.specs.declared.vector.TheConstants.{M}
use Rattle.gx_num.specs.Vector.{IsWithin}
use Rattle.gx_algebra.proofs.Lists.{All-append_parts}
use Rattle.gx_shapes.specs.Extrusion.{corner}
use Rattle.gx_solids.proofs.vertices.extruded.Goals as goal

pub push_section-requires-2-clause-within : goal.push_section-requires-2-clause-within
push_section-requires-2-clause-within c =
    (All-append_parts (IsWithin (unsigned_abs M)) (map (corner c.args.low) c.args.corners.now) (map (corner c.args.high) c.args.corners.now) c.requires.within).1
