use Rattle.gx_voxel.specs.Cut.{members_in, runs_on}
use Rattle.gx_refine.specs.Grown.{AreRunsSoFar}
use Rattle.gx_refine.specs.Known.{along}
use Rattle.gx_refine.specs.Near.{IsNear}
use Rattle.gx_refine.proofs.runs.runs.Given as goal

abbrev pub invariant-loop-i : goal.invariant-loop-i
invariant-loop-i l =
    AreRunsSoFar l.slices (members_in (along l.extents l.axis) l.members l.slices) l.i l.runs.items l.run (runs_on (along l.extents l.axis) l.members)
    × IsNear l.extents l.axis l.members l.slices l.i l.near.members.items l.near.until
