use Rattle.std.proofs.Math.Facts.{to_z-of_z}
use Rattle.gx_solids.proofs.Casts.{short}
use Rattle.gx_solids.proofs.read.section.Goals as goal

pub returns : goal.returns
returns g c =
    let z = to_z-of_z c.ranges.z in
    let x = short c.in_ok-x.x c.in_ok-x.ensures.within in
    let y = short c.in_ok-y.y c.in_ok-y.ensures.within in
    rw (c.in_ok-x.ensures.reads, c.in_ok-y.ensures.reads, c.in_ok-scale.ensures.reads) (rw (z, x, y) at c.section_from.ensures)
