use Rattle.gx_solids.proofs.Casts.{short, short_opposite}
use Rattle.gx_solids.proofs.vertices.frustum.Goals as goal

pub returns : goal.returns
returns c =
    let a = c.args in
    let r = c.requires in
    let x1 = short a.x1 r.first.x in
    let x2 = short a.x2 r.second.x in
    let y1 = short a.y1 r.first.y in
    let y2 = short a.y2 r.second.y in
    let z = short a.z r.second.z in
    let nx1 = short_opposite a.x1 r.first.x in
    let nx2 = short_opposite a.x2 r.second.x in
    let ny1 = short_opposite a.y1 r.first.y in
    let ny2 = short_opposite a.y2 r.second.y in
    let nz = short_opposite a.z r.second.z in
    rw (c.point.ensures, c.point-2.ensures, c.point-3.ensures, c.point-4.ensures, c.point-5.ensures, c.point-6.ensures, c.point-7.ensures, c.point-8.ensures, nx1, nx2, ny1, ny2, nz, x1, x2, y1, y2, z) at c.from_slice.ensures.items
