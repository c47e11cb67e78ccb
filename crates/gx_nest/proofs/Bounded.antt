-- A solid is bounded: no point inside is beyond the coordinates of its vertices.
use Rattle.std.proofs.Common.{ℕ, ◌+◌, ◌*◌, ◌≤◌, ℤ, pos, negsuc, ◌*ℤ◌, ◌<ℤ◌, unsigned_abs, arith}
use Rattle.std.proofs.lemmas.Int.{ints, unsigned_abs-mul}
use Rattle.std.proofs.lemmas.Nat.{mul-le}
use Rattle.gx_num.specs.declared.extent.Extent.{Extent}
use Rattle.gx_convex.specs.Points.{distinct}
use Rattle.gx_convex.specs.Extent.{extent_of}
use Rattle.gx_convex.specs.Laws.{IsBetween}
use Rattle.gx_shapes.specs.declared.figure.Figure.{Figure}
use Rattle.gx_shapes.specs.Accepted.{IsSolid}
use Rattle.gx_shapes.specs.Solid.{solid_of, vertices_of}
use Rattle.gx_shapes.proofs.Solids.{faces_are_the_solid_of}
use Rattle.gx_clip.specs.Clip.{IsBounded}

times_reach : (z : ℤ) (n reach : ℕ) → unsigned_abs z ≤ reach → unsigned_abs (z *ℤ pos n) ≤ reach * n
times_reach z n reach h = rw (unsigned_abs-mul z (pos n)) (mul-le (unsigned_abs z) n reach n h (omega arith))

-- what is strictly between two coordinates is at most so far out
between_reach : (low high at w : ℤ) (reach : ℕ) → unsigned_abs low ≤ reach → unsigned_abs high ≤ reach → pos 0 <ℤ w → IsBetween low high at w → unsigned_abs at ≤ reach * unsigned_abs w
between_reach low high at (pos n) reach l h positive b =
    let first = times_reach low n reach l in
    let last = times_reach high n reach h in
    omega (arith, ints, first, last, b.above, b.below)
between_reach low high at (negsuc n) reach l h positive b = absurd (omega (arith, ints))

-- the sum of what the extent's coordinates are in magnitude
abbrev reach_of : Extent → ℕ
reach_of e = unsigned_abs e.low.x + unsigned_abs e.low.y + unsigned_abs e.low.z + (unsigned_abs e.high.x + unsigned_abs e.high.y + unsigned_abs e.high.z)

pub solid_bounded : (f : Figure) → IsSolid f → IsBounded (solid_of f)
solid_bounded f is =
    let e = extent_of (distinct (vertices_of f)) in
    record {
      reach = reach_of e;
      within = λ p positive inside.
          let within = (faces_are_the_solid_of f is).extent p positive inside in
          record {
            x = between_reach e.low.x e.high.x p.x p.w (reach_of e) (omega arith) (omega arith) positive within.x;
            y = between_reach e.low.y e.high.y p.y p.w (reach_of e) (omega arith) (omega arith) positive within.y;
            z = between_reach e.low.z e.high.z p.z p.w (reach_of e) (omega arith) (omega arith) positive within.z;
          };
    }
