-- A solid by the faces of its vertices: it is bounded, and a clip by the faces is one by the solid.
use Rattle.std.proofs.Common.{ℕ, ◌+◌, ◌*◌, ◌≤◌, ℤ, pos, negsuc, ◌<ℤ◌, unsigned_abs, List, Option, Some, None, sym, ◌∙◌, arith}
use Rattle.std.proofs.lemmas.Int.{ints}
use Rattle.gx_num.specs.declared.vector.V3.{V3}
use Rattle.gx_num.specs.declared.extent.Extent.{Extent}
use Rattle.gx_num.specs.declared.ray.Ray.{Ray}
use Rattle.gx_num.specs.Space.{HalfSpace}
use Rattle.gx_num.specs.Ray.{point_of_ray}
use Rattle.gx_plane.proofs.Sizes.{unsigned_abs-mul_le}
use Rattle.gx_convex.specs.Extent.{extent_of}
use Rattle.gx_convex.specs.Faces.{faces_of}
use Rattle.gx_convex.specs.Laws.{AreTheSolid, IsBetween}
use Rattle.gx_clip.specs.declared.span.Span.{Span}
use Rattle.gx_clip.specs.Clip.{IsBounded, IsClip}

-- what is strictly between two coordinates is at most so far out
between_reach : (low high at w : ℤ) (reach : ℕ) → unsigned_abs low ≤ reach → unsigned_abs high ≤ reach → pos 0 <ℤ w → IsBetween low high at w → unsigned_abs at ≤ reach * unsigned_abs w
between_reach low high at (pos n) reach l h positive b =
    let first = unsigned_abs-mul_le low (pos n) reach n l (omega arith) in
    let last = unsigned_abs-mul_le high (pos n) reach n h (omega arith) in
    omega (arith, ints, first, last, b.above, b.below)
between_reach low high at (negsuc n) reach l h positive b = absurd (omega (arith, ints))

-- the sum of what the extent's coordinates are in magnitude
abbrev reach_of : Extent → ℕ
reach_of e = unsigned_abs e.low.x + unsigned_abs e.low.y + unsigned_abs e.low.z + (unsigned_abs e.high.x + unsigned_abs e.high.y + unsigned_abs e.high.z)

module _ (solid : List HalfSpace) (vertices : List V3) (are : AreTheSolid solid vertices) where
  pub faces_bounded : IsBounded (faces_of vertices)
  faces_bounded = record {
    reach = reach_of (extent_of vertices);
    within = λ p positive inside.
        let e = extent_of vertices in
        let within = are.extent p positive (are.same_inside p positive ∙ inside) in
        record {
          x = between_reach e.low.x e.high.x p.x p.w (reach_of e) (omega arith) (omega arith) positive within.x;
          y = between_reach e.low.y e.high.y p.y p.w (reach_of e) (omega arith) (omega arith) positive within.y;
          z = between_reach e.low.z e.high.z p.z p.w (reach_of e) (omega arith) (omega arith) positive within.z;
        };
  }

  pub IsClip-faces : (ray : Ray) (clip : Option Span) → IsClip (faces_of vertices) ray clip → IsClip solid ray clip
  IsClip-faces ray None is = λ t h. are.same_inside (point_of_ray ray t) (omega (arith, ints, h.1)) ∙ is t h
  IsClip-faces ray (Some span) is = record {
    from_lowest = is.from_lowest;
    to_lowest = is.to_lowest;
    ordered = is.ordered;
    inside = λ t h.
        let same = are.same_inside (point_of_ray ray t) (omega (arith, ints, h.1)) in
        (λ e. (is.inside t h).0 (sym same ∙ e), λ b. same ∙ (is.inside t h).1 b);
  }
