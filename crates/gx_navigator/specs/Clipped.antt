-- The part of a ray that is inside a bounded solid, found. No public contract stands on this file.
use Rattle.std.proofs.Common.{◌≡◌, ℕ, ◌<◌, refl, arith, inl, inr, List, Option, None, Some}
use Rattle.gx_num.specs.declared.ray.Ray.{Ray}
use Rattle.gx_num.specs.Space.{HalfSpace}
use Rattle.gx_num.specs.Ray.{RayParameter, HasDirection}
use Rattle.gx_num.proofs.Order.{apart}
use Rattle.gx_clip.specs.declared.span.Span.{Span}
use Rattle.gx_clip.specs.declared.interval.Interval.{Interval}
use Rattle.gx_clip.specs.Clip.{IsBounded, IsClip}
use Rattle.gx_clip.specs.Interval.{whole, part_inside, IsSpanOf}
use Rattle.gx_clip.proofs.Clips.{from_none, from_span, endless}
use Rattle.gx_clip.proofs.Parameters.{form-below_form, lowest_form}
use Rattle.gx_clip.proofs.Parts.{HasDen, IsProper, IsProper-inside}

-- what is between two ends
abbrev pub between : (from to : RayParameter) → 0 < from.den → 0 < to.den → (span : Option Span) × IsSpanOf from to span
between from to d e = elim (apart from to) [
  | inl ends ↦
      let f = lowest_form from d in
      let g = lowest_form to e in
      (Some (record { from = f.0; to = g.0; start = f.1.sign; end = g.1.sign; ordered = form-below_form from to f.0 g.0 f.1 g.1 ends }), (ends, f.1, g.1))
  | inr none ↦ (None, none)
]

abbrev pub up_to : (from : RayParameter) (to : Option RayParameter) → 0 < from.den → HasDen to → Option Span
up_to from None d e = None
up_to from (Some to) d e = (between from to d e).0

abbrev pub span_of : (o : Option Interval) → IsProper o → Option Span
span_of None proper = None
span_of (Some i) proper = up_to i.from i.to proper.0 proper.1

-- the part of a ray that is inside a solid, where it has an end
abbrev pub clip_of : List HalfSpace → Ray → Option Span
clip_of solid ray = span_of (part_inside (Some whole) solid ray) (IsProper-inside (Some whole) (omega arith, tt) solid ray)

module _ (solid : List HalfSpace) (ray : Ray) (bounded : IsBounded solid) (moves : HasDirection ray) where
  up_to-clip : (i : Interval) → part_inside (Some whole) solid ray ≡ Some i → (to : Option RayParameter) → i.to ≡ to → (d : 0 < i.from.den) (e : HasDen to) → IsClip solid ray (up_to i.from to d e)
  up_to-clip i is None end d e = absurd (endless solid ray bounded moves i is end)
  up_to-clip i is (Some to) end d e = let span = between i.from to d e in from_span solid ray i to span.0 is end span.1

  span_of-clip : (o : Option Interval) (proper : IsProper o) → part_inside (Some whole) solid ray ≡ o → IsClip solid ray (span_of o proper)
  span_of-clip None proper is = from_none solid ray is
  span_of-clip (Some i) proper is = up_to-clip i is i.to refl proper.0 proper.1

  pub clip_of-clip : IsClip solid ray (clip_of solid ray)
  clip_of-clip = span_of-clip (part_inside (Some whole) solid ray) _ refl
