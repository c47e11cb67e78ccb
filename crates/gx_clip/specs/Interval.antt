-- The part of an interval of parameters in which half-spaces hold. No public contract stands on this file.
use Rattle.std.specs.Prelude.{ℤ, ◌-ℤ◌, pos, negsuc, zero, suc, List, [], ◌∷◌, Option, None, Some}
use Rattle.gx_num.specs.declared.ray.Ray.{Ray}
use Rattle.gx_num.specs.Vector.{dot_of}
use Rattle.gx_num.specs.Space.{HalfSpace}
use Rattle.gx_num.specs.Ray.{RayParameter, IsBelow, IsUpTo}
use Rattle.gx_clip.specs.declared.span.Span.{Span}
use Rattle.gx_clip.specs.declared.interval.Interval.{Interval}
use Rattle.gx_clip.specs.Parameter.{lesser, greater, IsLowestForm}

-- all parameters above 0
abbrev pub whole : Interval
whole = record { from = record { num = 0; den = 1 }; to = None }

-- the end that comes first
abbrev pub nearer : Option RayParameter → RayParameter → RayParameter
nearer None t = t
nearer (Some to) t = lesser to t

-- the part where t * slope < gap
abbrev pub part : Interval → ℤ → ℤ → Option Interval
part i (pos zero) (pos (suc gap)) = Some i
part i (pos (suc slope)) (pos (suc gap)) = Some (record { from = i.from; to = Some (nearer i.to (record { num = suc gap; den = suc slope })) })
part i (negsuc slope) (pos gap) = Some i
part i (negsuc slope) (negsuc gap) = Some (record { from = greater i.from (record { num = suc gap; den = suc slope }); to = i.to })
part i slope gap = None

-- the part where n . p < e at the point of the ray: t * (n . d) < e - n . o
abbrev pub part_within : Interval → HalfSpace → Ray → Option Interval
part_within i h ray = part i (dot_of h.n ray.d) (h.e -ℤ dot_of h.n ray.o)

-- the part within all half-spaces
abbrev pub part_inside : Option Interval → List HalfSpace → Ray → Option Interval
part_inside None solid ray = None
part_inside (Some i) [] ray = Some i
part_inside (Some i) (h ∷ solid) ray = part_inside (part_within i h ray) solid ray

-- nothing lies between the ends, or the span has them in lowest terms
abbrev pub IsSpanOf : RayParameter → RayParameter → Option Span → Type 0
IsSpanOf from to None = IsUpTo to from
IsSpanOf from to (Some span) = IsBelow from to × IsLowestForm from span.from × IsLowestForm to span.to
