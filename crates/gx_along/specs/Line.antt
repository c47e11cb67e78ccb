-- Where a ray on one axis is in a half-open interval of coordinates.
use Rattle.std.specs.Prelude.{◌<◌, ℕ, ◌*◌, nat_lt, ◌==◌, ℤ, pos, ◌-ℤ◌, ◌+ℤ◌, ◌*ℤ◌, ◌≤ℤ◌, ◌<ℤ◌, unsigned_abs, int_lt, int_le, Bool, if◌then◌else◌}
use Rattle.gx_num.specs.Ray.{RayParameter}
use Rattle.gx_num.specs.Ray.{IsBelow, IsUpTo}
use Rattle.gx_along.specs.declared.line.Time.{Time}
use Rattle.gx_along.specs.declared.line.Stretch.{Stretch}

-- a time as a parameter
abbrev pub time : Time → RayParameter
time t = record { num = t.num; den = t.den }

-- how far along its direction a ray from o along d comes to a run, and how far along it leaves it, in steps
abbrev pub near : ℤ → ℤ → ℤ → ℤ → ℤ
near o d low high = if int_lt d (pos 0) then o -ℤ high else low -ℤ o

abbrev pub far : ℤ → ℤ → ℤ → ℤ → ℤ
far o d low high = if int_lt d (pos 0) then o -ℤ low else high -ℤ o

-- from the time on the ray is no more in the run
unfoldable pub is_left : ℤ → ℤ → ℤ → ℤ → RayParameter → Bool
is_left o d low high t = int_le (far o d low high *ℤ pos t.den) (pos (t.num * unsigned_abs d))

-- before the time it has come to the run
unfoldable pub is_entered : ℤ → ℤ → ℤ → ℤ → RayParameter → Bool
is_entered o d low high t = if unsigned_abs d == 0 then int_le (near o d low high) (pos 0) else int_lt (near o d low high *ℤ pos t.den) (pos (t.num * unsigned_abs d))

-- the later of two times, and the earlier; of equal ones the first
unfoldable pub later : Time → Time → Time
later a b = if nat_lt (a.num * b.den) (b.num * a.den) then b else a

unfoldable pub earlier : Time → Time → Time
earlier a b = if nat_lt (b.num * a.den) (a.num * b.den) then b else a

-- the greater of a number and 0
abbrev pub above_zero : ℤ → ℕ
above_zero z = if int_lt z (pos 0) then 0 else unsigned_abs z

-- the part of a stretch in which the ray is in the run
unfoldable pub part_of : ℤ → ℤ → ℤ → ℤ → Stretch → Stretch
part_of o d low high s = if unsigned_abs d == 0 then s else record {
  from = later s.from (record { num = above_zero (near o d low high); den = unsigned_abs d });
  to = earlier s.to (record { num = unsigned_abs (far o d low high); den = unsigned_abs d });
}

-- the ray is in the run at the parameter: low * q <= q * o + p * d < high * q
abbrev pub IsInRun : ℤ → ℤ → ℤ → ℤ → RayParameter → Type 0
IsInRun o d low high t = ((low *ℤ pos t.den) ≤ℤ (pos t.den *ℤ o +ℤ pos t.num *ℤ d)) × ((pos t.den *ℤ o +ℤ pos t.num *ℤ d) <ℤ (high *ℤ pos t.den))

-- strictly between the ends of a stretch
abbrev pub IsWithin : Stretch → RayParameter → Type 0
IsWithin s t = IsBelow (time s.from) t × IsBelow t (time s.to)

-- from a time to a later one
abbrev pub IsStretch : Stretch → Type 0
IsStretch s = (0 < s.from.den) × (0 < s.to.den) × IsBelow (time s.from) (time s.to)

-- the part of a stretch in which a ray is in a run: all its points are in the run, and the stretch has no other but at the ends of the part
pub record IsPart (o d low high : ℤ) (s part : Stretch) : Type 0 where
  pub stretch : IsStretch part
  pub inside : (t : RayParameter) → 0 < t.den → IsWithin part t → IsWithin s t × IsInRun o d low high t
  pub whole : (t : RayParameter) → 0 < t.den → IsWithin s t → IsInRun o d low high t → IsUpTo (time part.from) t × IsUpTo t (time part.to)

-- A run gone into, and the part of the stretch in it.
pub record Seen : Type 0 where
  pub index : ℕ
  pub part : Stretch
