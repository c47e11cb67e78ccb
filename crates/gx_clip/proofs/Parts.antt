-- A parameter above 0 is in the part of an interval that half-spaces leave where it is in the interval and meets them.
use Rattle.std.proofs.Common.{◌≡◌, ℤ, pos, negsuc, zero, suc, ◌<◌, ◌-ℤ◌, ◌*ℤ◌, ◌<ℤ◌, ◌↔◌, refl, arith, true, false, Bool, List, [], ◌∷◌, Option, None, Some}
use Rattle.std.specs.Prelude.{int_lt, ◌&&◌, IsTrue}
use Rattle.std.proofs.Math.IntN.{*ℤ_comm}
use Rattle.std.proofs.lemmas.Int.{ints}
use Rattle.gx_algebra.proofs.Identities.{normal_dot-point_of_ray}
use Rattle.gx_algebra.proofs.Order.{mul-sub}
use Rattle.gx_num.specs.declared.ray.Ray.{Ray}
use Rattle.gx_num.specs.Vector.{dot_of}
use Rattle.gx_num.specs.Vector4.{Vec4}
use Rattle.gx_num.specs.Space.{HalfSpace, is_inside, normal_dot}
use Rattle.gx_num.specs.Ray.{RayParameter, IsPositive, IsBelow, point_of_ray}
use Rattle.gx_clip.specs.declared.interval.Interval.{Interval}
use Rattle.gx_clip.specs.Interval.{nearer, part, part_within, part_inside}
use Rattle.gx_clip.proofs.Parameters.{by_below, below-lesser, greater-below}

-- t < to
abbrev pub IsBefore : RayParameter → Option RayParameter → Type 0
IsBefore t None = Unit {0}
IsBefore t (Some to) = IsBelow t to

-- the parameter is in the interval
abbrev pub Holds : Option Interval → RayParameter → Type 0
Holds None t = ⊥
Holds (Some i) t = IsBelow i.from t × IsBefore t i.to

abbrev pub HasDen : Option RayParameter → Type 0
HasDen None = Unit {0}
HasDen (Some t) = 0 < t.den

-- the denominators are above 0
abbrev pub IsProper : Option Interval → Type 0
IsProper None = Unit {0}
IsProper (Some i) = (0 < i.from.den) × HasDen i.to

-- ---- one inequality
before-nearer : (t : RayParameter) (to : Option RayParameter) (end : RayParameter) → 0 < t.den → 0 < end.den → IsBelow t (nearer to end) ↔ (IsBefore t to × IsBelow t end)
before-nearer t None end d e = (λ h. (tt, h), λ h. h.1)
before-nearer t (Some to) end d e = below-lesser t to end d e

nearer-den : (to : Option RayParameter) (end : RayParameter) → HasDen to → 0 < end.den → 0 < (nearer to end).den
nearer-den None end h e = e
nearer-den (Some to) end h e = by_below (λ m. 0 < m.den) end to end to (λ _. e) (λ _. h)

IsProper-part : (i : Interval) → IsProper (Some i) → (slope gap : ℤ) → IsProper (part i slope gap)
IsProper-part i p (pos zero) (pos (suc gap)) = p
IsProper-part i p (pos (suc slope)) (pos (suc gap)) = (p.0, nearer-den i.to (record { num = suc gap; den = suc slope }) p.1 (omega arith))
IsProper-part i p (negsuc slope) (pos gap) = p
IsProper-part i p (negsuc slope) (negsuc gap) =
    let start : RayParameter = record { num = suc gap; den = suc slope } in
    (by_below (λ m. 0 < m.den) i.from start start i.from (λ _. omega arith) (λ _. p.0), p.1)
IsProper-part i p slope gap = tt

Holds-part : (i : Interval) → IsProper (Some i) → (slope gap : ℤ) (t : RayParameter) → IsPositive t
    → Holds (part i slope gap) t ↔ (Holds (Some i) t × (pos t.num *ℤ slope) <ℤ (pos t.den *ℤ gap))
Holds-part i p (pos zero) (pos (suc gap)) t h = (λ b. (b, omega (arith, ints)), λ b. b.0)
Holds-part i p (pos (suc slope)) (pos (suc gap)) t h =
    let end = before-nearer t i.to (record { num = suc gap; den = suc slope }) h.1 (omega arith) in (
      λ b. let e = end.0 b.1 in ((b.0, e.0), omega (arith, ints, e.1)),
      λ b. (b.0.0, end.1 (b.0.1, omega (arith, ints, b.1))),
    )
Holds-part i p (negsuc slope) (pos gap) t h = (λ b. (b, omega (arith, ints)), λ b. b.0)
Holds-part i p (negsuc slope) (negsuc gap) t h =
    let start = greater-below i.from (record { num = suc gap; den = suc slope }) t p.0 (omega arith) in (
      λ b. let s = start.0 b.0 in ((s.0, b.1), omega (arith, ints, s.1)),
      λ b. (start.1 (b.0.0, omega (arith, ints, b.1)), b.0.1),
    )
Holds-part i p slope gap t h = (λ b. absurd b, λ b. absurd (omega (arith, ints, b.1)))

-- ---- all of a solid

-- within the first half-space, and the others
pub inside-cons : (h : HalfSpace) (solid : List HalfSpace) (p : Vec4) → IsTrue (is_inside (h ∷ solid) p) ↔ (normal_dot h p <ℤ (h.e *ℤ p.w) × IsTrue (is_inside solid p))
inside-cons h solid p = (both (int_lt (normal_dot h p) (h.e *ℤ p.w)) (λ e. omega (arith, ints)), λ m. rw (test m.0) m.1)
  where
    both : {P : Type 0} (b : Bool) → (IsTrue b → P) → IsTrue (b && is_inside solid p) → P × IsTrue (is_inside solid p)
    both true holds e = (holds refl, e)
    both false holds e = absurd cc

    test : normal_dot h p <ℤ (h.e *ℤ p.w) → int_lt (normal_dot h p) (h.e *ℤ p.w) ≡ true
    test less = grind (arith, ints)

-- the strict inequality at the point of a ray, as t * slope < gap
along : (h : HalfSpace) (ray : Ray) (t : RayParameter)
    → normal_dot h (point_of_ray ray t) <ℤ (h.e *ℤ pos t.den) ↔ ((pos t.num *ℤ dot_of h.n ray.d) <ℤ (pos t.den *ℤ (h.e -ℤ dot_of h.n ray.o)))
along h ray t =
    let point = normal_dot-point_of_ray h ray t.num t.den in
    let gap = mul-sub (pos t.den) h.e (dot_of h.n ray.o) in
    let turn = *ℤ_comm h.e (pos t.den) in
    (λ less. omega (arith, ints, point, gap, turn, less), λ less. omega (arith, ints, point, gap, turn, less))

pub IsProper-inside : (o : Option Interval) → IsProper o → (solid : List HalfSpace) (ray : Ray) → IsProper (part_inside o solid ray)
IsProper-inside None p solid ray = tt
IsProper-inside (Some i) p [] ray = p
IsProper-inside (Some i) p (face ∷ solid) ray = IsProper-inside (part_within i face ray) (IsProper-part i p _ _) solid ray

pub Holds-inside : (o : Option Interval) → IsProper o → (solid : List HalfSpace) (ray : Ray) (t : RayParameter) → IsPositive t
    → Holds (part_inside o solid ray) t ↔ (Holds o t × IsTrue (is_inside solid (point_of_ray ray t)))
Holds-inside None p solid ray t h = (λ none. absurd none, λ b. absurd b.0)
Holds-inside (Some i) p [] ray t h = (λ b. (b, refl), λ b. b.0)
Holds-inside (Some i) p (face ∷ solid) ray t h =
    let slope = dot_of face.n ray.d in
    let gap = face.e -ℤ dot_of face.n ray.o in
    let here = Holds-part i p slope gap t h in
    let line = along face ray t in
    let rest = Holds-inside (part i slope gap) (IsProper-part i p slope gap) solid ray t h in
    let both = inside-cons face solid (point_of_ray ray t) in (
      λ b. let r = rest.0 b in let s = here.0 r.0 in (s.0, both.1 (line.1 s.1, r.1)),
      λ b. let r = both.0 b.1 in rest.1 (here.1 (b.0, line.0 r.0), r.1),
    )
