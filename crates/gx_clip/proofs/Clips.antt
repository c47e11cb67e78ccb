-- The clip of a ray that has a direction, by a bounded solid.
use Rattle.std.proofs.Common.{◌≡◌, ℕ, ℤ, pos, negsuc, zero, suc, ◌+◌, ◌*◌, ◌<◌, ◌≤◌, ◌+ℤ◌, ◌*ℤ◌, ◌↔◌, inl, inr, refl, subst, arith, true, false, Bool, List, Option, None, Some}
use Rattle.std.specs.Prelude.{unsigned_abs, IsTrue}
use Rattle.std.proofs.lemmas.Int.{ints}
use Rattle.gx_num.specs.declared.ray.Ray.{Ray}
use Rattle.gx_num.specs.Space.{HalfSpace, is_inside}
use Rattle.gx_num.specs.Ray.{RayParameter, HasDirection, IsPositive, IsBelow, point_of_ray}
use Rattle.gx_num.proofs.Order.{lt_lt, apart}
use Rattle.gx_clip.specs.declared.span.Span.{Span}
use Rattle.gx_clip.specs.declared.interval.Interval.{Interval}
use Rattle.gx_clip.specs.Clip.{IsBounded, IsClip}
use Rattle.gx_clip.specs.Interval.{whole, part_inside, IsSpanOf}
use Rattle.gx_clip.proofs.Parameters.{form-below, below-form, form-below_form, lowest_form}
use Rattle.gx_clip.proofs.Parts.{IsBefore, Holds, HasDen, IsProper, IsProper-inside, Holds-inside}

-- a coordinate that moves is beyond the reach at this parameter
still : (reach k : ℕ) (o d : ℤ) → reach + unsigned_abs o < k → unsigned_abs (pos 1 *ℤ o +ℤ pos k *ℤ d) ≤ reach * 1 → d ≡ pos 0
still reach k o (pos zero) h within = refl
still reach k o (pos (suc d)) h within = absurd (omega (arith, ints))
still reach k o (negsuc d) h within = absurd (omega (arith, ints))

after : (s : RayParameter) (k : ℕ) → 0 < s.den → s.num < k → IsBelow s (record { num = k; den = 1 })
after s k h l = go s.den h
  where
    go : (d : ℕ) → 0 < d → s.num * 1 < k * d
    go zero h = absurd (omega arith)
    go (suc d) h = omega arith

false_from : (b : Bool) → (IsTrue b → ⊥) → b ≡ false
false_from true never = absurd (never refl)
false_from false never = refl

span_between : (from to : RayParameter) → 0 < from.den → 0 < to.den → (o : Option Span) × IsSpanOf from to o
span_between from to d e = elim (apart from to) [
  | inl ends ↦
      let f = lowest_form from d in
      let g = lowest_form to e in
      (Some (record { from = f.0; to = g.0; start = f.1.sign; end = g.1.sign; ordered = form-below_form from to f.0 g.0 f.1 g.1 ends }), (ends, f.1, g.1))
  | inr none ↦ (None, none)
]

module _ (solid : List HalfSpace) (ray : Ray) where
  abbrev is_inside_at : RayParameter → Bool
  is_inside_at t = is_inside solid (point_of_ray ray t)

  nothing : ((t : RayParameter) → IsPositive t → IsTrue (is_inside_at t) → ⊥) → IsClip solid ray None
  nothing never t h = false_from (is_inside_at t) (never t h)

  module _ (o : Option Interval) (is : part_inside (Some whole) solid ray ≡ o) where
    proper : IsProper o
    proper = subst IsProper is (IsProper-inside (Some whole) (omega arith, tt) solid ray)

    inside-holds : (t : RayParameter) → IsPositive t → IsTrue (is_inside_at t) ↔ Holds o t
    inside-holds t h =
        let all = subst (λ o. Holds o t ↔ (Holds (Some whole) t × IsTrue (is_inside_at t))) is (Holds-inside (Some whole) (omega arith, tt) solid ray t h) in
        (λ e. all.1 ((omega (arith, h.0), tt), e), λ b. (all.0 b).1)

  pub from_none : part_inside (Some whole) solid ray ≡ None → IsClip solid ray None
  from_none is = nothing (λ t h e. (inside-holds None is t h).0 e)

  pub from_span : (i : Interval) (to : RayParameter) (span : Option Span) → part_inside (Some whole) solid ray ≡ Some i → i.to ≡ Some to → IsSpanOf i.from to span → IsClip solid ray span
  from_span i to span is end of = go span of
    where
      holds : (t : RayParameter) → IsPositive t → IsTrue (is_inside_at t) ↔ (IsBelow i.from t × IsBelow t to)
      holds t h = subst (λ k. IsTrue (is_inside_at t) ↔ (IsBelow i.from t × IsBefore t k)) end (inside-holds (Some i) is t h)

      go : (span : Option Span) → IsSpanOf i.from to span → IsClip solid ray span
      go None none = nothing (λ t h e. let b = (holds t h).0 e in omega (arith, lt_lt i.from t to (proper (Some i) is).0 b.0 b.1, none))
      go (Some span) ends = record {
        from_lowest = ends.1.lowest;
        to_lowest = ends.2.lowest;
        ordered = form-below_form i.from to span.from span.to ends.1 ends.2 ends.0;
        inside = λ t h.
            let b = holds t h in
            let from = form-below i.from t span.from ends.1 in
            let last = below-form to t span.to ends.2 in
            (λ e. let k = b.0 e in (from.1 k.0, last.1 k.1), λ k. b.1 (from.0 k.0, last.0 k.1));
      }

  module _ (bounded : IsBounded solid) (moves : HasDirection ray) where
    -- a ray leaves the solid
    pub endless : (i : Interval) → part_inside (Some whole) solid ray ≡ Some i → i.to ≡ None → ⊥
    endless i is end =
        let far = suc (i.from.num + (bounded.reach + (unsigned_abs ray.o.x + (unsigned_abs ray.o.y + unsigned_abs ray.o.z)))) in
        let t : RayParameter = record { num = far; den = 1 } in
        let den = proper (Some i) is in
        let later = subst (λ k. IsTrue (is_inside_at t) ↔ (IsBelow i.from t × IsBefore t k)) end (inside-holds (Some i) is t (omega arith, omega arith)) in
        let p = bounded.within (point_of_ray ray t) (omega (arith, ints)) (later.1 (after i.from far den.0 (omega arith), tt)) in
        moves (still bounded.reach far ray.o.x ray.d.x (omega arith) p.x) (still bounded.reach far ray.o.y ray.d.y (omega arith) p.y) (still bounded.reach far ray.o.z ray.d.z (omega arith) p.z)

    pub clip_exists : (o : Option Span) × IsClip solid ray o
    clip_exists = go (part_inside (Some whole) solid ray) refl
      where
        end_at : (i : Interval) → part_inside (Some whole) solid ray ≡ Some i → (to : Option RayParameter) → i.to ≡ to → (o : Option Span) × IsClip solid ray o
        end_at i is None end = absurd (endless i is end)
        end_at i is (Some to) end =
            let den = proper (Some i) is in
            let span = span_between i.from to den.0 (subst HasDen end den.1) in
            (span.0, from_span i to span.0 is end span.1)

        go : (o : Option Interval) → part_inside (Some whole) solid ray ≡ o → (o : Option Span) × IsClip solid ray o
        go None is = (None, from_none is)
        go (Some i) is = end_at i is i.to refl
