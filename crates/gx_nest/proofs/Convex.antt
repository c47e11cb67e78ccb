-- Along a ray a solid is convex: between a parameter in it and one inside it all are inside.
use Rattle.std.proofs.Common.{◌≡◌, [], ◌∷◌, List, ℤ, pos, ◌+ℤ◌, ◌-ℤ◌, ◌*ℤ◌, ◌<ℤ◌, ◌≤ℤ◌, ◌⊎◌, inl, inr, true, get_or, arith}
use Rattle.std.proofs.lemmas.Int.{ints}
use Rattle.std.proofs.lemmas.List.Elements.{All-weaker}
use Rattle.gx_num.specs.declared.ray.Ray.{Ray}
use Rattle.gx_num.specs.Vector4.{Vec4}
use Rattle.gx_num.specs.Vector.{dot_of}
use Rattle.gx_num.specs.Space.{HalfSpace, normal_dot, is_in, is_inside}
use Rattle.gx_num.specs.Ray.{RayParameter, IsPositive, IsBelow, IsUpTo, point_of_ray}
use Rattle.gx_num.proofs.Order.{lt_lt, apart, mediant, above_mediant, below_mediant, positive_mediant}
use Rattle.gx_algebra.proofs.Identities.{normal_dot-point_of_ray}
use Rattle.gx_algebra.proofs.Order.{mul_nonneg, mul_pos, pos_of_mul}
use Rattle.gx_algebra.proofs.Terms.{◌≣◌, ◌⊕◌, ◌⊖◌, ◌⊗◌}
use Rattle.gx_algebra.proofs.Identity.{identity, number}
use Rattle.gx_convex.specs.Hull.{IsAtMost}
use Rattle.gx_convex.proofs.Truth.{Decides-is_in, Decides-is_inside}
use Rattle.gx_clip.specs.Clip.{IsInsideBetween}

-- what is inside is in
pub inside_in : (solid : List HalfSpace) (p : Vec4) → is_inside solid p ≡ true → is_in solid p ≡ true
inside_in solid p e =
    (Decides-is_in solid p).1 (All-weaker (λ h. normal_dot h p <ℤ (h.e *ℤ p.w)) (λ h. IsAtMost h p) (λ h lt. omega (arith, ints, lt)) solid ((Decides-is_inside solid p).0 e))

-- what an inequality leaves at a parameter between two is a mean of what it leaves at these
slack-between : (e a b p q p0 q0 p1 q1 : ℤ)
    → ((p0 *ℤ q) -ℤ (p *ℤ q0)) *ℤ ((e *ℤ q1) -ℤ ((q1 *ℤ a) +ℤ (p1 *ℤ b)))
    ≡ (((p0 *ℤ q1) -ℤ (p1 *ℤ q0)) *ℤ ((e *ℤ q) -ℤ ((q *ℤ a) +ℤ (p *ℤ b)))) +ℤ (((p1 *ℤ q) -ℤ (p *ℤ q1)) *ℤ ((e *ℤ q0) -ℤ ((q0 *ℤ a) +ℤ (p0 *ℤ b))))
slack-between = identity (number ∷ number ∷ number ∷ number ∷ number ∷ number ∷ number ∷ number ∷ number ∷ []) (λ e a b p q p0 q0 p1 q1.
    (p0 ⊗ q ⊖ p ⊗ q0) ⊗ (e ⊗ q1 ⊖ (q1 ⊗ a ⊕ p1 ⊗ b))
    ≣ (p0 ⊗ q1 ⊖ p1 ⊗ q0) ⊗ (e ⊗ q ⊖ (q ⊗ a ⊕ p ⊗ b)) ⊕ (p1 ⊗ q ⊖ p ⊗ q1) ⊗ (e ⊗ q0 ⊖ (q0 ⊗ a ⊕ p0 ⊗ b))) tt

mean_positive : (d a b s s0 s1 : ℤ) → d *ℤ s1 ≡ (a *ℤ s) +ℤ (b *ℤ s0) → pos 0 <ℤ d → pos 0 <ℤ a → pos 0 <ℤ b → pos 0 ≤ℤ s → pos 0 <ℤ s0 → pos 0 <ℤ s1
mean_positive d a b s s0 s1 e hd ha hb hs hs0 =
    let one = mul_nonneg a s (omega (arith, ints, ha)) hs in
    let two = mul_pos b s0 hb hs0 in
    let whole : pos 0 <ℤ (d *ℤ s1) = omega (arith, ints, one, two, e) in
    pos_of_mul d s1 (omega (arith, ints, hd)) whole

-- by products crosswise
ahead : RayParameter → RayParameter → ℤ
ahead s t = (pos t.num *ℤ pos s.den) -ℤ (pos s.num *ℤ pos t.den)

abbrev slack : HalfSpace → Ray → RayParameter → ℤ
slack h r t = (h.e *ℤ pos t.den) -ℤ ((pos t.den *ℤ dot_of h.n r.o) +ℤ (pos t.num *ℤ dot_of h.n r.d))

-- the second is between the others
abbrev IsBetween : RayParameter → RayParameter → RayParameter → Type 0
IsBetween s t u = IsBelow s t × IsBelow t u × IsBelow s u

module _ (h : HalfSpace) (r : Ray) where
  mean : (t t0 t1 : RayParameter) → ahead t t0 *ℤ slack h r t1 ≡ (ahead t1 t0 *ℤ slack h r t) +ℤ (ahead t t1 *ℤ slack h r t0)
  unfolding ahead
  mean t t0 t1 = slack-between h.e (dot_of h.n r.o) (dot_of h.n r.d) (pos t.num) (pos t.den) (pos t0.num) (pos t0.den) (pos t1.num) (pos t1.den)

  is_ahead : (s t : RayParameter) → IsBelow s t → pos 0 <ℤ ahead s t
  unfolding ahead
  is_ahead s t e = omega (arith, ints, e)

  slack_between : (t t0 t1 : RayParameter) → IsBetween t t1 t0 ⊎ IsBetween t0 t1 t → pos 0 ≤ℤ slack h r t → pos 0 <ℤ slack h r t0 → pos 0 <ℤ slack h r t1
  slack_between t t0 t1 (inl o) hs hs0 =
      mean_positive (ahead t t0) (ahead t1 t0) (ahead t t1) (slack h r t) (slack h r t0) (slack h r t1) (mean t t0 t1) (is_ahead t t0 o.2) (is_ahead t1 t0 o.1) (is_ahead t t1 o.0) hs hs0
  slack_between t t0 t1 (inr o) hs hs0 =
      let e = mean t0 t t1 in
      mean_positive (ahead t0 t) (ahead t0 t1) (ahead t1 t) (slack h r t) (slack h r t0) (slack h r t1) (omega (arith, ints, e)) (is_ahead t0 t o.2) (is_ahead t0 t1 o.0) (is_ahead t1 t o.1) hs hs0

  strict_between : (t t0 t1 : RayParameter) → IsBetween t t1 t0 ⊎ IsBetween t0 t1 t → IsAtMost h (point_of_ray r t) → normal_dot h (point_of_ray r t0) <ℤ (h.e *ℤ pos t0.den)
      → normal_dot h (point_of_ray r t1) <ℤ (h.e *ℤ pos t1.den)
  strict_between t t0 t1 order e f =
      let s : pos 0 ≤ℤ slack h r t = let is = normal_dot-point_of_ray h r t.num t.den in omega (arith, ints, is, e) in
      let s0 : pos 0 <ℤ slack h r t0 = let is = normal_dot-point_of_ray h r t0.num t0.den in omega (arith, ints, is, f) in
      let is = normal_dot-point_of_ray h r t1.num t1.den in
      omega (arith, ints, is, slack_between t t0 t1 order s s0)

inside_between : (solid : List HalfSpace) (r : Ray) (t t0 t1 : RayParameter) → IsBetween t t1 t0 ⊎ IsBetween t0 t1 t
    → is_in solid (point_of_ray r t) ≡ true → is_inside solid (point_of_ray r t0) ≡ true → is_inside solid (point_of_ray r t1) ≡ true
inside_between solid r t t0 t1 order e f =
    let all = (Decides-is_in solid (point_of_ray r t)).0 e in
    let strict = (Decides-is_inside solid (point_of_ray r t0)).0 f in
    (Decides-is_inside solid (point_of_ray r t1)).1 (λ k d less. strict_between (get_or solid k d) r t t0 t1 order (all k d less) (strict k d less))

-- where a ray is in a solid that it is inside somewhere, it is between the ends or at one of them
pub closed : (solid : List HalfSpace) (r : Ray) (from to : RayParameter) → IsInsideBetween solid r from to → (t : RayParameter) → IsPositive t → is_in solid (point_of_ray r t) ≡ true → IsUpTo from t × IsUpTo t to
closed solid r from to span t positive e =
    let mid = mediant from to in
    let hm = positive_mediant from to span.from_lowest.positive span.ordered in
    let over = above_mediant from to span.ordered in
    let under = below_mediant from to span.ordered in
    let inside = (span.inside mid hm).1 (over, under) in
    let low : IsUpTo from t = elim (apart t from) [
      | inr up ↦ up
      | inl less ↦
          let x = mediant t from in
          let hx = positive_mediant t from positive.1 less in
          let at = inside_between solid r t mid x (inl (above_mediant t from less, lt_lt x from mid hx.1 (below_mediant t from less) over, lt_lt t from mid positive.1 less over)) e inside in
          absurd (omega (arith, below_mediant t from less, ((span.inside x hx).0 at).0))
    ] in
    let high : IsUpTo t to = elim (apart to t) [
      | inr up ↦ up
      | inl less ↦
          let x = mediant to t in
          let hx = positive_mediant to t span.to_lowest.positive less in
          let at = inside_between solid r t mid x (inr (lt_lt mid to x hm.1 under (above_mediant to t less), below_mediant to t less, lt_lt mid to t hm.1 under less)) e inside in
          absurd (omega (arith, above_mediant to t less, ((span.inside x hx).0 at).1))
    ] in
    (low, high)
