-- A member that is due in a stretch is due in the part of a run gone into that has it.
use Rattle.std.proofs.Common.{◌≡◌, ◌⊎◌, ℕ, ◌<◌, inl, inr, refl, sym, subst, arith, ℤ, pos, ◌*ℤ◌, ◌≤ℤ◌, ◌<ℤ◌, List, [], ◌∷◌, length}
use Rattle.std.specs.List.{AllByRecursion}
use Rattle.std.proofs.lemmas.Int.{ints}
use Rattle.gx_num.specs.Ray.{RayParameter, IsBelow, IsUpTo, point_of_ray}
use Rattle.gx_num.proofs.Order.{le_lt, lt_le, apart, lesser, mediant, above_mediant, below_mediant, positive_mediant}
use Rattle.gx_num.specs.declared.extent.Extent.{Extent}
use Rattle.gx_num.specs.declared.ray.Ray.{Ray}
use Rattle.gx_offers.specs.Offers.{AnyByRecursion, IsOneOf}
use Rattle.gx_voxel.specs.Cut.{Cut, SliceRun, coordinate}
use Rattle.gx_voxel.specs.Cells.{IsInSide, side_of}
use Rattle.gx_voxel.specs.Proxy.{list_of}
use Rattle.gx_voxel.specs.declared.proxy.Header.{Header}
use Rattle.gx_voxel.proofs.Covered.{InRun, in-cut}
use Rattle.gx_voxel.proofs.OnAxis.{on-axis}
use Rattle.gx_along.specs.Along.{IsExact}
use Rattle.gx_along.specs.Line.{Seen, time, IsInRun, IsWithin, IsStretch, IsPart}
use Rattle.gx_along.specs.Runs.{low_at, high_at}
use Rattle.gx_along.specs.declared.line.Stretch.{Stretch}
use Rattle.gx_descend.specs.Descent.{IsDue}
use Rattle.gx_descend.proofs.Placed.{IsHeaderOf, no_run, run_at, place-of, count, low-is, high-is}

-- ---- parameters
-- the greater of two
greater : (s t : RayParameter) → (m : RayParameter) × IsUpTo s m × IsUpTo t m × ((m ≡ s) ⊎ (m ≡ t))
greater s t = elim (apart s t) [ inl less ↦ (t, omega (arith, less), omega arith, inr refl) | inr more ↦ (s, omega arith, more, inl refl) ]

either : (P : RayParameter → Type 0) (m s t : RayParameter) → (m ≡ s) ⊎ (m ≡ t) → P s → P t → P m
either P m s t (inl e) p q = subst P (sym e) p
either P m s t (inr e) p q = subst P (sym e) q

-- an interval and a stretch about a parameter, which may be an end of the stretch, have a parameter strictly between their ends
some-within : (part : Stretch) (a b t : RayParameter) → IsStretch part → 0 < a.den → 0 < b.den → 0 < t.den → IsBelow a t → IsBelow t b → IsUpTo (time part.from) t → IsUpTo t (time part.to)
    → (u : RayParameter) × (0 < u.den) × IsBelow a u × IsBelow u b × IsWithin part u
some-within part a b t ok p q r at tb from to =
    let low = greater a (time part.from) in
    let high = lesser b (time part.to) in
    let between : IsBelow low.0 high.0 =
    either (λ x. IsBelow low.0 x) high.0 b (time part.to) high.3
    (either (λ x. IsBelow x b) low.0 a (time part.from) low.3 (le_lt a t b p (omega (arith, at)) tb) (le_lt (time part.from) t b ok.0 from tb))
    (either (λ x. IsBelow x (time part.to)) low.0 a (time part.from) low.3 (lt_le a t (time part.to) ok.1 at to) ok.2) in
    let some : 0 < low.0.den = either (λ x. 0 < x.den) low.0 a (time part.from) low.3 p ok.0 in
    let u = mediant low.0 high.0 in
    let above = above_mediant low.0 high.0 between in
    let below = below_mediant low.0 high.0 between in (
      u,
      (positive_mediant low.0 high.0 some between).1,
      le_lt a low.0 u p low.1 above,
      lt_le u high.0 b q below high.1,
      (le_lt (time part.from) low.0 u ok.0 low.2 above, lt_le u high.0 (time part.to) ok.1 below high.2),
    )

-- a parameter strictly between the ends of a stretch
pub some-point : (s : Stretch) → IsStretch s → (t : RayParameter) × (0 < t.den) × IsWithin s t
some-point s ok = (mediant (time s.from) (time s.to), (positive_mediant (time s.from) (time s.to) ok.0 ok.2).1, (above_mediant (time s.from) (time s.to) ok.2, below_mediant (time s.from) (time s.to) ok.2))

-- ---- a ray in a run, by its coordinate and as a point in a side
abbrev pub RayIn : Ray → ℕ → ℤ → ℤ → RayParameter → Type 0
RayIn ray axis low high t = IsInRun (coordinate axis ray.o) (coordinate axis ray.d) low high t

abbrev Between : RayParameter → SliceRun → ℤ → Type 0
Between t run z = ((run.low *ℤ pos t.den) ≤ℤ z) × (z <ℤ (run.high *ℤ pos t.den))

in-run : (ray : Ray) (t : RayParameter) (axis : ℕ) (run : SliceRun) → IsInSide (point_of_ray ray t) (side_of axis run) → RayIn ray axis run.low run.high t
in-run ray t axis run h = subst (Between t run) (on-axis ray t axis) h

pub in-side : (ray : Ray) (t : RayParameter) (axis : ℕ) (run : SliceRun) → RayIn ray axis run.low run.high t → IsInSide (point_of_ray ray t) (side_of axis run)
in-side ray t axis run h = subst (Between t run) (sym (on-axis ray t axis)) h

both-any : {X : Type 0} (P Q R : X → Type 0) → ((x : X) → P x → Q x → R x) → (xs : List X) → AllByRecursion P xs → AnyByRecursion Q xs → AnyByRecursion R xs
both-any P Q R f [] all any = any
both-any P Q R f (x ∷ xs) all (inl h) = inl (f x all.0 h)
both-any P Q R f (x ∷ xs) all (inr h) = inr (both-any P Q R f xs all.1 h)

-- a run gone into has the member, which is due in its part of the stretch
abbrev pub HasDue : (ℕ → Extent) → Ray → Cut → ℕ → Seen → Type 0
HasDue at ray cut k one = IsOneOf k (run_at cut one.index).members × IsDue at ray one.part k

module _ (at : ℕ → Extent) (n : ℕ) (h : Header) (ks axes : List ℕ) (cut : Cut) (w : IsHeaderOf at n h ks axes cut) (ray : Ray) (s : Stretch) (seen : List Seen)
    (exact : IsExact (coordinate cut.axis ray.o) (coordinate cut.axis ray.d) h s seen) where
  pub due-seen : (k : ℕ) → IsOneOf k ks → IsDue at ray s k → AnyByRecursion (HasDue at ray cut k) seen
  due-seen k one (a, b, t, crossing, den, above, below, within) =
      let p = point_of_ray ray t in
      let there = in-cut at p (omega (arith, ints, den)) k (crossing.inside t den above below) ks axes one cut w.cuts in
      let place = place-of (InRun at p (omega (arith, ints, den)) k (crossing.inside t den above below) cut.axis) cut.runs there no_run in
      let i = place.0 in
      let less : i < length (list_of h) = omega (arith, place.1, count at n h ks axes cut w) in
      let low = low-is at n h ks axes cut w i less in
      let high = high-is at n h ks axes cut w i less in
      let r : RayIn ray cut.axis (low_at h i) (high_at h i) t =
      subst (λ z. RayIn ray cut.axis z (high_at h i) t) (sym low) (subst (λ z. RayIn ray cut.axis (run_at cut i).low z t) (sym high) (in-run ray t cut.axis (run_at cut i) place.2.0)) in
      both-any (λ x. (x.index < length (list_of h)) × IsPart (coordinate cut.axis ray.o) (coordinate cut.axis ray.d) (low_at h x.index) (high_at h x.index) s x.part) (λ x. x.index ≡ i) (HasDue at ray cut k)
      (λ x part is.
      let here : IsPart (coordinate cut.axis ray.o) (coordinate cut.axis ray.d) (low_at h i) (high_at h i) s x.part =
      subst (λ j. IsPart (coordinate cut.axis ray.o) (coordinate cut.axis ray.d) (low_at h j) (high_at h j) s x.part) is part.1 in
      let ends = here.whole t den within r in
      let u = some-within x.part a b t here.stretch crossing.from crossing.to den above below ends.0 ends.1 in
      (subst (λ j. IsOneOf k (run_at cut j).members) (sym is) place.2.1, (a, b, u.0, crossing, u.1, u.2, u.3, u.4)))
      seen exact.parts (exact.whole i t less den within r)
