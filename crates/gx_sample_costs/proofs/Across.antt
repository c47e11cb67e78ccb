-- A box in which a ray has a point holds the ray's origin on each axis on which it doesn't move.
use Rattle.std.proofs.Common.{◌≡◌, ℕ, ◌<◌, ℤ, pos, ◌+ℤ◌, ◌*ℤ◌, ◌≤ℤ◌, ◌<ℤ◌, Bool, true, false, ◌&&◌, if◌then◌else◌, List, [], ◌∷◌, refl, sym, ap, ◌∙◌, subst, arith}
use Rattle.std.specs.Prelude.{int_le, int_lt}
use Rattle.std.specs.List.{list_all}
use Rattle.std.specs.Ordering.{int_eq}
use Rattle.std.proofs.lemmas.Bool.Decides.{Decides-int_eq}
use Rattle.std.proofs.lemmas.Int.{ints, by_lt_z}
use Rattle.gx_num.specs.Ray.{RayParameter, point_of_ray}
use Rattle.gx_num.specs.declared.ray.Ray.{Ray}
use Rattle.gx_algebra.proofs.Laws.{mul_comm, mul-zero}
use Rattle.gx_algebra.proofs.Order.{mul-le-left, le_of_mul-le-left}
use Rattle.gx_convex.proofs.Distinct.{by_bool}
use Rattle.gx_voxel.specs.Cut.{coordinate}
use Rattle.gx_voxel.specs.Cells.{Side, IsInSide, IsInBox, coordinate4}
use Rattle.gx_voxel.proofs.OnAxis.{on-axis}
use Rattle.gx_navigator.specs.Tests.{IsBoxTest}
use Rattle.gx_sample_costs.specs.Costs.{is_across, across}

both : (a b : Bool) → a ≡ true → b ≡ true → (a && b) ≡ true
both a b e f = cc

-- between two coordinates, times a number above 0
between : (low o high den : ℤ) → pos 0 <ℤ den → (low *ℤ den) ≤ℤ (den *ℤ o) → (den *ℤ o) <ℤ (high *ℤ den) → (int_le low o && int_lt o high) ≡ true
between low o high den positive from to =
    let above : low ≤ℤ o = le_of_mul-le-left den low o positive (omega (arith, ints, from, mul_comm low den)) in
    let below : o <ℤ high = by_lt_z o high (λ less. less) (λ most. absurd (omega (arith, ints, to, mul_comm high den, mul-le-left den high o (omega (arith, ints, positive)) most))) in
    both (int_le low o) (int_lt o high) (grind (arith, ints, above)) (grind (arith, ints, below))

side_passes : (r : Ray) (t : RayParameter) → 0 < t.den → (s : Side) → IsInSide (point_of_ray r t) s → is_across r s ≡ true
side_passes r t positive s is = by_bool (int_eq (coordinate s.axis r.d) (pos 0)) still (λ moves. rw moves refl)
  where
    still : int_eq (coordinate s.axis r.d) (pos 0) ≡ true → is_across r s ≡ true
    still e =
        let rests : coordinate s.axis r.d ≡ pos 0 = (Decides-int_eq (coordinate s.axis r.d) (pos 0)).0 e in
        let at : coordinate4 s.axis (point_of_ray r t) ≡ pos t.den *ℤ coordinate s.axis r.o = on-axis r t s.axis ∙ omega (arith, ints, ap (λ (z : ℤ). pos t.num *ℤ z) rests, mul-zero (pos t.num)) in
        rw e (between s.low (coordinate s.axis r.o) s.high (pos t.den) (omega (arith, ints, positive))
        (subst (λ (z : ℤ). (s.low *ℤ pos t.den) ≤ℤ z) at is.0) (subst (λ (z : ℤ). z <ℤ (s.high *ℤ pos t.den)) at is.1))

box_passes : (r : Ray) (t : RayParameter) → 0 < t.den → (box : List Side) → IsInBox (point_of_ray r t) box → list_all (is_across r) box ≡ true
box_passes r t positive [] is = refl
box_passes r t positive (s ∷ box) is = both (is_across r s) (list_all (is_across r) box) (side_passes r t positive s is.0) (box_passes r t positive box is.1)

pub across_tests : IsBoxTest across
across_tests f from to box t positive within is = box_passes f.ray t positive box is
