-- The planes that are made here keep what each plane keeps.
use Rattle.std.proofs.Common.{◌≡◌, ℕ, zero, suc, ◌≤◌, ◌<◌, Some, None, ℤ, unsigned_abs, refl, sym, ap, ◌∙◌, arith}
use Rattle.gx_num.specs.declared.vector.V3.{V3}
use Rattle.gx_num.specs.Number.{common_divisor}
use Rattle.gx_num.specs.Vector.{IsWithin, dot_of, opposite_of}
use Rattle.gx_num.specs.Space.{HalfSpace}
use Rattle.gx_plane.specs.Plane.{reach, normal_reach, offset_reach, divisor_of, primitive, IsPlane, plane_at, plane_with, unit_along}
use Rattle.gx_plane.proofs.Divisors.{divisor_of-opposite, IsPrimitive-primitive, IsWithin-primitive, is_zero-divisor_of, not_zero-divisor_of}
use Rattle.gx_plane.proofs.PlaneFacts.{plane_with-zero, plane_with-apart}

pub IsPlane-opposite : (h : HalfSpace) (n : V3) (e : ℤ) → n ≡ opposite_of h.n → IsWithin normal_reach n → unsigned_abs e ≤ offset_reach → IsPlane h → IsPlane (record { n = n; e = e })
IsPlane-opposite h n e is within offset p = record {
  primitive = record { divisor = ap divisor_of is ∙ divisor_of-opposite h.n ∙ p.primitive.divisor };
  within = within;
  offset_within = offset;
}

unit_along-divisor : (axis : ℕ) → axis < 3 → divisor_of (unit_along axis) ≡ 1
unfolding common_divisor
unit_along-divisor zero h = refl
unit_along-divisor (suc zero) h = refl
unit_along-divisor (suc (suc zero)) h = refl
unit_along-divisor (suc (suc (suc n))) h = absurd (omega arith)

IsWithin-unit_along : (axis : ℕ) → axis < 3 → IsWithin 1 (unit_along axis)
IsWithin-unit_along zero h = record { x = omega arith; y = omega arith; z = omega arith }
IsWithin-unit_along (suc zero) h = record { x = omega arith; y = omega arith; z = omega arith }
IsWithin-unit_along (suc (suc zero)) h = record { x = omega arith; y = omega arith; z = omega arith }
IsWithin-unit_along (suc (suc (suc n))) h = absurd (omega arith)

pub IsPlane-along : (axis : ℕ) (n : V3) (e : ℤ) → axis < 3 → n ≡ unit_along axis → unsigned_abs e ≤ reach → IsPlane (record { n = n; e = e })
IsPlane-along axis n e lt is h =
    let w = IsWithin-unit_along axis lt in
    rw is (record {
      primitive = record { divisor = unit_along-divisor axis lt };
      within = record { x = omega (arith, w.x); y = omega (arith, w.y); z = omega (arith, w.z) };
      offset_within = omega (arith, h);
    })

pub IsPlane-with : (v n : V3) (e : ℤ) → 0 < divisor_of v → IsWithin normal_reach v → n ≡ primitive v → unsigned_abs e ≤ offset_reach → IsPlane (record { n = n; e = e })
IsPlane-with v n e lt within is offset =
    rw is (record { primitive = IsPrimitive-primitive v lt; within = IsWithin-primitive v normal_reach within; offset_within = offset })

-- ---- the plane with a normal, from what the code computes
pub none-plane_with : (v a : V3) → divisor_of v ≡ 0 → None ≡ plane_with v a
none-plane_with v a e = sym (plane_with-zero v a (is_zero-divisor_of v e))

pub some-plane_with : (v a n : V3) (e : ℤ) → 0 < divisor_of v → n ≡ primitive v → e ≡ dot_of n a → Some (record { n = n; e = e }) ≡ plane_with v a
some-plane_with v a n e lt is level =
    let same : ◌≡◌ {A = HalfSpace} (record { n = n; e = e }) (plane_at v a) = λ i. record { n = is i; e = (level ∙ ap (λ (m : V3). dot_of m a) is) i } in
    ap Some same ∙ sym (plane_with-apart v a (not_zero-divisor_of v lt))
