-- The common divisor of a vector's components, and the vector divided by it.
use Rattle.std.proofs.Common.{◌≡◌, ◌⊎◌, inl, inr, ℕ, ◌≤◌, ◌<◌, Bool, true, false, ◌&&◌, ◌==◌, List, [], ◌∷◌, ℤ, pos, ◌-ℤ◌, unsigned_abs, int_div, refl, sym, ap, ◌∙◌, subst, arith, eqb-true, div-le_self, true≢false}
use Rattle.std.specs.Int.{IsGcd, ◌∣◌}
use Rattle.std.proofs.lemmas.Nat.Gcd.{le_of_dvd}
use Rattle.std.proofs.Math.Nat.{eq-zero_of_zero-dvd}
use Rattle.gx_num.specs.declared.vector.V3.{V3}
use Rattle.gx_num.specs.Number.{common_divisor}
use Rattle.gx_num.specs.Vector.{IsWithin, opposite_of}
use Rattle.gx_num.proofs.Divisors.{DividesAll, zero_or_pos, IsDivisor-cons, IsDivisor-two, IsDivisor-common_divisor, common_divisor-same, common_divisor-divided, unsigned_abs-int_div}
use Rattle.gx_plane.specs.Plane.{divisor_of, primitive, IsPrimitive, is_zero}
use borrow.Author.Differences.{ints}

-- ---- the divisor of a vector
-- the magnitudes of the components
abbrev components : V3 → List ℕ
components v = unsigned_abs v.x ∷ unsigned_abs v.y ∷ unsigned_abs v.z ∷ []

pub divisor_of-divides : (v : V3) → DividesAll (divisor_of v) (components v)
divisor_of-divides v = (IsDivisor-common_divisor (components v)).divides

-- by the greatest common divisor of two components, and of that and the third
pub divisor_of-gcd : (v : V3) (h g : ℕ) → IsGcd (unsigned_abs v.y) (unsigned_abs v.z) h → IsGcd (unsigned_abs v.x) h g → g ≡ divisor_of v
divisor_of-gcd v h g second first =
    sym (common_divisor-same (components v) g (IsDivisor-cons (unsigned_abs v.x) (unsigned_abs v.y ∷ unsigned_abs v.z ∷ []) h g first (IsDivisor-two (unsigned_abs v.y) (unsigned_abs v.z) h second)))

pub unsigned_abs-opposite : (a : ℤ) → unsigned_abs (pos 0 -ℤ a) ≡ unsigned_abs a
unsigned_abs-opposite a = omega (arith, ints)

pub divisor_of-opposite : (v : V3) → divisor_of (opposite_of v) ≡ divisor_of v
divisor_of-opposite v =
    ap common_divisor (λ i. unsigned_abs-opposite v.x i ∷ unsigned_abs-opposite v.y i ∷ unsigned_abs-opposite v.z i ∷ [])

-- ---- only the zero vector has the divisor 0
pub divisor_of-zero : common_divisor (0 ∷ 0 ∷ 0 ∷ []) ≡ 0
unfolding common_divisor
divisor_of-zero = refl

pub zero-is_zero : (v : V3) → is_zero v ≡ true → v ≡ record { x = pos 0; y = pos 0; z = pos 0 }
zero-is_zero v e =
    let first = and-true (unsigned_abs v.x == 0) (unsigned_abs v.y == 0 && unsigned_abs v.z == 0) e in
    let second = and-true (unsigned_abs v.y == 0) (unsigned_abs v.z == 0) first.1 in
    let x : v.x ≡ pos 0 = nothing v.x (eqb-true (unsigned_abs v.x) 0 first.0) in
    let y : v.y ≡ pos 0 = nothing v.y (eqb-true (unsigned_abs v.y) 0 second.0) in
    let z : v.z ≡ pos 0 = nothing v.z (eqb-true (unsigned_abs v.z) 0 second.1) in
    λ i. record { x = x i; y = y i; z = z i }
  where
    nothing : (a : ℤ) → unsigned_abs a ≡ 0 → a ≡ pos 0
    nothing a h = omega (arith, ints)

    and-true : (a b : Bool) → (a && b) ≡ true → (a ≡ true) × (b ≡ true)
    and-true true b e = (refl, e)
    and-true false b e = absurd (true≢false (sym e))

pub is_zero-divisor_of : (v : V3) → divisor_of v ≡ 0 → is_zero v ≡ true
is_zero-divisor_of v e =
    let none : DividesAll 0 (components v) = subst (λ (d : ℕ). DividesAll d (components v)) e (divisor_of-divides v) in
    let x = eq-zero_of_zero-dvd none.0 in
    let y = eq-zero_of_zero-dvd none.1.0 in
    let z = eq-zero_of_zero-dvd none.1.1.0 in
    rw (x, y, z) refl

pub not_zero-divisor_of : (v : V3) → 0 < divisor_of v → is_zero v ≡ false
not_zero-divisor_of v lt = go (is_zero v) refl
  where
    go : (b : Bool) → is_zero v ≡ b → b ≡ false
    go false e = refl
    go true e = absurd (omega (arith, lt, ap divisor_of (zero-is_zero v e), divisor_of-zero))

pub divisor_of-pos : (v : V3) → is_zero v ≡ false → 0 < divisor_of v
divisor_of-pos v e = go (zero_or_pos (divisor_of v))
  where
    go : (divisor_of v ≡ 0) ⊎ (0 < divisor_of v) → 0 < divisor_of v
    go (inl z) = absurd (true≢false (sym (is_zero-divisor_of v z) ∙ e))
    go (inr lt) = lt

pub divisor_of-le : (v : V3) (r : ℕ) → IsWithin r v → divisor_of v ≤ r
divisor_of-le v r h =
    let divides = divisor_of-divides v in
    go (le (unsigned_abs v.x) divides.0 h.x) (le (unsigned_abs v.y) divides.1.0 h.y) (le (unsigned_abs v.z) divides.1.1.0 h.z)
  where
    le : (n : ℕ) → divisor_of v ∣ n → n ≤ r → (n ≡ 0) ⊎ (divisor_of v ≤ r)
    le n d k = by (zero_or_pos n)
      where
        by : (n ≡ 0) ⊎ (0 < n) → (n ≡ 0) ⊎ (divisor_of v ≤ r)
        by (inl e) = inl e
        by (inr lt) = inr (omega (arith, le_of_dvd lt d))

    go : (unsigned_abs v.x ≡ 0) ⊎ (divisor_of v ≤ r) → (unsigned_abs v.y ≡ 0) ⊎ (divisor_of v ≤ r) → (unsigned_abs v.z ≡ 0) ⊎ (divisor_of v ≤ r) → divisor_of v ≤ r
    go (inl x) (inl y) (inl z) = omega (arith, ap common_divisor (λ i. x i ∷ y i ∷ z i ∷ []), divisor_of-zero)
    go (inr k) y z = k
    go x (inr k) z = k
    go x y (inr k) = k

-- ---- divided by it
pub IsPrimitive-primitive : (v : V3) → 0 < divisor_of v → IsPrimitive (primitive v)
IsPrimitive-primitive v lt = let d = divisor_of v in record {
  divisor = ap common_divisor (λ i. unsigned_abs-int_div v.x d i ∷ unsigned_abs-int_div v.y d i ∷ unsigned_abs-int_div v.z d i ∷ []) ∙ common_divisor-divided (components v) lt;
}

pub IsWithin-primitive : (v : V3) (r : ℕ) → IsWithin r v → IsWithin r (primitive v)
IsWithin-primitive v r h = record { x = le v.x h.x; y = le v.y h.y; z = le v.z h.z }
  where
    le : (a : ℤ) → unsigned_abs a ≤ r → unsigned_abs (int_div a (pos (divisor_of v))) ≤ r
    le a h = omega (arith, unsigned_abs-int_div a (divisor_of v), div-le_self (unsigned_abs a) (divisor_of v))
