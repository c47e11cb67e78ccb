-- Common divisors: each pair has a greatest, it scales with the pair, and division by it leaves none but 1.
use Rattle.std.proofs.Common.{sym, ◌≡◌, ℕ, zero, suc, ◌+◌, ◌*◌, ◌/◌, ◌%◌, ◌<◌, ◌≤◌, refl, subst, arith}
use Rattle.std.specs.Int.{IsGcd, ◌∣◌}
use Rattle.std.proofs.Math.Nat.{one-dvd, mul-dvd-mul_left, dvd_of_mul-dvd-mul_left, mul-div_cancel', mul-lt-mul_of_pos_left, div-mul_cancel, pos_of_dvd_of_pos, dvd-mul_left, dvd-mul_right, eq_of_mul-eq-mul_right}
use Rattle.std.proofs.lemmas.Nat.{mod_below, mod-mul-add, div-add-mod'}
use Rattle.std.proofs.lemmas.Nat.Gcd.{IsGcd-from_zero, IsGcd-from_mod, same_from_IsGcd, dvd_antisymm}

-- the greatest common divisor, which scales with the pair
pub record Divisor (a b : ℕ) : Type 0 where
  pub greatest : ℕ
  pub is : IsGcd a b greatest
  pub scales : (d : ℕ) → IsGcd (a * d) (b * d) (greatest * d)

mod_scaled : (a b d : ℕ) → 0 < b → (a * d) % (b * d) ≡ (a % b) * d
mod_scaled a b zero h =
    let none : a * 0 ≡ 0 = omega arith in
    let same : (a % b) * 0 ≡ 0 = omega arith in
    let modulus : b * 0 ≡ 0 = omega arith in
    rw (none, same, modulus) refl
mod_scaled a b (suc d) h =
    let below : suc d * (a % b) < suc d * b = mul-lt-mul_of_pos_left (mod_below a b h) (omega arith) in
    let fits : (a % b) * suc d < b * suc d = omega arith in
    let whole : a * suc d ≡ a / b * (b * suc d) + (a % b) * suc d =
    subst (λ (x : ℕ). x * suc d ≡ a / b * (b * suc d) + (a % b) * suc d) (div-add-mod' a b) (omega arith) in
    rw whole (mod-mul-add (a / b) (b * suc d) ((a % b) * suc d) fits)

divisor_below : (n a b : ℕ) → b ≤ n → Divisor a b
divisor_below n a zero h = record { greatest = a; is = IsGcd-from_zero a 0 refl; scales = λ d. IsGcd-from_zero (a * d) (0 * d) (omega arith) }
divisor_below zero a (suc b) h = absurd (omega arith)
divisor_below (suc n) a (suc b) h =
    let step = divisor_below n (suc b) (a % suc b) (omega (arith, mod_below a (suc b) (omega arith))) in
    record {
      greatest = step.greatest;
      is = IsGcd-from_mod a (suc b) _ step.is;
      scales = λ d. IsGcd-from_mod (a * d) (suc b * d) _ (rw (mod_scaled a (suc b) d (omega arith)) (step.scales d));
    }

pub divisor : (a b : ℕ) → Divisor a b
divisor a b = divisor_below b a b (omega arith)

-- g times a divisor of a/g divides a
times_back : (a g d : ℕ) → g ∣ a → d ∣ a / g → g * d ∣ a
times_back a g d whole part =
    let e = mul-div_cancel' g whole in
    subst (λ (x : ℕ). g * d ∣ x) e (mul-dvd-mul_left d g part)

pub coprime : (a b g : ℕ) → 0 < g → IsGcd a b g → IsGcd (a / g) (b / g) 1
coprime a b g positive is = (
  one-dvd (a / g),
  one-dvd (b / g),
  λ d l r.
      let below : g * d ∣ g = is.2 (g * d) (times_back a g d is.0 l) (times_back b g d is.1 r) in
      let e : g ≡ g * 1 = omega arith in
      dvd_of_mul-dvd-mul_left d positive (subst (λ (x : ℕ). g * d ∣ x) e below),
)

-- the quotients by a common divisor, crosswise
pub crossed : (a b g : ℕ) → IsGcd a b g → a / g * b ≡ a * (b / g)
crossed a b g is =
    let over = div-mul_cancel g is.1 in
    let under = div-mul_cancel g is.0 in
    subst (λ (x : ℕ). a / g * x ≡ a * (b / g)) over (subst (λ (x : ℕ). a / g * (b / g * g) ≡ x * (b / g)) under (omega arith))

pub positive_gcd : (a b g : ℕ) → 0 < b → IsGcd a b g → 0 < g
positive_gcd a b g h is = pos_of_dvd_of_pos is.1 h

factor_positive : (m g n : ℕ) → m * g ≡ n → 0 < n → 0 < m
factor_positive zero g n e h = omega arith
factor_positive (suc m) g n e h = omega arith

pub positive_quotient : (a b g : ℕ) → 0 < b → IsGcd a b g → 0 < b / g
positive_quotient a b g h is = factor_positive (b / g) g b (div-mul_cancel g is.1) h

-- what divides a product with a number that it shares no divisor with divides the other factor
pub divides_other : (a b d : ℕ) → IsGcd a b 1 → b ∣ a * d → b ∣ d
divides_other a b d one product =
    let g = divisor a b in
    let same = same_from_IsGcd a b g.greatest 1 g.is one in
    let e : g.greatest * d ≡ d = rw same (omega arith) in
    subst (λ (x : ℕ). b ∣ x) e ((g.scales d).2 b product (dvd-mul_right b d))

-- a fraction has one form in lowest terms
pub one_form : (a b c d : ℕ) → 0 < b → IsGcd a b 1 → IsGcd c d 1 → a * d ≡ c * b → (a ≡ c) × (b ≡ d)
one_form a b c d h p q e =
    let left : b ∣ d = divides_other a b d p (subst (λ (x : ℕ). b ∣ x) (sym e) (dvd-mul_left b c)) in
    let right : d ∣ b = divides_other c d b q (subst (λ (x : ℕ). d ∣ x) e (dvd-mul_left d a)) in
    let same : b ≡ d = dvd_antisymm left right in
    (eq_of_mul-eq-mul_right b h a c (rw (← same) at e), same)
