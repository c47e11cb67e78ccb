-- A half has a binary digit less.
use Rattle.std.proofs.Common.{◌≡◌, ℕ, zero, suc, ◌+◌, ◌/◌, ◌<◌, ◌≤◌, refl, arith}
use Rattle.gx_along.specs.Digits.{digits, digits_up_to}

step : (f n : ℕ) → digits_up_to (suc f) (suc n) ≡ 1 + digits_up_to f (suc n / 2)
step f n = refl

more-digits : (f g m n : ℕ) → m ≤ n → n ≤ g → digits_up_to f m ≤ digits_up_to g n
more-digits zero g m n h k = omega arith
more-digits (suc f) g zero n h k = omega arith
more-digits (suc f) zero (suc m) n h k = absurd (omega (arith, h, k))
more-digits (suc f) (suc g) (suc m) zero h k = absurd (omega (arith, h))
more-digits (suc f) (suc g) (suc m) (suc n) h k = omega (arith, step f m, step g n, more-digits f g (suc m / 2) (suc n / 2) (omega (arith, h)) (omega (arith, k)))

-- less than half
pub half : (m n : ℕ) → m ≤ n / 2 → 0 < n → digits m + 1 ≤ digits n
unfolding digits
half m zero h k = absurd (omega (arith, k))
half m (suc n) h k = omega (arith, step n n, more-digits m n m (suc n / 2) h (omega arith))
