-- The laws of sums and products of whole numbers.
use Rattle.std.proofs.Common.{◌≡◌, ℕ, ◌*◌, ℤ, pos, ◌+ℤ◌, ◌*ℤ◌, neg_ℤ, ap, arith}
use borrow.Author.Differences.{ints, up, down, sum_is_lem, neg_is, product_is}

pub zero-add : (a : ℤ) → pos 0 +ℤ a ≡ a
zero-add a = omega (arith, ints)

pub mul_comm : (a b : ℤ) → a *ℤ b ≡ b *ℤ a
mul_comm a b = omega (arith, ints)

pub mul-one : (a : ℤ) → a *ℤ pos 1 ≡ a
mul-one a = omega (arith, ints)

pub one-mul : (a : ℤ) → pos 1 *ℤ a ≡ a
one-mul a = omega (arith, ints)

pub zero-mul : (a : ℤ) → pos 0 *ℤ a ≡ pos 0
zero-mul a = omega (arith, ints)

pub mul-zero : (a : ℤ) → a *ℤ pos 0 ≡ pos 0
mul-zero a = omega (arith, ints)

pub mul-add : (a b c : ℤ) → a *ℤ (b +ℤ c) ≡ a *ℤ b +ℤ a *ℤ c
mul-add a b c =
    omega (arith, ints, ap (λ (t : ℕ). up a * t) (sum_is_lem b c), ap (λ (t : ℕ). down a * t) (sum_is_lem b c))

pub add-mul : (a b c : ℤ) → (a +ℤ b) *ℤ c ≡ a *ℤ c +ℤ b *ℤ c
add-mul a b c =
    omega (arith, ints, ap (λ (t : ℕ). t * up c) (sum_is_lem a b), ap (λ (t : ℕ). t * down c) (sum_is_lem a b))

pub mul_assoc : (a b c : ℤ) → (a *ℤ b) *ℤ c ≡ a *ℤ (b *ℤ c)
mul_assoc a b c =
    omega (arith, ints, ap (λ (t : ℕ). t * up c) (product_is a b).0, ap (λ (t : ℕ). t * down c) (product_is a b).0, ap (λ (t : ℕ). t * up c) (product_is a b).1, ap (λ (t : ℕ). t * down c) (product_is a b).1, ap (λ (t : ℕ). up a * t) (product_is b c).0, ap (λ (t : ℕ). up a * t) (product_is b c).1, ap (λ (t : ℕ). down a * t) (product_is b c).0, ap (λ (t : ℕ). down a * t) (product_is b c).1)

pub neg-mul : (a b : ℤ) → neg_ℤ a *ℤ b ≡ neg_ℤ (a *ℤ b)
neg-mul a b =
    omega (arith, ints, ap (λ (t : ℕ). t * up b) (neg_is a).0, ap (λ (t : ℕ). t * down b) (neg_is a).0, ap (λ (t : ℕ). t * up b) (neg_is a).1, ap (λ (t : ℕ). t * down b) (neg_is a).1)
