-- Order and sign of products of whole numbers, for certificates: a fact that is to be shown, times something above 0, is a sum of
-- products of facts that are known.
use Rattle.std.proofs.Common.{◌≡◌, ◌≢◌, [], ◌∷◌, ℤ, pos, negsuc, zero, suc, ◌-ℤ◌, ◌*ℤ◌, neg_ℤ, ◌≤ℤ◌, ◌<ℤ◌, ◌⊎◌, inl, inr, arith, mul-pos}
use Rattle.std.proofs.lemmas.Int.{by_lt_z}
use Rattle.gx_algebra.proofs.Terms.{◌≣◌, ◌⊖◌, ◌⊗◌}
use Rattle.gx_algebra.proofs.Identity.{identity, number}
use Rattle.gx_algebra.proofs.Ring.{opp}
use borrow.Author.Differences.{ints}

-- ---- differences under a product
pub mul-sub : (a b c : ℤ) → a *ℤ (b -ℤ c) ≡ (a *ℤ b) -ℤ (a *ℤ c)
mul-sub = identity (number ∷ number ∷ number ∷ []) (λ a b c. a ⊗ (b ⊖ c) ≣ a ⊗ b ⊖ a ⊗ c) tt

pub neg-mul-neg : (a b : ℤ) → neg_ℤ a *ℤ neg_ℤ b ≡ a *ℤ b
neg-mul-neg = identity (number ∷ number ∷ []) (λ a b. opp a ⊗ opp b ≣ a ⊗ b) tt

pub mul-neg : (a b : ℤ) → a *ℤ neg_ℤ b ≡ neg_ℤ (a *ℤ b)
mul-neg = identity (number ∷ number ∷ []) (λ a b. a ⊗ opp b ≣ opp (a ⊗ b)) tt

-- ---- signs
pub mul_nonneg : (a b : ℤ) → pos 0 ≤ℤ a → pos 0 ≤ℤ b → pos 0 ≤ℤ (a *ℤ b)
mul_nonneg (pos a) (pos b) h k = omega (arith, ints)
mul_nonneg (pos a) (negsuc b) h k = absurd (omega (arith, ints))
mul_nonneg (negsuc a) b h k = absurd (omega (arith, ints))

pub mul_pos : (a b : ℤ) → pos 0 <ℤ a → pos 0 <ℤ b → pos 0 <ℤ (a *ℤ b)
mul_pos (pos a) (pos b) h k = omega (arith, ints, mul-pos {m = a} {n = b} (omega (arith, ints)) (omega (arith, ints)))
mul_pos (pos a) (negsuc b) h k = absurd (omega (arith, ints))
mul_pos (negsuc a) b h k = absurd (omega (arith, ints))

pub square_nonneg : (a : ℤ) → pos 0 ≤ℤ (a *ℤ a)
square_nonneg (pos a) = omega (arith, ints)
square_nonneg (negsuc a) = omega (arith, ints)

-- below, at or above 0
pub by_sign : {P : Type 0} (a : ℤ) → (a <ℤ pos 0 → P) → (a ≡ pos 0 → P) → (pos 0 <ℤ a → P) → P
by_sign (pos zero) low same high = same (omega (arith, ints))
by_sign (pos (suc n)) low same high = high (omega (arith, ints))
by_sign (negsuc n) low same high = low (omega (arith, ints))

pub mul_neg_neg : (a b : ℤ) → a <ℤ pos 0 → b <ℤ pos 0 → pos 0 <ℤ (a *ℤ b)
mul_neg_neg a b h k =
    omega (arith, ints, mul_pos (neg_ℤ a) (neg_ℤ b) (omega (arith, ints)) (omega (arith, ints)), neg-mul-neg a b)

pub mul_pos_neg : (a b : ℤ) → pos 0 <ℤ a → b <ℤ pos 0 → (a *ℤ b) <ℤ pos 0
mul_pos_neg a b h k = omega (arith, ints, mul_pos a (neg_ℤ b) h (omega (arith, ints)), mul-neg a b)

pub mul_nonneg_nonpos : (a b : ℤ) → pos 0 ≤ℤ a → b ≤ℤ pos 0 → (a *ℤ b) ≤ℤ pos 0
mul_nonneg_nonpos a b h k = omega (arith, ints, mul_nonneg a (neg_ℤ b) h (omega (arith, ints)), mul-neg a b)

pub square_pos : (a : ℤ) → a ≢ pos 0 → pos 0 <ℤ (a *ℤ a)
square_pos a h = by_sign a (λ n. mul_neg_neg a a n n) (λ e. absurd (h e)) (λ p. mul_pos a a p p)

-- a product is 0 only where a factor is
pub mul-eq-zero : (a b : ℤ) → a *ℤ b ≡ pos 0 → (a ≡ pos 0) ⊎ (b ≡ pos 0)
mul-eq-zero a b e =
    by_sign a
    (λ n. by_sign b (λ m. absurd (omega (arith, ints, mul_neg_neg a b n m))) inr
    (λ p. absurd (omega (arith, ints, mul_pos_neg b a p n, comm a b))))
    inl
    (λ q. by_sign b (λ m. absurd (omega (arith, ints, mul_pos_neg a b q m))) inr
    (λ p. absurd (omega (arith, ints, mul_pos a b q p))))
  where
    comm : (a b : ℤ) → a *ℤ b ≡ b *ℤ a
    comm a b = omega (arith, ints)

-- ---- a factor keeps an order, and gives it back
pub mul-le-left : (c a b : ℤ) → pos 0 ≤ℤ c → a ≤ℤ b → (c *ℤ a) ≤ℤ (c *ℤ b)
mul-le-left c a b h k = omega (arith, ints, mul_nonneg c (b -ℤ a) h (omega (arith, ints)), mul-sub c b a)

pub mul-lt-left : (c a b : ℤ) → pos 0 <ℤ c → a <ℤ b → (c *ℤ a) <ℤ (c *ℤ b)
mul-lt-left c a b h k = omega (arith, ints, mul_pos c (b -ℤ a) h (omega (arith, ints)), mul-sub c b a)

pub le_of_mul-le-left : (c a b : ℤ) → pos 0 <ℤ c → (c *ℤ a) ≤ℤ (c *ℤ b) → a ≤ℤ b
le_of_mul-le-left c a b h k = by_lt_z b a (λ lt. absurd (omega (arith, ints, mul-lt-left c b a h lt))) (λ le. le)

-- ---- what a product above 0 says of a factor
pub nonneg_of_mul : (c a : ℤ) → pos 0 <ℤ c → pos 0 ≤ℤ (c *ℤ a) → pos 0 ≤ℤ a
nonneg_of_mul c a h k = by_lt_z a (pos 0) (λ n. absurd (omega (arith, ints, mul_pos_neg c a h n))) (λ le. le)

pub pos_of_mul : (c a : ℤ) → pos 0 ≤ℤ c → pos 0 <ℤ (c *ℤ a) → pos 0 <ℤ a
pos_of_mul c a h k = by_lt_z (pos 0) a (λ lt. lt) (λ le. absurd (omega (arith, ints, mul_nonneg_nonpos c a h le)))

pub zero_of_mul : (c a : ℤ) → pos 0 <ℤ c → c *ℤ a ≡ pos 0 → a ≡ pos 0
zero_of_mul c a h e = by_sign a (λ n. absurd (omega (arith, ints, mul_pos_neg c a h n))) (λ z. z) (λ p. absurd (omega (arith, ints, mul_pos c a h p)))
