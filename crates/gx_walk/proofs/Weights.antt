-- Different numbers below a bound, which have all that count for something, count together for as much as all numbers below it.
use Rattle.std.proofs.Common.{◌≡◌, ℕ, zero, suc, ◌+◌, ◌<◌, ◌≤◌, inl, inr, refl, sym, ap, arith, Bool, true, false, eqb-true, eq-eqb, List, [], ◌∷◌, nat_eq}
use Rattle.std.specs.Prelude.{sum_by, if◌then◌else◌}
use Rattle.std.specs.List.{AllByRecursion, IsDistinct}
use Rattle.std.proofs.lemmas.List.Sums.{sum_by-cons}
use Rattle.gx_offers.specs.Offers.{IsOneOf}

-- the sum over all numbers below a bound
unfoldable pub sum_below : (ℕ → ℕ) → ℕ → ℕ
sum_below w zero = 0
sum_below w (suc n) = w n + sum_below w n

-- without a number
abbrev cleared : ℕ → (ℕ → ℕ) → ℕ → ℕ
cleared k w j = if nat_eq k j then 0 else w j

at-cleared : (k : ℕ) (w : ℕ → ℕ) → cleared k w k ≡ 0
at-cleared k w = ap (λ b. if b then 0 else w k) (eq-eqb k k refl)

off-cleared : (k : ℕ) (w : ℕ → ℕ) (j : ℕ) → nat_eq k j ≡ false → cleared k w j ≡ w j
off-cleared k w j e = ap (λ b. if b then 0 else w j) e

differ : (k j : ℕ) → (k ≡ j → ⊥) → nat_eq k j ≡ false
differ k j h = go (nat_eq k j) refl
  where
    go : (b : Bool) → nat_eq k j ≡ b → nat_eq k j ≡ false
    go true e = absurd (h (eqb-true k j e))
    go false e = e

below-cleared : (k : ℕ) (w : ℕ → ℕ) (n : ℕ) → n ≤ k → sum_below (cleared k w) n ≡ sum_below w n
unfolding sum_below
below-cleared k w zero h = refl
below-cleared k w (suc n) h =
    let one = off-cleared k w n (differ k n (λ e. omega (arith, h, e))) in
    omega (arith, one, below-cleared k w n (omega (arith, h)))

one-of-sum : (k : ℕ) (w : ℕ → ℕ) (n : ℕ) → k < n → sum_below w n ≡ w k + sum_below (cleared k w) n
unfolding sum_below
one-of-sum k w zero h = absurd (omega (arith, h))
one-of-sum k w (suc n) h = go (nat_eq k n) refl (one-of-sum k w n)
  where
    go : (b : Bool) → nat_eq k n ≡ b → (k < n → sum_below w n ≡ w k + sum_below (cleared k w) n) → w n + sum_below w n ≡ w k + (cleared k w n + sum_below (cleared k w) n)
    go true e rec =
        let is : k ≡ n = eqb-true k n e in
        let none : cleared k w n ≡ 0 = ap (λ b. if b then 0 else w n) e in
        omega (arith, none, ap w is, below-cleared k w n (omega (arith, is)))
    go false e rec =
        let some : k < n = grind (arith, e, h) in
        omega (arith, off-cleared k w n e, rec some)

sum-cleared : (k : ℕ) (w : ℕ → ℕ) (ks : List ℕ) → AllByRecursion (λ j. nat_eq k j ≡ false) ks → sum_by (cleared k w) ks ≡ sum_by w ks
sum-cleared k w [] h = refl
sum-cleared k w (j ∷ ks) h = omega (arith, off-cleared k w j h.0, sum-cleared k w ks h.1, sum_by-cons (cleared k w) j ks, sum_by-cons w j ks)

nothing : (w : ℕ → ℕ) (n : ℕ) → ((j : ℕ) → j < n → 0 < w j → ⊥) → sum_below w n ≡ 0
unfolding sum_below
nothing w zero h = refl
nothing w (suc n) h =
    let one : w n ≡ 0 = by (w n) (h n (omega arith)) in
    omega (arith, one, nothing w n (λ j less. h j (omega (arith, less))))
  where
    by : (x : ℕ) → (0 < x → ⊥) → x ≡ 0
    by zero k = refl
    by (suc x) k = absurd (k (omega arith))

pub sum-whole : (w : ℕ → ℕ) (n : ℕ) (ks : List ℕ) → IsDistinct nat_eq ks → AllByRecursion (λ k. k < n) ks → ((j : ℕ) → j < n → 0 < w j → IsOneOf j ks) → sum_by w ks ≡ sum_below w n
unfolding IsDistinct
sum-whole w n [] distinct below whole = sym (nothing w n whole)
sum-whole w n (k ∷ ks) distinct below whole =
    let rest = sum-whole (cleared k w) n ks distinct.1 below.1 (λ j less some. still j (whole j less (kept j some)) some) in
    omega (arith, sum_by-cons w k ks, sum-cleared k w ks distinct.0, rest, one-of-sum k w n below.0)
  where
    kept : (j : ℕ) → 0 < cleared k w j → 0 < w j
    kept j some = go (nat_eq k j) refl
      where
        go : (b : Bool) → nat_eq k j ≡ b → 0 < w j
        go true e = absurd (omega (arith, some, ap (λ b. if b then 0 else w j) e))
        go false e = omega (arith, some, off-cleared k w j e)

    still : (j : ℕ) → IsOneOf j (k ∷ ks) → 0 < cleared k w j → IsOneOf j ks
    still j (inl e) some = absurd (omega (arith, some, ap (cleared k w) e, at-cleared k w))
    still j (inr is) some = is
