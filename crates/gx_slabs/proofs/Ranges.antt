-- Numbers of a range, and how many of them a sum counts.
use Rattle.std.proofs.Common.{◌≡◌, inl, inr, ℕ, zero, suc, ◌+◌, ◌<◌, ◌≤◌, List, [], ◌∷◌, map, refl, ap, arith}
use Rattle.std.specs.Prelude.{sum_by}
use Rattle.std.specs.List.{range_with_len}
use Rattle.std.proofs.lemmas.Bool.{cases_lt}
use Rattle.std.proofs.lemmas.List.Sums.{sum_by-cons}
use Rattle.gx_offers.specs.Offers.{IsOneOf}

pub range-has : (a n k : ℕ) → a ≤ k → k < a + n → IsOneOf k (range_with_len a n)
range-has a zero k from to = absurd (omega (arith, from, to))
range-has a (suc n) k from to = elim (cases_lt a k) [
  | inl less ↦ inr (range-has (a + 1) n k (omega (arith, less)) (omega (arith, to)))
  | inr more ↦ inl (omega (arith, from, more))
]

pub in-range : (a n k : ℕ) → IsOneOf k (range_with_len a n) → (a ≤ k) × (k < a + n)
in-range a zero k one = absurd one
in-range a (suc n) k (inl e) = (omega (arith, e), omega (arith, e))
in-range a (suc n) k (inr one) = let is = in-range (a + 1) n k one in (omega (arith, is.0), omega (arith, is.1))

pub map-has : (f : ℕ → ℕ) (ks : List ℕ) (k : ℕ) → IsOneOf k ks → IsOneOf (f k) (map f ks)
map-has f [] k one = absurd one
map-has f (j ∷ ks) k (inl e) = inl (ap f e)
map-has f (j ∷ ks) k (inr one) = inr (map-has f ks k one)

pub in-map : (f : ℕ → ℕ) (ks : List ℕ) (k : ℕ) → IsOneOf k (map f ks) → (j : ℕ) × IsOneOf j ks × (k ≡ f j)
in-map f [] k one = absurd one
in-map f (j ∷ ks) k (inl e) = (j, inl refl, e)
in-map f (j ∷ ks) k (inr one) = let is = in-map f ks k one in (is.0, inr is.1, is.2)

-- a sum over a range is at least the length of a part on which each term is above 0
pub counted : (g : ℕ → ℕ) (a n b m : ℕ) → b ≤ a → a + n ≤ b + m → ((k : ℕ) → a ≤ k → k < a + n → 0 < g k) → n ≤ sum_by g (range_with_len b m)
counted g a n b zero from to each = omega (arith, from, to)
counted g a zero b (suc m) from to each = omega arith
counted g a (suc n) b (suc m) from to each = elim (cases_lt b a) [
  | inl less ↦ omega (arith, sum_by-cons g b (range_with_len (b + 1) m), counted g a (suc n) (b + 1) m (omega (arith, less)) (omega (arith, to)) each)
  | inr more ↦
      let rest = counted g (a + 1) n (b + 1) m (omega (arith, from)) (omega (arith, to)) (λ k after before. each k (omega (arith, after)) (omega (arith, before))) in
      omega (arith, sum_by-cons g b (range_with_len (b + 1) m), rest, each b (omega (arith, more)) (omega (arith, from)))
]
