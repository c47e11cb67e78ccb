-- Bounds of slices rise, from the least coordinate to the greatest.
use Rattle.std.proofs.Common.{◌≡◌, ℕ, ◌+◌, ◌*◌, ◌/◌, ◌<◌, ◌≤◌, inl, inr, refl, sym, ap, subst, ◌∙◌, arith, ℤ, pos, negsuc, ◌+ℤ◌, ◌-ℤ◌, ◌≤ℤ◌, ◌<ℤ◌, List, [], ◌∷◌, fold, map, length, unsigned_abs}
use Rattle.std.specs.Int.{int_min, int_max}
use Rattle.std.specs.Int.Signed.{≤ℤ_refl}
use Rattle.std.proofs.Math.Nat.{div-mul-le_self, mul-div_left, zero-div, mul-le-mul_left}
use Rattle.std.proofs.lemmas.Nat.{le-div}
use Rattle.std.proofs.lemmas.Int.{ints, int_min_is, int_max_is}
use Rattle.gx_voxel.specs.Cut.{Interval, Grid, least, greatest, grid_of, bound_at}
use Rattle.gx_offers.specs.Offers.{IsOneOf}

module _ (f : ℕ → ℤ) where
  least-first : (z : ℤ) (ks : List ℕ) → fold int_min z (map f ks) ≤ℤ z
  least-first z [] = ≤ℤ_refl z
  least-first z (k ∷ ks) = omega (arith, ints, least-first (int_min z (f k)) ks, int_min_is z (f k))

  least-later : (z : ℤ) (ks : List ℕ) (k : ℕ) → IsOneOf k ks → fold int_min z (map f ks) ≤ℤ f k
  least-later z [] k one = absurd one
  least-later z (j ∷ ks) k (inl e) = subst (λ i. fold int_min z (map f (j ∷ ks)) ≤ℤ f i) (sym e) (omega (arith, ints, least-first (int_min z (f j)) ks, int_min_is z (f j)))
  least-later z (j ∷ ks) k (inr one) = least-later (int_min z (f j)) ks k one

  pub least-each : (ks : List ℕ) (k : ℕ) → IsOneOf k ks → least (map f ks) ≤ℤ f k
  least-each [] k one = absurd one
  least-each (j ∷ ks) k (inl e) = subst (λ i. least (map f (j ∷ ks)) ≤ℤ f i) (sym e) (least-first (f j) ks)
  least-each (j ∷ ks) k (inr one) = least-later (f j) ks k one

  greatest-first : (z : ℤ) (ks : List ℕ) → z ≤ℤ fold int_max z (map f ks)
  greatest-first z [] = ≤ℤ_refl z
  greatest-first z (k ∷ ks) = omega (arith, ints, greatest-first (int_max z (f k)) ks, int_max_is z (f k))

  greatest-later : (z : ℤ) (ks : List ℕ) (k : ℕ) → IsOneOf k ks → f k ≤ℤ fold int_max z (map f ks)
  greatest-later z [] k one = absurd one
  greatest-later z (j ∷ ks) k (inl e) = subst (λ i. f i ≤ℤ fold int_max z (map f (j ∷ ks))) (sym e) (omega (arith, ints, greatest-first (int_max z (f j)) ks, int_max_is z (f j)))
  greatest-later z (j ∷ ks) k (inr one) = greatest-later (int_max z (f j)) ks k one

  pub greatest-each : (ks : List ℕ) (k : ℕ) → IsOneOf k ks → f k ≤ℤ greatest (map f ks)
  greatest-each [] k one = absurd one
  greatest-each (j ∷ ks) k (inl e) = subst (λ i. f i ≤ℤ greatest (map f (j ∷ ks))) (sym e) (greatest-first (f j) ks)
  greatest-each (j ∷ ks) k (inr one) = greatest-later (f j) ks k one

whole : (z : ℤ) → pos 0 <ℤ z → pos (unsigned_abs z) ≡ z
whole (pos n) h = refl
whole (negsuc n) h = absurd (omega (arith, ints, h))

-- where a member has points on the axis
module _ (on : ℕ → Interval) (ks : List ℕ) (k : ℕ) (one : IsOneOf k ks) (order : (on k).low <ℤ (on k).high) where
  abbrev high : ℤ
  high = greatest (map (λ k. (on k).high) ks)

  wide : pos 0 <ℤ (high -ℤ (grid_of on ks).low)
  wide = omega (arith, ints, least-each (λ k. (on k).low) ks k one, greatest-each (λ k. (on k).high) ks k one)

  pub span-is : (grid_of on ks).low +ℤ pos (grid_of on ks).span ≡ high
  span-is = omega (arith, ints, whole (high -ℤ (grid_of on ks).low) wide)

  pub count-some : 0 < (grid_of on ks).count
  count-some = omega (arith, ints, members ks one, whole (high -ℤ (grid_of on ks).low) wide, wide)
    where
      members : (ks : List ℕ) → IsOneOf k ks → 0 < length ks
      members [] one = absurd one
      members (j ∷ ks) one = omega arith

module _ (g : Grid) (some : 0 < g.count) where
  pub bound-rises : (i j : ℕ) → i ≤ j → bound_at g i ≤ℤ bound_at g j
  unfolding bound_at
  bound-rises i j h =
      let q : (g.span * i) / g.count ≤ (g.span * j) / g.count =
      le-div ((g.span * i) / g.count) (g.span * j) g.count some (omega (arith, div-mul-le_self (g.span * i) g.count, mul-le-mul_left g.span h)) in
      omega (arith, ints, q)

  pub bound-first : bound_at g 0 ≡ g.low
  unfolding bound_at
  bound-first =
      let z : g.span * 0 ≡ 0 = omega arith in
      let q : (g.span * 0) / g.count ≡ 0 = ap (λ x. x / g.count) z ∙ zero-div g.count in
      omega (arith, ints, q)

  pub bound-last : bound_at g g.count ≡ g.low +ℤ pos g.span
  unfolding bound_at
  bound-last =
      let q : (g.span * g.count) / g.count ≡ g.span = mul-div_left g.span some in
      omega (arith, ints, q)

  -- where there is a whole coordinate for each slice
  pub bound-next : g.count ≤ g.span → (i : ℕ) → bound_at g i <ℤ bound_at g (i + 1)
  unfolding bound_at
  bound-next wide i =
      let q : (g.span * i) / g.count + 1 ≤ (g.span * (i + 1)) / g.count =
      le-div ((g.span * i) / g.count + 1) (g.span * (i + 1)) g.count some (omega (arith, div-mul-le_self (g.span * i) g.count, wide)) in
      omega (arith, ints, q)
