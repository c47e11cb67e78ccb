-- Runs before the one sought come first.
use Rattle.std.proofs.Common.{◌≡◌, ℕ, zero, suc, ◌+◌, ◌*◌, ◌<◌, ◌≤◌, refl, ap, arith, ℤ, pos, ◌-ℤ◌, ◌*ℤ◌, ◌≤ℤ◌, Bool, true, false, not, List, [], ◌∷◌, length, map, get_or}
use Rattle.std.specs.Prelude.{int_lt, int_le, if◌then◌else◌, unsigned_abs}
use Rattle.std.proofs.lemmas.Int.{ints}
use Rattle.gx_num.specs.Ray.{RayParameter}
use Rattle.gx_algebra.proofs.Order.{mul-le-left}
use Rattle.gx_voxel.specs.declared.proxy.Header.{Header}
use Rattle.gx_voxel.specs.Proxy.{list_of}
use Rattle.gx_along.specs.Line.{is_left}
use Rattle.gx_along.specs.Runs.{IsRising, is_run_before, is_before, low_at, high_at}

pub read : {X : Type 0} (f : X → ℤ) (xs : List X) (i : ℕ) (x : X) → i < length xs → x ≡ get_or xs i x → f x ≡ get_or (map f xs) i (pos 0)
read f [] i x h e = absurd (omega (arith, h))
read f (y ∷ ys) zero x h e = ap f e
read f (y ∷ ys) (suc i) x h e = read f ys i x (omega (arith, h)) e

pub keeps : (a b n q : ℤ) → pos 0 ≤ℤ q → a ≤ℤ b → int_le (b *ℤ q) n ≡ true → int_le (a *ℤ q) n ≡ true
keeps a b n q above h e = grind (arith, ints, mul-le-left q a b above h, e)

keeps-not : (a b n q : ℤ) → pos 0 ≤ℤ q → a ≤ℤ b → int_le (a *ℤ q) n ≡ false → int_le (b *ℤ q) n ≡ false
keeps-not a b n q above h e = grind (arith, ints, mul-le-left q a b above h, e)

pub from-not : (b : Bool) → not b ≡ true → b ≡ false
from-not true e = absurd (cc)
from-not false e = refl

module _ (o d : ℤ) (h : Header) (t : RayParameter) (rising : IsRising h) where
  falls : (i j : ℕ) → i ≤ j → j < length (list_of h) → is_before o d h t j ≡ true → is_before o d h t i ≡ true
  unfolding is_run_before is_left
  falls i j k l e = go (int_lt d (pos 0)) e
    where
      go : (b : Bool)
          → (if b then not (int_le ((if b then o -ℤ low_at h j else high_at h j -ℤ o) *ℤ pos t.den) (pos (t.num * unsigned_abs d))) else int_le ((if b then o -ℤ low_at h j else high_at h j -ℤ o) *ℤ pos t.den) (pos (t.num * unsigned_abs d))) ≡ true
          → (if b then not (int_le ((if b then o -ℤ low_at h i else high_at h i -ℤ o) *ℤ pos t.den) (pos (t.num * unsigned_abs d))) else int_le ((if b then o -ℤ low_at h i else high_at h i -ℤ o) *ℤ pos t.den) (pos (t.num * unsigned_abs d))) ≡ true
      go true e = ap not (keeps-not (o -ℤ low_at h j) (o -ℤ low_at h i) (pos (t.num * unsigned_abs d)) (pos t.den) (omega (arith, ints)) (omega (arith, ints, rising.lows i j k l)) (from-not _ e))
      go false e = keeps (high_at h i -ℤ o) (high_at h j -ℤ o) (pos (t.num * unsigned_abs d)) (pos t.den) (omega (arith, ints)) (omega (arith, ints, rising.highs i j k l)) e

  -- a step of the search that goes up
  pub up : (m : ℕ) → m < length (list_of h) → is_before o d h t m ≡ true → (i : ℕ) → i < m + 1 → is_before o d h t i ≡ true
  up m l e i k = falls i m (omega (arith, k)) l e

  -- and one that goes down
  pub down : (m : ℕ) → is_before o d h t m ≡ false → (i : ℕ) → m ≤ i → i < length (list_of h) → is_before o d h t i ≡ false
  down m e i k l = go (is_before o d h t i) refl
    where
      go : (b : Bool) → is_before o d h t i ≡ b → b ≡ false
      go true f = let g = falls m i k l f in absurd (cc)
      go false f = refl
