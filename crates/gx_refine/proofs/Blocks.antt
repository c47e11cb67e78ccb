-- What a slice has of the members in a block of slices is what it has of all.
use Rattle.std.proofs.Common.{◌≡◌, ℕ, ◌+◌, ◌<◌, ◌≤◌, refl, sym, ap, ◌∙◌, arith, ℤ, ◌≤ℤ◌, Bool, true, false, cond, ◌&&◌, List, [], ◌∷◌, filter}
use Rattle.std.specs.Prelude.{int_lt}
use Rattle.std.proofs.lemmas.Int.{ints}
use Rattle.gx_num.specs.declared.extent.Extent.{Extent}
use Rattle.gx_voxel.specs.Cut.{Interval, Grid, bound_at, meets}
use Rattle.gx_voxel.proofs.Slices.{bound-rises}
use Rattle.gx_refine.specs.Known.{AreKnown, along}
use Rattle.gx_refine.specs.Near.{members_of, IsNear}
use Rattle.gx_refine.proofs.Parts.{known-filter}

filter-within : {X : Type 0} (test wider : X → Bool) → ((x : X) → test x ≡ true → wider x ≡ true) → (xs : List X) → filter test (filter wider xs) ≡ filter test xs
filter-within test wider implies [] = refl
filter-within test wider implies (x ∷ xs) = go (filter-within test wider implies xs) (wider x) (test x) refl refl
  where
    go : filter test (filter wider xs) ≡ filter test xs → (w t : Bool) → wider x ≡ w → test x ≡ t → filter test (cond w (x ∷ filter wider xs) (filter wider xs)) ≡ cond t (x ∷ filter test xs) (filter test xs)
    go rest true t e f = ap (λ b. cond b (x ∷ filter test (filter wider xs)) (filter test (filter wider xs))) f ∙ ap (λ l. cond t (x ∷ l) l) rest
    go rest false true e f = absurd (let clash : true ≡ false = sym (implies x f) ∙ e in cc)
    go rest false false e f = rest

meets-more : (e : Interval) (from to from' to' : ℤ) → from' ≤ℤ from → to ≤ℤ to' → meets e from to ≡ true → meets e from' to' ≡ true
unfolding meets
meets-more e from to from' to' h k m = go (int_lt e.low to) (int_lt from e.high) refl refl m
  where
    go : (a b : Bool) → int_lt e.low to ≡ a → int_lt from e.high ≡ b → (a && b) ≡ true → (int_lt e.low to' && int_lt from' e.high) ≡ true
    go true true f g m = let p : int_lt e.low to' ≡ true = grind (arith, ints, f, k) in let q : int_lt from' e.high ≡ true = grind (arith, ints, g, h) in cc
    go true false f g m = absurd (let clash : false ≡ true = m in cc)
    go false b f g m = absurd (let clash : false ≡ true = m in cc)

module _ (extents : List Extent) (axis : ℕ) (ks : List ℕ) (grid : Grid) (some : 0 < grid.count) where
  pub near-block : AreKnown extents ks → (i until : ℕ) → i ≤ until → IsNear extents axis ks grid i (members_of (along extents axis) ks grid i until) until
  near-block known i until h = record {
    known = known-filter extents _ ks known;
    reaches = h;
    same = λ j low high. filter-within (λ k. meets (along extents axis k) (bound_at grid j) (bound_at grid (j + 1))) (λ k. meets (along extents axis k) (bound_at grid i) (bound_at grid until))
        (λ k. meets-more (along extents axis k) (bound_at grid j) (bound_at grid (j + 1)) (bound_at grid i) (bound_at grid until) (bound-rises grid some i j low) (bound-rises grid some (j + 1) until (omega arith))) ks;
  }
