-- Cells in a row, along one axis: at a point with the weight w the product of w and a cell's centre.
use Rattle.std.proofs.Common.{◌≡◌, ℤ, pos, ◌+ℤ◌, ◌-ℤ◌, ◌*ℤ◌, neg_ℤ, ◌≤ℤ◌, ◌<ℤ◌, [], ◌∷◌, arith}
use Rattle.gx_algebra.proofs.Ring.{num}
use Rattle.gx_algebra.proofs.Terms.{◌≣◌, ◌⊕◌, ◌⊖◌, ◌⊗◌}
use Rattle.gx_algebra.proofs.Identity.{identity, number}
use Rattle.gx_algebra.proofs.Order.{mul-le-left}
use borrow.Author.Differences.{ints}

-- the centre of cell i of a row of half the length h
abbrev pub centre : ℤ → ℤ → ℤ
centre h i = (pos 10 -ℤ h) +ℤ i *ℤ pos 20

centre_times : (w h i : ℤ) → w *ℤ centre h i ≡ (pos 10 *ℤ w -ℤ w *ℤ h) +ℤ pos 20 *ℤ (w *ℤ i)
centre_times = identity (number ∷ number ∷ number ∷ []) (λ w h i. w ⊗ ((num (pos 10) ⊖ h) ⊕ i ⊗ num (pos 20)) ≣ (num (pos 10) ⊗ w ⊖ w ⊗ h) ⊕ num (pos 20) ⊗ (w ⊗ i)) tt

wider : (w h : ℤ) → (h +ℤ pos 20) *ℤ w ≡ w *ℤ h +ℤ pos 20 *ℤ w
wider = identity (number ∷ number ∷ []) (λ w h. (h ⊕ num (pos 20)) ⊗ w ≣ w ⊗ h ⊕ num (pos 20) ⊗ w) tt

next_times : (w i : ℤ) → w *ℤ (pos 10 *ℤ i +ℤ pos 10) ≡ pos 10 *ℤ (w *ℤ i) +ℤ pos 10 *ℤ w
next_times = identity (number ∷ number ∷ []) (λ w i. w ⊗ (num (pos 10) ⊗ i ⊕ num (pos 10)) ≣ num (pos 10) ⊗ (w ⊗ i) ⊕ num (pos 10) ⊗ w) tt

more_times : (w i : ℤ) → w *ℤ (i +ℤ pos 1) ≡ w *ℤ i +ℤ w
more_times = identity (number ∷ number ∷ []) (λ w i. w ⊗ (i ⊕ num (pos 1)) ≣ w ⊗ i ⊕ w) tt

none_times : (w : ℤ) → w *ℤ pos 0 ≡ pos 0
none_times w = omega (arith, ints)

-- a cell of the row is within its half length
module _ (w h i x : ℤ) (weight : pos 0 <ℤ w) (from : pos 0 ≤ℤ i) (to : (pos 10 *ℤ i +ℤ pos 10) ≤ℤ h) where
  pub below_end : (x -ℤ w *ℤ centre h i) ≤ℤ (pos 10 *ℤ w) → x ≤ℤ ((h +ℤ pos 20) *ℤ w)
  below_end is = omega (arith, ints, is, weight, centre_times w h i, wider w h, next_times w i, mul-le-left w (pos 10 *ℤ i +ℤ pos 10) h (omega (arith, ints, weight)) to)

  pub above_end : neg_ℤ (x -ℤ w *ℤ centre h i) ≤ℤ (pos 10 *ℤ w) → neg_ℤ x ≤ℤ ((h +ℤ pos 20) *ℤ w)
  above_end is = omega (arith, ints, is, weight, centre_times w h i, wider w h, none_times w, mul-le-left w (pos 0) i (omega (arith, ints, weight)) from)

-- no coordinate is inside two cells of the row
pub apart : (w h i j x : ℤ) → pos 0 <ℤ w → (i +ℤ pos 1) ≤ℤ j → (x -ℤ w *ℤ centre h i) <ℤ (pos 10 *ℤ w) → neg_ℤ (x -ℤ w *ℤ centre h j) <ℤ (pos 10 *ℤ w) → ⊥
apart w h i j x weight later first second =
    omega (arith, ints, first, second, centre_times w h i, centre_times w h j, more_times w i, mul-le-left w (i +ℤ pos 1) j (omega (arith, ints, weight)) later)
