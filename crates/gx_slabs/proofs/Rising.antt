-- Copies that are left, and copies that are entered, come before the others along the ray.
use Rattle.std.proofs.Common.{◌≡◌, ◌∙◌, refl, sym, ap, true≢false, ℕ, ◌+◌, ◌-◌, ◌*◌, ◌^◌, ◌<◌, ◌≤◌, Bool, true, false, ℤ, pos, ◌+ℤ◌, ◌-ℤ◌, ◌*ℤ◌, ◌≤ℤ◌, ◌<ℤ◌, unsigned_abs, [], ◌∷◌, arith}
use Rattle.std.specs.Prelude.{int_lt, if◌then◌else◌}
use Rattle.std.proofs.lemmas.Bool.{false_from_ne_true}
use Rattle.std.proofs.lemmas.Int.{ints}
use Rattle.std.proofs.Math.IntN.{zero-*ℤ}
use Rattle.gx_num.specs.Ray.{RayParameter}
use Rattle.gx_algebra.proofs.Order.{mul-le-left}
use Rattle.gx_algebra.proofs.Laws.{mul_comm}
use Rattle.gx_algebra.proofs.Ring.{num}
use Rattle.gx_algebra.proofs.Terms.{◌≣◌, ◌⊕◌, ◌⊗◌}
use Rattle.gx_algebra.proofs.Identity.{identity, number}
use Rattle.gx_boxes.specs.Boxes.{reach}
use Rattle.gx_along.specs.Line.{near, far}
use Rattle.gx_along.proofs.Before.{keeps}
use Rattle.gx_along.proofs.Exact.{entered-falls}
use Rattle.gx_along.proofs.Stretches.{left-is}
use Rattle.gx_slabs.specs.declared.row.Row.{Row}
use Rattle.gx_slabs.specs.Row.{IsRow, start_of, copy_at, is_left_at, is_entered_at}

pub start-rises : (r : Row) → pos 0 <ℤ r.width → (i k : ℕ) → i ≤ k → start_of r i ≤ℤ start_of r k
start-rises r wide i k le = omega (arith, ints, mul-le-left r.width (pos i) (pos k) (omega (arith, ints, wide)) (omega (arith, ints, le)), mul_comm r.width (pos i), mul_comm r.width (pos k))

pub start-next : (r : Row) → pos 0 <ℤ r.width → (k : ℕ) → start_of r k <ℤ start_of r (k + 1)
start-next r wide k = omega (arith, ints, wide, product (pos k) r.width, sum k)
  where
    product : (k w : ℤ) → (k +ℤ pos 1) *ℤ w ≡ k *ℤ w +ℤ w
    product = identity (number ∷ number ∷ []) (λ k w. (k ⊕ num (pos 1)) ⊗ w ≣ k ⊗ w ⊕ w) tt

    sum : (k : ℕ) → pos (k + 1) *ℤ r.width ≡ (pos k +ℤ pos 1) *ℤ r.width
    sum k = let e : pos (k + 1) ≡ pos k +ℤ pos 1 = omega (arith, ints) in ap (λ (n : ℤ). n *ℤ r.width) e

one-width : (w : ℤ) → pos 1 *ℤ w ≡ w
one-width = identity (number ∷ []) (λ w. num (pos 1) ⊗ w ≣ w) tt

module _ (r : Row) (is : IsRow r) where
  -- the bounds are between the first and the last
  pub near-start : (k : ℕ) → k ≤ r.count → unsigned_abs (start_of r k) ≤ reach
  near-start k le = omega (arith, ints, start-rises r is.wide 0 k (omega arith), start-rises r is.wide k r.count le, zero-*ℤ r.width, is.from, is.to)

  pub near-width : 0 < r.count → unsigned_abs r.width ≤ 2 ^ 31
  near-width some = omega (arith, ints, near-start 1 (omega (arith, some)), one-width r.width, is.from, is.wide)

  -- along the ray
  copy-up : int_lt r.line.d (pos 0) ≡ false → (j : ℕ) → copy_at r j ≡ j
  copy-up e j = ap (λ b. if b then r.count - 1 - j else j) e

  copy-down : int_lt r.line.d (pos 0) ≡ true → (j : ℕ) → copy_at r j ≡ r.count - 1 - j
  copy-down e j = ap (λ b. if b then r.count - 1 - j else j) e

  abbrev low : ℕ → ℤ
  low j = start_of r (copy_at r j)

  abbrev high : ℕ → ℤ
  high j = start_of r (copy_at r j + 1)

  record IsAhead (j m : ℕ) : Type 0 where
    near_rises : near r.line.o r.line.d (low j) (high j) ≤ℤ near r.line.o r.line.d (low m) (high m)
    far_rises : far r.line.o r.line.d (low j) (high j) ≤ℤ far r.line.o r.line.d (low m) (high m)

  ahead : (j m : ℕ) → j ≤ m → m < r.count → IsAhead j m
  ahead j m le less = by_sign (int_lt r.line.d (pos 0)) refl
    where
      o : ℤ
      o = r.line.o

      by_sign : (b : Bool) → int_lt r.line.d (pos 0) ≡ b → IsAhead j m
      by_sign true e =
          let back : copy_at r m ≤ copy_at r j = omega (arith, copy-down e j, copy-down e m, le) in
          let lows = start-rises r is.wide (copy_at r m) (copy_at r j) back in
          let highs = start-rises r is.wide (copy_at r m + 1) (copy_at r j + 1) (omega (arith, back)) in
          record {
            near_rises = omega (arith, ints, highs, ap (λ b. if b then o -ℤ high j else low j -ℤ o) e, ap (λ b. if b then o -ℤ high m else low m -ℤ o) e);
            far_rises = omega (arith, ints, lows, ap (λ b. if b then o -ℤ low j else high j -ℤ o) e, ap (λ b. if b then o -ℤ low m else high m -ℤ o) e);
          }
      by_sign false e =
          let on : copy_at r j ≤ copy_at r m = omega (arith, copy-up e j, copy-up e m, le) in
          let lows = start-rises r is.wide (copy_at r j) (copy_at r m) on in
          let highs = start-rises r is.wide (copy_at r j + 1) (copy_at r m + 1) (omega (arith, on)) in
          record {
            near_rises = omega (arith, ints, lows, ap (λ b. if b then o -ℤ high j else low j -ℤ o) e, ap (λ b. if b then o -ℤ high m else low m -ℤ o) e);
            far_rises = omega (arith, ints, highs, ap (λ b. if b then o -ℤ low j else high j -ℤ o) e, ap (λ b. if b then o -ℤ low m else high m -ℤ o) e);
          }

  left-falls : (t : RayParameter) (j m : ℕ) → j ≤ m → m < r.count → is_left_at r t m ≡ true → is_left_at r t j ≡ true
  left-falls t j m le less e =
      left-is r.line.o r.line.d (low j) (high j) t
      ∙ keeps (far r.line.o r.line.d (low j) (high j)) (far r.line.o r.line.d (low m) (high m)) (pos (t.num * unsigned_abs r.line.d)) (pos t.den) (omega (arith, ints)) (ahead j m le less).far_rises (sym (left-is r.line.o r.line.d (low m) (high m) t) ∙ e)

  pub entered-before : (t : RayParameter) (j m : ℕ) → j ≤ m → m < r.count → is_entered_at r t m ≡ true → is_entered_at r t j ≡ true
  entered-before t j m le less e = entered-falls r.line.o r.line.d (low j) (high j) (low m) (high m) t (ahead j m le less).near_rises e

  -- a step of the search that goes up
  pub up : (t : RayParameter) (m : ℕ) → m < r.count → is_left_at r t m ≡ true → (j : ℕ) → j < m + 1 → is_left_at r t j ≡ true
  up t m less e j before = left-falls t j m (omega (arith, before)) less e

  -- and one that goes down
  pub down : (t : RayParameter) (m : ℕ) → is_left_at r t m ≡ false → (j : ℕ) → m ≤ j → j < r.count → is_left_at r t j ≡ false
  down t m e j after less = false_from_ne_true (is_left_at r t j) (λ f. true≢false (sym (left-falls t m j after less f) ∙ e))
