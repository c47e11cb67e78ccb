-- Going from copy to copy along the ray offers exactly those whose slab is met.
use Rattle.std.proofs.Common.{◌≡◌, ◌∙◌, refl, sym, ap, subst, true≢false, inl, inr, ℕ, ◌+◌, ◌-◌, ◌<◌, ◌≤◌, Bool, true, false, ℤ, pos, ◌+ℤ◌, ◌*ℤ◌, ◌≤ℤ◌, ◌<ℤ◌, List, [], ◌∷◌, length, map, ◌==◌, unsigned_abs, arith}
use Rattle.std.specs.Prelude.{int_lt, sum_by, if◌then◌else◌}
use Rattle.std.specs.List.{range_with_len}
use Rattle.std.proofs.lemmas.Bool.{cases_lt, cond_both, false_from_ne_true}
use Rattle.std.proofs.lemmas.List.Folds.{fold-map}
use Rattle.std.proofs.lemmas.List.FromFn.{length-map-range_with_len, length-range_with_len}
use Rattle.gx_num.specs.declared.vector.V3.{V3}
use Rattle.gx_num.specs.declared.ray.Ray.{Ray}
use Rattle.gx_num.specs.Vector as vector
use Rattle.gx_num.specs.Ray.{RayParameter, point_of_ray}
use Rattle.gx_num.proofs.Order.{mediant, above_mediant, below_mediant}
use Rattle.gx_offers.specs.Offers.{Offered, IsOneOf}
use Rattle.gx_offers.proofs.Offered.{wider}
use Rattle.gx_voxel.specs.Cut.{coordinate}
use Rattle.gx_voxel.specs.Cells.{Side, Cell, IsInSide}
use Rattle.gx_voxel.proofs.OnAxis.{on-axis}
use Rattle.gx_along.specs.declared.line.Stretch.{Stretch}
use Rattle.gx_along.specs.Line.{time, IsInRun, IsStretch, part_of}
use Rattle.gx_along.specs.Bounds.{tests_within}
use Rattle.gx_along.proofs.Outside.{left-out, entered-out}
use Rattle.gx_along.proofs.Stretches.{part-is-part}
use Rattle.gx_slabs.specs.declared.row.Row.{Row}
use Rattle.gx_slabs.specs.Row.{IsRow, start_of, copy_at, is_left_at, is_entered_at, AreOfferedAlong}
use Rattle.gx_slabs.specs.Slabs.{slab_of, IsSlabMet, AreCopiesOffered}
use Rattle.gx_slabs.proofs.Ranges.{range-has, in-range, map-has, in-map, counted}
use Rattle.gx_slabs.proofs.Rising.{start-next, entered-before}

-- ---- the copies along the ray
module _ (r : Row) where
  by_sign : (P : Bool → Type 0) → (int_lt r.line.d (pos 0) ≡ true → P true) → (int_lt r.line.d (pos 0) ≡ false → P false) → P (int_lt r.line.d (pos 0))
  by_sign P up down = go (int_lt r.line.d (pos 0)) refl
    where
      go : (b : Bool) → int_lt r.line.d (pos 0) ≡ b → P b
      go true e = up e
      go false e = down e

  copy-below : (j : ℕ) → j < r.count → copy_at r j < r.count
  copy-below j less = by_sign (λ b. (if b then r.count - 1 - j else j) < r.count) (λ _. omega (arith, less)) (λ _. less)

  copy-back : (k : ℕ) → k < r.count → copy_at r (copy_at r k) ≡ k
  copy-back k less = by_sign (λ b. (if b then r.count - 1 - (if b then r.count - 1 - k else k) else (if b then r.count - 1 - k else k)) ≡ k) (λ _. omega (arith, less)) (λ _. refl)

-- ---- a term for each copy that passes
tests-is : (met : List Side → Bool) (box : ℕ → List Side) (ks : List ℕ) → tests_within met (map (λ k. record { box = box k; members = k ∷ [] }) ks) ≡ sum_by (λ k. if met (box k) then 1 else 0) ks
tests-is met box ks = fold-map (λ n (c : Cell). n + (if met c.box then length c.members else 0)) (λ k. record { box = box k; members = k ∷ [] }) 0 ks

pub within-coordinate : (axis bound : ℕ) (v : V3) → vector.IsWithin bound v → unsigned_abs (coordinate axis v) ≤ bound
within-coordinate axis bound v within =
    let P : ℤ → Type 0 = λ z. unsigned_abs z ≤ bound in
    cond_both (axis == 0) v.x _ P (λ _. within.x) (λ _. cond_both (axis == 1) v.y v.z P (λ _. within.y) (λ _. within.z))

module _ (axis : ℕ) (low width : ℤ) (count : ℕ) (ray : Ray) (s : Stretch) (direction : axis < 3) (ok : IsStretch s) where
  abbrev pub row : Row
  row = record { line = record { o = coordinate axis ray.o; d = coordinate axis ray.d }; low = low; width = width; count = count }

  abbrev slab : ℕ → Side
  slab k = slab_of axis low width k

  abbrev IsInCopy : ℕ → RayParameter → Type 0
  IsInCopy k t = IsInRun row.line.o row.line.d (start_of row k) (start_of row (k + 1)) t

  in-copy : (k : ℕ) (t : RayParameter) → IsInSide (point_of_ray ray t) (slab k) → IsInCopy k t
  in-copy k t is = subst (λ (at : ℤ). ((start_of row k *ℤ pos t.den) ≤ℤ at) × (at <ℤ (start_of row (k + 1) *ℤ pos t.den))) (on-axis ray t axis) is

  in-slab : (k : ℕ) (t : RayParameter) → IsInCopy k t → IsInSide (point_of_ray ray t) (slab k)
  in-slab k t is = subst (λ (at : ℤ). ((start_of row k *ℤ pos t.den) ≤ℤ at) × (at <ℤ (start_of row (k + 1) *ℤ pos t.den))) (sym (on-axis ray t axis)) is

  module _ (is : IsRow row) (old new : Offered) (along : AreOfferedAlong row s old new) where
    abbrev copies : List ℕ
    copies = map (copy_at row) (range_with_len along.start (along.end - along.start))

    -- one that is met comes
    comes : (k : ℕ) → k < count → IsSlabMet (slab k) ray s → IsOneOf k copies
    comes k less (t, q, within, inside) =
        let j = copy_at row k in
        let below = copy-below row k less in
        let here : IsInCopy (copy_at row j) t = subst (λ i. IsInCopy i t) (sym (copy-back row k less)) (in-copy k t inside) in
        let not_left : is_left_at row (time s.from) j ≡ true → ⊥ = λ e. left-out row.line.o (start_of row (copy_at row j)) (start_of row (copy_at row j + 1)) (time s.from) t ok.0 q row.line.d within.0 e here in
        let not_out : is_entered_at row (time s.to) j ≡ false → ⊥ = λ e. entered-out row.line.o (start_of row (copy_at row j)) (start_of row (copy_at row j + 1)) (time s.to) t ok.1 q row.line.d within.1 e here in
        let from : along.start ≤ j = elim (cases_lt j along.start) [ inl early ↦ absurd (not_left (along.before j early)) | inr more ↦ more ] in
        let to : j < along.end = elim (cases_lt j along.end) [
          | inl early ↦ early
          | inr past ↦ elim along.done [
            | inl whole ↦ absurd (omega (arith, whole, past, below))
            | inr stop ↦ absurd (not_out (false_from_ne_true (is_entered_at row (time s.to) j) (λ e. true≢false (sym (entered-before row is (time s.to) along.end j past below e) ∙ stop))))
          ]
        ] in
        subst (λ i. IsOneOf i copies) (copy-back row k less) (map-has (copy_at row) (range_with_len along.start (along.end - along.start)) j (range-has along.start (along.end - along.start) j from (omega (arith, from, to))))

    -- and each that comes is met
    is_met : (j : ℕ) → along.start ≤ j → j < along.end → IsSlabMet (slab (copy_at row j)) ray s
    is_met j from to =
        let k = copy_at row j in
        let part = part-is-part row.line.o row.line.d (start_of row k) (start_of row (k + 1)) s ok (start-next row is.wide k) (along.after j from (omega (arith, to, along.bound))) (along.entered j from to) in
        let p = part_of row.line.o row.line.d (start_of row k) (start_of row (k + 1)) s in
        let t = mediant (time p.from) (time p.to) in
        let positive : 0 < t.den = omega (arith, part.stretch.0) in
        let in_run = part.inside t positive (above_mediant (time p.from) (time p.to) part.stretch.2, below_mediant (time p.from) (time p.to) part.stretch.2) in
        (t, positive, in_run.0, in-slab k t in_run.1)

    -- they are consecutive, also where the ray goes down
    met_from : (n : ℕ) → n ≡ along.end - along.start → (a : ℕ) × (a + n ≤ count) × ((k : ℕ) → a ≤ k → k < a + n → IsSlabMet (slab k) ray s)
    met_from n e = go (int_lt row.line.d (pos 0)) refl
      where
        Part : Type 0
        Part = (a : ℕ) × (a + n ≤ count) × ((k : ℕ) → a ≤ k → k < a + n → IsSlabMet (slab k) ray s)

        at : (b : Bool) → int_lt row.line.d (pos 0) ≡ b → (j : ℕ) → copy_at row j ≡ (if b then count - 1 - j else j)
        at b f j = ap (λ c. if c then count - 1 - j else j) f

        go : (b : Bool) → int_lt row.line.d (pos 0) ≡ b → Part
        go true f = (
          count - along.end,
          omega (arith, e, along.order, along.bound),
          λ k from to.
              let j = count - 1 - k in
              let less : k < count = omega (arith, to, e, along.order, along.bound) in
              let back : count - 1 - j ≡ k = omega (arith, less) in
              subst (λ i. IsSlabMet (slab i) ray s) (at true f j ∙ back) (is_met j (omega (arith, less, to, e, along.order, along.bound)) (omega (arith, less, from, along.bound))),
        )
        go false f = (along.start, omega (arith, e, along.order, along.bound), λ k from to. subst (λ i. IsSlabMet (slab i) ray s) (at false f k) (is_met k from (omega (arith, e, to, along.order))))

    pub offered : AreCopiesOffered axis low width count ray s old new
    offered = record {
      offered =
          wider (λ _. Unit {0}) (λ k. IsSlabMet (slab k) ray s) copies (range_with_len 0 count) old new
          (λ k one.
          let (j, there, e) = in-map (copy_at row) (range_with_len along.start (along.end - along.start)) k one in
          let (after, before) = in-range along.start (along.end - along.start) j there in
          let below = copy-below row j (omega (arith, before, along.order, along.bound)) in
          range-has 0 count k (omega arith) (omega (arith, e, below)))
          (omega (arith, length-map-range_with_len (copy_at row) along.start (along.end - along.start), length-range_with_len 0 count, along.bound))
          (λ k one due. (let (_, less) = in-range 0 count k one in comes k (omega (arith, less)) due, tt))
          along.offered;
      tests = λ met test.
          let (a, fits, all) = met_from (along.end - along.start) refl in
          let few = counted (λ k. if met (slab k ∷ []) then 1 else 0) a (along.end - along.start) 0 count (omega arith) (omega (arith, fits))
          (λ k from to.
          let (t, q, within, inside) = all k from to in
          let passes : met (slab k ∷ []) ≡ true = test (slab k ∷ []) t q within (inside, tt) in
          subst (λ b. 0 < (if b then 1 else 0)) (sym passes) (omega arith)) in
          omega (arith, few, along.offered.few, length-map-range_with_len (copy_at row) along.start (along.end - along.start), tests-is met (λ k. slab k ∷ []) (range_with_len 0 count));
    }
