-- Going from run to run goes into exactly the runs that are met.
use Rattle.std.proofs.Common.{◌≡◌, ℕ, zero, suc, ◌+◌, ◌-◌, ◌*◌, ◌<◌, ◌≤◌, inl, inr, refl, sym, ap, subst, ◌∙◌, arith, ℤ, pos, ◌-ℤ◌, ◌*ℤ◌, ◌≤ℤ◌, Bool, true, false, not, List, [], ◌∷◌, ◌++◌, length, length-append, get_or}
use Rattle.std.specs.Prelude.{int_lt, int_le, if◌then◌else◌, unsigned_abs, ◌==◌}
use Rattle.std.specs.List.{AllByRecursion}
use Rattle.std.proofs.lemmas.Bool.{cases_lt}
use Rattle.std.proofs.lemmas.Int.{ints}
use Rattle.gx_num.specs.Ray.{RayParameter}
use Rattle.gx_algebra.proofs.Order.{mul-le-left}
use Rattle.gx_offers.specs.Offers.{AnyByRecursion}
use Rattle.gx_voxel.specs.declared.proxy.Header.{Header}
use Rattle.gx_voxel.specs.Proxy.{list_of}
use Rattle.gx_along.specs.declared.line.Stretch.{Stretch}
use Rattle.gx_along.specs.Line.{Seen, time, near, is_left, is_entered, IsStretch, IsPart}
use Rattle.gx_along.specs.Runs.{IsRising, HasRuns, is_before, low_at, high_at}
use Rattle.gx_along.specs.Along.{IsExact, index_of, left_of, is_entered_at, part_at}
use Rattle.gx_along.specs.Walked.{Walks, walked}
use Rattle.std.proofs.lemmas.List.{get_or_append_left}
use Rattle.std.proofs.Math.Seq.{get_or-append_seam}
use Rattle.gx_voxel.proofs.Elements.{any-left, any-right}
use Rattle.gx_along.proofs.Ahead.{before-up, before-down, ahead}
use Rattle.gx_along.proofs.Stretches.{part-is-part}
use Rattle.gx_along.proofs.Outside.{left-out, entered-out}

true-or : (b : Bool) → (b ≡ false → ⊥) → b ≡ true
true-or true h = refl
true-or false h = absurd (h refl)

false-or : (b : Bool) → (b ≡ true → ⊥) → b ≡ false
false-or true h = absurd (h refl)
false-or false h = refl

-- entered later, entered before
entered-le : (a b q : ℤ) (n : ℕ) (rest : Bool) → pos 0 ≤ℤ q → a ≤ℤ b → (if rest then int_le b (pos 0) else int_lt (b *ℤ q) (pos n)) ≡ true → (if rest then int_le a (pos 0) else int_lt (a *ℤ q) (pos n)) ≡ true
entered-le a b q n true above h e = grind (arith, ints, h, e)
entered-le a b q n false above h e = grind (arith, ints, mul-le-left q a b above h, e)

pub entered-falls : (o d low high low' high' : ℤ) (t : RayParameter) → near o d low high ≤ℤ near o d low' high' → is_entered o d low' high' t ≡ true → is_entered o d low high t ≡ true
unfolding is_entered
entered-falls o d low high low' high' t h e = entered-le (near o d low high) (near o d low' high') (pos t.den) (t.num * unsigned_abs d) (unsigned_abs d == 0) (omega (arith, ints)) h e

all-push : {X : Type 0} (P : X → Type 0) (xs : List X) (x : X) → AllByRecursion P xs → P x → AllByRecursion P (xs ++ x ∷ [])
all-push P [] x all one = (one, tt)
all-push P (y ∷ xs) x all one = (all.0, all-push P xs x all.1 one)

module _ (o d : ℤ) (h : Header) (s : Stretch) (seen : List Seen) (ok : IsStretch s) (rising : IsRising h) (has : HasRuns h) (w : Walks o d h s seen) where
  abbrev n : ℕ
  n = length (list_of h)

  abbrev at : ℕ → ℕ
  at m = index_of d w.start m

  index-up : int_lt d (pos 0) ≡ false → (m : ℕ) → at m ≡ w.start + m
  index-up e m = ap (λ b. if b then w.start - 1 - m else w.start + m) e

  index-down : int_lt d (pos 0) ≡ true → (m : ℕ) → at m ≡ w.start - 1 - m
  index-down e m = ap (λ b. if b then w.start - 1 - m else w.start + m) e

  left-up : int_lt d (pos 0) ≡ false → left_of d n w.start ≡ n - w.start
  left-up e = ap (λ b. if b then w.start else n - w.start) e

  left-down : int_lt d (pos 0) ≡ true → left_of d n w.start ≡ w.start
  left-down e = ap (λ b. if b then w.start else n - w.start) e

  -- the place of a run that is gone into
  good : (m : ℕ) → m < left_of d n w.start → (at m < n) × (is_left o d (low_at h (at m)) (high_at h (at m)) (time s.from) ≡ false)
  good m less = ahead o d h (time s.from) w.start w.bound w.first w.rest m less

  parts-of : (k : ℕ) → k ≤ w.steps → AllByRecursion (λ one. (one.index < n) × IsPart o d (low_at h one.index) (high_at h one.index) s one.part) (walked o d h s w.start k)
  parts-of zero less = tt
  parts-of (suc k) less =
      let g = good k (omega (arith, less, w.within)) in
      all-push (λ one. (one.index < n) × IsPart o d (low_at h one.index) (high_at h one.index) s one.part) (walked o d h s w.start k) _
      (parts-of k (omega (arith, less))) (g.0, part-is-part o d (low_at h (at k)) (high_at h (at k)) s ok (has (at k) g.0) g.1 (w.entered k (omega (arith, less))))

  -- where a run that isn't left stands along the ray
  place : (i : ℕ) → i < n → is_left o d (low_at h i) (high_at h i) (time s.from) ≡ false → (m : ℕ) × (m < left_of d n w.start) × (at m ≡ i)
  place i small e = go (int_lt d (pos 0)) refl
    where
      go : (b : Bool) → int_lt d (pos 0) ≡ b → (m : ℕ) × (m < left_of d n w.start) × (at m ≡ i)
      go true f =
          let t : is_before o d h (time s.from) i ≡ true = before-down o d (low_at h i) (high_at h i) (time s.from) f ∙ ap not e in
          let l : i < w.start = elim (cases_lt i w.start) [ inl less ↦ less | inr more ↦ let g = w.rest i more small in absurd (cc) ] in
          (w.start - 1 - i, omega (arith, l, left-down f), omega (arith, l, index-down f (w.start - 1 - i)))
      go false f =
          let t : is_before o d h (time s.from) i ≡ false = before-up o d (low_at h i) (high_at h i) (time s.from) f ∙ e in
          let l : w.start ≤ i = elim (cases_lt i w.start) [ inl less ↦ let g = w.first i less in absurd (cc) | inr more ↦ more ] in
          (i - w.start, omega (arith, l, small, left-up f), omega (arith, l, index-up f (i - w.start)))

  near-rises : (j m : ℕ) → j ≤ m → m < left_of d n w.start → near o d (low_at h (at j)) (high_at h (at j)) ≤ℤ near o d (low_at h (at m)) (high_at h (at m))
  near-rises j m le less = go (int_lt d (pos 0)) refl
    where
      go : (b : Bool) → int_lt d (pos 0) ≡ b → near o d (low_at h (at j)) (high_at h (at j)) ≤ℤ near o d (low_at h (at m)) (high_at h (at m))
      go true e =
          let x : near o d (low_at h (at j)) (high_at h (at j)) ≡ o -ℤ high_at h (at j) = ap (λ b. if b then o -ℤ high_at h (at j) else low_at h (at j) -ℤ o) e in
          let y : near o d (low_at h (at m)) (high_at h (at m)) ≡ o -ℤ high_at h (at m) = ap (λ b. if b then o -ℤ high_at h (at m) else low_at h (at m) -ℤ o) e in
          let k : at m ≤ at j = omega (arith, index-down e j, index-down e m, le) in
          let l : at j < n = omega (arith, index-down e j, less, left-down e, le, w.bound) in
          omega (arith, ints, x, y, rising.highs (at m) (at j) k l)
      go false e =
          let x : near o d (low_at h (at j)) (high_at h (at j)) ≡ low_at h (at j) -ℤ o = ap (λ b. if b then o -ℤ high_at h (at j) else low_at h (at j) -ℤ o) e in
          let y : near o d (low_at h (at m)) (high_at h (at m)) ≡ low_at h (at m) -ℤ o = ap (λ b. if b then o -ℤ high_at h (at m) else low_at h (at m) -ℤ o) e in
          let k : at j ≤ at m = omega (arith, index-up e j, index-up e m, le) in
          let l : at m < n = omega (arith, index-up e m, less, left-up e, w.bound) in
          omega (arith, ints, x, y, rising.lows (at j) (at m) k l)

  listed : (k m : ℕ) → m < k → AnyByRecursion (λ (one : Seen). one.index ≡ at m) (walked o d h s w.start k)
  listed zero m less = absurd (omega (arith, less))
  listed (suc k) m less = elim (cases_lt m k) [
    | inl l ↦ any-left (λ (one : Seen). one.index ≡ at m) (walked o d h s w.start k) _ (listed k m l)
    | inr l ↦ let e : k ≡ m = omega (arith, less, l) in any-right (λ (one : Seen). one.index ≡ at m) (walked o d h s w.start k) _ (inl (ap at e))
  ]

  reached : (m : ℕ) → m < left_of d n w.start → is_entered_at o d h (time s.to) (at m) ≡ true → m < w.steps
  reached m less e = elim (cases_lt m w.steps) [
    | inl l ↦ l
    | inr l ↦ elim w.done [
      | inl all ↦ absurd (omega (arith, all, less, l))
      | inr stop ↦
          let f = entered-falls o d (low_at h (at w.steps)) (high_at h (at w.steps)) (low_at h (at m)) (high_at h (at m)) (time s.to) (near-rises w.steps m l less) e in
          absurd (cc)
    ]
  ]

  length-walked : (k : ℕ) → length (walked o d h s w.start k) ≡ k
  length-walked zero = refl
  length-walked (suc k) = omega (arith, length-append (walked o d h s w.start k) (record { index = at k; part = part_at o d h s (at k) } ∷ []), length-walked k)

  walked-at : (k m : ℕ) (x : Seen) → m < k → (get_or (walked o d h s w.start k) m x).index ≡ at m
  walked-at zero m x less = absurd (omega arith)
  walked-at (suc k) m x less =
      let one : Seen = record { index = at k; part = part_at o d h s (at k) } in
      elim (cases_lt m k) [
        | inl l ↦ ap (λ r. r.index) (get_or_append_left (walked o d h s w.start k) (one ∷ []) x m (omega (arith, length-walked k))) ∙ walked-at k m x l
        | inr l ↦
            let e : length (walked o d h s w.start k) ≡ m = omega (arith, length-walked k) in
            let f : k ≡ m = omega arith in
            ap (λ r. r.index) (ap (λ n. get_or (walked o d h s w.start k ++ one ∷ []) n x) (sym e) ∙ get_or-append_seam (walked o d h s w.start k) one [] x) ∙ ap at f
      ]

  pub exact : IsExact o d h s seen
  exact = subst (IsExact o d h s) (sym w.all) (record {
    start = w.start;
    few = omega (arith, length-walked w.steps, w.within);
    order = λ m x l. walked-at w.steps m x (omega (arith, length-walked w.steps));
    parts = parts-of w.steps (omega arith);
    whole = λ i t small q inside r.
        let left = false-or (is_left o d (low_at h i) (high_at h i) (time s.from)) (λ e. left-out o (low_at h i) (high_at h i) (time s.from) t ok.0 q d inside.0 e r) in
        let entered = true-or (is_entered o d (low_at h i) (high_at h i) (time s.to)) (λ e. entered-out o (low_at h i) (high_at h i) (time s.to) t ok.1 q d inside.1 e r) in
        let p = place i small left in
        let there : is_entered_at o d h (time s.to) (at p.0) ≡ true = ap (λ j. is_entered_at o d h (time s.to) j) p.2 ∙ entered in
        subst (λ j. AnyByRecursion (λ (one : Seen). one.index ≡ j) (walked o d h s w.start w.steps)) p.2 (listed w.steps p.0 (reached p.0 p.1 there));
  })
