-- A run that is left when a stretch begins, or isn't entered before it ends, has no point of the stretch.
use Rattle.std.proofs.Common.{◌≡◌, [], ◌∷◌, ℕ, zero, suc, ◌*◌, ◌<◌, sym, ap, subst, ◌∙◌, arith, ℤ, pos, negsuc, ◌-ℤ◌, ◌*ℤ◌, ◌≤ℤ◌, ◌<ℤ◌, true, false}
use Rattle.std.specs.Prelude.{int_lt, int_le, if◌then◌else◌}
use Rattle.std.proofs.lemmas.Int.{ints, by_lt_z}
use Rattle.gx_num.specs.Ray.{RayParameter}
use Rattle.gx_num.specs.Ray.{IsBelow}
use Rattle.gx_algebra.proofs.Order.{mul_pos, mul-le-left, mul-lt-left, le_of_mul-le-left}
use Rattle.gx_algebra.proofs.Terms.{◌≣◌, ◌⊗◌}
use Rattle.gx_algebra.proofs.Identity.{identity, number}
use Rattle.gx_along.specs.Line.{near, far, is_left, is_entered, IsInRun}
use Rattle.gx_along.proofs.Stretches.{up-out, down-out, left-is, entered-is, pos-mul}

-- ---- fractions
swap : (x y z : ℤ) → x *ℤ (y *ℤ z) ≡ z *ℤ (y *ℤ x)
swap = identity (number ∷ number ∷ number ∷ []) (λ x y z. x ⊗ (y ⊗ z) ≣ z ⊗ (y ⊗ x)) tt

fraction-le_trans : (a b c d e f : ℤ) → pos 0 <ℤ b → pos 0 <ℤ d → pos 0 <ℤ f → (a *ℤ d) ≤ℤ (c *ℤ b) → (c *ℤ f) ≤ℤ (e *ℤ d) → (a *ℤ f) ≤ℤ (e *ℤ b)
fraction-le_trans a b c d e f hb hd hf h k =
    le_of_mul-le-left d (a *ℤ f) (e *ℤ b) hd (omega (arith, ints, swap d a f, swap f c b, swap b e d, mul-le-left f (a *ℤ d) (c *ℤ b) (omega (arith, ints)) h, mul-le-left b (c *ℤ f) (e *ℤ d) (omega (arith, ints)) k))

-- fractions of naturals, compared over whole numbers
whole-below : (s t : RayParameter) → IsBelow s t → (pos s.num *ℤ pos t.den) <ℤ (pos t.num *ℤ pos s.den)
whole-below s t h = omega (arith, ints, h, pos-mul s.num t.den, pos-mul t.num s.den)

weak : {a b : ℤ} → a <ℤ b → a ≤ℤ b
weak h = omega (arith, ints, h)

module _ (y z : ℤ) (D : ℕ) (some : 0 < D) where
  passed : (s t : RayParameter) → 0 < s.den → 0 < t.den → IsBelow s t → int_le (y *ℤ pos s.den) (pos (s.num * D)) ≡ true → (pos t.num *ℤ pos D) ≤ℤ (y *ℤ pos t.den) → ⊥
  passed s t p q below e h =
      let left : (y *ℤ pos s.den) ≤ℤ (pos s.num *ℤ pos D) = grind (arith, ints, e, pos-mul s.num D) in
      let le : (pos t.num *ℤ pos s.den) ≤ℤ (pos s.num *ℤ pos t.den) =
      fraction-le_trans (pos t.num) (pos t.den) y (pos D) (pos s.num) (pos s.den) (omega (arith, ints, q)) (omega (arith, ints, some)) (omega (arith, ints, p)) h left in
      omega (arith, ints, le, whole-below s t below)

  ahead : (s t : RayParameter) → 0 < s.den → 0 < t.den → IsBelow t s → int_lt (z *ℤ pos s.den) (pos (s.num * D)) ≡ false → (z *ℤ pos t.den) ≤ℤ (pos t.num *ℤ pos D) → ⊥
  ahead s t p q below e h =
      let entered : (pos s.num *ℤ pos D) ≤ℤ (z *ℤ pos s.den) = grind (arith, ints, e, pos-mul s.num D) in
      let le : (pos s.num *ℤ pos t.den) ≤ℤ (pos t.num *ℤ pos s.den) =
      fraction-le_trans (pos s.num) (pos s.den) z (pos D) (pos t.num) (pos t.den) (omega (arith, ints, p)) (omega (arith, ints, some)) (omega (arith, ints, q)) entered h in
      omega (arith, ints, le, whole-below t s below)

nonpos : (x : ℤ) (n : ℕ) → 0 < n → (x *ℤ pos n) ≤ℤ pos 0 → x ≤ℤ pos 0
nonpos x n h k = by_lt_z (pos 0) x (λ lt. absurd (omega (arith, ints, mul_pos x (pos n) lt (omega (arith, ints, h)), k))) (λ le. le)

module _ (o low high : ℤ) (s t : RayParameter) (p : 0 < s.den) (q : 0 < t.den) where
  rest-left : IsBelow s t → is_left o (pos zero) low high s ≡ true → IsInRun o (pos zero) low high t → ⊥
  unfolding is_left
  rest-left below e r =
      let z : pos (s.num * 0) ≡ pos 0 = omega (arith, ints) in
      let le : ((high -ℤ o) *ℤ pos s.den) ≤ℤ pos 0 = grind (arith, ints, e, z) in
      let up : (high -ℤ o) ≤ℤ pos 0 = nonpos (high -ℤ o) s.den p le in
      omega (arith, ints, r.1, mul-le-left (pos t.den) high o (omega (arith, ints)) (omega (arith, ints, up)))

  rest-entered : IsBelow t s → is_entered o (pos zero) low high s ≡ false → IsInRun o (pos zero) low high t → ⊥
  unfolding is_entered
  rest-entered below e r =
      let up : o <ℤ low = grind (arith, ints, e) in
      omega (arith, ints, r.0, mul-lt-left (pos t.den) o low (omega (arith, ints, q)) up)

  pub left-out : (d : ℤ) → IsBelow s t → is_left o d low high s ≡ true → IsInRun o d low high t → ⊥
  left-out (pos zero) below e r = rest-left below e r
  left-out (pos (suc n)) below e r =
      let fr : far o (pos (suc n)) low high ≡ high -ℤ o = ap (λ b. if b then o -ℤ low else high -ℤ o) (up-sign n) in
      let l : int_le ((high -ℤ o) *ℤ pos s.den) (pos (s.num * suc n)) ≡ true = subst (λ x. int_le (x *ℤ pos s.den) (pos (s.num * suc n)) ≡ true) fr (sym (left-is o (pos (suc n)) low high s) ∙ e) in
      passed (high -ℤ o) (low -ℤ o) (suc n) (omega arith) s t p q below l (weak (up-out o low high (pos t.num) (pos t.den) (pos (suc n)) r).1)
    where
      up-sign : (n : ℕ) → int_lt (pos (suc n)) (pos 0) ≡ false
      up-sign n = grind (arith, ints)
  left-out (negsuc n) below e r =
      let fr : far o (negsuc n) low high ≡ o -ℤ low = ap (λ b. if b then o -ℤ low else high -ℤ o) (down-sign n) in
      let l : int_le ((o -ℤ low) *ℤ pos s.den) (pos (s.num * suc n)) ≡ true = subst (λ x. int_le (x *ℤ pos s.den) (pos (s.num * suc n)) ≡ true) fr (sym (left-is o (negsuc n) low high s) ∙ e) in
      passed (o -ℤ low) (o -ℤ high) (suc n) (omega arith) s t p q below l (down-out o low high (pos t.num) (pos t.den) (pos (suc n)) r).1
    where
      down-sign : (n : ℕ) → int_lt (negsuc n) (pos 0) ≡ true
      down-sign n = grind (arith, ints)

  pub entered-out : (d : ℤ) → IsBelow t s → is_entered o d low high s ≡ false → IsInRun o d low high t → ⊥
  entered-out (pos zero) below e r = rest-entered below e r
  entered-out (pos (suc n)) below e r =
      let nr : near o (pos (suc n)) low high ≡ low -ℤ o = ap (λ b. if b then o -ℤ high else low -ℤ o) (up-sign n) in
      let l : int_lt ((low -ℤ o) *ℤ pos s.den) (pos (s.num * suc n)) ≡ false = subst (λ x. int_lt (x *ℤ pos s.den) (pos (s.num * suc n)) ≡ false) nr (sym (entered-is o (pos (suc n)) low high s (omega arith)) ∙ e) in
      ahead (high -ℤ o) (low -ℤ o) (suc n) (omega arith) s t p q below l (up-out o low high (pos t.num) (pos t.den) (pos (suc n)) r).0
    where
      up-sign : (n : ℕ) → int_lt (pos (suc n)) (pos 0) ≡ false
      up-sign n = grind (arith, ints)
  entered-out (negsuc n) below e r =
      let nr : near o (negsuc n) low high ≡ o -ℤ high = ap (λ b. if b then o -ℤ high else low -ℤ o) (down-sign n) in
      let l : int_lt ((o -ℤ high) *ℤ pos s.den) (pos (s.num * suc n)) ≡ false = subst (λ x. int_lt (x *ℤ pos s.den) (pos (s.num * suc n)) ≡ false) nr (sym (entered-is o (negsuc n) low high s (omega arith)) ∙ e) in
      ahead (o -ℤ low) (o -ℤ high) (suc n) (omega arith) s t p q below l (weak (down-out o low high (pos t.num) (pos t.den) (pos (suc n)) r).0)
    where
      down-sign : (n : ℕ) → int_lt (negsuc n) (pos 0) ≡ true
      down-sign n = grind (arith, ints)
