-- A run is met within a stretch exactly where it isn't left when the stretch begins and is entered before the stretch ends; then the part of the stretch in it is a stretch.
use Rattle.std.proofs.Common.{◌≡◌, ℕ, zero, suc, ◌*◌, ◌<◌, ◌≤◌, ◌⊎◌, inl, inr, refl, sym, ap, subst, ◌∙◌, arith, ℤ, pos, negsuc, neg_ℤ, ◌+ℤ◌, ◌-ℤ◌, ◌*ℤ◌, ◌≤ℤ◌, ◌<ℤ◌, Bool, true, false, nat_lt}
use Rattle.std.specs.Prelude.{unsigned_abs, int_lt, int_le, if◌then◌else◌}
use Rattle.std.proofs.lemmas.Int.{ints}
use Rattle.gx_num.specs.Ray.{RayParameter}
use Rattle.gx_num.specs.Ray.{IsBelow, IsUpTo}
use Rattle.gx_num.proofs.Order.{le_lt, lt_le, above_positive}
use Rattle.gx_algebra.proofs.Order.{mul-sub, mul-neg, mul-le-left, mul-lt-left}
use Rattle.std.proofs.Math.Nat.{mul-lt-mul_of_pos_left}
use Rattle.gx_along.proofs.Parts.{not-zero}
use Rattle.gx_along.specs.declared.line.Time.{Time}
use Rattle.gx_along.specs.declared.line.Stretch.{Stretch}
use Rattle.gx_along.specs.Line.{time, near, far, above_zero, later, earlier, part_of, is_left, is_entered, IsWithin, IsStretch, IsPart}

-- ---- the later and the earlier of two
later-cases : (a b : Time) → ((later a b ≡ b) × IsBelow (time a) (time b)) ⊎ ((later a b ≡ a) × IsUpTo (time b) (time a))
unfolding later
later-cases a b = go (nat_lt (a.num * b.den) (b.num * a.den)) refl
  where
    go : (c : Bool) → nat_lt (a.num * b.den) (b.num * a.den) ≡ c → (((if c then b else a) ≡ b) × IsBelow (time a) (time b)) ⊎ (((if c then b else a) ≡ a) × IsUpTo (time b) (time a))
    go true e = inl (refl, grind (arith, e))
    go false e = inr (refl, grind (arith, e))

earlier-cases : (a b : Time) → ((earlier a b ≡ b) × IsBelow (time b) (time a)) ⊎ ((earlier a b ≡ a) × IsUpTo (time a) (time b))
unfolding earlier
earlier-cases a b = go (nat_lt (b.num * a.den) (a.num * b.den)) refl
  where
    go : (c : Bool) → nat_lt (b.num * a.den) (a.num * b.den) ≡ c → (((if c then b else a) ≡ b) × IsBelow (time b) (time a)) ⊎ (((if c then b else a) ≡ a) × IsUpTo (time a) (time b))
    go true e = inl (refl, grind (arith, e))
    go false e = inr (refl, grind (arith, e))

-- ---- a stretch cut at E/D and F/D
abbrev cut : Stretch → ℕ → ℕ → ℕ → Stretch
cut s E F D = record { from = later s.from (record { num = E; den = D }); to = earlier s.to (record { num = F; den = D }) }

module _ (s : Stretch) (E F D : ℕ) (ok : IsStretch s) (some : 0 < D) (start : s.from.num * D < F * s.from.den) (end : E * s.to.den < s.to.num * D) (room : E * D < F * D) where
  cut-is : IsStretch (cut s E F D)
  cut-is = elim (later-cases s.from (record { num = E; den = D })) [
    | inl a ↦ elim (earlier-cases s.to (record { num = F; den = D })) [
      | inl b ↦ subst (λ x. IsStretch (record { from = x; to = earlier s.to (record { num = F; den = D }) })) (sym a.0) (subst (λ y. IsStretch (record { from = record { num = E; den = D }; to = y })) (sym b.0) (some, some, room))
      | inr b ↦ subst (λ x. IsStretch (record { from = x; to = earlier s.to (record { num = F; den = D }) })) (sym a.0) (subst (λ y. IsStretch (record { from = record { num = E; den = D }; to = y })) (sym b.0) (some, ok.1, end))
    ]
    | inr a ↦ elim (earlier-cases s.to (record { num = F; den = D })) [
      | inl b ↦ subst (λ x. IsStretch (record { from = x; to = earlier s.to (record { num = F; den = D }) })) (sym a.0) (subst (λ y. IsStretch (record { from = s.from; to = y })) (sym b.0) (ok.0, some, start))
      | inr b ↦ subst (λ x. IsStretch (record { from = x; to = earlier s.to (record { num = F; den = D }) })) (sym a.0) (subst (λ y. IsStretch (record { from = s.from; to = y })) (sym b.0) ok)
    ]
  ]

  cut-from : (t : RayParameter) → 0 < t.den → IsBelow (time (cut s E F D).from) t → IsBelow (time s.from) t × (E * t.den < t.num * D)
  cut-from t q h = elim (later-cases s.from (record { num = E; den = D })) [
    | inl a ↦
        let k : IsBelow (record { num = E; den = D }) t = subst (λ x. IsBelow (time x) t) a.0 h in
        (le_lt (time s.from) (record { num = E; den = D }) t ok.0 (omega (arith, a.1)) k, k)
    | inr a ↦
        let k : IsBelow (time s.from) t = subst (λ x. IsBelow (time x) t) a.0 h in
        (k, le_lt (record { num = E; den = D }) (time s.from) t some a.1 k)
  ]

  cut-to : (t : RayParameter) → 0 < t.den → IsBelow t (time (cut s E F D).to) → IsBelow t (time s.to) × (t.num * D < F * t.den)
  cut-to t q h = elim (earlier-cases s.to (record { num = F; den = D })) [
    | inl b ↦
        let k : IsBelow t (record { num = F; den = D }) = subst (λ x. IsBelow t (time x)) b.0 h in
        (lt_le t (record { num = F; den = D }) (time s.to) ok.1 k (omega (arith, b.1)), k)
    | inr b ↦
        let k : IsBelow t (time s.to) = subst (λ x. IsBelow t (time x)) b.0 h in
        (k, lt_le t (time s.to) (record { num = F; den = D }) some k b.1)
  ]

  -- what is within the stretch and from E/D up to F/D is not outside the part
  cut-holds : (t : RayParameter) → IsWithin s t → E * t.den ≤ t.num * D → t.num * D ≤ F * t.den → IsUpTo (time (cut s E F D).from) t × IsUpTo t (time (cut s E F D).to)
  cut-holds t within low high = (
    elim (later-cases s.from (record { num = E; den = D })) [
      | inl a ↦ subst (λ x. IsUpTo (time x) t) (sym a.0) low
      | inr a ↦ subst (λ x. IsUpTo (time x) t) (sym a.0) (omega (arith, within.0))
    ],
    elim (earlier-cases s.to (record { num = F; den = D })) [
      | inl b ↦ subst (λ x. IsUpTo t (time x)) (sym b.0) high
      | inr b ↦ subst (λ x. IsUpTo t (time x)) (sym b.0) (omega (arith, within.1))
    ],
  )

-- ---- where a ray is in a run, by how far along it is
up-in : (o low high p q D : ℤ) → ((low -ℤ o) *ℤ q) ≤ℤ (p *ℤ D) → (p *ℤ D) <ℤ ((high -ℤ o) *ℤ q) → ((low *ℤ q) ≤ℤ (q *ℤ o +ℤ p *ℤ D)) × ((q *ℤ o +ℤ p *ℤ D) <ℤ (high *ℤ q))
up-in o low high p q D h k = (omega (arith, ints, mul-sub q low o, h), omega (arith, ints, mul-sub q high o, k))

pub up-out : (o low high p q D : ℤ) → ((low *ℤ q) ≤ℤ (q *ℤ o +ℤ p *ℤ D)) × ((q *ℤ o +ℤ p *ℤ D) <ℤ (high *ℤ q)) → (((low -ℤ o) *ℤ q) ≤ℤ (p *ℤ D)) × ((p *ℤ D) <ℤ ((high -ℤ o) *ℤ q))
up-out o low high p q D h = (omega (arith, ints, mul-sub q low o, h.0), omega (arith, ints, mul-sub q high o, h.1))

down-in : (o low high p q D : ℤ) → ((o -ℤ high) *ℤ q) <ℤ (p *ℤ D) → (p *ℤ D) ≤ℤ ((o -ℤ low) *ℤ q) → ((low *ℤ q) ≤ℤ (q *ℤ o +ℤ p *ℤ neg_ℤ D)) × ((q *ℤ o +ℤ p *ℤ neg_ℤ D) <ℤ (high *ℤ q))
down-in o low high p q D h k = (omega (arith, ints, mul-sub q o low, mul-neg p D, k), omega (arith, ints, mul-sub q o high, mul-neg p D, h))

pub down-out : (o low high p q D : ℤ) → ((low *ℤ q) ≤ℤ (q *ℤ o +ℤ p *ℤ neg_ℤ D)) × ((q *ℤ o +ℤ p *ℤ neg_ℤ D) <ℤ (high *ℤ q)) → (((o -ℤ high) *ℤ q) <ℤ (p *ℤ D)) × ((p *ℤ D) ≤ℤ ((o -ℤ low) *ℤ q))
down-out o low high p q D h = (omega (arith, ints, mul-sub q o high, mul-neg p D, h.1), omega (arith, ints, mul-sub q o low, mul-neg p D, h.0))

pub pos-mul : (a b : ℕ) → pos (a * b) ≡ pos a *ℤ pos b
pos-mul a b = omega (arith, ints)

-- ---- numbers that aren't negative
far-some : (z : ℤ) (q n : ℕ) → int_le (z *ℤ pos q) (pos n) ≡ false → (z ≡ pos (unsigned_abs z)) × (n < unsigned_abs z * q)
far-some (pos f) q n e = (refl, grind (arith, ints, e, pos-mul f q))
far-some (negsuc f) q n e = absurd (grind (arith, ints, e))

zero-up : (z : ℤ) → (z ≤ℤ pos (above_zero z)) × ((above_zero z ≡ 0) ⊎ (z ≡ pos (above_zero z)))
zero-up z = go (int_lt z (pos 0)) refl z refl
  where
    go : (b : Bool) → int_lt z (pos 0) ≡ b → (y : ℤ) → z ≡ y → (z ≤ℤ pos (if b then 0 else unsigned_abs z)) × (((if b then 0 else unsigned_abs z) ≡ 0) ⊎ (z ≡ pos (if b then 0 else unsigned_abs z)))
    go true e y f = (grind (arith, ints, e), inl refl)
    go false e (pos y) f = (subst (λ x. x ≤ℤ pos (unsigned_abs x)) (sym f) (omega (arith, ints)), inr (subst (λ x. x ≡ pos (unsigned_abs x)) (sym f) refl))
    go false e (negsuc y) f = absurd (grind (arith, ints, e, f))

module _ (z y : ℤ) (s : Stretch) (D : ℕ) (ok : IsStretch s) (some : 0 < D) (less : z <ℤ y)
    (left : int_le (y *ℤ pos s.from.den) (pos (s.from.num * D)) ≡ false) (entered : int_lt (z *ℤ pos s.to.den) (pos (s.to.num * D)) ≡ true) where
  far-is : (y ≡ pos (unsigned_abs y)) × (s.from.num * D < unsigned_abs y * s.from.den)
  far-is = far-some y s.from.den (s.from.num * D) left

  near-is : (z ≤ℤ pos (above_zero z)) × ((above_zero z ≡ 0) ⊎ (z ≡ pos (above_zero z)))
  near-is = zero-up z

  near-end : above_zero z * s.to.den < s.to.num * D
  near-end = elim near-is.1 [
    | inl e ↦
        let m : s.to.num * 0 < s.to.num * D = mul-lt-mul_of_pos_left {k = s.to.num} some (above_positive (time s.from) (time s.to) ok.2) in
        subst (λ x. x * s.to.den < s.to.num * D) (sym e) (omega (arith, m))
    | inr e ↦
        let h : int_lt (pos (above_zero z) *ℤ pos s.to.den) (pos (s.to.num * D)) ≡ true = subst (λ x. int_lt (x *ℤ pos s.to.den) (pos (s.to.num * D)) ≡ true) e entered in
        grind (arith, ints, h, pos-mul (above_zero z) s.to.den)
  ]

  near-below : above_zero z < unsigned_abs y
  near-below = elim near-is.1 [
    | inl e ↦ subst (λ x. x < unsigned_abs y) (sym e) (above_positive (time s.from) (record { num = unsigned_abs y; den = D }) far-is.1)
    | inr e ↦ omega (arith, ints, e, far-is.0, less)
  ]

  near-room : above_zero z * D < unsigned_abs y * D
  near-room = omega (arith, mul-lt-mul_of_pos_left {k = D} near-below some)

  abbrev the-cut : Stretch
  the-cut = cut s (above_zero z) (unsigned_abs y) D

  cut-stretch : IsStretch the-cut
  cut-stretch = cut-is s (above_zero z) (unsigned_abs y) D ok some far-is.1 near-end near-room

  cut-inside : (t : RayParameter) → 0 < t.den → IsWithin the-cut t → IsWithin s t × ((z *ℤ pos t.den) <ℤ pos (t.num * D)) × (pos (t.num * D) <ℤ (y *ℤ pos t.den))
  cut-inside t q w =
      let a = cut-from s (above_zero z) (unsigned_abs y) D ok some far-is.1 near-end near-room t q w.0 in
      let b = cut-to s (above_zero z) (unsigned_abs y) D ok some far-is.1 near-end near-room t q w.1 in
      ((a.0, b.0), lower-side z (above_zero z) t.den (t.num * D) near-is.0 a.1, subst (λ x. pos (t.num * D) <ℤ (x *ℤ pos t.den)) (sym far-is.0) (omega (arith, ints, b.1, pos-mul (unsigned_abs y) t.den)))
    where
      lower-side : (z : ℤ) (E q n : ℕ) → z ≤ℤ pos E → E * q < n → (z *ℤ pos q) <ℤ pos n
      lower-side z E q n h k = omega (arith, ints, mul-le-left (pos q) z (pos E) (omega (arith, ints)) h, pos-mul E q, k)

  cut-whole : (t : RayParameter) → 0 < t.den → IsWithin s t → (z *ℤ pos t.den) ≤ℤ pos (t.num * D) → pos (t.num * D) ≤ℤ (y *ℤ pos t.den) → IsUpTo (time the-cut.from) t × IsUpTo t (time the-cut.to)
  cut-whole t q w low high =
      cut-holds s (above_zero z) (unsigned_abs y) D ok some far-is.1 near-end near-room t w
      (elim near-is.1 [
        | inl e ↦ subst (λ x. x * t.den ≤ t.num * D) (sym e) (omega arith)
        | inr e ↦ let h : (pos (above_zero z) *ℤ pos t.den) ≤ℤ pos (t.num * D) = subst (λ x. (x *ℤ pos t.den) ≤ℤ pos (t.num * D)) e low in omega (arith, ints, h, pos-mul (above_zero z) t.den)
      ])
      (let h : pos (t.num * D) ≤ℤ (pos (unsigned_abs y) *ℤ pos t.den) = subst (λ x. pos (t.num * D) ≤ℤ (x *ℤ pos t.den)) far-is.0 high in omega (arith, ints, h, pos-mul (unsigned_abs y) t.den))

-- ---- the three directions
cut-part : (o d low high : ℤ) (s : Stretch) → 0 < unsigned_abs d → cut s (above_zero (near o d low high)) (unsigned_abs (far o d low high)) (unsigned_abs d) ≡ part_of o d low high s
unfolding part_of
cut-part o d low high s h = sym (not-zero (unsigned_abs d) s (cut s (above_zero (near o d low high)) (unsigned_abs (far o d low high)) (unsigned_abs d)) (λ z. absurd (omega (arith, h, z))))

pub entered-is : (o d low high : ℤ) (t : RayParameter) → 0 < unsigned_abs d → is_entered o d low high t ≡ int_lt (near o d low high *ℤ pos t.den) (pos (t.num * unsigned_abs d))
unfolding is_entered
entered-is o d low high t h = not-zero (unsigned_abs d) _ _ (λ z. absurd (omega (arith, h, z)))

pub left-is : (o d low high : ℤ) (t : RayParameter) → is_left o d low high t ≡ int_le (far o d low high *ℤ pos t.den) (pos (t.num * unsigned_abs d))
unfolding is_left
left-is o d low high t = refl

weak : {a b c : ℤ} → a <ℤ b → b ≡ c → a ≤ℤ c
weak h e = omega (arith, ints, h, e)

first-eq : {a b c : ℤ} → a <ℤ b → a ≡ c → c <ℤ b
first-eq h e = omega (arith, ints, h, e)

weak2 : {a b c : ℤ} → c <ℤ b → a ≡ c → a ≤ℤ b
weak2 h e = omega (arith, ints, h, e)

last-eq : {a b c : ℤ} → a <ℤ b → b ≡ c → a <ℤ c
last-eq h e = omega (arith, ints, h, e)

weak3 : {a b c : ℤ} → a <ℤ b → a ≡ c → c ≤ℤ b
weak3 h e = omega (arith, ints, h, e)

positive : (z : ℤ) (q n : ℕ) → int_le (z *ℤ pos q) (pos n) ≡ false → pos 0 <ℤ z
positive z q n e = let f = far-some z q n e in omega (arith, ints, f.0, above_positive (record { num = n; den = q }) (record { num = unsigned_abs z; den = 1 }) (omega (arith, f.1)))

at-rest : (o low high p q : ℤ) → pos 0 <ℤ q → low ≤ℤ o → o <ℤ high → ((low *ℤ q) ≤ℤ (q *ℤ o +ℤ p *ℤ pos 0)) × ((q *ℤ o +ℤ p *ℤ pos 0) <ℤ (high *ℤ q))
at-rest o low high p q above h k = (omega (arith, ints, mul-le-left q low o (omega (arith, ints, above)) h), omega (arith, ints, mul-lt-left q o high above k))

module _ (o low high : ℤ) (s : Stretch) (ok : IsStretch s) (less : low <ℤ high) where
  part-up : (n : ℕ) → is_left o (pos (suc n)) low high (time s.from) ≡ false → is_entered o (pos (suc n)) low high (time s.to) ≡ true → IsPart o (pos (suc n)) low high s (part_of o (pos (suc n)) low high s)
  part-up n left entered =
      let D = suc n in
      let some : 0 < D = omega arith in
      let ps : int_lt (pos D) (pos 0) ≡ false = grind (arith, ints) in
      let nr : near o (pos D) low high ≡ low -ℤ o = ap (λ b. if b then o -ℤ high else low -ℤ o) ps in
      let fr : far o (pos D) low high ≡ high -ℤ o = ap (λ b. if b then o -ℤ low else high -ℤ o) ps in
      let l : int_le ((high -ℤ o) *ℤ pos s.from.den) (pos (s.from.num * D)) ≡ false = subst (λ x. int_le (x *ℤ pos s.from.den) (pos (s.from.num * D)) ≡ false) fr (sym (left-is o (pos D) low high (time s.from)) ∙ left) in
      let e : int_lt ((low -ℤ o) *ℤ pos s.to.den) (pos (s.to.num * D)) ≡ true = subst (λ x. int_lt (x *ℤ pos s.to.den) (pos (s.to.num * D)) ≡ true) nr (sym (entered-is o (pos D) low high (time s.to) some) ∙ entered) in
      let z = low -ℤ o in let y = high -ℤ o in
      let zy : z <ℤ y = omega (arith, ints, less) in
      let same : the-cut z y s D ok some zy l e ≡ part_of o (pos D) low high s = (λ i. cut s (above_zero (sym nr i)) (unsigned_abs (sym fr i)) D) ∙ cut-part o (pos D) low high s some in
      subst (λ p. IsPart o (pos D) low high s p) same (record {
        stretch = cut-stretch z y s D ok some zy l e;
        inside = λ t q w. let c = cut-inside z y s D ok some zy l e t q w in (c.0, up-in o low high (pos t.num) (pos t.den) (pos D) (weak (c.1) (pos-mul t.num D)) (first-eq c.2 (pos-mul t.num D)));
        whole = λ t q w in_run. let c = up-out o low high (pos t.num) (pos t.den) (pos D) in_run in cut-whole z y s D ok some zy l e t q w (subst (λ x. (z *ℤ pos t.den) ≤ℤ x) (sym (pos-mul t.num D)) c.0) (weak2 c.1 (pos-mul t.num D));
      })

  part-down : (n : ℕ) → is_left o (negsuc n) low high (time s.from) ≡ false → is_entered o (negsuc n) low high (time s.to) ≡ true → IsPart o (negsuc n) low high s (part_of o (negsuc n) low high s)
  part-down n left entered =
      let D = suc n in
      let some : 0 < D = omega arith in
      let ps : int_lt (negsuc n) (pos 0) ≡ true = grind (arith, ints) in
      let nr : near o (negsuc n) low high ≡ o -ℤ high = ap (λ b. if b then o -ℤ high else low -ℤ o) ps in
      let fr : far o (negsuc n) low high ≡ o -ℤ low = ap (λ b. if b then o -ℤ low else high -ℤ o) ps in
      let l : int_le ((o -ℤ low) *ℤ pos s.from.den) (pos (s.from.num * D)) ≡ false = subst (λ x. int_le (x *ℤ pos s.from.den) (pos (s.from.num * D)) ≡ false) fr (sym (left-is o (negsuc n) low high (time s.from)) ∙ left) in
      let e : int_lt ((o -ℤ high) *ℤ pos s.to.den) (pos (s.to.num * D)) ≡ true = subst (λ x. int_lt (x *ℤ pos s.to.den) (pos (s.to.num * D)) ≡ true) nr (sym (entered-is o (negsuc n) low high (time s.to) some) ∙ entered) in
      let z = o -ℤ high in let y = o -ℤ low in
      let zy : z <ℤ y = omega (arith, ints, less) in
      let same : the-cut z y s D ok some zy l e ≡ part_of o (negsuc n) low high s = (λ i. cut s (above_zero (sym nr i)) (unsigned_abs (sym fr i)) D) ∙ cut-part o (negsuc n) low high s some in
      subst (λ p. IsPart o (negsuc n) low high s p) same (record {
        stretch = cut-stretch z y s D ok some zy l e;
        inside = λ t q w. let c = cut-inside z y s D ok some zy l e t q w in (c.0, down-in o low high (pos t.num) (pos t.den) (pos D) (last-eq c.1 (pos-mul t.num D)) (weak3 c.2 (pos-mul t.num D)));
        whole = λ t q w in_run. let c = down-out o low high (pos t.num) (pos t.den) (pos D) in_run in cut-whole z y s D ok some zy l e t q w (weak c.0 (sym (pos-mul t.num D))) (subst (λ x. x ≤ℤ (y *ℤ pos t.den)) (sym (pos-mul t.num D)) c.1);
      })

  part-rest : is_left o (pos zero) low high (time s.from) ≡ false → is_entered o (pos zero) low high (time s.to) ≡ true → IsPart o (pos zero) low high s (part_of o (pos zero) low high s)
  unfolding is_left is_entered part_of
  part-rest left entered =
      let h : low ≤ℤ o = grind (arith, ints, entered) in
      let k : pos 0 <ℤ (high -ℤ o) = positive (high -ℤ o) s.from.den (s.from.num * 0) left in
      record {
        stretch = ok;
        inside = λ t q w. (w, at-rest o low high (pos t.num) (pos t.den) (omega (arith, ints, q)) h (omega (arith, ints, k)));
        whole = λ t q w in_run. (omega (arith, w.0), omega (arith, w.1));
      }

-- the part of a stretch in a run
pub part-is-part : (o d low high : ℤ) (s : Stretch) → IsStretch s → low <ℤ high → is_left o d low high (time s.from) ≡ false → is_entered o d low high (time s.to) ≡ true → IsPart o d low high s (part_of o d low high s)
part-is-part o (pos zero) low high s ok less left entered = part-rest o low high s ok less left entered
part-is-part o (pos (suc n)) low high s ok less left entered = part-up o low high s ok less n left entered
part-is-part o (negsuc n) low high s ok less left entered = part-down o low high s ok less n left entered
