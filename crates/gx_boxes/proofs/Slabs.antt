-- A ray that is strictly between the sides of two slabs at one parameter: its line isn't beside the rectangle.
use Rattle.std.proofs.Common.{◌≡◌, ◌≢◌, ◌⊎◌, inl, inr, ◌^◌, ◌≤◌, ℤ, pos, to_z, of_z, ◌+ℤ◌, ◌-ℤ◌, ◌*ℤ◌, ◌≤ℤ◌, ◌<ℤ◌, unsigned_abs, [], ◌∷◌, subst, arith}
use Rattle.std.specs.Int.{w64}
use Rattle.std.proofs.lemmas.Int.{ints, to_z-of_z, fits_signed_from_abs}
use Rattle.gx_num.specs.Ray.{RayParameter}
use Rattle.gx_algebra.proofs.Order.{by_sign, mul-le-left, mul-lt-left}
use Rattle.gx_algebra.proofs.Ring.{num}
use Rattle.gx_algebra.proofs.Terms.{◌≣◌, ◌⊖◌, ◌⊗◌}
use Rattle.gx_algebra.proofs.Identity.{identity, number}
use Rattle.gx_convex.specs.Laws.{IsBetween}
use Rattle.gx_boxes.specs.declared.slab.Slab.{Slab}
use Rattle.gx_boxes.specs.declared.slab.Reached.{Reached}
use Rattle.gx_boxes.specs.Slabs.{IsCrossed, IsReached}

sub-mul : (a b c : ℤ) → (b -ℤ c) *ℤ a ≡ b *ℤ a -ℤ a *ℤ c
sub-mul = identity (number ∷ number ∷ number ∷ []) (λ a b c. (b ⊖ c) ⊗ a ≣ b ⊗ a ⊖ a ⊗ c) tt

-- as the code's casts have it
abbrev bits : ℤ → ℤ
bits z = to_z w64 (of_z w64 z)

short : (z : ℤ) → unsigned_abs z ≤ 2 ^ 31 → bits z ≡ z
short z h = to_z-of_z w64 z (fits_signed_from_abs w64 z (omega (arith, h)))

-- seen from the ray's origin
pub crossed : (low high o d : ℤ) → unsigned_abs low ≤ 2 ^ 31 → unsigned_abs high ≤ 2 ^ 31 → unsigned_abs o ≤ 2 ^ 31 → unsigned_abs d ≤ 2 ^ 31
    → (slab : Slab) (t : RayParameter) → slab.low ≡ bits low -ℤ bits o → slab.high ≡ bits high -ℤ bits o → slab.speed ≡ bits d
    → IsBetween low high (pos t.den *ℤ o +ℤ pos t.num *ℤ d) (pos t.den) → IsCrossed slab t
crossed low high o d low_short high_short o_short d_short slab t l h s is = rw (l, h, s, short low low_short, short high high_short, short o o_short, short d d_short) (record {
  above = omega (arith, ints, is.above, sub-mul (pos t.den) low o);
  below = omega (arith, ints, is.below, sub-mul (pos t.den) high o);
})

turn : (a b c : ℤ) → a *ℤ (b *ℤ c) ≡ (b *ℤ a) *ℤ c
turn = identity (number ∷ number ∷ number ∷ []) (λ a b c. a ⊗ (b ⊗ c) ≣ (b ⊗ a) ⊗ c) tt

swap : (a b c : ℤ) → a *ℤ (b *ℤ c) ≡ c *ℤ (b *ℤ a)
swap = identity (number ∷ number ∷ number ∷ []) (λ a b c. a ⊗ (b ⊗ c) ≣ c ⊗ (b ⊗ a)) tt

-- between the ends, and strictly where a factor isn't 0
record IsUpTo (factor low high at w : ℤ) : Type 0 where
  lower : (low *ℤ w) ≤ℤ at
  upper : at ≤ℤ (high *ℤ w)
  strictly : factor ≢ pos 0 → IsBetween low high at w

neg-mul : (a b : ℤ) → (pos 0 -ℤ a) *ℤ b ≡ pos 0 -ℤ a *ℤ b
neg-mul = identity (number ∷ number ∷ []) (λ a b. (num (pos 0) ⊖ a) ⊗ b ≣ num (pos 0) ⊖ a ⊗ b) tt

module _ (low high f y w : ℤ) (r : Reached) (is : IsReached low high f r) (between : IsBetween low high y w) where
  -- a place between the sides, times the factor
  up_to : IsUpTo f r.least r.greatest (f *ℤ y) w
  up_to = by_sign f
      (λ neg. let ends = is.back neg in let a = mul-lt-left (pos 0 -ℤ f) y (high *ℤ w) (omega (arith, ints, neg)) between.below in let b = mul-lt-left (pos 0 -ℤ f) (low *ℤ w) y (omega (arith, ints, neg)) between.above in
      rw (ends.0, ends.1) (strict (high *ℤ f) (low *ℤ f) (omega (arith, ints, a, turn f high w, neg-mul f y, neg-mul f (high *ℤ w))) (omega (arith, ints, b, turn f low w, neg-mul f y, neg-mul f (low *ℤ w)))))
      (λ zero. let ends = is.forward (omega (arith, ints, zero)) in let a = mul-le-left f (low *ℤ w) y (omega (arith, ints, zero)) (omega (arith, ints, between.above)) in let b = mul-le-left f y (high *ℤ w) (omega (arith, ints, zero)) (omega (arith, ints, between.below)) in
      rw (ends.0, ends.1) (record { lower = omega (arith, ints, a, turn f low w); upper = omega (arith, ints, b, turn f high w); strictly = λ other. absurd (other zero) }))
      (λ above. let ends = is.forward (omega (arith, ints, above)) in let a = mul-lt-left f (low *ℤ w) y above between.above in let b = mul-lt-left f y (high *ℤ w) above between.below in
      rw (ends.0, ends.1) (strict (low *ℤ f) (high *ℤ f) (omega (arith, ints, a, turn f low w)) (omega (arith, ints, b, turn f high w))))
    where
      strict : (least greatest : ℤ) → (least *ℤ w) <ℤ (f *ℤ y) → (f *ℤ y) <ℤ (greatest *ℤ w) → IsUpTo f least greatest (f *ℤ y) w
      strict least greatest a b = record { lower = omega (arith, ints, a); upper = omega (arith, ints, b); strictly = λ _. record { above = a; below = b } }

-- a place up to the end of one and from the start of another, which come no further than each other
apart : (f g : ℤ) (at w : ℤ) (a b : Reached) → pos 0 ≤ℤ w → a.greatest ≤ℤ b.least → (f ≢ pos 0) ⊎ (g ≢ pos 0) → IsUpTo f a.least a.greatest at w → IsUpTo g b.least b.greatest at w → ⊥
apart f g at w a b above order moves is other =
    let le = mul-le-left w a.greatest b.least above order in elim moves [
      | inl h ↦ absurd (omega (arith, ints, le, (is.strictly h).below, other.lower))
      | inr h ↦ absurd (omega (arith, ints, le, is.upper, (other.strictly h).above))
    ]

pub not_beside : (a b : Slab) (t : RayParameter) (ra rb : Reached) → IsReached a.low a.high b.speed ra → IsReached b.low b.high a.speed rb → (a.speed ≢ pos 0) ⊎ (b.speed ≢ pos 0)
    → (ra.greatest ≤ℤ rb.least) ⊎ (rb.greatest ≤ℤ ra.least) → IsCrossed a t → IsCrossed b t → ⊥
not_beside a b t ra rb is other moves order at at_other =
    let one = up_to a.low a.high b.speed (pos t.num *ℤ a.speed) (pos t.den) ra is at in
    let two = subst (λ z. IsUpTo a.speed rb.least rb.greatest z (pos t.den)) (swap a.speed (pos t.num) b.speed) (up_to b.low b.high a.speed (pos t.num *ℤ b.speed) (pos t.den) rb other at_other) in
    elim order [
      | inl h ↦ apart b.speed a.speed (b.speed *ℤ (pos t.num *ℤ a.speed)) (pos t.den) ra rb (omega (arith, ints)) h (elim moves [ inl m ↦ inr m | inr m ↦ inl m ]) one two
      | inr h ↦ apart a.speed b.speed (b.speed *ℤ (pos t.num *ℤ a.speed)) (pos t.den) rb ra (omega (arith, ints)) h moves two one
    ]
