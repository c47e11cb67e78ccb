-- What callers need of planes: on which side points are, by determinants, and the same plane flipped or from another point.
use Rattle.std.proofs.Common.{◌≡◌, ℕ, zero, suc, ◌*◌, ◌<◌, ◌/◌, Bool, true, false, cond, Some, None, List, All, ℤ, pos, negsuc, ◌-ℤ◌, ◌*ℤ◌, ◌≤ℤ◌, int_le, neg_ℤ, unsigned_abs, int_div, [], ◌∷◌, refl, sym, ap, ◌∙◌, arith}
use Rattle.std.specs.Bool.{Decides}
use Rattle.std.specs.Int.{◌∣◌}
use Rattle.std.specs.Option.{option_map}
use Rattle.std.proofs.lemmas.Bool.Decides.{Decides-by_and}
use Rattle.std.proofs.lemmas.Nat.Gcd.{mod-eq-zero_of_dvd}
use Rattle.std.proofs.Math.Nat.{div-add-mod, zero-div}
use Rattle.gx_num.specs.declared.vector.V3.{V3}
use Rattle.gx_num.specs.Vector.{dot_of, times3, difference_of, opposite_of}
use Rattle.gx_num.specs.Space.{HalfSpace}
use Rattle.gx_algebra.proofs.Terms as term
use Rattle.gx_algebra.proofs.Terms.{◌≣◌, ◌⊖◌, ◌⊗◌, none}
use Rattle.gx_algebra.proofs.Identity.{identity, number, vector3}
use Rattle.gx_algebra.proofs.Identities.{same3}
use Rattle.gx_algebra.proofs.Order.{zero_of_mul}
use Rattle.gx_plane.specs.Plane.{divisor_of, primitive, is_zero, side_of, supports, flipped, normal_of, plane_at, plane_with, plane_through, plane_from}
use Rattle.gx_plane.proofs.Divisors.{divisor_of-divides, divisor_of-opposite, divisor_of-pos, unsigned_abs-opposite, zero-is_zero}
use borrow.Author.Differences.{ints, neg_is}

-- ---- the test of support
pub Decides-int_le : (a b : ℤ) → Decides (int_le a b) (a ≤ℤ b)
Decides-int_le a b = (λ e. omega (arith, ints, e), λ h. grind (arith, ints))

pub Decides-supports : (h : HalfSpace) (points : List V3) → Decides (supports h points) (All (λ p. side_of h p ≤ℤ pos 0) points)
Decides-supports h points =
    Decides-by_and (λ p. int_le (side_of h p) (pos 0)) (λ p. side_of h p ≤ℤ pos 0) (supports h) (λ p. Decides-int_le (side_of h p) (pos 0)) refl (λ _ _. refl) points

-- ---- a vector is its primitive vector times its divisor
mul-int_div : (a : ℤ) (d : ℕ) → d ∣ unsigned_abs a → pos d *ℤ int_div a (pos d) ≡ a
mul-int_div (pos a) d h = omega (arith, ints, div-add-mod a d, mod-eq-zero_of_dvd d h)
mul-int_div (negsuc a) d h =
    let opposite = neg_is (pos (suc a / d)) in
    omega (arith, ints, div-add-mod (suc a) d, mod-eq-zero_of_dvd d h, ap (λ (n : ℕ). d * n) opposite.0, ap (λ (n : ℕ). d * n) opposite.1)

pub times3-primitive : (v : V3) → times3 (pos (divisor_of v)) (primitive v) ≡ v
times3-primitive v =
    let divides = divisor_of-divides v in
    same3 (times3 (pos (divisor_of v)) (primitive v)) v
    (mul-int_div v.x (divisor_of v) divides.0)
    (mul-int_div v.y (divisor_of v) divides.1.0)
    (mul-int_div v.z (divisor_of v) divides.1.1.0)

-- ---- sides
-- by the normal before it is made primitive
pub side_of-plane_at : (v a p : V3) → pos (divisor_of v) *ℤ side_of (plane_at v a) p ≡ dot_of v (difference_of p a)
side_of-plane_at v a p = shifted (pos (divisor_of v)) (primitive v) a p ∙ ap (λ (n : V3). dot_of n (difference_of p a)) (times3-primitive v)
  where
    shifted : (k : ℤ) (n a p : V3) → k *ℤ (dot_of n p -ℤ dot_of n a) ≡ dot_of (times3 k n) (difference_of p a)
    shifted = identity (number ∷ vector3 ∷ vector3 ∷ vector3 ∷ []) (λ k n a p. k ⊗ (term.dot_of n p ⊖ term.dot_of n a) ≣ term.dot_of (term.times3 k n) (term.difference_of p a)) tt

pub dot_of-opposite_of : (n p : V3) → dot_of (opposite_of n) p ≡ pos 0 -ℤ dot_of n p
dot_of-opposite_of = identity (vector3 ∷ vector3 ∷ []) (λ n p. term.dot_of (record { x = none ⊖ n.x; y = none ⊖ n.y; z = none ⊖ n.z }) p ≣ none ⊖ term.dot_of n p) tt

pub side_of-flipped : (h : HalfSpace) (p : V3) → side_of (flipped h) p ≡ pos 0 -ℤ side_of h p
side_of-flipped h p = omega (arith, ints, dot_of-opposite_of h.n p)

-- ---- the plane with a normal
pub record IsWith (n a : V3) (h : HalfSpace) : Type 0 where
  pub apart : 0 < divisor_of n
  pub same : h ≡ plane_at n a

pub plane_with-zero : (n a : V3) → is_zero n ≡ true → plane_with n a ≡ None
plane_with-zero n a e = ap (λ (t : Bool). cond t None (Some (plane_at n a))) e

pub plane_with-apart : (n a : V3) → is_zero n ≡ false → plane_with n a ≡ Some (plane_at n a)
plane_with-apart n a e = ap (λ (t : Bool). cond t None (Some (plane_at n a))) e

pub plane_with_some : (n a : V3) (h : HalfSpace) → plane_with n a ≡ Some h → IsWith n a h
plane_with_some n a h e = go (is_zero n) refl
  where
    go : (t : Bool) → is_zero n ≡ t → IsWith n a h
    go true z = absurd (no (sym (plane_with-zero n a z) ∙ e))
      where
        no : None ≡ Some h → ⊥
        no p = cc
    go false z = let some = plane_with-apart n a z in record { apart = divisor_of-pos n z; same = cc }

pub plane_with_none : (n a : V3) → plane_with n a ≡ None → n ≡ record { x = pos 0; y = pos 0; z = pos 0 }
plane_with_none n a e = go (is_zero n) refl
  where
    go : (t : Bool) → is_zero n ≡ t → n ≡ record { x = pos 0; y = pos 0; z = pos 0 }
    go true z = zero-is_zero n z
    go false z = absurd (no (sym e ∙ plane_with-apart n a z))
      where
        no : None ≡ Some (plane_at n a) → ⊥
        no p = cc

-- from another point of the plane
pub plane_with-point : (n a b : V3) → dot_of n (difference_of b a) ≡ pos 0 → plane_with n b ≡ plane_with n a
plane_with-point n a b e = go (is_zero n) refl
  where
    go : (t : Bool) → is_zero n ≡ t → plane_with n b ≡ plane_with n a
    go true z = plane_with-zero n b z ∙ sym (plane_with-zero n a z)
    go false z =
        let on : side_of (plane_at n a) b ≡ pos 0 = zero_of_mul (pos (divisor_of n)) (side_of (plane_at n a) b) (omega (arith, ints, divisor_of-pos n z)) (side_of-plane_at n a b ∙ e) in
        let level : dot_of (primitive n) b ≡ dot_of (primitive n) a = omega (arith, ints, on) in
        plane_with-apart n b z ∙ ap (λ (d : ℤ). Some (record { n = primitive n; e = d })) level ∙ sym (plane_with-apart n a z)

-- with the opposite normal
int_div-opposite : (a : ℤ) (d : ℕ) → int_div (pos 0 -ℤ a) (pos d) ≡ pos 0 -ℤ int_div a (pos d)
int_div-opposite a d = ap (λ (z : ℤ). int_div z (pos d)) (opposite a) ∙ by_sign a ∙ sym (opposite (int_div a (pos d)))
  where
    opposite : (z : ℤ) → pos 0 -ℤ z ≡ neg_ℤ z
    opposite z = omega (arith, ints)

    by_sign : (z : ℤ) → int_div (neg_ℤ z) (pos d) ≡ neg_ℤ (int_div z (pos d))
    by_sign (pos zero) = rw (zero-div d) refl
    by_sign (pos (suc n)) = refl
    by_sign (negsuc n) = omega (arith, ints)

primitive-opposite : (v : V3) → primitive (opposite_of v) ≡ opposite_of (primitive v)
primitive-opposite v = same3 (primitive (opposite_of v)) (opposite_of (primitive v)) (out v.x) (out v.y) (out v.z)
  where
    out : (a : ℤ) → int_div (pos 0 -ℤ a) (pos (divisor_of (opposite_of v))) ≡ pos 0 -ℤ int_div a (pos (divisor_of v))
    out a = ap (λ (d : ℕ). int_div (pos 0 -ℤ a) (pos d)) (divisor_of-opposite v) ∙ int_div-opposite a (divisor_of v)

pub plane_from-opposite : (n a : V3) → plane_from (opposite_of n) a ≡ flipped (plane_from n a)
plane_from-opposite n a = ap (λ (d : ℤ). record { n = opposite_of n; e = d }) (dot_of-opposite_of n a)

pub flipped-flipped : (h : HalfSpace) → flipped (flipped h) ≡ h
flipped-flipped h = λ i. record { n = record { x = again h.n.x i; y = again h.n.y i; z = again h.n.z i }; e = again h.e i }
  where
    again : (a : ℤ) → pos 0 -ℤ (pos 0 -ℤ a) ≡ a
    again a = omega (arith, ints)

pub plane_at-opposite : (n a : V3) → plane_at (opposite_of n) a ≡ flipped (plane_at n a)
plane_at-opposite n a =
    ap (λ (m : V3). plane_from m a) (primitive-opposite n) ∙ plane_from-opposite (primitive n) a

pub plane_with-opposite : (n a : V3) → plane_with (opposite_of n) a ≡ option_map flipped (plane_with n a)
plane_with-opposite n a =
    ap (λ (t : Bool). cond t None (Some (plane_at (opposite_of n) a))) zero_too ∙ ap (λ (h : HalfSpace). cond (is_zero n) None (Some h)) (plane_at-opposite n a) ∙ out (is_zero n)
  where
    zero_too : is_zero (opposite_of n) ≡ is_zero n
    zero_too = rw (unsigned_abs-opposite n.x, unsigned_abs-opposite n.y, unsigned_abs-opposite n.z) refl

    out : (t : Bool) → cond t None (Some (flipped (plane_at n a))) ≡ option_map flipped (cond t None (Some (plane_at n a)))
    out true = refl
    out false = refl

-- ---- the plane of three points
pub plane_through_some : (a b c : V3) (h : HalfSpace) → plane_through a b c ≡ Some h → IsWith (normal_of a b c) a h
plane_through_some a b c = plane_with_some (normal_of a b c) a

pub plane_through_none : (a b c : V3) → plane_through a b c ≡ None → normal_of a b c ≡ record { x = pos 0; y = pos 0; z = pos 0 }
plane_through_none a b c = plane_with_none (normal_of a b c) a
