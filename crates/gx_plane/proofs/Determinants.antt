-- Which of the two senses of a plane is between two lists, by a normal that is not made primitive: the signs of sides are the same.
use Rattle.std.proofs.Common.{not, ◌≡◌, ℕ, ◌<◌, Bool, true, false, cond, ◌&&◌, Option, None, List, [], ◌∷◌, find, ℤ, pos, ◌-ℤ◌, ◌*ℤ◌, ◌≤ℤ◌, ◌<ℤ◌, int_le, refl, sym, ap, ap₂, ◌∙◌, arith, true≢false}
use Rattle.std.specs.Option.{option_map}
use Rattle.std.specs.List.{list_all}
use Rattle.std.proofs.lemmas.Bool.Decides.{same_from_decides, Decides-like}
use Rattle.gx_num.specs.declared.vector.V3.{V3}
use Rattle.gx_num.specs.Vector.{dot_of, difference_of, opposite_of}
use Rattle.gx_num.specs.Space.{HalfSpace}
use Rattle.gx_algebra.proofs.Laws.{mul-zero}
use Rattle.gx_algebra.proofs.Terms as term
use Rattle.gx_algebra.proofs.Terms.{◌≣◌, ◌⊖◌}
use Rattle.gx_algebra.proofs.Identity.{identity, vector3}
use Rattle.gx_algebra.proofs.Order.{mul-sub, mul-le-left, le_of_mul-le-left}
use Rattle.gx_plane.specs.Plane.{divisor_of, is_zero, side_of, supports, flipped, normal_of, plane_at, plane_with, plane_through, plane_from}
use Rattle.gx_plane.specs.Between.{is_between, both_ways}
use Rattle.gx_plane.proofs.Divisors.{divisor_of-opposite, divisor_of-pos}
use Rattle.gx_plane.proofs.PlaneFacts.{Decides-int_le, side_of-plane_at, side_of-flipped, plane_with-zero, plane_with-apart, plane_at-opposite, plane_from-opposite, flipped-flipped, plane_with-opposite}
use borrow.Author.Differences.{ints}

-- ---- multiples of sides
-- each side by h is the same positive multiple of that by k
record IsMultiple (d : ℕ) (h k : HalfSpace) : Type 0 where
  positive : 0 < d
  sides : (x : V3) → side_of h x ≡ pos d *ℤ side_of k x

IsMultiple-flipped : (d : ℕ) (h k : HalfSpace) → IsMultiple d h k → IsMultiple d (flipped h) (flipped k)
IsMultiple-flipped d h k m = record {
  positive = m.positive;
  sides = λ x. side_of-flipped h x ∙ opposite d (side_of h x) (side_of k x) (m.sides x) ∙ ap (λ (z : ℤ). pos d *ℤ z) (sym (side_of-flipped k x));
}
  where
    opposite : (d : ℕ) (y z : ℤ) → y ≡ pos d *ℤ z → pos 0 -ℤ y ≡ pos d *ℤ (pos 0 -ℤ z)
    opposite d y z e = omega (arith, ints, e, mul-sub (pos d) (pos 0) z, mul-zero (pos d))

supports-multiple : (d : ℕ) (h k : HalfSpace) (points : List V3) → IsMultiple d h k → supports h points ≡ supports k points
supports-multiple d h k points m = ap (λ (test : V3 → Bool). list_all test points) (λ i x. same (side_of h x) (side_of k x) (m.sides x) i)
  where
    same : (y z : ℤ) → y ≡ pos d *ℤ z → int_le y (pos 0) ≡ int_le z (pos 0)
    same y z e =
        same_from_decides (int_le y (pos 0)) (int_le z (pos 0)) (Decides-int_le y (pos 0))
        (Decides-like (int_le z (pos 0)) (λ le. omega (arith, ints, e, mul-zero (pos d), mul-le-left (pos d) z (pos 0) (omega (arith, ints)) le)) (λ le. le_of_mul-le-left (pos d) z (pos 0) (omega (arith, ints, m.positive)) (omega (arith, ints, e, le, mul-zero (pos d)))) (Decides-int_le z (pos 0)))

is_between-plane_at : (a b : List V3) (n p : V3) → 0 < divisor_of n → is_between a b (plane_from n p) ≡ is_between a b (plane_at n p)
is_between-plane_at a b n p lt =
    ap₂ (λ s t. s && t)
    (supports-multiple (divisor_of n) (plane_from n p) (plane_at n p) a multiple)
    (supports-multiple (divisor_of n) (flipped (plane_from n p)) (flipped (plane_at n p)) b (IsMultiple-flipped (divisor_of n) (plane_from n p) (plane_at n p) multiple))
  where
    shifted : (n p x : V3) → dot_of n x -ℤ dot_of n p ≡ dot_of n (difference_of x p)
    shifted = identity (vector3 ∷ vector3 ∷ vector3 ∷ []) (λ n p x. term.dot_of n x ⊖ term.dot_of n p ≣ term.dot_of n (term.difference_of x p)) tt

    multiple : IsMultiple (divisor_of n) (plane_from n p) (plane_at n p)
    multiple = record { positive = lt; sides = λ x. shifted n p x ∙ sym (side_of-plane_at n p x) }

-- ---- the first of the two senses
first_way : (a b : List V3) (n p : V3) → find (is_between a b) (both_ways (plane_with n p)) ≡ cond (is_between a b (plane_from n p)) (plane_with n p) (cond (is_between a b (plane_from (opposite_of n) p)) (plane_with (opposite_of n) p) None)
first_way a b n p = rw (plane_with-opposite n p) (go (is_zero n) refl)
  where
    test : HalfSpace → Bool
    test = is_between a b

    none : (s t : Bool) → ◌≡◌ {A = Option HalfSpace} None (cond s None (cond t None None))
    none true t = refl
    none false true = refl
    none false false = refl

    opposite : 0 < divisor_of n → test (flipped (plane_at n p)) ≡ test (plane_from (opposite_of n) p)
    opposite lt = sym (is_between-plane_at a b (opposite_of n) p (omega (arith, divisor_of-opposite n, lt)) ∙ ap test (plane_at-opposite n p))

    go : (z : Bool) → is_zero n ≡ z → find test (both_ways (plane_with n p)) ≡ cond (test (plane_from n p)) (plane_with n p) (cond (test (plane_from (opposite_of n) p)) (option_map flipped (plane_with n p)) None)
    go true e = rw (plane_with-zero n p e) (none (test (plane_from n p)) (test (plane_from (opposite_of n) p)))
    go false e =
        let lt = divisor_of-pos n e in
        rw (plane_with-apart n p e, is_between-plane_at a b n p lt, sym (opposite lt)) refl

-- as the code goes: by the senses in which a plane with a normal that is not made primitive is between
pub found : (a b : List V3) (p q r : V3) (h : HalfSpace) (s t : Bool) → h ≡ plane_from (normal_of p q r) p
    → (supports h a && supports (flipped h) b) ≡ s → (supports (flipped h) a && supports h b) ≡ t
    → cond s (plane_with h.n p) (cond t (plane_with (opposite_of h.n) p) None) ≡ find (is_between a b) (both_ways (plane_through p q r))
found a b p q r h s t is f g =
    let n = normal_of p q r in
    let first : is_between a b (plane_from n p) ≡ s = rw is at f in
    let second : is_between a b (plane_from (opposite_of n) p) ≡ t =
    ap (is_between a b) (plane_from-opposite n p) ∙ ap (λ (k : HalfSpace). supports (flipped (plane_from n p)) a && supports k b) (flipped-flipped (plane_from n p)) ∙ (rw is at g) in
    rw is (sym (first_way a b n p ∙ ap₂ (λ (s t : Bool). cond s (plane_with n p) (cond t (plane_with (opposite_of n) p) None)) first second))

-- ---- the senses that are left
pub refuted : (f b : Bool) → (not f && not b) ≡ true → (f ≡ false) × (b ≡ false)
refuted true b e = absurd (true≢false (sym e))
refuted false true e = absurd (true≢false (sym e))
refuted false false e = (refl, refl)

side-backward : (h : HalfSpace) (p : V3) → int_le (pos 0) (side_of h p) ≡ int_le (side_of (flipped h) p) (pos 0)
side-backward h p =
    same_from_decides (int_le (pos 0) (side_of h p)) (int_le (side_of (flipped h) p) (pos 0)) (Decides-int_le (pos 0) (side_of h p))
    (Decides-like (int_le (side_of (flipped h) p) (pos 0)) (λ le. omega (arith, ints, le, side_of-flipped h p)) (λ le. omega (arith, ints, le, side_of-flipped h p)) (Decides-int_le (side_of (flipped h) p) (pos 0)))

pub none_before : (h : HalfSpace) (points : List V3) → list_all (λ p. int_le (pos 0) (side_of h p)) points ≡ supports (flipped h) points
none_before h points = ap (λ (test : V3 → Bool). list_all test points) (λ i p. side-backward h p i)

pub flipped-before : (h : HalfSpace) (p : V3) (side : ℤ) → side ≡ side_of h p → pos 0 ≤ℤ side → side_of (flipped h) p ≤ℤ pos 0
flipped-before h p side e le = omega (arith, ints, e, le, side_of-flipped h p)

pub flipped-beyond : (h : HalfSpace) (p : V3) (side : ℤ) → side ≡ side_of h p → side <ℤ pos 0 → pos 0 <ℤ side_of (flipped h) p
flipped-beyond h p side e lt = omega (arith, ints, e, lt, side_of-flipped h p)

-- a point that isn't beyond leaves a sense to those behind it in the list; one that is beyond refutes it
module _ (h : HalfSpace) (p : V3) (others rest points : List V3) (is : rest ≡ p ∷ others) (left : supports h rest ≡ supports h points) where
  decided : (s : Bool) → int_le (side_of h p) (pos 0) ≡ s → (s && supports h others) ≡ supports h points
  decided s e = ap (λ (b : Bool). b && supports h others) (sym e) ∙ ap (supports h) (sym is) ∙ left

  pub left_to_others : side_of h p ≤ℤ pos 0 → supports h others ≡ supports h points
  left_to_others le = decided true ((Decides-int_le (side_of h p) (pos 0)).1 le)

  pub refuted_here : pos 0 <ℤ side_of h p → false ≡ supports h points
  refuted_here lt = decided false (beyond (int_le (side_of h p) (pos 0)) (Decides-int_le (side_of h p) (pos 0)).0)
    where
      beyond : (b : Bool) → (b ≡ true → side_of h p ≤ℤ pos 0) → b ≡ false
      beyond true f = absurd (omega (arith, ints, lt, f refl))
      beyond false f = refl

-- between a list and no point is what supports the list
pub find-supports : (points : List V3) (hs : List HalfSpace) → find (is_between points []) hs ≡ find (λ h. supports h points) hs
find-supports points hs = ap (λ (test : HalfSpace → Bool). find test hs) (λ i h. alone (supports h points) i)
  where
    alone : (s : Bool) → (s && true) ≡ s
    alone true = refl
    alone false = refl
