-- A vector above a list is moved, along directions orthogonal to g and to the members met, until it meets three members: then it is a
-- multiple of their minors.
use Rattle.std.proofs.Common.{get_or, ◌≡◌, ◌≢◌, ◌⊎◌, inl, inr, ℤ, pos, ◌+ℤ◌, ◌-ℤ◌, ◌*ℤ◌, ◌≤ℤ◌, ◌<ℤ◌, List, [], ◌∷◌, All, Contains, refl, ap, ◌∙◌, arith}
use Rattle.std.proofs.lemmas.List.Elements.{All-nil, All-cons, All-head, All-tail, All-weaker, All-contains}
use Rattle.std.proofs.lemmas.Int.{by_lt_z}
use Rattle.gx_num.specs.Vector4.{Vec4, origin, dot4, plus4, times4, opposite4, minors, det4}
use Rattle.gx_algebra.proofs.Terms as term
use Rattle.gx_algebra.proofs.Ring.{num}
use Rattle.gx_algebra.proofs.Terms.{Term4, ◌≣◌, ◌⊕◌, ◌⊖◌, ◌⊗◌, none}
use Rattle.gx_algebra.proofs.Laws.{mul-zero}
use Rattle.gx_algebra.proofs.Identity.{identity, number, vector4}
use Rattle.gx_algebra.proofs.Identities.{same4, dot4_comm, dot4-opposite4, dot4-origin, dot4-minors_first, dot4-minors_second, dot4-minors_third, cramer}
use Rattle.gx_algebra.proofs.Lists.{Contains-head, Contains-tail}
use Rattle.gx_algebra.proofs.Order.{by_sign, mul_nonneg, mul_pos, nonneg_of_mul}
use borrow.Author.Differences.{ints}
use Rattle.gx_plane.specs.Laws.{IsAbove, Spans, IsBeyond, IsFromThree}

-- ---- the member that is met first
-- v moved along d until it meets h
abbrev met : Vec4 → Vec4 → Vec4 → Vec4
met h d v = plus4 (times4 (pos 0 -ℤ dot4 h d) v) (times4 (dot4 h v) d)

dot4-met : (q h d v : Vec4) → dot4 q (met h d v) ≡ ((pos 0 -ℤ dot4 h d) *ℤ dot4 q v) +ℤ (dot4 h v *ℤ dot4 q d)
dot4-met = identity (vector4 ∷ vector4 ∷ vector4 ∷ vector4 ∷ []) (λ q h d v. term.dot4 q (term.plus4 (term.times4 (none ⊖ term.dot4 h d) v) (term.times4 (term.dot4 h v) d)) ≣ (none ⊖ term.dot4 h d) ⊗ term.dot4 q v ⊕ term.dot4 h v ⊗ term.dot4 q d) tt

dot4-met_same : (h d v : Vec4) → dot4 h (met h d v) ≡ pos 0
dot4-met_same = identity (vector4 ∷ vector4 ∷ vector4 ∷ []) (λ h d v. term.dot4 h (term.plus4 (term.times4 (none ⊖ term.dot4 h d) v) (term.times4 (term.dot4 h v) d)) ≣ none) tt

-- h is a member with a product below 0 with d, and none is met before it
record IsFirst (members : List Vec4) (d v h : Vec4) : Type 0 where
  in_list : Contains members h
  falls : dot4 h d <ℤ pos 0
  above : IsAbove members (met h d v)

not_falling : (h d v q : Vec4) → dot4 h d <ℤ pos 0 → pos 0 ≤ℤ dot4 h v → pos 0 ≤ℤ dot4 q v → pos 0 ≤ℤ dot4 q d → pos 0 ≤ℤ dot4 q (met h d v)
not_falling h d v q falls hv qv qd =
    omega (arith, ints, dot4-met q h d v, mul_nonneg (pos 0 -ℤ dot4 h d) (dot4 q v) (omega (arith, ints)) qv, mul_nonneg (dot4 h v) (dot4 q d) hv qd)

-- where m is met before h, and h before q, m is met before q
sooner_numbers : (h m q hv mv qv : ℤ) → h <ℤ pos 0 → pos 0 ≤ℤ qv → pos 0 ≤ℤ mv → m <ℤ pos 0 → (((pos 0 -ℤ h) *ℤ mv) +ℤ (hv *ℤ m)) <ℤ pos 0 → pos 0 ≤ℤ (((pos 0 -ℤ h) *ℤ qv) +ℤ (hv *ℤ q)) → pos 0 ≤ℤ (((pos 0 -ℤ m) *ℤ qv) +ℤ (mv *ℤ q))
sooner_numbers h m q hv mv qv hh hqv hmv hm before after =
    by_lt_z q (pos 0)
    (λ lt. nonneg_of_mul (pos 0 -ℤ h) (((pos 0 -ℤ m) *ℤ qv) +ℤ (mv *ℤ q)) (omega (arith, ints))
    (omega (arith, ints, certificate h m q hv mv qv, mul_nonneg (pos 0 -ℤ m) (((pos 0 -ℤ h) *ℤ qv) +ℤ (hv *ℤ q)) (omega (arith, ints)) after, mul_nonneg (pos 0 -ℤ q) (pos 0 -ℤ (((pos 0 -ℤ h) *ℤ mv) +ℤ (hv *ℤ m))) (omega (arith, ints)) (omega (arith, ints)))))
    (λ le. omega (arith, ints, mul_nonneg (pos 0 -ℤ m) qv (omega (arith, ints)) hqv, mul_nonneg mv q hmv le))
  where
    certificate : (h m q hv mv qv : ℤ) → (pos 0 -ℤ h) *ℤ (((pos 0 -ℤ m) *ℤ qv) +ℤ (mv *ℤ q)) ≡ ((pos 0 -ℤ m) *ℤ (((pos 0 -ℤ h) *ℤ qv) +ℤ (hv *ℤ q))) +ℤ ((pos 0 -ℤ q) *ℤ (pos 0 -ℤ (((pos 0 -ℤ h) *ℤ mv) +ℤ (hv *ℤ m))))
    certificate = identity (number ∷ number ∷ number ∷ number ∷ number ∷ number ∷ []) (λ h m q hv mv qv. (none ⊖ h) ⊗ ((none ⊖ m) ⊗ qv ⊕ mv ⊗ q) ≣ (none ⊖ m) ⊗ ((none ⊖ h) ⊗ qv ⊕ hv ⊗ q) ⊕ (none ⊖ q) ⊗ (none ⊖ ((none ⊖ h) ⊗ mv ⊕ hv ⊗ m))) tt

sooner : (h m d v q : Vec4) → dot4 h d <ℤ pos 0 → dot4 m d <ℤ pos 0 → pos 0 ≤ℤ dot4 m v → pos 0 ≤ℤ dot4 q v → dot4 m (met h d v) <ℤ pos 0 → pos 0 ≤ℤ dot4 q (met h d v) → pos 0 ≤ℤ dot4 q (met m d v)
sooner h m d v q hd md mv qv before after =
    rw (dot4-met q m d v)
    (sooner_numbers (dot4 h d) (dot4 m d) (dot4 q d) (dot4 h v) (dot4 m v) (dot4 q v) hd qv mv md (rw (dot4-met m h d v) at before) (rw (dot4-met q h d v) at after))

both : (P Q R : Vec4 → Type 0) (members : List Vec4) → ((q : Vec4) → P q → Q q → R q) → All P members → All Q members → All R members
both P Q R members f h k = λ i e lt. f (get_or members i e) (h i e lt) (k i e lt)

-- no product with d is below 0, or a member is met first
first : (members : List Vec4) (d v : Vec4) → IsAbove members v → IsAbove members d ⊎ ((h : Vec4) × IsFirst members d v h)
first [] d v above = inl (All-nil (λ m. pos 0 ≤ℤ dot4 m d))
first (m ∷ members) d v above = go (first members d v (All-tail (λ a. pos 0 ≤ℤ dot4 a v) m members above))
  where
    mv : pos 0 ≤ℤ dot4 m v
    mv = All-head (λ a. pos 0 ≤ℤ dot4 a v) m members above

    rest : IsAbove members v
    rest = All-tail (λ a. pos 0 ≤ℤ dot4 a v) m members above

    itself : pos 0 ≤ℤ dot4 m (met m d v)
    itself = omega (arith, ints, dot4-met_same m d v)

    go : IsAbove members d ⊎ ((h : Vec4) × IsFirst members d v h) → IsAbove (m ∷ members) d ⊎ ((h : Vec4) × IsFirst (m ∷ members) d v h)
    go (inl rises) =
        by_lt_z (dot4 m d) (pos 0)
        (λ lt. inr (
          m,
          record {
            in_list = Contains-head m members;
            falls = lt;
            above = All-cons (λ q. pos 0 ≤ℤ dot4 q (met m d v)) m members itself
                (both (λ q. pos 0 ≤ℤ dot4 q v) (λ q. pos 0 ≤ℤ dot4 q d) (λ q. pos 0 ≤ℤ dot4 q (met m d v)) members (λ q. not_falling m d v q lt mv) rest rises);
          },
        ))
        (λ le. inl (All-cons (λ q. pos 0 ≤ℤ dot4 q d) m members le rises))
    go (inr (h, is)) =
        by_lt_z (dot4 m (met h d v)) (pos 0)
        (λ lt. by_lt_z (dot4 m d) (pos 0)
        (λ falls. inr (
          m,
          record {
            in_list = Contains-head m members;
            falls = falls;
            above = All-cons (λ q. pos 0 ≤ℤ dot4 q (met m d v)) m members itself
                (both (λ q. pos 0 ≤ℤ dot4 q v) (λ q. pos 0 ≤ℤ dot4 q (met h d v)) (λ q. pos 0 ≤ℤ dot4 q (met m d v)) members (λ q qv. sooner h m d v q is.falls falls mv qv lt) rest is.above);
          },
        ))
        (λ le. absurd (omega (arith, ints, lt, not_falling h d v m is.falls (All-contains (λ q. pos 0 ≤ℤ dot4 q v) members h rest is.in_list) mv le))))
        (λ le. inr (
          h,
          record {
            in_list = Contains-tail m members h is.in_list;
            falls = is.falls;
            above = All-cons (λ q. pos 0 ≤ℤ dot4 q (met h d v)) m members le is.above;
          },
        ))

-- ---- a move
-- v moved along d or against it until it meets h; products with what is orthogonal to d are only scaled
record IsMove (members : List Vec4) (d v h w : Vec4) : Type 0 where
  in_list : Contains members h
  crossed : dot4 h d ≢ pos 0
  above : IsAbove members w
  meets : dot4 h w ≡ pos 0
  scale : ℤ
  scale_pos : pos 0 <ℤ scale
  kept : (q : Vec4) → dot4 q d ≡ pos 0 → dot4 q w ≡ scale *ℤ dot4 q v

move_by : (members : List Vec4) (d v h : Vec4) → IsFirst members d v h → IsMove members d v h (met h d v)
move_by members d v h is = record {
  in_list = is.in_list;
  crossed = λ e. omega (arith, ints, e, is.falls);
  above = is.above;
  meets = dot4-met_same h d v;
  scale = pos 0 -ℤ dot4 h d;
  scale_pos = omega (arith, ints, is.falls);
  kept = λ q e. omega (arith, ints, dot4-met q h d v, ap (λ (z : ℤ). dot4 h v *ℤ z) e);
}

turn_back : (members : List Vec4) (d v h w : Vec4) → IsMove members (opposite4 d) v h w → IsMove members d v h w
turn_back members d v h w is = record {
  in_list = is.in_list;
  crossed = λ e. is.crossed (omega (arith, ints, e, dot4-opposite4 h d));
  above = is.above;
  meets = is.meets;
  scale = is.scale;
  scale_pos = is.scale_pos;
  kept = λ q e. is.kept q (omega (arith, ints, e, dot4-opposite4 q d));
}

move : (members : List Vec4) (d v q : Vec4) → Spans members → dot4 q d ≢ pos 0 → IsAbove members v → (h w : Vec4) × IsMove members d v h w
move members d v q spans apart above = go (first members d v above) (first members (opposite4 d) v above)
  where
    flat : IsAbove members d → IsAbove members (opposite4 d) → d ≡ origin
    flat up down = spans d (both (λ m. pos 0 ≤ℤ dot4 m d) (λ m. pos 0 ≤ℤ dot4 m (opposite4 d)) (λ m. dot4 m d ≡ pos 0) members (λ m h k. omega (arith, ints, h, k, dot4-opposite4 m d)) up down)

    go : IsAbove members d ⊎ ((h : Vec4) × IsFirst members d v h) → IsAbove members (opposite4 d) ⊎ ((h : Vec4) × IsFirst members (opposite4 d) v h) → (h w : Vec4) × IsMove members d v h w
    go (inr (h, is)) other = (h, met h d v, move_by members d v h is)
    go (inl up) (inr (h, is)) = (h, met h (opposite4 d) v, turn_back members d v h (met h (opposite4 d) v) (move_by members (opposite4 d) v h is))
    go (inl up) (inl down) = absurd (apart (ap (dot4 q) (flat up down) ∙ dot4-origin q))

-- ---- three members met
-- the vectors that a, b and c leave free are the multiples of their minors
pub at_three : (a b c g p v : Vec4) → dot4 a v ≡ pos 0 → dot4 b v ≡ pos 0 → dot4 c v ≡ pos 0 → dot4 g (minors a b c) *ℤ dot4 p v ≡ dot4 p (minors a b c) *ℤ dot4 g v
at_three a b c g p v av bv cv =
    omega (arith, ints, cramer a b c g p v, gone (det4 p g b c) av, gone (det4 p g c a) bv, gone (det4 p g a b) cv)
  where
    gone : (k : ℤ) {z : ℤ} → z ≡ pos 0 → k *ℤ z ≡ pos 0
    gone k e = ap (λ (t : ℤ). k *ℤ t) e ∙ mul-zero k

from_three : (members : List Vec4) (a b c g v : Vec4) → Contains members a → Contains members b → Contains members c → IsBeyond members g v → dot4 a v ≡ pos 0 → dot4 b v ≡ pos 0 → dot4 c v ≡ pos 0 → dot4 g (minors a b c) ≢ pos 0 → (w : Vec4) × IsBeyond members g w × IsFromThree members w
from_three members a b c g v in_a in_b in_c is av bv cv apart =
    let n : Vec4 = minors a b c in
    by_sign (dot4 g n)
    (λ lt. (
      opposite4 n,
      record {
        above = All-weaker (λ p. pos 0 ≤ℤ dot4 p v) (λ p. pos 0 ≤ℤ dot4 p (opposite4 n)) (λ p h. nonneg_of_mul (dot4 g v) (dot4 p (opposite4 n)) is.beyond
            (omega (arith, ints, at_three a b c g p v av bv cv, dot4-opposite4 p n, mul-opposite (dot4 g v) (dot4 p n), ap (λ (z : ℤ). dot4 g v *ℤ z) (dot4-opposite4 p n), mul_nonneg (pos 0 -ℤ dot4 g n) (dot4 p v) (omega (arith, ints)) h, opposite-mul (dot4 g n) (dot4 p v)))) members is.above;
        beyond = omega (arith, ints, dot4-opposite4 g n);
      },
      three n (inr refl),
    ))
    (λ e. absurd (apart e))
    (λ gt. (
      n,
      record {
        above = All-weaker (λ p. pos 0 ≤ℤ dot4 p v) (λ p. pos 0 ≤ℤ dot4 p n) (λ p h. nonneg_of_mul (dot4 g v) (dot4 p n) is.beyond
            (omega (arith, ints, at_three a b c g p v av bv cv, mul_nonneg (dot4 g n) (dot4 p v) (omega (arith, ints)) h))) members is.above;
        beyond = gt;
      },
      three n (inl refl),
    ))
  where
    mul-opposite : (a b : ℤ) → a *ℤ (pos 0 -ℤ b) ≡ pos 0 -ℤ a *ℤ b
    mul-opposite = identity (number ∷ number ∷ []) (λ a b. a ⊗ (none ⊖ b) ≣ none ⊖ a ⊗ b) tt

    opposite-mul : (a b : ℤ) → (pos 0 -ℤ a) *ℤ b ≡ pos 0 -ℤ a *ℤ b
    opposite-mul = identity (number ∷ number ∷ []) (λ a b. (none ⊖ a) ⊗ b ≣ none ⊖ a ⊗ b) tt

    three : (n : Vec4) {w : Vec4} → (w ≡ minors a b c) ⊎ (w ≡ opposite4 (minors a b c)) → IsFromThree members w
    three n e = record { first = a; second = b; third = c; first_in = in_a; second_in = in_b; third_in = in_c; same = e }

-- ---- a first direction
abbrev unit_x : Vec4
unit_x = record { x = pos 1; y = pos 0; z = pos 0; w = pos 0 }

abbrev unit_y : Vec4
unit_y = record { x = pos 0; y = pos 1; z = pos 0; w = pos 0 }

abbrev unit_z : Vec4
unit_z = record { x = pos 0; y = pos 0; z = pos 1; w = pos 0 }

abbrev pub unit_w : Vec4
unit_w = record { x = pos 0; y = pos 0; z = pos 0; w = pos 1 }

-- two vectors that are independent of g and of each other, and a vector that shows it
record IsFrame (g e f q : Vec4) : Type 0 where
  apart : dot4 q (minors g e f) ≢ pos 0

not_zero : {a b : ℤ} → a ≢ pos 0 → b ≡ pos 0 -ℤ a ⊎ b ≡ a → b ≢ pos 0
not_zero ne (inl e) z = ne (omega (arith, ints))
not_zero ne (inr e) z = ne (omega (arith, ints))

frame : (g : Vec4) → g ≢ origin → (e f q : Vec4) × IsFrame g e f q
frame g ne =
    by_zero g.x
    (λ x. by_zero g.y
    (λ y. by_zero g.z
    (λ z. by_zero g.w
    (λ w. absurd (ne (same4 g origin x y z w)))
    (λ w. (unit_x, unit_y, unit_z, record { apart = not_zero w (inr (at_w g)) })))
    (λ z. (unit_x, unit_y, unit_w, record { apart = not_zero z (inl (at_z g)) })))
    (λ y. (unit_x, unit_z, unit_w, record { apart = not_zero y (inr (at_y g)) })))
    (λ x. (unit_y, unit_z, unit_w, record { apart = not_zero x (inl (at_x g)) }))
  where
    by_zero : {P : Type 0} (a : ℤ) → (a ≡ pos 0 → P) → (a ≢ pos 0 → P) → P
    by_zero a same other =
        by_sign a (λ lt. other (λ e. omega (arith, ints, lt))) same (λ gt. other (λ e. omega (arith, ints, gt)))

    term_x : Term4
    term_x = record { x = num (pos 1); y = none; z = none; w = none }

    term_y : Term4
    term_y = record { x = none; y = num (pos 1); z = none; w = none }

    term_z : Term4
    term_z = record { x = none; y = none; z = num (pos 1); w = none }

    term_w : Term4
    term_w = record { x = none; y = none; z = none; w = num (pos 1) }

    at_x : (g : Vec4) → dot4 unit_w (minors g unit_y unit_z) ≡ pos 0 -ℤ g.x
    at_x = identity (vector4 ∷ []) (λ g. term.dot4 term_w (term.minors g term_y term_z) ≣ none ⊖ g.x) tt

    at_y : (g : Vec4) → dot4 unit_w (minors g unit_x unit_z) ≡ g.y
    at_y = identity (vector4 ∷ []) (λ g. term.dot4 term_w (term.minors g term_x term_z) ≣ g.y) tt

    at_z : (g : Vec4) → dot4 unit_w (minors g unit_x unit_y) ≡ pos 0 -ℤ g.z
    at_z = identity (vector4 ∷ []) (λ g. term.dot4 term_w (term.minors g term_x term_y) ≣ none ⊖ g.z) tt

    at_w : (g : Vec4) → dot4 unit_z (minors g unit_x unit_y) ≡ g.w
    at_w = identity (vector4 ∷ []) (λ g. term.dot4 term_z (term.minors g term_x term_y) ≣ g.w) tt

-- ---- the theorem
second_apart : (a g e f : Vec4) → dot4 a (minors g e f) ≢ pos 0 → dot4 f (minors a g e) ≢ pos 0
second_apart a g e f ne = not_zero ne (inl (turn a g e f))
  where
    turn : (a g e f : Vec4) → dot4 f (minors a g e) ≡ pos 0 -ℤ dot4 a (minors g e f)
    turn = identity (vector4 ∷ vector4 ∷ vector4 ∷ vector4 ∷ []) (λ a g e f. term.dot4 f (term.minors a g e) ≣ none ⊖ term.dot4 a (term.minors g e f)) tt

third_apart : (a b g e : Vec4) → dot4 b (minors a g e) ≢ pos 0 → dot4 e (minors a b g) ≢ pos 0
third_apart a b g e ne = not_zero ne (inr (turn a b g e))
  where
    turn : (a b g e : Vec4) → dot4 e (minors a b g) ≡ dot4 b (minors a g e)
    turn = identity (vector4 ∷ vector4 ∷ vector4 ∷ vector4 ∷ []) (λ a b g e. term.dot4 e (term.minors a b g) ≣ term.dot4 b (term.minors a g e)) tt

last_apart : (a b c g : Vec4) → dot4 c (minors a b g) ≢ pos 0 → dot4 g (minors a b c) ≢ pos 0
last_apart a b c g ne = not_zero ne (inl (turn a b c g))
  where
    turn : (a b c g : Vec4) → dot4 g (minors a b c) ≡ pos 0 -ℤ dot4 c (minors a b g)
    turn = identity (vector4 ∷ vector4 ∷ vector4 ∷ vector4 ∷ []) (λ a b c g. term.dot4 g (term.minors a b c) ≣ none ⊖ term.dot4 c (term.minors a b g)) tt

-- a product of 0, or above 0, stays so over a move
still_zero : (members : List Vec4) (d v h w q : Vec4) → IsMove members d v h w → dot4 q d ≡ pos 0 → dot4 q v ≡ pos 0 → dot4 q w ≡ pos 0
still_zero members d v h w q is e z = is.kept q e ∙ ap (λ (t : ℤ). is.scale *ℤ t) z ∙ mul-zero is.scale

still_beyond : (members : List Vec4) (g d v h w : Vec4) → IsMove members d v h w → dot4 g d ≡ pos 0 → IsBeyond members g v → IsBeyond members g w
still_beyond members g d v h w is e b = record {
  above = is.above;
  beyond = rw (is.kept g e) (mul_pos is.scale (dot4 g v) is.scale_pos b.beyond);
}

pub tilted : (members : List Vec4) (g : Vec4) → Spans members → (v : Vec4) → IsBeyond members g v → (w : Vec4) × IsBeyond members g w × IsFromThree members w
tilted members g spans v is = along (frame g (λ e. omega (arith, ints, is.beyond, dot4_comm g v, ap (dot4 v) e, dot4-origin v)))
  where
    third : (a b e v2 : Vec4) → Contains members a → Contains members b → dot4 b (minors a g e) ≢ pos 0 → dot4 a v2 ≡ pos 0 → dot4 b v2 ≡ pos 0 → IsBeyond members g v2 → (c v3 : Vec4) × IsMove members (minors a b g) v2 c v3 → (w : Vec4) × IsBeyond members g w × IsFromThree members w
    third a b e v2 in_a in_b apart av bv beyond (c, v3, m) =
        from_three members a b c g v3 in_a in_b m.in_list
        (still_beyond members g (minors a b g) v2 c v3 m (dot4-minors_third a b g) beyond)
        (still_zero members (minors a b g) v2 c v3 a m (dot4-minors_first a b g) av)
        (still_zero members (minors a b g) v2 c v3 b m (dot4-minors_second a b g) bv)
        m.meets
        (last_apart a b c g m.crossed)

    second : (a e v1 : Vec4) → Contains members a → dot4 a v1 ≡ pos 0 → IsBeyond members g v1 → (b v2 : Vec4) × IsMove members (minors a g e) v1 b v2 → (w : Vec4) × IsBeyond members g w × IsFromThree members w
    second a e v1 in_a av beyond (b, v2, m) =
        third a b e v2 in_a m.in_list m.crossed
        (still_zero members (minors a g e) v1 b v2 a m (dot4-minors_first a g e) av)
        m.meets
        (still_beyond members g (minors a g e) v1 b v2 m (dot4-minors_second a g e) beyond)
        (move members (minors a b g) v2 e spans (third_apart a b g e m.crossed) m.above)

    once : (e f : Vec4) → (a v1 : Vec4) × IsMove members (minors g e f) v a v1 → (w : Vec4) × IsBeyond members g w × IsFromThree members w
    once e f (a, v1, m) =
        second a e v1 m.in_list m.meets
        (still_beyond members g (minors g e f) v a v1 m (dot4-minors_first g e f) is)
        (move members (minors a g e) v1 f spans (second_apart a g e f m.crossed) m.above)

    along : (e f q : Vec4) × IsFrame g e f q → (w : Vec4) × IsBeyond members g w × IsFromThree members w
    along (e, f, q, free) = once e f (move members (minors g e f) v q spans free.apart is.above)
