-- Either a vector parts c from a list, or c is in the list's cone: by induction over the list. Where x parts c from all members but g,
-- members and c are moved along g until they are orthogonal to x, and what is found there is moved back.
use Rattle.std.proofs.Common.{◌≡◌, ◌⊎◌, inl, inr, ℕ, zero, suc, ◌*◌, ◌<◌, ℤ, pos, negsuc, ◌+ℤ◌, ◌-ℤ◌, ◌*ℤ◌, neg_ℤ, ◌≤ℤ◌, ◌<ℤ◌, List, [], ◌∷◌, map, length, All, refl, sym, ap, ◌∙◌, arith, mul-pos}
use Rattle.std.proofs.lemmas.List.Elements.{All-nil, All-cons, All-head, All-tail, All-weaker}
use Rattle.std.proofs.lemmas.List.{length-map}
use Rattle.std.proofs.lemmas.Int.{by_lt_z}
use Rattle.gx_num.specs.Vector4.{Vec4, origin, dot4, plus4, times4, opposite4}
use Rattle.gx_algebra.proofs.Terms as term
use Rattle.gx_algebra.proofs.Ring.{Term, num}
use Rattle.gx_algebra.proofs.Terms.{Term4, ◌≣◌, ◌≣⁴◌, ◌⊕◌, ◌⊖◌, ◌⊗◌, none}
use Rattle.gx_algebra.proofs.Identity.{identity, identity4, number, natural, vector4}
use Rattle.gx_algebra.proofs.Identities.{same4, dot4_comm, dot4-plus4, dot4-times4, dot4-opposite4, dot4-origin}
use Rattle.gx_algebra.proofs.Laws.{mul-zero}
use Rattle.gx_algebra.proofs.Order.{mul_nonneg, mul_pos_neg, square_nonneg, mul-eq-zero}
use borrow.Author.Differences.{ints}
use Rattle.gx_plane.specs.Laws.{IsAbove, IsSeparated, IsInCone, combination}

-- ---- a vector with no product with itself is 0
square-zero : (a : ℤ) → (a *ℤ a) ≤ℤ pos 0 → a ≡ pos 0
square-zero a h = go (mul-eq-zero a a (omega (arith, ints, square_nonneg a)))
  where
    go : (a ≡ pos 0) ⊎ (a ≡ pos 0) → a ≡ pos 0
    go (inl e) = e
    go (inr e) = e

pub dot4-self_zero : (v : Vec4) → dot4 v v ≤ℤ pos 0 → v ≡ origin
dot4-self_zero v h =
    let x = square_nonneg v.x in
    let y = square_nonneg v.y in
    let z = square_nonneg v.z in
    let w = square_nonneg v.w in
    same4 v origin
    (square-zero v.x (omega (arith, ints, x, y, z, w)))
    (square-zero v.y (omega (arith, ints, x, y, z, w)))
    (square-zero v.z (omega (arith, ints, x, y, z, w)))
    (square-zero v.w (omega (arith, ints, x, y, z, w)))

-- ---- sums of members
pub dot4-combination : (ks : List ℕ) (members : List Vec4) (v : Vec4) → IsAbove members v → pos 0 ≤ℤ dot4 v (combination ks members)
dot4-combination (k ∷ ks) (m ∷ members) v h =
    let P : Vec4 → Type 0 = λ a. pos 0 ≤ℤ dot4 a v in
    omega (arith, ints, dot4-plus4 v (times4 (pos k) m) (combination ks members), dot4-times4 (pos k) v m, mul_nonneg (pos k) (dot4 v m) (omega (arith, ints)) (omega (arith, ints, dot4_comm v m, All-head P m members h)), dot4-combination ks members v (All-tail P m members h))
dot4-combination [] members v h = omega (arith, ints, dot4-origin v)
dot4-combination (k ∷ ks) [] v h = omega (arith, ints, dot4-origin v)

-- the two cases exclude each other
pub not_both : (members : List Vec4) (c : Vec4) → IsSeparated members c → IsInCone members c → ⊥
not_both members c p q =
    let e : dot4 p.by (times4 (pos q.multiple) c) ≡ dot4 p.by (combination q.multiples members) = ap (dot4 p.by) q.sum in
    let many : pos 0 <ℤ pos q.multiple = omega (arith, ints, q.positive) in
    omega (arith, ints, e, dot4-times4 (pos q.multiple) p.by c, dot4_comm p.by c, mul_pos_neg (pos q.multiple) (dot4 p.by c) many (omega (arith, ints, dot4_comm p.by c, p.below)), dot4-combination q.multiples members p.by p.above)

abbrev scaled : ℕ → List ℕ → List ℕ
scaled d ks = map (λ k. d * k) ks

times4-origin : (k : ℤ) → times4 k origin ≡ origin
times4-origin = identity4 (number ∷ []) (λ k. term.times4 k term.origin ≣⁴ term.origin) tt

times4-times_plus : (d k : ℕ) (a b : Vec4) → plus4 (times4 (pos d *ℤ pos k) a) (times4 (pos d) b) ≡ times4 (pos d) (plus4 (times4 (pos k) a) b)
times4-times_plus = identity4 (natural ∷ natural ∷ vector4 ∷ vector4 ∷ []) (λ d k a b. term.plus4 (term.times4 (d ⊗ k) a) (term.times4 d b) ≣⁴ term.times4 d (term.plus4 (term.times4 k a) b)) tt

combination-scaled : (d : ℕ) (ks : List ℕ) (members : List Vec4) → combination (scaled d ks) members ≡ times4 (pos d) (combination ks members)
combination-scaled d (k ∷ ks) (m ∷ members) =
    ap (plus4 (times4 (pos (d * k)) m)) (combination-scaled d ks members) ∙ times4-times_plus d k m (combination ks members)
combination-scaled d [] members = sym (times4-origin (pos d))
combination-scaled d (k ∷ ks) [] = sym (times4-origin (pos d))

-- ---- moved along g, by the product with x
abbrev moved : ℤ → Vec4 → Vec4 → Vec4 → Vec4
moved d g x a = plus4 (times4 d a) (times4 (dot4 a x) g)

abbrev moved_term : Term → Term4 → Term4 → Term4 → Term4
moved_term d g x a = term.plus4 (term.times4 d a) (term.times4 (term.dot4 a x) g)

moved-origin : (d : ℤ) (g x : Vec4) → moved d g x origin ≡ origin
moved-origin = identity4 (number ∷ vector4 ∷ vector4 ∷ []) (λ d g x. moved_term d g x term.origin ≣⁴ term.origin) tt

moved-plus : (d : ℤ) (g x : Vec4) (k : ℕ) (a b : Vec4) → plus4 (times4 (pos k) (moved d g x a)) (moved d g x b) ≡ moved d g x (plus4 (times4 (pos k) a) b)
moved-plus = identity4 (number ∷ vector4 ∷ vector4 ∷ natural ∷ vector4 ∷ vector4 ∷ []) (λ d g x k a b. term.plus4 (term.times4 k (moved_term d g x a)) (moved_term d g x b) ≣⁴ moved_term d g x (term.plus4 (term.times4 k a) b)) tt

combination-moved : (d : ℤ) (g x : Vec4) (ks : List ℕ) (members : List Vec4) → combination ks (map (moved d g x) members) ≡ moved d g x (combination ks members)
combination-moved d g x (k ∷ ks) (m ∷ members) =
    ap (plus4 (times4 (pos k) (moved d g x m))) (combination-moved d g x ks members) ∙ moved-plus d g x k m (combination ks members)
combination-moved d g x [] members = sym (moved-origin d g x)
combination-moved d g x (k ∷ ks) [] = sym (moved-origin d g x)

-- a vector found for the moved list, moved back
abbrev back : ℤ → Vec4 → Vec4 → Vec4 → Vec4
back d g x y = plus4 (times4 d y) (times4 (dot4 g y) x)

dot4-back : (d : ℤ) (g x y a : Vec4) → dot4 a (back d g x y) ≡ dot4 (moved d g x a) y
dot4-back = identity (number ∷ vector4 ∷ vector4 ∷ vector4 ∷ vector4 ∷ []) (λ d g x y a. term.dot4 a (term.plus4 (term.times4 d y) (term.times4 (term.dot4 g y) x)) ≣ term.dot4 (moved_term d g x a) y) tt

dot4-back_same : (d : ℤ) (g x y : Vec4) → dot4 g (back d g x y) ≡ dot4 g y *ℤ (d +ℤ dot4 g x)
dot4-back_same = identity (number ∷ vector4 ∷ vector4 ∷ vector4 ∷ []) (λ d g x y. term.dot4 g (term.plus4 (term.times4 d y) (term.times4 (term.dot4 g y) x)) ≣ term.dot4 g y ⊗ (d ⊕ term.dot4 g x)) tt

All-unmap : (P : Vec4 → Type 0) (f : Vec4 → Vec4) (members : List Vec4) → All P (map f members) → All (λ m. P (f m)) members
All-unmap P f [] h = All-nil (λ m. P (f m))
All-unmap P f (m ∷ members) h =
    All-cons (λ a. P (f a)) m members (All-head P (f m) (map f members) h) (All-unmap P f members (All-tail P (f m) (map f members) h))

IsSeparated-back : (g : Vec4) (members : List Vec4) (c x : Vec4) (d : ℤ) → d ≡ neg_ℤ (dot4 g x) → IsSeparated (map (moved d g x) members) (moved d g x c) → IsSeparated (g ∷ members) c
IsSeparated-back g members c x d e p =
    let v = back d g x p.by in
    let nothing : d +ℤ dot4 g x ≡ pos 0 = omega (arith, ints) in
    record {
      by = v;
      above = All-cons (λ m. pos 0 ≤ℤ dot4 m v) g members
          (rw (dot4-back_same d g x p.by, nothing, mul-zero (dot4 g p.by)) (omega (arith, ints)))
          (All-weaker (λ m. pos 0 ≤ℤ dot4 (moved d g x m) p.by) (λ m. pos 0 ≤ℤ dot4 m v) (λ m h. rw (dot4-back d g x p.by m) h) members (All-unmap (λ m. pos 0 ≤ℤ dot4 m p.by) (moved d g x) members p.above));
      below = rw (dot4-back d g x p.by c) p.below;
    }

mul_swapped : (k d c : ℤ) → (d *ℤ k) *ℤ c ≡ (k *ℤ d) *ℤ c
mul_swapped = identity (number ∷ number ∷ number ∷ []) (λ k d c. (d ⊗ k) ⊗ c ≣ (k ⊗ d) ⊗ c) tt

left_over-mul : (k s t g : ℤ) → (t -ℤ k *ℤ s) *ℤ g ≡ t *ℤ g -ℤ (k *ℤ s) *ℤ g
left_over-mul = identity (number ∷ number ∷ number ∷ number ∷ []) (λ k s t g. (t ⊖ k ⊗ s) ⊗ g ≣ t ⊗ g ⊖ (k ⊗ s) ⊗ g) tt

gathered_number : (k d n : ℕ) (s t c b g : ℤ) → pos n ≡ t -ℤ pos k *ℤ s → ((pos k *ℤ pos d) *ℤ c) +ℤ ((pos k *ℤ s) *ℤ g) ≡ (pos d *ℤ b) +ℤ (t *ℤ g) → (pos d *ℤ pos k) *ℤ c ≡ (pos n *ℤ g) +ℤ (pos d *ℤ b)
gathered_number k d n s t c b g e h =
    omega (arith, ints, h, mul_swapped (pos k) (pos d) c, left_over-mul (pos k) s t g, ap (λ (z : ℤ). z *ℤ g) e)

-- what is left of the moved sum is a multiple of g
gathered : (k d n : ℕ) (s t : ℤ) (c b g : Vec4) → pos n ≡ t -ℤ pos k *ℤ s → plus4 (times4 (pos k *ℤ pos d) c) (times4 (pos k *ℤ s) g) ≡ plus4 (times4 (pos d) b) (times4 t g) → times4 (pos d *ℤ pos k) c ≡ plus4 (times4 (pos n) g) (times4 (pos d) b)
gathered k d n s t c b g e h =
    same4 (times4 (pos d *ℤ pos k) c) (plus4 (times4 (pos n) g) (times4 (pos d) b))
    (gathered_number k d n s t c.x b.x g.x e (ap (λ (v : Vec4). v.x) h))
    (gathered_number k d n s t c.y b.y g.y e (ap (λ (v : Vec4). v.y) h))
    (gathered_number k d n s t c.z b.z g.z e (ap (λ (v : Vec4). v.z) h))
    (gathered_number k d n s t c.w b.w g.w e (ap (λ (v : Vec4). v.w) h))

times4-moved : (k : ℕ) (d : ℤ) (g x c : Vec4) → times4 (pos k) (moved d g x c) ≡ plus4 (times4 (pos k *ℤ d) c) (times4 (pos k *ℤ dot4 c x) g)
times4-moved = identity4 (natural ∷ number ∷ vector4 ∷ vector4 ∷ vector4 ∷ []) (λ k d g x c. term.times4 k (moved_term d g x c) ≣⁴ term.plus4 (term.times4 (k ⊗ d) c) (term.times4 (k ⊗ term.dot4 c x) g)) tt

natural_of : (z : ℤ) → pos 0 ≤ℤ z → (n : ℕ) × (pos n ≡ z)
natural_of (pos n) h = (n, refl)
natural_of (negsuc n) h = absurd (omega (arith, ints))

IsInCone-back : (g : Vec4) (members : List Vec4) (c x : Vec4) (d : ℕ) → 0 < d → IsAbove members x → dot4 c x <ℤ pos 0 → IsInCone (map (moved (pos d) g x) members) (moved (pos d) g x c) → IsInCone (g ∷ members) c
IsInCone-back g members c x d hd above below q =
    let b = combination q.multiples members in
    let t = dot4 b x in
    let s = dot4 c x in
    let k = q.multiple in
    let down : (pos k *ℤ s) <ℤ pos 0 = mul_pos_neg (pos k) s (omega (arith, ints, q.positive)) below in
    let n = natural_of (t -ℤ pos k *ℤ s) (omega (arith, ints, dot4-combination q.multiples members x above, dot4_comm x b)) in
    record {
      multiple = d * k;
      positive = mul-pos hd q.positive;
      multiples = n.0 ∷ scaled d q.multiples;
      one_each =
          omega (arith, length-map q.multiples (λ (k : ℕ). d * k), q.one_each, length-map members (moved (pos d) g x));
      sum = gathered k d n.0 s t c b g n.1 (sym (times4-moved k (pos d) g x c) ∙ q.sum ∙ combination-moved (pos d) g x q.multiples members)
          ∙ ap (plus4 (times4 (pos n.0) g)) (sym (combination-scaled d q.multiples members));
    }

-- ---- the induction
times4-one : (c : Vec4) → times4 (pos 1) c ≡ c
times4-one = identity4 (vector4 ∷ []) (λ c. term.times4 (num (pos 1)) c ≣⁴ c) tt

found_alone : (c : Vec4) → IsSeparated [] c ⊎ IsInCone [] c
found_alone c =
    by_lt_z (pos 0) (dot4 c c)
    (λ lt. inl (record { by = opposite4 c; above = All-nil (λ m. pos 0 ≤ℤ dot4 m (opposite4 c)); below = omega (arith, ints, dot4-opposite4 c c) }))
    (λ le. inr (record { multiple = 1; positive = omega arith; multiples = []; one_each = refl; sum = times4-one c ∙ dot4-self_zero c le }))

pub times4-zero_plus : (g v : Vec4) → plus4 (times4 (pos 0) g) v ≡ v
times4-zero_plus = identity4 (vector4 ∷ vector4 ∷ []) (λ g v. term.plus4 (term.times4 none g) v ≣⁴ v) tt

IsInCone-more : (g : Vec4) (members : List Vec4) (c : Vec4) → IsInCone members c → IsInCone (g ∷ members) c
IsInCone-more g members c q = record {
  multiple = q.multiple;
  positive = q.positive;
  multiples = 0 ∷ q.multiples;
  one_each = ap suc q.one_each;
  sum = q.sum ∙ sym (times4-zero_plus g (combination q.multiples members));
}

found_more : (g : Vec4) (members : List Vec4) (c : Vec4) → ((ms : List Vec4) (a : Vec4) → length ms ≡ length members → IsSeparated ms a ⊎ IsInCone ms a) → IsSeparated (g ∷ members) c ⊎ IsInCone (g ∷ members) c
found_more g members c find = go (find members c refl)
  where
    tilt : (x : Vec4) (d : ℕ) → 0 < d → pos d ≡ neg_ℤ (dot4 g x) → IsAbove members x → dot4 c x <ℤ pos 0 → IsSeparated (map (moved (pos d) g x) members) (moved (pos d) g x c) ⊎ IsInCone (map (moved (pos d) g x) members) (moved (pos d) g x c) → IsSeparated (g ∷ members) c ⊎ IsInCone (g ∷ members) c
    tilt x d hd e above below (inl p) = inl (IsSeparated-back g members c x (pos d) e p)
    tilt x d hd e above below (inr q) = inr (IsInCone-back g members c x d hd above below q)

    go : IsSeparated members c ⊎ IsInCone members c → IsSeparated (g ∷ members) c ⊎ IsInCone (g ∷ members) c
    go (inr q) = inr (IsInCone-more g members c q)
    go (inl p) =
        by_lt_z (dot4 g p.by) (pos 0)
        (λ lt. let n = natural_of (neg_ℤ (dot4 g p.by)) (omega (arith, ints)) in
        tilt p.by n.0 (omega (arith, ints, n.1)) n.1 p.above p.below
        (find (map (moved (pos n.0) g p.by) members) (moved (pos n.0) g p.by c) (length-map members (moved (pos n.0) g p.by))))
        (λ le. inl (record { by = p.by; above = All-cons (λ m. pos 0 ≤ℤ dot4 m p.by) g members le p.above; below = p.below }))

pub found : (n : ℕ) (members : List Vec4) (c : Vec4) → length members ≡ n → IsSeparated members c ⊎ IsInCone members c
found n [] c e = found_alone c
found zero (g ∷ members) c e = absurd (omega arith)
found (suc n) (g ∷ members) c e = found_more g members c (λ ms a h. found n ms a (omega arith))
