-- The scale of an extrusion that is accepted has few digits, and its printed word reads back.
use Rattle.std.proofs.Common.{◌≡◌, ℕ, ◌+◌, ◌*◌, ◌^◌, ◌<◌, ◌≤◌, ◌==◌, ℤ, pos, ◌*ℤ◌, ◌+ℤ◌, ◌<ℤ◌, unsigned_abs, Bool, true, false, List, [], ◌∷◌, ◌++◌, All, refl, sym, ap, ◌∙◌, subst, arith, ◌⊎◌, inl, inr, true≢false, length-append}
use Rattle.std.specs.Prelude.{int_rem, int_lt, nat_le, not, ◌&&◌, if◌then◌else◌}
use Rattle.std.specs.Int.{◌∣◌}
use Rattle.std.specs.Fmt.{decimal, signed_decimal}
use Rattle.std.proofs.lemmas.Bool.{and_parts, leb-true, cases_lt, not-true}
use Rattle.std.proofs.lemmas.Bool.Decides.{Decides-int_eq, nat_tests}
use Rattle.std.proofs.lemmas.Fmt.{length-decimal-le}
use Rattle.std.proofs.lemmas.Int.{ints, quot-rem, unsigned_abs-mul}
use Rattle.std.proofs.lemmas.List.Elements.{All-head, All-tail}
use Rattle.std.proofs.lemmas.Nat.{mul-le}
use Rattle.std.proofs.lemmas.Nat.Gcd.{le_of_dvd}
use Rattle.std.proofs.Math.Nat.{dvd-mul_left}
use Rattle.gx_num.specs.declared.vector.V3.{V3}
use Rattle.gx_num.specs.Vector.{is_same}
use Rattle.gx_fraction.proofs.Gcd.{divides_other}
use Rattle.gx_convex.proofs.Distinct.{Decides-is_same}
use Rattle.gx_polygon.specs.Polygon.{is_straight, is_convex, are_distinct}
use Rattle.gx_rotation.proofs.Algebra.{vector_is}
use Rattle.gx_shapes.specs.declared.section.Scale.{Scale}
use Rattle.gx_shapes.specs.declared.section.Section.{Section}
use Rattle.gx_shapes.specs.Extrusion.{scaled, is_whole, are_whole, corner}
use Rattle.gx_shapes.specs.Figure.{is_near, are_near}
use Rattle.gx_shapes.proofs.Given.{IsCorner}
use Rattle.gx_decl.specs.Solids.{scale}
use Rattle.gx_canon.specs.Words.{scale_word}
use Rattle.gx_canon.specs.Printable.{IsLowestScale}
use Rattle.gx_canon.proofs.Numbers.{scale_by}
use Rattle.gx_canon.proofs.PrintedWords.{IsShortWord, signed_word, over_word, length-signed}
use Rattle.gx_canon.proofs.Back.{Back, IsNear, single}

-- ---- from a coordinate that isn't 0

-- a * d = n * v with d at most v: n is at most a
at_most : (a d n v : ℕ) → a * d ≡ n * v → d ≤ v → 0 < v → n ≤ a
at_most a d n v e le some = elim (cases_lt a n) [
  | inl lt ↦ absurd (omega (arith, e, mul-le a d a v (omega arith) le, mul-le (a + 1) v n v (omega (arith, lt)) (omega arith), some))
  | inr ge ↦ ge
]

-- a numerator and a denominator of at most 8 digits
pub record IsSmallScale (s : Scale) : Type 0 where
  pub num : unsigned_abs s.num < 10 ^ 8
  pub den : unsigned_abs s.den < 10 ^ 8

module _ (s : Scale) (o v : ℤ) (low : IsLowestScale s) (near_o : IsNear o) (near_v : IsNear v) (some : 0 < unsigned_abs v) (whole : is_whole s v ≡ true) (near : IsNear (o +ℤ scaled s v)) where
  no_rest : int_rem (s.num *ℤ v) s.den ≡ pos 0
  no_rest = (Decides-int_eq (int_rem (s.num *ℤ v) s.den) (pos 0)).0 whole

  times : scaled s v *ℤ s.den ≡ s.num *ℤ v
  times = let p : scaled s v *ℤ s.den +ℤ int_rem (s.num *ℤ v) s.den ≡ s.num *ℤ v = quot-rem (s.num *ℤ v) s.den in omega (arith, ints, p, no_rest)

  product : unsigned_abs (scaled s v) * unsigned_abs s.den ≡ unsigned_abs s.num * unsigned_abs v
  product = sym (unsigned_abs-mul (scaled s v) s.den) ∙ ap unsigned_abs times ∙ unsigned_abs-mul s.num v

  divides : unsigned_abs s.den ∣ unsigned_abs v
  divides = divides_other (unsigned_abs s.num) (unsigned_abs s.den) (unsigned_abs v) low.coprime (subst (λ (x : ℕ). unsigned_abs s.den ∣ x) product (dvd-mul_left (unsigned_abs s.den) (unsigned_abs (scaled s v))))

  small : IsSmallScale s
  small =
      let below = le_of_dvd some divides in
      let reach : unsigned_abs (scaled s v) ≤ 33554432 = omega (arith, ints, near, near_o) in
      let above = at_most (unsigned_abs (scaled s v)) (unsigned_abs s.den) (unsigned_abs s.num) (unsigned_abs v) product below some in
      record { num = omega (arith, reach, above); den = omega (arith, below, near_v) }

-- ---- from a corner that isn't the origin

abbrev IsAway : V3 → Type 0
IsAway p = (0 < unsigned_abs p.x) ⊎ (0 < unsigned_abs p.y)

away_or_none : (p : V3) → IsAway p ⊎ ((p.x ≡ pos 0) × (p.y ≡ pos 0))
away_or_none p = elim (cases_lt 0 (unsigned_abs p.x)) [
  | inl x ↦ inl (inl x)
  | inr no_x ↦ elim (cases_lt 0 (unsigned_abs p.y)) [
    | inl y ↦ inl (inr y)
    | inr no_y ↦ inr (omega (arith, ints, no_x), omega (arith, ints, no_y))
  ]
]

module _ (corners : List V3) (s : Section) (low : IsLowestScale s.scale) (near_x : IsNear s.x) (near_y : IsNear s.y) where
  small_at : (c : V3) → IsCorner c → IsAway c → (is_whole s.scale c.x && is_whole s.scale c.y) ≡ true → is_near (corner s c) ≡ true → IsSmallScale s.scale
  small_at c is (inl some) whole near = small s.scale s.x c.x low near_x is.within.x some (and_parts _ _ whole).0 (leb-true _ _ (and_parts _ _ near).0)
  small_at c is (inr some) whole near = small s.scale s.y c.y low near_y is.within.y some (and_parts _ _ whole).1 (leb-true _ _ (and_parts _ _ near).1)

  pub small_section : All IsCorner corners → is_straight corners ≡ false → is_convex corners ≡ true → are_whole s.scale corners ≡ true → are_near s corners ≡ true → IsSmallScale s.scale
  small_section = by corners
    where
      by : (cs : List V3) → All IsCorner cs → is_straight cs ≡ false → is_convex cs ≡ true → are_whole s.scale cs ≡ true → are_near s cs ≡ true → IsSmallScale s.scale
      by [] each bent convex whole near = absurd cc
      by (a ∷ []) each bent convex whole near = absurd cc
      by (a ∷ b ∷ rest) each bent convex whole near =
          let first = All-head IsCorner a (b ∷ rest) each in
          let second = All-head IsCorner b rest (All-tail IsCorner a (b ∷ rest) each) in
          let wholes = and_parts _ _ whole in
          let nears = and_parts _ _ near in
          let apart : is_same a b ≡ false = not-true (is_same a b) (and_parts (not (is_same a b)) _ (and_parts (are_distinct (a ∷ b ∷ rest)) _ convex).0).0 in
          elim (away_or_none a) [
            | inl away ↦ small_at a first away wholes.0 nears.0
            | inr at_a ↦ elim (away_or_none b) [
              | inl away ↦ small_at b second away (and_parts _ _ wholes.1).0 (and_parts _ _ nears.1).0
              | inr at_b ↦ absurd (true≢false (sym ((Decides-is_same a b).1 (vector_is a.x a.y a.z b (at_a.0 ∙ sym at_b.0) (at_a.1 ∙ sym at_b.1) (first.flat ∙ sym second.flat))) ∙ apart))
            ]
          ]

-- ---- the word

scale_short : (z : ℤ) (d : ℕ) (t : Bool) → unsigned_abs z < 10 ^ 8 → d < 10 ^ 8 → IsShortWord 255 (if t then signed_decimal z else signed_decimal z ++ 47 ∷ decimal d)
scale_short z d true h k = record { word = signed_word z (omega (arith, h)); short = omega (arith, length-signed 8 z (omega arith) h (omega (arith, h))) }
scale_short z d false h k = record {
  word = over_word z d (omega (arith, h)) (omega (arith, k));
  short = omega (arith, length-append (signed_decimal z) (47 ∷ decimal d), length-signed 8 z (omega arith) h (omega (arith, h)), length-decimal-le 8 d (omega arith) k (omega (arith, k)));
}

pub scale_back : (s : Scale) → IsLowestScale s → pos 0 <ℤ s.den → IsSmallScale s → Back 255 scale (scale_word s ∷ []) s
scale_back s low positive few =
    let num = few.num in
    let den = few.den in
    let some = low.positive in
    let same : pos (unsigned_abs s.den) ≡ s.den = omega (arith, ints, positive) in
    let above : nat_le (unsigned_abs s.num) (2 ^ 62) ≡ true = grind (arith, nat_tests, num) in
    let below : nat_le (unsigned_abs s.den) (2 ^ 62) ≡ true = grind (arith, nat_tests, den) in
    let sign : int_lt (pos 0) (pos (unsigned_abs s.den)) ≡ true = grind (arith, nat_tests, some) in
    record {
      reads = λ params n rest. (n + 1, rw (scale_by params s.num (unsigned_abs s.den) (unsigned_abs s.den == 1) refl low (omega (arith, num)) (omega (arith, den)), above, sign, below, same) refl);
      short = single 255 (scale_word s) (scale_short s.num (unsigned_abs s.den) (unsigned_abs s.den == 1) num den);
    }
