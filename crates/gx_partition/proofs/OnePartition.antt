-- A ray has one partition at most.
use Rattle.std.proofs.Common.{◌≡◌, ℕ, ◌<◌, ◌⊎◌, inl, inr, refl, sym, ◌∙◌, subst, ap, arith, Bool, true, false, not, List, [], ◌∷◌, Option, Some}
use Rattle.gx_num.specs.Number.{IsLowest}
use Rattle.gx_num.specs.Ray.{RayParameter, IsPositive, IsBelow, IsUpTo}
use Rattle.gx_num.proofs.Order.{le_le, le_lt, lt_le, lt_lt, apart, above_positive}
use Rattle.gx_path.proofs.Unique.{same_parameter}
use Rattle.gx_partition.specs.Partition.{Piece, IsPartition, HasBegun, IsBeforeEnd, HasRoom}
use Rattle.gx_partition.proofs.Ends.{not_not, never_both, room_begun, inhabited}
use Rattle.gx_partition.proofs.Rests.{IsFirst, IsRest, rest_of}

abbrev Both : RayParameter → Bool → RayParameter → Bool → RayParameter → Bool → Type 0
Both s m t n u o = (x : RayParameter) × IsPositive x × HasBegun s m x × IsBeforeEnd t n x × IsBeforeEnd u o x

-- of two ends one is within the other
earlier : (t : RayParameter) (n : Bool) (u : RayParameter) (o : Bool) → 0 < t.den → 0 < u.den
    → ((x : RayParameter) → IsPositive x → IsBeforeEnd t n x → IsBeforeEnd u o x) ⊎ ((x : RayParameter) → IsPositive x → IsBeforeEnd u o x → IsBeforeEnd t n x)
earlier t true u true d e = elim (apart t u) [ inl less ↦ inl (λ x h l. le_le x t u d l (omega (arith, less))) | inr more ↦ inr (λ x h l. le_le x u t e l more) ]
earlier t false u o d e = elim (apart u t) [ inl less ↦ inr (λ x h l. strict o x h l less) | inr more ↦ inl (λ x h l. loose o x h l more) ]
  where
    strict : (o : Bool) (x : RayParameter) → IsPositive x → IsBeforeEnd u o x → IsBelow u t → IsBelow x t
    strict true x h l less = le_lt x u t h.1 l less
    strict false x h l less = lt_lt x u t h.1 l less

    loose : (o : Bool) (x : RayParameter) → IsPositive x → IsBelow x t → IsUpTo t u → IsBeforeEnd u o x
    loose true x h l more = omega (arith, lt_le x t u e l more)
    loose false x h l more = lt_le x t u e l more
earlier t true u false d e = elim (apart t u) [
  | inl less ↦ inl (λ x h l. le_lt x t u h.1 l less)
  | inr more ↦ inr (λ x h l. omega (arith, lt_le x u t d l more))
]

both : (s : RayParameter) (m : Bool) (t : RayParameter) (n : Bool) (u : RayParameter) (o : Bool) → 0 < s.den → 0 < t.den → 0 < u.den → (m ≡ true → 0 < s.num) → HasRoom s m t n → HasRoom s m u o → Both s m t n u o
both s m t n u o d e f a r q = elim (earlier t n u o e f) [
  | inl within ↦ let i = inhabited s m t n d a r in (i.0, i.1, i.2, i.3, within i.0 i.1 i.3)
  | inr within ↦ let i = inhabited s m u o d a q in (i.0, i.1, i.2, within i.0 i.1 i.3, i.3)
]

-- one beginning comes first, or both are one
first_of_two : (s : RayParameter) (m : Bool) (t : RayParameter) (n : Bool) → IsLowest s.num s.den → IsLowest t.num t.den → HasRoom s m t (not n) ⊎ (HasRoom t n s (not m) ⊎ ((s ≡ t) × (m ≡ n)))
first_of_two s true t true p q = elim (apart s t) [ inl less ↦ inl less | inr more ↦ elim (apart t s) [ inl less ↦ inr (inl less) | inr up ↦ inr (inr (same_parameter s t p q up more, refl)) ] ]
first_of_two s true t false p q = elim (apart t s) [ inl less ↦ inr (inl less) | inr up ↦ inl up ]
first_of_two s false t true p q = elim (apart s t) [ inl less ↦ inl less | inr up ↦ inr (inl up) ]
first_of_two s false t false p q = elim (apart s t) [ inl less ↦ inl less | inr more ↦ elim (apart t s) [ inl less ↦ inr (inl less) | inr up ↦ inr (inr (same_parameter s t p q up more, refl)) ] ]

some_same : (p q : List ℕ) (o : Option (List ℕ)) → o ≡ Some p → o ≡ Some q → p ≡ q
some_same p q o e f = cc

after_zero : (s t : RayParameter) (m n : Bool) → HasRoom s m t n → not n ≡ true → 0 < t.num
after_zero s t m true r f = absurd (let clash : false ≡ true = f in cc)
after_zero s t true false r f = above_positive s t r
after_zero s t false false r f = above_positive s t r

not_inj : (a b : Bool) → not a ≡ not b → a ≡ b
not_inj a b e = sym (not_not a) ∙ ap not e ∙ not_not b

module _ (place : RayParameter → Option (List ℕ)) where
  -- the first of some pieces doesn't begin before the first of others
  no_earlier : (s : RayParameter) (m : Bool) (x y : Piece) (xs ys : List Piece) → IsFirst place s m x xs → IsFirst place s m y ys → HasRoom x.from x.from_in y.from (not y.from_in) → ⊥
  no_earlier s m x y xs ys p q r =
      let b = both x.from x.from_in x.to x.to_in y.from (not y.from_in) p.proper.from_lowest.positive p.proper.to_lowest.positive q.proper.from_lowest.positive p.positive p.proper.room r in
      q.empty b.0 x.path b.1 (p.starts b.0 b.1 b.2) b.4 (p.constant b.0 b.1 (b.2, b.3))

  -- nor does it end before it
  module _ (x y : Piece) (e : x.from ≡ y.from) (f : x.from_in ≡ y.from_in) (g : x.path ≡ y.path) where
    after : (s : RayParameter) (m : Bool) (xs ys : List Piece) → IsFirst place s m x xs → IsFirst place s m y ys
        → (t : RayParameter) → IsPositive t → HasBegun x.to (not x.to_in) t → IsBeforeEnd y.to y.to_in t → place t ≡ Some y.path
    after s m xs ys p q t h begun ends =
        let all = room_begun x.from x.to t x.from_in x.to_in p.proper.from_lowest.positive h.1 p.proper.room begun in
        q.constant t h (subst (λ k. HasBegun k y.from_in t) e (subst (λ k. HasBegun x.from k t) f all), ends)

    no_shorter : (s : RayParameter) (m : Bool) (xs ys : List Piece) → IsRest place s m (x ∷ xs) → IsRest place s m (y ∷ ys) → HasRoom x.to (not x.to_in) y.to y.to_in → ⊥
    no_shorter s m [] ys p q r =
        let i = inhabited x.to (not x.to_in) y.to y.to_in p.0.proper.to_lowest.positive (after_zero x.from x.to x.from_in x.to_in p.0.proper.room) r in
        p.1 i.0 y.path i.1 i.2 (after s m [] ys p.0 q.0 i.0 i.1 i.2 i.3)
    no_shorter s m (n ∷ xs) ys p q r =
        let positive = after_zero x.from x.to x.from_in x.to_in p.0.proper.room in
        let next = p.1.0 in
        let in_y = after s m (n ∷ xs) ys p.0 q.0 in
        elim (first_of_two x.to (not x.to_in) n.from n.from_in p.0.proper.to_lowest next.proper.from_lowest) [
          | inl room ↦
              let b = both x.to (not x.to_in) n.from (not n.from_in) y.to y.to_in p.0.proper.to_lowest.positive next.proper.from_lowest.positive q.0.proper.to_lowest.positive positive room r in
              next.empty b.0 y.path b.1 b.2 b.3 (in_y b.0 b.1 b.2 b.4)
          | inr (inl back) ↦
              let i = inhabited n.from n.from_in x.to (not (not x.to_in)) next.proper.from_lowest.positive next.positive back in
              never_both x.to (not x.to_in) i.0 (next.starts i.0 i.1 i.2) i.3
          | inr (inr same) ↦
              let room = subst (λ k. HasRoom x.to k n.to n.to_in) (sym same.1) (subst (λ k. HasRoom k n.from_in n.to n.to_in) (sym same.0) next.proper.room) in
              let b = both x.to (not x.to_in) n.to n.to_in y.to y.to_in p.0.proper.to_lowest.positive next.proper.to_lowest.positive q.0.proper.to_lowest.positive positive room r in
              let begun_n = subst (λ k. HasBegun k n.from_in b.0) same.0 (subst (λ k. HasBegun x.to k b.0) same.1 b.2) in
              p.0.other same.0 same.1 (g ∙ some_same y.path n.path (place b.0) (in_y b.0 b.1 b.2 b.4) (next.constant b.0 b.1 (begun_n, b.3)))
        ]

  one_rest : (s : RayParameter) (m : Bool) (xs ys : List Piece) → IsRest place s m xs → IsRest place s m ys → xs ≡ ys
  one_rest s m [] [] p q = refl
  one_rest s m [] (y ∷ ys) p q = let i = inhabited y.from y.from_in y.to y.to_in q.0.proper.from_lowest.positive q.0.positive q.0.proper.room in absurd (p i.0 y.path i.1 (q.0.starts i.0 i.1 i.2) (q.0.constant i.0 i.1 (i.2, i.3)))
  one_rest s m (x ∷ xs) [] p q = let i = inhabited x.from x.from_in x.to x.to_in p.0.proper.from_lowest.positive p.0.positive p.0.proper.room in absurd (q i.0 x.path i.1 (p.0.starts i.0 i.1 i.2) (p.0.constant i.0 i.1 (i.2, i.3)))
  one_rest s m (x ∷ xs) (y ∷ ys) p q =
      let start : (x.from ≡ y.from) × (x.from_in ≡ y.from_in) = elim (first_of_two x.from x.from_in y.from y.from_in p.0.proper.from_lowest q.0.proper.from_lowest) [
        | inl room ↦ absurd (no_earlier s m x y xs ys p.0 q.0 room)
        | inr (inl room) ↦ absurd (no_earlier s m y x ys xs q.0 p.0 room)
        | inr (inr same) ↦ same
      ] in
      let room = subst (λ k. HasRoom k x.from_in y.to y.to_in) (sym start.0) (subst (λ k. HasRoom y.from k y.to y.to_in) (sym start.1) q.0.proper.room) in
      let b = both x.from x.from_in x.to x.to_in y.to y.to_in p.0.proper.from_lowest.positive p.0.proper.to_lowest.positive q.0.proper.to_lowest.positive p.0.positive p.0.proper.room room in
      let begun_y = subst (λ k. HasBegun k y.from_in b.0) start.0 (subst (λ k. HasBegun x.from k b.0) start.1 b.2) in
      let path = some_same x.path y.path (place b.0) (p.0.constant b.0 b.1 (b.2, b.3)) (q.0.constant b.0 b.1 (begun_y, b.4)) in
      let end : (x.to ≡ y.to) × (not x.to_in ≡ not y.to_in) = elim (first_of_two x.to (not x.to_in) y.to (not y.to_in) p.0.proper.to_lowest q.0.proper.to_lowest) [
        | inl room ↦ absurd (no_shorter x y start.0 start.1 path s m xs ys p q (subst (HasRoom x.to (not x.to_in) y.to) (not_not y.to_in) room))
        | inr (inl room) ↦ absurd (no_shorter y x (sym start.0) (sym start.1) (sym path) s m ys xs q p (subst (HasRoom y.to (not y.to_in) x.to) (not_not x.to_in) room))
        | inr (inr same) ↦ same
      ] in
      let to_in = not_inj x.to_in y.to_in end.1 in
      let rest : xs ≡ ys = one_rest x.to (not x.to_in) xs ys p.1 (subst (λ k. IsRest place k (not x.to_in) ys) (sym end.0) (subst (λ k. IsRest place y.to k ys) (sym end.1) q.1)) in
      λ k. record { from = start.0 k; from_in = start.1 k; to = end.0 k; to_in = to_in k; path = path k } ∷ rest k

  pub one_partition : (xs ys : List Piece) → IsPartition place xs → IsPartition place ys → xs ≡ ys
  one_partition xs ys p q = one_rest (record { num = 0; den = 1 }) false xs ys (rest_of place xs p) (rest_of place ys q)
