-- The daughters met, sorted by entry, are the hits in the order of entry.
use Rattle.std.proofs.Common.{◌≡◌, ℕ, zero, suc, ◌+◌, ◌*◌, ◌<◌, ◌≤◌, ◌⊎◌, inl, inr, refl, sym, ap, ◌∙◌, subst, arith, nat_eq, true, false, ℤ, pos, negsuc, List, [], ◌∷◌, ◌++◌, length, get_or, map, Option, None, Some}
use Rattle.std.specs.Prelude.{sum_by, unsigned_abs, ◌<ℤ◌, ◌≤ℤ◌, ◌*ℤ◌}
use Rattle.std.specs.List.{All, AllByRecursion, IsDistinct}
use Rattle.std.specs.List.Sorted.{IsPermutation, IsSortedBy}
use Rattle.std.specs.Option.{option_map}
use Rattle.std.specs.Ordering.{MatchOrdering, int_cmp, is_lt, nat_cmp, ordering_then}
use Rattle.std.specs.declared.cmp.Ordering.{Ordering}
use Rattle.std.specs.declared.cmp.Ordering.TheVariants.{Less, Equal, Greater}
use Rattle.std.specs.Cmp.{IsStrictWeakOrder, int_ranks, ranks}
use Rattle.std.proofs.lemmas.Int.{ints}
use Rattle.std.proofs.lemmas.List.{map-append}
use Rattle.std.proofs.lemmas.List.Elements.{All-nil, All-cons, All-append}
use Rattle.std.proofs.lemmas.List.Sorted.{All-permutation, sorted_far, sum_by-IsPermutation}
use Rattle.std.proofs.lemmas.List.Sums.{sum_by-append, sum_by-cons}
use Rattle.gx_partition.specs.Walk.{Hit, insert_found, sorted}
use Rattle.gx_walk.specs.declared.met.Frame.{Frame}
use Rattle.gx_walk.specs.declared.met.Met.{Met}
use Rattle.gx_walk.specs.Hits.{hit_of}
use Rattle.gx_offers.specs.Offers.{IsOneOf}
use Rattle.gx_walk.specs.Entry.{AreMet, weight, is_earlier}
use Rattle.gx_walk.proofs.Weights.{sum_below, sum-whole}
use Rattle.gx_walk.proofs.Order.{IsNoLater, no_later-trans, InOrder, IsKnown, one_list, known-sorted, in_order-sorted, sum-insert}

positive_factor : (a b c : ℕ) → a < b * c → 0 < c
positive_factor a b zero h = omega (arith, h)
positive_factor a b (suc c) h = omega arith

pub positive : (m : Met) → 0 < (hit_of m).from.den
positive m = positive_factor ((hit_of m).from.num * (hit_of m).to.den) (hit_of m).to.num (hit_of m).from.den m.span.ordered

-- p/d up to q/e, where neither is negative
up : (p q : ℤ) (d e : ℕ) → pos 0 ≤ℤ p → pos 0 ≤ℤ q → (p *ℤ pos e) ≤ℤ (q *ℤ pos d) → unsigned_abs p * e ≤ unsigned_abs q * d
up (pos p) (pos q) d e h k l = omega (arith, ints, l)
up (negsuc p) q d e h k l = absurd (omega (arith, ints, h))
up (pos p) (negsuc q) d e h k l = absurd (omega (arith, ints, k))

back : (p q : ℤ) (d e : ℕ) → pos 0 ≤ℤ p → pos 0 ≤ℤ q → unsigned_abs p * e ≤ unsigned_abs q * d → (p *ℤ pos e) ≤ℤ (q *ℤ pos d)
back (pos p) (pos q) d e h k l = omega (arith, ints, l)
back (negsuc p) q d e h k l = absurd (omega (arith, ints, h))
back (pos p) (negsuc q) d e h k l = absurd (omega (arith, ints, k))

-- which of two numbers comes first, and where they are the same which of two others
first : (r s : Ordering) (x y : ℤ) (i j : ℕ) → MatchOrdering r (x <ℤ y) (x ≡ y) (y <ℤ x) → MatchOrdering s (i < j) (i ≡ j) (j < i)
    → ((is_lt (ordering_then r s) ≡ true) × (x ≤ℤ y) × (y ≤ℤ x → i < j)) ⊎ ((is_lt (ordering_then r s) ≡ false) × (y ≤ℤ x) × (x ≤ℤ y → j ≤ i))
first Less s x y i j h k = inl (refl, omega (arith, ints, h), λ l. absurd (omega (arith, ints, h, l)))
first Equal Less x y i j h k = inl (refl, omega (arith, ints, h), λ l. k)
first Equal Equal x y i j h k = inr (refl, omega (arith, ints, h), λ l. omega (arith, k))
first Equal Greater x y i j h k = inr (refl, omega (arith, ints, h), λ l. omega (arith, k))
first Greater s x y i j h k = inr (refl, omega (arith, ints, h), λ l. absurd (omega (arith, ints, h, l)))

pub earlier_or_not : (a b : Met)
    → ((is_earlier a b ≡ true) × IsNoLater (hit_of a) (hit_of b) × (IsNoLater (hit_of b) (hit_of a) → ⊥)) ⊎ ((is_earlier a b ≡ false) × IsNoLater (hit_of b) (hit_of a))
earlier_or_not a b =
    let p = a.span.from in
    let q = b.span.from in
    let h = a.span.start in
    let k = b.span.start in
    let x = p.num *ℤ pos q.den in
    let y = q.num *ℤ pos p.den in
    elim (first (int_cmp x y) (nat_cmp a.ordinal b.ordinal) x y a.ordinal b.ordinal (int_ranks x y) (ranks a.ordinal b.ordinal)) [
      | inl t ↦ inl (
        t.0,
        record { entry = up p.num q.num p.den q.den h k t.1; ordinal = λ l. let less : a.ordinal < b.ordinal = t.2 (back q.num p.num q.den p.den k h l) in omega arith },
        λ n. let less : a.ordinal < b.ordinal = t.2 (back q.num p.num q.den p.den k h n.entry) in
            let more : b.ordinal ≤ a.ordinal = n.ordinal (up p.num q.num p.den q.den h k t.1) in
            omega arith,
      )
      | inr t ↦ inr (t.0, record { entry = up q.num p.num q.den p.den k h t.1; ordinal = λ l. t.2 (back p.num q.num p.den q.den h k l) })
    ]

not_earlier : (a b : Met) → is_earlier a b ≡ false → IsNoLater (hit_of b) (hit_of a)
not_earlier a b e = elim (earlier_or_not a b) [ inl t ↦ absurd (let f : true ≡ false = sym t.0 ∙ e in cc) | inr t ↦ t.1 ]

never_earlier : (a b : Met) → IsNoLater (hit_of b) (hit_of a) → is_earlier a b ≡ false
never_earlier a b n = elim (earlier_or_not a b) [ inl t ↦ absurd (t.2 n) | inr t ↦ t.0 ]

earlier : (a b : Met) → is_earlier a b ≡ true → IsNoLater (hit_of a) (hit_of b)
earlier a b e = elim (earlier_or_not a b) [ inl t ↦ t.1 | inr t ↦ absurd (let f : true ≡ false = sym e ∙ t.0 in cc) ]

pub entry_order : IsStrictWeakOrder is_earlier
entry_order = record {
  one_way = λ a b e. never_earlier b a (earlier a b e);
  chain = λ a b c p q. never_earlier a c (no_later-trans (hit_of c) (hit_of b) (hit_of a) (positive c) (positive b) (positive a) (not_earlier b c q) (not_earlier a b p));
}

each_after : (P : Hit Frame → Type 0) (mets : List Met) → ((j : ℕ) (d : Met) → j < length mets → P (hit_of (get_or mets j d))) → AllByRecursion P (map hit_of mets)
each_after P [] h = tt
each_after P (m ∷ mets) h = (h 0 m (omega arith), each_after P mets (λ j d below. h (suc j) d (omega (arith, below))))

in_order : (mets : List Met) → ((i j : ℕ) (d : Met) → i ≤ j → j < length mets → is_earlier (get_or mets j d) (get_or mets i d) ≡ false) → InOrder (map hit_of mets)
in_order [] h = tt
in_order (m ∷ mets) h = (
  each_after (IsNoLater (hit_of m)) mets (λ j d below. not_earlier (get_or mets j d) m (h 0 (suc j) d (omega arith) (omega (arith, below)))),
  in_order mets (λ i j d le below. h (suc i) (suc j) d (omega (arith, le)) (omega (arith, below))),
)

sum-map : (f : Hit Frame → ℕ) (mets : List Met) → sum_by f (map hit_of mets) ≡ sum_by (λ m. f (hit_of m)) mets
sum-map f [] = refl
sum-map f (m ∷ mets) = sum_by-cons f (hit_of m) (map hit_of mets) ∙ ap (λ n. f (hit_of m) + n) (sum-map f mets) ∙ sym (sum_by-cons (λ m. f (hit_of m)) m mets)

module _ (met : ℕ → Option Met) where
  abbrev found : ℕ → Option (Hit Frame)
  found k = option_map hit_of (met k)

  -- nothing is met at none
  pub met_nowhere : AreMet met [] []
  met_nowhere = record { known = All-nil (λ m. met m.ordinal ≡ Some m); same = λ f. refl }

  weight-last : (f : Hit Frame → ℕ) (ks : List ℕ) (k : ℕ) → sum_by (weight met f) (ks ++ k ∷ []) ≡ sum_by (weight met f) ks + weight met f k
  weight-last f ks k = sum_by-append (weight met f) ks (k ∷ []) ∙ omega (arith, sum_by-cons (weight met f) k [])

  -- a daughter that isn't met
  pub met_none : (ks : List ℕ) (k : ℕ) (mets : List Met) → met k ≡ None → AreMet met ks mets → AreMet met (ks ++ k ∷ []) mets
  met_none ks k mets e h = record {
    known = h.known;
    same = λ f.
        let none : weight met f k ≡ 0 = ap (λ (o : Option Met). elim o [ None ↦ 0 | Some m ↦ f (hit_of m) ]) e in
        omega (arith, h.same f, weight-last f ks k, none);
  }

  -- one that is
  pub met_some : (ks : List ℕ) (k : ℕ) (mets : List Met) (m : Met) → met k ≡ Some m → m.ordinal ≡ k → AreMet met ks mets → AreMet met (ks ++ k ∷ []) (mets ++ m ∷ [])
  met_some ks k mets m e is h = record {
    known = All-append (λ m. met m.ordinal ≡ Some m) mets (m ∷ []) h.known (All-cons (λ m. met m.ordinal ≡ Some m) m [] (ap met is ∙ e) (All-nil (λ m. met m.ordinal ≡ Some m)));
    same = λ f.
        let last : sum_by f (map hit_of (mets ++ m ∷ [])) ≡ sum_by f (map hit_of mets) + f (hit_of m) =
        ap (sum_by f) (map-append hit_of mets (m ∷ [])) ∙ sum_by-append f (map hit_of mets) (hit_of m ∷ [])
        ∙ omega (arith, sum_by-cons f (hit_of m) []) in
        let some : weight met f k ≡ f (hit_of m) = ap (λ (o : Option Met). elim o [ None ↦ 0 | Some m ↦ f (hit_of m) ]) e in
        omega (arith, last, h.same f, weight-last f ks k, some);
  }

  -- all hits count for as much as the daughters with ordinals below the count
  sum-sorted : (f : Hit Frame → ℕ) (n : ℕ) → sum_by f (sorted found n) ≡ sum_below (weight met f) n
  unfolding sum_below
  sum-sorted f zero = refl
  sum-sorted f (suc n) = by (met n) (sum-sorted f n)
    where
      by : (o : Option Met) → sum_by f (sorted found n) ≡ sum_below (weight met f) n → sum_by f (insert_found (option_map hit_of o) (sorted found n)) ≡ elim o [ None ↦ 0 | Some m ↦ f (hit_of m) ] + sum_below (weight met f) n
      by None e = omega (arith, e)
      by (Some m) e = omega (arith, sum-insert f (hit_of m) (sorted found n), e)

  is_met : (f : Hit Frame → ℕ) (k : ℕ) → 0 < weight met f k → (m : Met) × (met k ≡ Some m)
  is_met f k some = by (met k) refl some
    where
      by : (o : Option Met) → met k ≡ o → 0 < elim o [ None ↦ 0 | Some m ↦ f (hit_of m) ] → (m : Met) × (met k ≡ Some m)
      by None e some = absurd (omega (arith, some))
      by (Some m) e some = (m, e)

  some_hit : (k : ℕ) (o : Option Met) (h : Hit Frame) → option_map hit_of o ≡ Some h → (m : Met) × (o ≡ Some m) × (hit_of m ≡ h)
  some_hit k None h e = absurd (cc)
  some_hit k (Some m) h e = (m, refl, cc)

  each_hit : (mets : List Met) → All (λ m. met m.ordinal ≡ Some m) mets → AllByRecursion (IsKnown found) (map hit_of mets)
  each_hit mets known = each_after (IsKnown found) mets (λ j d below. ap (option_map hit_of) (known j d below))

  -- sorted, those met are the hits in the order of entry
  pub sorted-are : (n : ℕ) (ks : List ℕ) (mets mets' : List Met) → ((k : ℕ) (m : Met) → met k ≡ Some m → m.ordinal ≡ k)
      → IsDistinct nat_eq ks → AllByRecursion (λ k. k < n) ks → ((k : ℕ) (m : Met) → k < n → met k ≡ Some m → IsOneOf k ks)
      → AreMet met ks mets → IsPermutation mets mets' → IsSortedBy is_earlier mets'
      → (map hit_of mets' ≡ sorted found n) × All (λ m. met m.ordinal ≡ Some m) mets'
  sorted-are n ks mets mets' numbered distinct below whole h moved rising =
      let known = All-permutation (λ m. met m.ordinal ≡ Some m) mets mets' moved h.known in
      let each : (k : ℕ) (h : Hit Frame) → found k ≡ Some h → (h.ordinal ≡ k) × (0 < h.from.den) = λ k h e.
      let m = some_hit k (met k) h e in
      (ap (λ (h : Hit Frame). h.ordinal) (sym m.2) ∙ numbered k m.0 m.1, subst (λ (h : Hit Frame). 0 < h.from.den) m.2 (positive m.0)) in
      let same = λ (f : Hit Frame → ℕ). sum-map f mets' ∙ sum_by-IsPermutation (λ m. f (hit_of m)) mets mets' moved ∙ sym (sum-map f mets) ∙ h.same f
      ∙ sum-whole (weight met f) n ks distinct below (λ j less some. let m = is_met f j some in whole j m.0 less m.1) ∙ sym (sum-sorted f n) in
      let list : map hit_of mets' ≡ sorted found n =
      one_list found (map hit_of mets') (sorted found n) (in_order mets' (λ i j d le below. sorted_far is_earlier entry_order mets' rising i j d le below)) (in_order-sorted found each n)
      (each_hit mets' known) (known-sorted found each n) same in
      (list, known)
