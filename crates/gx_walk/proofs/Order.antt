-- Hits in the order of entry are one list: that of gx_partition.
use Rattle.std.proofs.Common.{◌≡◌, ℕ, zero, suc, ◌+◌, ◌<◌, ◌≤◌, refl, sym, ap, ◌∙◌, subst, arith, Bool, true, false, eqb-true, eq-eqb, List, [], ◌∷◌, Option, None, Some}
use Rattle.std.specs.Prelude.{◌==◌, if◌then◌else◌, sum_by}
use Rattle.std.specs.List.{AllByRecursion}
use Rattle.std.proofs.lemmas.List.Sums.{sum_by-cons}
use Rattle.gx_num.specs.Ray.{IsBelow, IsUpTo}
use Rattle.gx_num.proofs.Order.{le_le}
use Rattle.gx_partition.specs.Partition.{is_below}
use Rattle.gx_partition.specs.Walk.{Hit, insert_hit, insert_found, sorted}
use Rattle.gx_partition.proofs.Sorted.{all-sorted}

module _ {D : Type 0} where
  -- entered before the other, or at once without a higher ordinal
  pub record IsNoLater (h g : Hit D) : Type 0 where
    pub entry : IsUpTo h.from g.from
    pub ordinal : IsUpTo g.from h.from → h.ordinal ≤ g.ordinal

  pub no_later-trans : (h g k : Hit D) → 0 < h.from.den → 0 < g.from.den → 0 < k.from.den → IsNoLater h g → IsNoLater g k → IsNoLater h k
  no_later-trans h g k dh dg dk p q = record {
    entry = le_le h.from g.from k.from dg p.entry q.entry;
    ordinal = λ back.
        let one : h.ordinal ≤ g.ordinal = p.ordinal (le_le g.from k.from h.from dk q.entry back) in
        let two : g.ordinal ≤ k.ordinal = q.ordinal (le_le k.from h.from g.from dh back p.entry) in
        omega arith;
  }

  -- each is no later than those after it
  abbrev pub InOrder : List (Hit D) → Type 0
  InOrder [] = Unit {0}
  InOrder (h ∷ hits) = AllByRecursion (IsNoLater h) hits × InOrder hits

  -- with a denominator above 0, and an ordinal below
  pub record IsFound (n : ℕ) (h : Hit D) : Type 0 where
    pub positive : 0 < h.from.den
    pub below : h.ordinal < n

  later_still : (n : ℕ) (h g : Hit D) (hits : List (Hit D)) → 0 < h.from.den → 0 < g.from.den → IsNoLater h g → AllByRecursion (IsNoLater g) hits → AllByRecursion (IsFound n) hits → AllByRecursion (IsNoLater h) hits
  later_still n h g [] dh dg p all found = tt
  later_still n h g (k ∷ hits) dh dg p all found = (no_later-trans h g k dh dg found.0.positive p all.0, later_still n h g hits dh dg p all.1 found.1)

  all-insert : (P : Hit D → Type 0) (h : Hit D) (hits : List (Hit D)) → P h → AllByRecursion P hits → AllByRecursion P (insert_hit h hits)
  all-insert P h [] p all = (p, tt)
  all-insert P h (g ∷ hits) p all = go (is_below h.from g.from) (all-insert P h hits p all.1)
    where
      go : (b : Bool) → AllByRecursion P (insert_hit h hits) → AllByRecursion P (if b then h ∷ g ∷ hits else g ∷ insert_hit h hits)
      go true rest = (p, all)
      go false rest = (all.0, rest)

  in_order-insert : (h : Hit D) (hits : List (Hit D)) → 0 < h.from.den → InOrder hits → AllByRecursion (IsFound h.ordinal) hits → InOrder (insert_hit h hits)
  in_order-insert h [] d order found = (tt, tt)
  in_order-insert h (g ∷ hits) d order found = go (is_below h.from g.from) refl (in_order-insert h hits d order.1 found.1)
    where
      go : (b : Bool) → is_below h.from g.from ≡ b → InOrder (insert_hit h hits) → InOrder (if b then h ∷ g ∷ hits else g ∷ insert_hit h hits)
      go true e rest =
          let less : IsBelow h.from g.from = grind (arith, e) in
          let first : IsNoLater h g = record { entry = omega (arith, less); ordinal = λ back. absurd (omega (arith, less, back)) } in
          ((first, later_still h.ordinal h g hits d found.0.positive first order.0 found.1), order)
      go false e rest =
          let more : IsUpTo g.from h.from = grind (arith, e) in
          let last : IsNoLater g h = record { entry = more; ordinal = λ back. omega (arith, found.0.below) } in
          (all-insert (IsNoLater g) h hits last order.0, rest)

  pub sum-insert : (f : Hit D → ℕ) (h : Hit D) (hits : List (Hit D)) → sum_by f (insert_hit h hits) ≡ f h + sum_by f hits
  sum-insert f h [] = sum_by-cons f h []
  sum-insert f h (g ∷ hits) = go (is_below h.from g.from) (sum-insert f h hits)
    where
      go : (b : Bool) → sum_by f (insert_hit h hits) ≡ f h + sum_by f hits → sum_by f (if b then h ∷ g ∷ hits else g ∷ insert_hit h hits) ≡ f h + sum_by f (g ∷ hits)
      go true rest = sum_by-cons f h (g ∷ hits)
      go false rest = omega (arith, sum_by-cons f g (insert_hit h hits), sum_by-cons f g hits, rest)

  abbrev mark : ℕ → Hit D → ℕ
  mark k h = if h.ordinal == k then 1 else 0

  -- where an ordinal counts, a hit has it
  has : (P : Hit D → Type 0) (k : ℕ) (hits : List (Hit D)) → AllByRecursion P hits → 0 < sum_by (mark k) hits → (h : Hit D) × P h × (h.ordinal ≡ k)
  has P k [] all more = absurd (omega (arith, more))
  has P k (h ∷ hits) all more = go (h.ordinal == k) refl (has P k hits all.1)
    where
      go : (b : Bool) → (h.ordinal == k) ≡ b → (0 < sum_by (mark k) hits → (h : Hit D) × P h × (h.ordinal ≡ k)) → (h : Hit D) × P h × (h.ordinal ≡ k)
      go true e rest = (h, all.0, eqb-true h.ordinal k e)
      go false e rest =
          let none : mark k h ≡ 0 = ap (λ b. if b then 1 else 0) e in
          rest (omega (arith, more, none, sum_by-cons (mark k) h hits))

  module _ (found : ℕ → Option (Hit D)) where
    abbrev pub IsKnown : Hit D → Type 0
    IsKnown h = found h.ordinal ≡ Some h

    one_hit : (g h : Hit D) → IsKnown g → IsKnown h → g.ordinal ≡ h.ordinal → g ≡ h
    one_hit g h p q e = let same : Some g ≡ Some h = sym p ∙ ap found e ∙ q in cc

    both : (x : Hit D) (xs : List (Hit D)) → AllByRecursion (IsNoLater x) xs → AllByRecursion IsKnown xs → AllByRecursion (λ z. IsNoLater x z × IsKnown z) xs
    both x [] p q = tt
    both x (z ∷ xs) p q = ((p.0, q.0), both x xs p.1 q.1)

    -- the first is no later than one that is among them
    first_of : (x : Hit D) (xs : List (Hit D)) (y : Hit D) (ys : List (Hit D)) → AllByRecursion (IsNoLater x) xs → AllByRecursion IsKnown (x ∷ xs) → IsKnown y
        → ((f : Hit D → ℕ) → sum_by f (x ∷ xs) ≡ sum_by f (y ∷ ys)) → IsNoLater x y
    first_of x xs y ys order known is same =
        let itself : IsNoLater x x = record { entry = omega arith; ordinal = λ _. omega arith } in
        let marked : mark y.ordinal y ≡ 1 = ap (λ b. if b then 1 else 0) (eq-eqb y.ordinal y.ordinal refl) in
        let some : 0 < sum_by (mark y.ordinal) (x ∷ xs) = omega (arith, same (mark y.ordinal), sum_by-cons (mark y.ordinal) y ys, marked) in
        let z = has (λ z. IsNoLater x z × IsKnown z) y.ordinal (x ∷ xs) ((itself, known.0), both x xs order known.1) some in
        subst (IsNoLater x) (one_hit z.0 y z.1.1 is z.2) z.1.0

    pub one_list : (xs ys : List (Hit D)) → InOrder xs → InOrder ys → AllByRecursion IsKnown xs → AllByRecursion IsKnown ys → ((f : Hit D → ℕ) → sum_by f xs ≡ sum_by f ys) → xs ≡ ys
    one_list [] [] p q k l same = refl
    one_list [] (y ∷ ys) p q k l same = absurd (omega (arith, same (λ _. 1), sum_by-cons (λ _. 1) y ys))
    one_list (x ∷ xs) [] p q k l same = absurd (omega (arith, same (λ _. 1), sum_by-cons (λ _. 1) x xs))
    one_list (x ∷ xs) (y ∷ ys) p q k l same =
        let to = first_of x xs y ys p.0 k l.0 same in
        let back = first_of y ys x xs q.0 l k.0 (λ f. sym (same f)) in
        let numbers : x.ordinal ≡ y.ordinal = omega (arith, to.ordinal back.entry, back.ordinal to.entry) in
        let first = one_hit x y k.0 l.0 numbers in
        let rest = one_list xs ys p.1 q.1 k.1 l.1 (λ f. omega (arith, same f, sum_by-cons f x xs, sum_by-cons f y ys, ap f first)) in
        λ i. first i ∷ rest i

    module _ (each : (k : ℕ) (h : Hit D) → found k ≡ Some h → (h.ordinal ≡ k) × (0 < h.from.den)) where
      pub known-sorted : (n : ℕ) → AllByRecursion IsKnown (sorted found n)
      known-sorted n = all-sorted found IsKnown n (λ k h below e. ap found (each k h e).0 ∙ e)

      in_order-found : (n : ℕ) (o : Option (Hit D)) → found n ≡ o → InOrder (sorted found n) → InOrder (insert_found o (sorted found n))
      in_order-found n None e order = order
      in_order-found n (Some h) e order =
          let it = each n h e in
          in_order-insert h (sorted found n) it.1 order
          (all-sorted found (IsFound h.ordinal) n (λ k g below f. record { positive = (each k g f).1; below = omega (arith, below, (each k g f).0, it.0) }))

      pub in_order-sorted : (n : ℕ) → InOrder (sorted found n)
      in_order-sorted zero = tt
      in_order-sorted (suc n) = in_order-found n (found n) refl (in_order-sorted n)
