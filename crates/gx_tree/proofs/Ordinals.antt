-- An instance by its ordinal: her placement by a search over running counts, and her number among its instances.
use Rattle.std.proofs.Common.{◌≡◌, ℕ, zero, suc, ◌+◌, ◌-◌, ◌<◌, ◌≤◌, inl, inr, refl, sym, ◌∙◌, ap, arith, true, false, leb, List, [], ◌∷◌, length, take, slice_index, slice_index_or, slice_get, Some, leb-true}
use Rattle.std.specs.Prelude.{sum_by, flat_map}
use Rattle.std.specs.List.Sorted.{IsNonDecreasingBy, IsPartitionPoint}
use Rattle.std.proofs.lemmas.Bool.{cases_lt, leb-false}
use Rattle.std.proofs.lemmas.List.{length-take-le, get_or-take, take_all}
use Rattle.std.proofs.lemmas.List.Concat.{length-flat_map, get_or-flat_map}
use Rattle.std.proofs.lemmas.List.FromFn.{length-map-range_with_len, get_or-map-range_with_len}
use Rattle.std.proofs.lemmas.List.Sums.{sum_by-cons, sum_by_more}
use Rattle.std.proofs.lemmas.List.Sorted.{IsNonDecreasingBy-from_default}
use Rattle.std.proofs.lemmas.Option.{slice_get-get_or}
use Rattle.gx_tree.specs.declared.placement.Placement.{Placement}
use Rattle.gx_tree.specs.declared.instance.Instance.{Instance}
use Rattle.gx_tree.specs.Volume.{copies_of, instance_of, instances_of, instances_in}
use Rattle.gx_tree.specs.Ends.{start_of, ends_of, IsPlace}

pub length-instances_of : (p : Placement) → length (instances_of p) ≡ copies_of p
unfolding instances_of
length-instances_of p = length-map-range_with_len (instance_of p) 0 (copies_of p)

pub length-instances_in : (ps : List Placement) → length (instances_in ps) ≡ sum_by copies_of ps
length-instances_in ps = length-flat_map instances_of ps ∙ (λ i. sum_by (λ p. length-instances_of p i) ps)

start_of-rises : (ps : List Placement) (a b : ℕ) → a ≤ b → start_of ps a ≤ start_of ps b
start_of-rises ps zero b h = omega arith
start_of-rises [] (suc a) b h = omega arith
start_of-rises (p ∷ ps) (suc a) zero h = absurd (omega arith)
start_of-rises (p ∷ ps) (suc a) (suc b) h = omega (arith, sum_by-cons copies_of p (take a ps), sum_by-cons copies_of p (take b ps), start_of-rises ps a b (omega arith))

pub length-ends_of : (ps : List Placement) → length (ends_of ps) ≡ length ps
length-ends_of ps = length-map-range_with_len (λ k. start_of ps (k + 1)) 0 (length ps)

end_at : (ps : List Placement) (i d : ℕ) → i < length ps → slice_index_or (ends_of ps) i d ≡ start_of ps (i + 1)
end_at ps i d below = get_or-map-range_with_len (λ k. start_of ps (k + 1)) 0 (length ps) i i d below (omega arith)

pub ends_of-rises : (ps : List Placement) → IsNonDecreasingBy (λ y. y) (ends_of ps)
ends_of-rises ps = IsNonDecreasingBy-from_default (λ y. y) (ends_of ps) 0 (λ i j h below.
    let within : j < length ps = omega (arith, length-ends_of ps) in
    omega (arith, end_at ps i 0 (omega arith), end_at ps j 0 within, start_of-rises ps (i + 1) (j + 1) (omega arith)))

start_at_end : (ps : List Placement) (n : ℕ) → length ps ≤ n → start_of ps n ≡ sum_by copies_of ps
start_at_end ps n h = ap (sum_by copies_of) (take_all n ps h)

pub place_is : (ps : List Placement) (k place : ℕ) → k < sum_by copies_of ps → place ≤ length (ends_of ps)
    → IsPartitionPoint (λ y. leb y k ≡ true) (λ y. leb y k ≡ false) (ends_of ps) place → IsPlace ps k place
place_is ps k place less within (before, after) = record { below = below; from = from place refl; to = to }
  where
    ended : (i : ℕ) → i < place → i < length ps → start_of ps (i + 1) ≤ k
    ended i h inside = omega (arith, end_at ps i 0 inside, leb-true (slice_index_or (ends_of ps) i 0) k (before i 0 (omega arith) h))

    last : (n : ℕ) → length ps ≡ n → n ≤ place → ⊥
    last zero e h = let all = start_at_end ps 0 (omega arith) in omega (arith, all)
    last (suc n) e h = let all = start_at_end ps (n + 1) (omega arith) in omega (arith, all, ended n (omega arith) (omega arith))

    below : place < length ps
    below = elim (cases_lt place (length ps)) [ inl h ↦ h | inr h ↦ absurd (last (length ps) refl h) ]

    from : (i : ℕ) → place ≡ i → start_of ps place ≤ k
    from zero e = rw e (omega arith)
    from (suc i) e = let next : place ≡ i + 1 = omega arith in rw next (ended i (omega arith) (omega (arith, below)))

    to : k < start_of ps (place + 1)
    to = omega (arith, end_at ps place 0 below, leb-false (slice_index_or (ends_of ps) place 0) k (after place 0 (omega arith) (omega (arith, below, length-ends_of ps))))

-- the count before it, read off the running counts
pub start_is : (ps : List Placement) (place : ℕ) → place ≤ length ps → slice_index (take place (ends_of ps)) (length (take place (ends_of ps)) - 1) ≡ start_of ps place
start_is ps zero h = refl
start_is ps (suc i) h =
    let count : length (take (suc i) (ends_of ps)) - 1 ≡ i = omega (arith, length-take-le (suc i) (ends_of ps) (omega (arith, length-ends_of ps))) in
    let next : i + 1 ≡ suc i = omega arith in
    ap (slice_index (take (suc i) (ends_of ps))) count ∙ get_or-take (suc i) (ends_of ps) i 0 (omega arith) ∙ end_at ps i 0 (omega arith) ∙ ap (start_of ps) next

-- her number among the instances of the placement
pub number_below : (ps : List Placement) (k place : ℕ) (p : Placement) → IsPlace ps k place → p ≡ slice_index_or ps place p → k - start_of ps place < copies_of p
number_below ps k place p is at = omega (arith, is.to, is.from, sum_by_more copies_of ps place p is.below, ap copies_of at)

-- the instance with this ordinal
pub instance_is : (ps : List Placement) (k place : ℕ) (p : Placement) → k < sum_by copies_of ps → IsPlace ps k place → p ≡ slice_index_or ps place p
    → slice_get (instances_in ps) k ≡ Some (instance_of p (k - start_of ps place))
unfolding instances_of
instance_is ps k place p less is at =
    let n = k - start_of ps place in
    let first : Instance = instance_of p 0 in
    let below = number_below ps k place p is at in
    let within : n < length (instances_of (slice_index_or ps place p)) = omega (arith, below, length-instances_of (slice_index_or ps place p), ap copies_of at) in
    let number : length (flat_map instances_of (take place ps)) + n ≡ k = omega (arith, length-instances_in (take place ps), is.from) in
    slice_get-get_or (instances_in ps) k first (omega (arith, length-instances_in ps, less))
    ∙ ap (λ (i : Instance). Some i) (
    ap (λ m. slice_index_or (instances_in ps) m first) (sym number)
    ∙ get_or-flat_map instances_of ps place n p first is.below within
    ∙ ap (λ (q : Placement). slice_index_or (instances_of q) n first) (sym at)
    ∙ get_or-map-range_with_len (instance_of p) 0 (copies_of p) n n first below (omega arith)
    )
