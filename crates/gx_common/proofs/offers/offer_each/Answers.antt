use Rattle.std.proofs.Common.{◌≡◌, ◌⊎◌, inl, inr, ◌≤◌, ◌*◌, ℤ, unsigned_abs, List, [], ◌∷◌, ◌++◌, filter_map, length, Option, Some, None, All, refl, sym, ◌∙◌, subst, arith}
use Rattle.std.specs.Iterator.Adapters.{zip_first, zip_second}
use Rattle.std.specs.List.{zip, cons_option}
use Rattle.std.specs.Slice.Iter.{iter_rest}
use Rattle.std.proofs.lemmas.List.Elements.{All-head, All-rest}
use Rattle.gx_num.specs.Vector4.{Vec4}
use Rattle.gx_plane.specs.Plane.{offset_reach}
use Rattle.gx_common.specs.Sides.{Sided, crossing_in}
use Rattle.gx_common.specs.Slots.{after}
use Rattle.gx_common.proofs.Levels.{by_value}
use Rattle.gx_common.proofs.Offered.{offered_first, filled_first, offered_past}
use Rattle.gx_common.proofs.offers.offer_each.Goals as goal

those : Sided → Sided → List (ℤ × ℤ) → List Vec4
those u v ts = filter_map (crossing_in u v) ts

one : Sided → Sided → ℤ × ℤ → List (ℤ × ℤ) → List Vec4
one u v t _ = cons_option (crossing_in u v t) []

cons : (u v : Sided) (t : ℤ × ℤ) (ts : List (ℤ × ℤ)) → those u v (t ∷ ts) ≡ one u v t ts ++ those u v ts
unfolding those one
cons u v t ts = split (crossing_in u v t) (filter_map (crossing_in u v) ts)
  where
    split : (o : Option Vec4) (xs : List Vec4) → cons_option o xs ≡ cons_option o [] ++ xs
    split None xs = refl
    split (Some x) xs = refl

-- one turn of the loop
zip_turn : (xs ys : List ℤ) (x y : ℤ) (xs' ys' : List ℤ) → xs ≡ x ∷ xs' → ys ≡ y ∷ ys' → zip xs ys ≡ (x, y) ∷ zip xs' ys'
zip_turn xs ys x y xs' ys' e f = rw (e, f) refl

zip_end : (xs ys : List ℤ) → (length xs ≡ 0) ⊎ (length ys ≡ 0) → length (zip xs ys) ≤ 0
zip_end [] ys e = omega arith
zip_end (x ∷ xs) [] e = omega arith
zip_end (x ∷ xs) (y ∷ ys) (inl e) = absurd (omega (arith, e))
zip_end (x ∷ xs) (y ∷ ys) (inr e) = absurd (omega (arith, e))

-- the first side of those that are left, as it is handed over by value
first_side : (x : ℤ) (xs xs' : List ℤ) → xs ≡ x ∷ xs' → All (λ z. unsigned_abs z ≤ 2 * offset_reach) xs → unsigned_abs x ≤ 2 * offset_reach
first_side x xs xs' e h =
    All-head (λ z. unsigned_abs z ≤ 2 * offset_reach) x xs' (subst (All (λ z. unsigned_abs z ≤ 2 * offset_reach)) e h)

pub returns-then-offer_crossing-clause-value : goal.returns-then-offer_crossing-clause-value
unfolding those one
returns-then-offer_crossing-clause-value c =
    let u = c.args.first.now in
    let v = c.args.second.now in
    let steps = c.in-Some.ensures.steps in
    let x = c.in-Some.field-0-0.now in
    let y = c.in-Some.field-0-1.now in
    let slots = c.loop-side.slots in
    let fit_x = by_value x (first_side x _ _ steps.0 c.loop-side.invariant.within) in
    let fit_y = by_value y (first_side y _ _ steps.1 c.loop-side.invariant.others_within) in
    let offered : c.offer_crossing.new.slots ≡ after (one u v (x, y) []) slots = rw (fit_x, fit_y) at c.offer_crossing.ensures.value in
    filled_first (those u v) (one u v) (cons u v) (x, y) _ _ slots c.offer_crossing.new.slots (zip_turn _ _ x y _ _ steps.0 steps.1) offered (c.offer_crossing.ensures.filled c.if-offer_crossing.true)
    ∙ c.loop-side.invariant.all

pub loop-side-preserved : goal.loop-side-preserved
unfolding those one
loop-side-preserved c =
    let u = c.args.first.now in
    let v = c.args.second.now in
    let steps = c.in-Some.ensures.steps in
    let x = c.in-Some.field-0-0.now in
    let y = c.in-Some.field-0-1.now in
    let slots = c.loop-side.slots in
    let fit_x = by_value x (first_side x _ _ steps.0 c.loop-side.invariant.within) in
    let fit_y = by_value y (first_side y _ _ steps.1 c.loop-side.invariant.others_within) in
    let offered : c.offer_crossing.new.slots ≡ after (one u v (x, y) []) slots = rw (fit_x, fit_y) at c.offer_crossing.ensures.value in
    record {
      all = offered_first (those u v) (one u v) (cons u v) (x, y) _ _ slots c.offer_crossing.new.slots (zip_turn _ _ x y _ _ steps.0 steps.1) offered ∙ c.loop-side.invariant.all;
      within = All-rest (λ z. unsigned_abs z ≤ 2 * offset_reach) _ _ _ steps.0 c.loop-side.invariant.within;
      others_within = All-rest (λ z. unsigned_abs z ≤ 2 * offset_reach) _ _ _ steps.1 c.loop-side.invariant.others_within;
    }

pub returns-clause-value : goal.returns-clause-value
unfolding those one
returns-clause-value c =
    let u = c.args.first.now in
    let v = c.args.second.now in
    sym (offered_past (those u v) (one u v) (cons u v) refl _ 0 c.loop-side.slots (zip_end (iter_rest (zip_first c.loop-side.side-iterator)) (iter_rest (zip_second c.loop-side.side-iterator)) (ended c.in-None.ensures.steps)))
    ∙ c.loop-side.invariant.all
  where
    ended : {A B P R : Type 0} {Q : A → Type 0} {S : B → Type 0} → ((x : A) × (P × Q x)) ⊎ ((x : B) × (R × S x)) → P ⊎ R
    ended (inl s) = inl s.1.0
    ended (inr s) = inr s.1.0
