-- What marks on volumes say of the faults.
use Rattle.std.proofs.Common.{◌≡◌, ◌↔◌, ℕ, zero, suc, ◌+◌, ◌*◌, ◌<◌, inl, inr, refl, sym, ◌∙◌, ap, subst, arith, Bool, true, false, ◌&&◌, ◌||◌, nat_eq, List, length, set, replicate, eqb-true, eq-eqb, true≢false}
use Rattle.std.specs.List.{list_any}
use Rattle.std.proofs.lemmas.Bool.{cases_lt, and_parts, and_from, or_right}
use Rattle.std.proofs.Math.Nat.{mul-suc, suc-mul}
use Rattle.std.proofs.lemmas.Bool.Decides.{same_from_decides}
use Rattle.std.proofs.lemmas.List.{get_or-replicate, get_or_past, length-replicate}
use Rattle.std.proofs.lemmas.List.Folds.{Any-from_list_any, list_any-from_Any}
use Rattle.gx_tree.specs.declared.placement.Placement.{Placement}
use Rattle.gx_tree.specs.Volume.{Volume, daughter_of}
use Rattle.gx_tree.specs.Hierarchy.{volume_at, numbers, leads, is_reached, max_depth}
use Rattle.gx_tree.specs.Fault.{is_in_itself, is_placed, is_too_deep}
use Rattle.gx_tree.specs.Marks.{is_marked, IsLed, IsReached}
use Rattle.gx_tree.proofs.Marks.{marked-below, is_marked-set}
use Rattle.gx_tree.proofs.Numbers.{some_number, number_passes}
use Rattle.gx_tree.proofs.Leads.{leads-itself, leads-append, leads-split}

pub none-marked : (n v : ℕ) → is_marked (replicate n false) v ≡ false
none-marked zero v = refl
none-marked (suc n) zero = refl
none-marked (suc n) (suc v) = none-marked n v

pub all-marked : (n v : ℕ) → v < n → is_marked (replicate n true) v ≡ true
all-marked n v below = get_or-replicate n v true false below

-- the one that is marked
pub one-marked : (n v w : ℕ) → v < n → is_marked (set (replicate n false) v true) w ≡ true → v ≡ w
one-marked n v w below e =
    eqb-true v w (sym (is_marked-set (replicate n false) v w (omega (arith, length-replicate n false)) ∙ ap (λ b. b || nat_eq v w) (none-marked n w)) ∙ e)

pub marked-one : (n v : ℕ) → v < n → is_marked (set (replicate n false) v true) v ≡ true
marked-one n v below =
    is_marked-set (replicate n false) v v (omega (arith, length-replicate n false)) ∙ or_right (is_marked (replicate n false) v) (nat_eq v v) (eq-eqb v v refl)

-- a chain begins at a volume of the list
pub leads-below : (volumes : List Volume) (n v w : ℕ) → leads volumes (suc n) v w ≡ true → v < length volumes
unfolding leads
leads-below volumes n v w e = elim (cases_lt v (length volumes)) [
  | inl below ↦ below
  | inr beyond ↦
      let nothing = ap (λ (u : Volume). list_any (λ p. leads volumes n (daughter_of p) w) u.placements) (get_or_past volumes v _ beyond) in
      absurd (true≢false (sym e ∙ nothing))
]

-- ---- the volume is in itself
module _ (volumes : List Volume) (v : ℕ) where
  -- the marks on its daughters, and on all that are reached from them
  in_itself-reached : (marks : List Bool) → ((w : ℕ) → is_marked marks w ≡ list_any (λ p. nat_eq (daughter_of p) w) (volume_at volumes v).placements)
      → IsReached volumes marks v ↔ (is_in_itself volumes v ≡ true)
  unfolding is_in_itself
  in_itself-reached marks daughters = (there, back)
    where
      ps : List Placement
      ps = (volume_at volumes v).placements

      there : IsReached volumes marks v → list_any (λ p. is_reached volumes (daughter_of p) v) (volume_at volumes v).placements ≡ true
      there r =
          let (k, p, less, at, same) = Any-from_list_any (λ p. nat_eq (daughter_of p) r.from) (volume_at volumes v).placements (sym (daughters r.from) ∙ r.marked) in
          list_any-from_Any (λ p. is_reached volumes (daughter_of p) v) (volume_at volumes v).placements (k, p, less, at, ap (λ u. is_reached volumes u v) (eqb-true (daughter_of p) r.from same) ∙ r.reached)

      back : list_any (λ p. is_reached volumes (daughter_of p) v) (volume_at volumes v).placements ≡ true → IsReached volumes marks v
      back e =
          let (k, p, less, at, reached) = Any-from_list_any (λ p. is_reached volumes (daughter_of p) v) (volume_at volumes v).placements e in
          record {
            from = daughter_of p;
            marked = daughters (daughter_of p) ∙ list_any-from_Any (λ q. nat_eq (daughter_of q) (daughter_of p)) (volume_at volumes v).placements (k, p, less, at, eq-eqb (daughter_of p) (daughter_of p) refl);
            reached = reached;
          }

  pub in_itself_is : (marks reached : List Bool) → ((w : ℕ) → is_marked marks w ≡ list_any (λ p. nat_eq (daughter_of p) w) (volume_at volumes v).placements)
      → is_marked reached v ≡ true ↔ IsReached volumes marks v → is_marked reached v ≡ is_in_itself volumes v
  in_itself_is marks reached daughters all =
      let (there, back) = in_itself-reached marks daughters in
      same_from_decides {P = IsReached volumes marks v} (is_marked reached v) (is_in_itself volumes v) (all.0, all.1) (back, there)

  -- a chain back to it
  record Returns : Type 0 where
    steps : ℕ
    leads : leads volumes (suc steps) v v ≡ true

  returns : is_in_itself volumes v ≡ true → Returns
  unfolding is_in_itself is_reached leads
  returns e =
      let (k, p, less, at, reached) = Any-from_list_any (λ p. is_reached volumes (daughter_of p) v) (volume_at volumes v).placements e in
      let some = some_number (λ n. leads volumes n (daughter_of p) v) (length volumes) reached in
      record { steps = some.number; leads = list_any-from_Any (λ q. leads volumes some.number (daughter_of q) v) (volume_at volumes v).placements (k, p, less, at, some.passes) }

  -- so often round
  rounds : (r : Returns) (k : ℕ) → leads volumes (k * suc r.steps) v v ≡ true
  rounds r zero = let none : 0 * suc r.steps ≡ 0 = omega arith in rw none (leads-itself volumes v)
  rounds r (suc k) = let more : suc k * suc r.steps ≡ suc r.steps + k * suc r.steps = omega (arith, suc-mul k (suc r.steps)) in rw more (leads-append volumes (suc r.steps) (k * suc r.steps) v v v r.leads (rounds r k))

  -- so chains of any length lead to it
  pub in_itself-deep : (n : ℕ) → is_in_itself volumes v ≡ true → IsLed volumes (replicate (length volumes) true) (suc n) v
  in_itself-deep n e =
      let r = returns e in
      let long : suc n * suc r.steps ≡ suc n * r.steps + suc n = mul-suc (suc n) r.steps in
      let split = leads-split volumes (suc n * r.steps) (suc n) v v (rw (← long) (rounds r (suc n))) in
      record { from = split.at; marked = all-marked (length volumes) split.at (leads-below volumes n split.at v split.second); leads = split.second }

-- ---- the volume is placed
pub placed_is : (volumes : List Volume) (placed : List Bool) (v : ℕ) → is_marked placed v ≡ true ↔ IsLed volumes (replicate (length volumes) true) 1 v → is_marked placed v ≡ is_placed volumes v
unfolding is_placed
placed_is volumes placed v led = same_from_decides {P = IsLed volumes (replicate (length volumes) true) 1 v} (is_marked placed v) (list_any (λ u. leads volumes 1 u v) (numbers volumes)) (led.0, led.1) (
  λ e. let some = some_number (λ u. leads volumes 1 u v) (length volumes) e in
      record { from = some.number; marked = all-marked (length volumes) some.number some.below; leads = some.passes },
  λ l. number_passes (λ u. leads volumes 1 u v) (length volumes) l.from (leads-below volumes 0 l.from v l.leads) l.leads,
)

-- ---- the volume is too deep
pub too_deep_is : (volumes : List Volume) (world : ℕ) (deep reached : List Bool) (w : ℕ) → world < length volumes → length deep ≡ length volumes
    → ((u : ℕ) → is_marked deep u ≡ true ↔ IsLed volumes (set (replicate (length volumes) false) world true) (suc max_depth) u)
    → is_marked reached w ≡ true ↔ IsReached volumes deep w
    → is_marked reached w ≡ is_too_deep volumes world w
unfolding is_too_deep
too_deep_is volumes world deep reached w below count led all = same_from_decides {P = IsReached volumes deep w} (is_marked reached w) _ (all.0, all.1) (there, back)
  where
    test : ℕ → Bool
    test u = leads volumes (suc max_depth) world u && is_reached volumes u w

    there : list_any (λ u. leads volumes (suc max_depth) world u && is_reached volumes u w) (numbers volumes) ≡ true → IsReached volumes deep w
    there e =
        let some = some_number (λ u. leads volumes (suc max_depth) world u && is_reached volumes u w) (length volumes) e in
        let (chain, on) = and_parts (leads volumes (suc max_depth) world some.number) (is_reached volumes some.number w) some.passes in
        record { from = some.number; marked = (led some.number).1 (record { from = world; marked = marked-one (length volumes) world below; leads = chain }); reached = on }

    back : IsReached volumes deep w → list_any (λ u. leads volumes (suc max_depth) world u && is_reached volumes u w) (numbers volumes) ≡ true
    back r =
        let l = (led r.from).0 r.marked in
        let same = one-marked (length volumes) world l.from below l.marked in
        let chain = subst (λ u. leads volumes (suc max_depth) u r.from ≡ true) (sym same) l.leads in
        number_passes (λ u. leads volumes (suc max_depth) world u && is_reached volumes u w) (length volumes) r.from (omega (arith, count, marked-below deep r.from r.marked))
        (and_from (leads volumes (suc max_depth) world r.from) (is_reached volumes r.from w) chain r.reached)
