-- The search for all volumes that are reached from marked ones.
use Rattle.std.proofs.Common.{◌≡◌, ◌↔◌, ℕ, zero, suc, ◌+◌, ◌<◌, ◌≤◌, inl, inr, refl, sym, ◌∙◌, ap, subst, arith, Bool, true, false, cond, nat_eq, List, [], ◌∷◌, ◌++◌, length, set, take, slice_index, slice_index_or, eqb-true, eq-eqb}
use Rattle.std.specs.Prelude.{Contains, if◌then◌else◌}
use Rattle.std.proofs.lemmas.Bool.{cases_lt, cases_Bool, or_cases, or_left, or_right}
use Rattle.std.proofs.lemmas.List.{length-set, length_push, get_or_append_left, get_or-append-add, get_or_default, take_all}
use Rattle.std.proofs.lemmas.List.Sums.{sum_by-set, count_by-le-length}
use Rattle.std.proofs.lemmas.List.Elements.{All-push, All-more, All-weaker, All-contains, Contains-push, Contains-append_left}
use Rattle.std.proofs.lemmas.List.Folds.{Any-from_list_any, list_any-from_Any}
use Rattle.gx_tree.specs.declared.placement.Placement.{Placement}
use Rattle.gx_tree.specs.Volume.{Volume, daughter_of}
use Rattle.gx_tree.specs.Hierarchy.{volume_at, leads, is_reached}
use Rattle.gx_tree.specs.Marks.{AreInRange, is_marked, IsReached, IsNear, IsSearch, AreStill, AreMarked, AreClosed, IsVisit}
use Rattle.gx_tree.proofs.Marks.{is_marked-set}
use Rattle.gx_tree.proofs.Leads.{leads-itself, leads-append}
use Rattle.gx_tree.proofs.Numbers.{some_number, number_passes}

set-marked : (marks : List Bool) (v : ℕ) → is_marked marks v ≡ true → set marks v true ≡ marks
set-marked [] v e = refl
set-marked (m ∷ marks) zero e = ap (λ b. b ∷ marks) (sym e)
set-marked (m ∷ marks) (suc v) e = ap (λ ms. m ∷ ms) (set-marked marks v e)

pub still-set : (marks : List Bool) (v w : ℕ) → v < length marks → is_marked marks w ≡ true → is_marked (set marks v true) w ≡ true
still-set marks v w below e = is_marked-set marks v w below ∙ or_left (is_marked marks w) (nat_eq v w) e

pub found_now : (marks : List Bool) (v : ℕ) → v < length marks → is_marked (set marks v true) v ≡ true
found_now marks v below = is_marked-set marks v v below ∙ or_right (is_marked marks v) (nat_eq v v) (eq-eqb v v refl)

-- what was found stays at its place
pub found-stays : (marks : List Bool) (found : List ℕ) (v k : ℕ) (b : Bool) → k < length found
    → slice_index (if b then found else (found ++ v ∷ [])) k ≡ slice_index found k
found-stays marks found v k true below = refl
found-stays marks found v k false below = get_or_append_left found (v ∷ []) 0 k below

pub found-grows : (found : List ℕ) (v : ℕ) (b : Bool) → length found ≤ length (if b then found else (found ++ v ∷ []))
found-grows found v true = omega arith
found-grows found v false = omega (arith, length_push found v)

module _ (volumes : List Volume) (first marks : List Bool) (found : List ℕ) (v : ℕ) (search : IsSearch volumes first marks found) (below : v < length volumes) where
  within : v < length marks
  within = omega (arith, below, search.count)

  new_one : is_marked marks v ≡ false → IsNear volumes first (length found) v → IsSearch volumes first (set marks v true) (found ++ v ∷ [])
  new_one new near = record {
    count = length-set marks v true ∙ search.count;
    once = omega (arith, length_push found v, search.once, sum_by-set (λ m. cond m 1 0) marks v true false within, ap {B = ℕ} (λ b. cond b 1 0) new);
    within = All-push (λ u. u < length volumes) found v search.within below;
    listed = listed;
    near = near_at;
  }
    where
      listed : (w : ℕ) → is_marked (set marks v true) w ≡ true → Contains (found ++ v ∷ []) w
      listed w e = elim (or_cases (is_marked marks w) (nat_eq v w) (sym (is_marked-set marks v w within) ∙ e)) [
        | inl before ↦ Contains-append_left found (v ∷ []) w (search.listed w before)
        | inr now ↦ subst (Contains (found ++ v ∷ [])) (eqb-true v w now) (Contains-push found v)
      ]

      near_at : (k : ℕ) → k < length (found ++ v ∷ []) → IsNear volumes first k (slice_index (found ++ v ∷ []) k)
      near_at k less = elim (cases_lt k (length found)) [
        | inl before ↦ subst (IsNear volumes first k) (sym (get_or_append_left found (v ∷ []) 0 k before)) (search.near k before)
        | inr after ↦
            let last : length found + 0 ≡ k = omega (arith, length_push found v) in
            let here : slice_index (found ++ v ∷ []) k ≡ v = ap (slice_index (found ++ v ∷ [])) (sym last) ∙ get_or-append-add found (v ∷ []) 0 0 in
            let number : length found ≡ k = omega arith in
            subst (IsNear volumes first k) (sym here) (subst (λ n. IsNear volumes first n v) number near)
      ]

  -- one volume more is found
  pub search_more : IsNear volumes first (length found) v → IsSearch volumes first (set marks v true) (if is_marked marks v then found else (found ++ v ∷ []))
  search_more near = elim (cases_Bool (is_marked marks v)) [
    | inl old ↦ rw (set-marked marks v old, old) search
    | inr new ↦ rw new (new_one new near)
  ]

-- a marked one itself
pub near_first : (volumes : List Volume) (first : List Bool) (most v : ℕ) → is_marked first v ≡ true → IsNear volumes first most v
near_first volumes first most v marked = record { from = v; steps = 0; few = omega arith; marked = marked; leads = leads-itself volumes v }

-- the first ones, from the left
pub first_more : (volumes : List Volume) (first marks : List Bool) (found : List ℕ) (v : ℕ) → length first ≡ length volumes → v < length first → IsSearch volumes first marks found
    → ((w : ℕ) → w < v → is_marked first w ≡ true → is_marked marks w ≡ true) → is_marked first v ≡ true
    → IsSearch volumes first (set marks v true) (if is_marked marks v then found else (found ++ v ∷ [])) × ((w : ℕ) → w < v + 1 → is_marked first w ≡ true → is_marked (set marks v true) w ≡ true)
first_more volumes first marks found v count below search before marked =
    let within : v < length marks = omega (arith, search.count) in (
      search_more volumes first marks found v search (omega (arith, count, below)) (near_first volumes first (length found) v marked),
      λ w less e. elim (cases_lt w v) [
        | inl earlier ↦ still-set marks v w within (before w earlier e)
        | inr now ↦ let same : v ≡ w = omega arith in subst (λ u. is_marked (set marks v true) u ≡ true) same (found_now marks v within)
      ],
    )

-- a daughter of one that was found
pub near_daughter : (volumes : List Volume) (first : List Bool) (k most v : ℕ) (p : Placement) → IsNear volumes first k v → k < most → Contains (volume_at volumes v).placements p
    → IsNear volumes first most (daughter_of p)
unfolding leads
near_daughter volumes first k most v p near less (i, below, at) =
    let one : leads volumes 1 v (daughter_of p) ≡ true =
    list_any-from_Any (λ q. nat_eq (daughter_of q) (daughter_of p)) (volume_at volumes v).placements (i, p, below, at, eq-eqb (daughter_of p) (daughter_of p) refl) in
    record {
      from = near.from;
      steps = near.steps + 1;
      few = omega (arith, near.few);
      marked = near.marked;
      leads = leads-append volumes near.steps 1 near.from v (daughter_of p) near.leads one;
    }

module _ (volumes : List Volume) (range : AreInRange volumes) (first marks : List Bool) (found : List ℕ) (next : ℕ) (placements : List Placement) (seen : ℕ)
    (visit : IsVisit volumes first marks found next placements seen) where
  abbrev mother : ℕ
  mother = slice_index found next

  -- a placement of the next volume is in range
  pub daughter_below : (p : Placement) → Contains placements p → daughter_of p < length volumes
  daughter_below p among =
      let below = visit.search.within next 0 visit.here in
      All-contains (λ p. daughter_of p < length volumes) (volume_at volumes mother).placements p (range mother _ below) (subst (λ ps. Contains ps p) visit.same among)

  -- one placement more
  pub visit_more : (p : Placement) → seen < length placements → p ≡ slice_index_or placements seen p
      → IsVisit volumes first (set marks (daughter_of p) true) (if is_marked marks (daughter_of p) then found else (found ++ daughter_of p ∷ [])) next placements (seen + 1)
  visit_more p less at = record {
    search = search_more volumes first marks found d visit.search below near;
    still = λ w e. still-set marks d w within (visit.still w e);
    closed = λ k before. subst (λ u. AreMarked now (volume_at volumes u).placements) (sym (found-stays marks found d k (is_marked marks d) (omega (arith, before, visit.here)))) (wider (volume_at volumes (slice_index found k)).placements (visit.closed k before));
    here = omega (arith, visit.here, found-grows found d (is_marked marks d));
    same = visit.same ∙ ap (λ (u : ℕ). (volume_at volumes u).placements) (sym (found-stays marks found d next (is_marked marks d) visit.here));
    marked = All-more (λ q. is_marked now (daughter_of q) ≡ true) placements seen p less (wider (take seen placements) visit.marked) (ap (λ (q : Placement). is_marked now (daughter_of q)) (sym at) ∙ found_now marks d within);
  }
    where
      d : ℕ
      d = daughter_of p

      now : List Bool
      now = set marks d true

      among : Contains placements p
      among = (seen, less, sym at)

      below : d < length volumes
      below = daughter_below p among

      within : d < length marks
      within = omega (arith, below, visit.search.count)

      near : IsNear volumes first (length found) d
      near = near_daughter volumes first next (length found) mother p (visit.search.near next visit.here) visit.here (subst (λ ps. Contains ps p) visit.same among)

      wider : (ps : List Placement) → AreMarked marks ps → AreMarked now ps
      wider ps all = All-weaker (λ q. is_marked marks (daughter_of q) ≡ true) (λ q. is_marked now (daughter_of q) ≡ true) (λ q e. still-set marks d (daughter_of q) within e) ps all

  -- all placements of the next volume
  pub visit_done : length placements ≤ seen → AreClosed volumes marks found (next + 1)
  visit_done all k before = elim (cases_lt k next) [
    | inl less ↦ visit.closed k less
    | inr more ↦
        let same : next ≡ k = omega arith in
        subst (λ i. AreMarked marks (volume_at volumes (slice_index found i)).placements) same (subst (AreMarked marks) (take_all seen placements all ∙ visit.same) visit.marked)
  ]

-- ---- when all that were found are done
module _ (volumes : List Volume) (first marks : List Bool) (found : List ℕ) (search : IsSearch volumes first marks found)
    (still : AreStill first marks) (closed : AreClosed volumes marks found (length found)) where
  follow : (n v w : ℕ) → is_marked marks v ≡ true → leads volumes n v w ≡ true → is_marked marks w ≡ true
  unfolding leads
  follow zero v w marked e = subst (λ u. is_marked marks u ≡ true) (eqb-true v w e) marked
  follow (suc n) v w marked e =
      let (k, below, at) = search.listed v marked in
      let same : slice_index found k ≡ v = get_or_default found k 0 v below ∙ at in
      let all = subst (λ u. AreMarked marks (volume_at volumes u).placements) same (closed k below) in
      let (i, p, less, here, passes) = Any-from_list_any (λ p. leads volumes n (daughter_of p) w) (volume_at volumes v).placements e in
      follow n (daughter_of p) w (All-contains (λ p. is_marked marks (daughter_of p) ≡ true) (volume_at volumes v).placements p all (i, less, here)) passes

  -- those that are marked are those that are reached
  pub reached_is : (w : ℕ) → is_marked marks w ≡ true ↔ IsReached volumes first w
  unfolding is_reached
  reached_is w = (there, back)
    where
      there : is_marked marks w ≡ true → IsReached volumes first w
      there marked =
          let (k, below, at) = search.listed w marked in
          let same : slice_index found k ≡ w = get_or_default found k 0 w below ∙ at in
          let near = subst (IsNear volumes first k) same (search.near k below) in
          record { from = near.from; marked = near.marked; reached = number_passes (λ n. leads volumes n near.from w) (length volumes) near.steps (omega (arith, near.few, below, search.once, search.count, count_by-le-length (λ m. m) marks)) near.leads }

      back : IsReached volumes first w → is_marked marks w ≡ true
      back r = let some = some_number (λ n. leads volumes n r.from w) (length volumes) r.reached in
          follow some.number r.from w (still r.from r.marked) some.passes
