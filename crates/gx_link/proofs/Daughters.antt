-- Counts of daughters along the lines of placements.
use Rattle.std.proofs.Common.{◌≡◌, ℕ, ◌+◌, ◌<◌, ◌≤◌, sym, ◌∙◌, ap, subst, inl, inr, refl, arith, Bool, true, false, nat_eq, List, [], ◌∷◌, ◌++◌, length, take, drop, get_or, set, map, Some, None, if◌then◌else◌, length-set, append_assoc, append-nil, eq-eqb}
use Rattle.std.specs.Prelude.{sum_by}
use Rattle.std.proofs.lemmas.Bool.{cases_eq, ne_eqb}
use Rattle.std.proofs.lemmas.Bool.Decides.{nat_tests}
use Rattle.std.proofs.lemmas.List.{take_more, drop_more, get_or-set_same, get_or-set_other}
use Rattle.std.proofs.lemmas.List.Elements.{filter-append}
use Rattle.std.proofs.lemmas.List.Sums.{sum_by_push}
use Rattle.gx_tree.specs.Volume.{copies_of}
use Rattle.gx_link.specs.declared.link.LinkedPlacement.{LinkedPlacement}
use Rattle.gx_link.specs.Crowd.{placed_in, placements_in, is_crowded, first_crowded}

abbrev pub daughters_in : ℕ → List LinkedPlacement → ℕ
daughters_in mother ps = sum_by copies_of (placements_in mother ps)

abbrev pub daughters : List LinkedPlacement → ℕ
daughters ps = sum_by (λ (p : LinkedPlacement). copies_of p.placement) ps

-- ---- one placement more
pub placements_in-here : (ps : List LinkedPlacement) (p : LinkedPlacement) → placements_in p.mother (ps ++ p ∷ []) ≡ placements_in p.mother ps ++ p.placement ∷ []
placements_in-here [] p = rw (eq-eqb p.mother p.mother refl) refl
placements_in-here (q ∷ ps) p = elim (nat_eq q.mother p.mother) as (λ b. map (λ (r : LinkedPlacement). r.placement) (if b then q ∷ placed_in p.mother (ps ++ p ∷ []) else placed_in p.mother (ps ++ p ∷ [])) ≡ map (λ (r : LinkedPlacement). r.placement) (if b then q ∷ placed_in p.mother ps else placed_in p.mother ps) ++ p.placement ∷ []) [
  | true ↦ ap (λ ls. q.placement ∷ ls) (placements_in-here ps p)
  | false ↦ placements_in-here ps p
]

pub placements_in-other : (m : ℕ) (ps : List LinkedPlacement) (p : LinkedPlacement) → (m ≡ p.mother → ⊥) → placements_in m (ps ++ p ∷ []) ≡ placements_in m ps
placements_in-other m ps p other =
    ap (map (λ (r : LinkedPlacement). r.placement)) (filter-append (λ (r : LinkedPlacement). nat_eq r.mother m) ps (p ∷ []) ∙ (rw (ne_eqb p.mother m (λ e. other (sym e))) (append-nil (placed_in m ps))))

pub daughters_in-here : (ps : List LinkedPlacement) (p : LinkedPlacement) → daughters_in p.mother (ps ++ p ∷ []) ≡ daughters_in p.mother ps + copies_of p.placement
daughters_in-here ps p = ap (sum_by copies_of) (placements_in-here ps p) ∙ sum_by_push copies_of (placements_in p.mother ps) p.placement

pub daughters-push : (ps : List LinkedPlacement) (p : LinkedPlacement) → daughters (ps ++ p ∷ []) ≡ daughters ps + copies_of p.placement
daughters-push ps p = sum_by_push (λ (q : LinkedPlacement). copies_of q.placement) ps p

-- ---- what was counted of the placements so far
pub record IsCounted (ps : List LinkedPlacement) (volumes : ℕ) (counts : List ℕ) (all : ℕ) : Type 0 where
  pub long : length counts ≡ volumes
  pub each : (m : ℕ) → m < volumes → get_or counts m 0 ≡ daughters_in m ps
  pub few : (m : ℕ) → m < volumes → get_or counts m 0 ≤ 4096
  pub together : all ≡ daughters ps
  pub few_together : all ≤ 65536

pub counted_more : (ps : List LinkedPlacement) (volumes : ℕ) (counts : List ℕ) (all : ℕ) (p : LinkedPlacement) (count : ℕ) → IsCounted ps volumes counts all
    → p.mother < volumes → count ≡ daughters_in p.mother (ps ++ p ∷ []) → count ≤ 4096 → all + copies_of p.placement ≤ 65536
    → IsCounted (ps ++ p ∷ []) volumes (set counts p.mother count) (all + copies_of p.placement)
counted_more ps volumes counts all p count so_far within is few few_together = record {
  long = omega (arith, so_far.long, length-set {A = ℕ});
  each = λ m below. elim (cases_eq m p.mother) [
    | inl same ↦ rw same (get_or-set_same counts p.mother count 0 (omega (arith, so_far.long)) ∙ is)
    | inr other ↦ get_or-set_other counts p.mother m count 0 other ∙ so_far.each m below ∙ ap (sum_by copies_of) (sym (placements_in-other m ps p other))
  ];
  few = λ m below. elim (cases_eq m p.mother) [
    | inl same ↦ rw (same, get_or-set_same counts p.mother count 0 (omega (arith, so_far.long))) few
    | inr other ↦ rw (get_or-set_other counts p.mother m count 0 other) (so_far.few m below)
  ];
  together = omega (arith, so_far.together, daughters-push ps p);
  few_together = few_together;
}

-- ---- the first that is too many
pub taken_more : (ps : List LinkedPlacement) (i : ℕ) (p : LinkedPlacement) → i < length ps → p ≡ get_or ps i p → take (i + 1) ps ≡ take i ps ++ p ∷ []
taken_more ps i p less at = take_more ps i p less ∙ ap (λ (q : LinkedPlacement). take i ps ++ q ∷ []) (sym at)

pub crowded_at : (ps : List LinkedPlacement) (i : ℕ) (p : LinkedPlacement) → i < length ps → p ≡ get_or ps i p
    → first_crowded (take i ps) (drop i ps) ≡ (if is_crowded (take i ps ++ p ∷ []) p.mother then Some p.line else first_crowded (take (i + 1) ps) (drop (i + 1) ps))
crowded_at ps i p less at =
    let split : drop i ps ≡ p ∷ drop (i + 1) ps = drop_more ps i p less ∙ ap (λ (q : LinkedPlacement). q ∷ drop (i + 1) ps) (sym at) in
    rw (split, taken_more ps i p less at) refl

-- no mother has too many daughters, nor have all
pub record IsUncrowded (ps : List LinkedPlacement) : Type 0 where
  pub each : (m : ℕ) → daughters_in m ps ≤ 4096
  pub all : daughters ps ≤ 65536

uncrowded_more : (ps : List LinkedPlacement) (p : LinkedPlacement) → IsUncrowded ps → is_crowded (ps ++ p ∷ []) p.mother ≡ false → IsUncrowded (ps ++ p ∷ [])
uncrowded_more ps p so_far none = record {
  each = λ m. elim (cases_eq m p.mother) [
    | inl same ↦ rw same (grind (arith, nat_tests))
    | inr other ↦ rw (placements_in-other m ps p other) (so_far.each m)
  ];
  all = grind (arith, nat_tests);
}

uncrowded_from : (before ps : List LinkedPlacement) → IsUncrowded before → first_crowded before ps ≡ None → IsUncrowded (before ++ ps)
uncrowded_from before [] so_far none = subst IsUncrowded (sym (append-nil before)) so_far
uncrowded_from before (p ∷ ps) so_far none =
    let step : (b : Bool) → is_crowded (before ++ p ∷ []) p.mother ≡ b → (if b then Some p.line else first_crowded (before ++ p ∷ []) ps) ≡ None → IsUncrowded (before ++ p ∷ ps) = λ b. elim b as (λ b. is_crowded (before ++ p ∷ []) p.mother ≡ b → (if b then Some p.line else first_crowded (before ++ p ∷ []) ps) ≡ None → IsUncrowded (before ++ p ∷ ps)) [
      | true ↦ λ is some. cc
      | false ↦ λ is rest. subst IsUncrowded (append_assoc before (p ∷ []) ps) (uncrowded_from (before ++ p ∷ []) ps (uncrowded_more before p so_far is) rest)
    ] in
    step (is_crowded (before ++ p ∷ []) p.mother) refl none

pub uncrowded : (ps : List LinkedPlacement) → first_crowded [] ps ≡ None → IsUncrowded ps
uncrowded ps none = uncrowded_from [] ps (record { each = λ m. omega arith; all = omega arith }) none
