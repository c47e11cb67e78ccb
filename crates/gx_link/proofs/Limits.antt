-- The volumes that are made of lines without a crowd are within the limits of a hierarchy.
use Rattle.std.proofs.Common.{◌≡◌, ℕ, suc, ◌+◌, ◌<◌, ◌≤◌, sym, ap, subst, inl, inr, refl, arith, nat_eq, List, [], ◌∷◌, length, All, None, eq-eqb}
use Rattle.std.specs.Prelude.{sum_by}
use Rattle.std.proofs.lemmas.Bool.{cases_eq, ne_eqb}
use Rattle.std.proofs.lemmas.List.Elements.{All-nil, All-cons, All-head, All-tail, All-filter, All-map}
use Rattle.std.proofs.lemmas.List.Sums.{sum_by-cons}
use Rattle.gx_tree.specs.declared.placement.Placement.{Placement}
use Rattle.gx_tree.specs.Volume.{Volume, copies_of}
use Rattle.gx_tree.specs.Limits.{IsPlaceable, IsWithinLimits, instance_count}
use Rattle.gx_link.specs.declared.link.LinkedVolume.{LinkedVolume}
use Rattle.gx_link.specs.declared.link.LinkedPlacement.{LinkedPlacement}
use Rattle.gx_link.specs.Crowd.{placed_in, placements_in, first_crowded}
use Rattle.gx_link.specs.Text.{volumes_from}
use Rattle.gx_link.proofs.Daughters.{daughters, daughters_in, uncrowded}

pub length-volumes_from : (ps : List LinkedPlacement) (v : ℕ) (volumes : List LinkedVolume) → length (volumes_from ps v volumes) ≡ length volumes
length-volumes_from ps v [] = refl
length-volumes_from ps v (volume ∷ volumes) = ap (λ n. suc n) (length-volumes_from ps (v + 1) volumes)

-- what holds of each volume with what is placed in it
pub each_volume : (K : LinkedVolume → Type 0) (P : Volume → Type 0) (ps : List LinkedPlacement)
    → ((u : LinkedVolume) (m : ℕ) → K u → P (record { name = u.name; solid = u.solid; material = u.material; placements = placements_in m ps })) → (v : ℕ) (us : List LinkedVolume) → All K us → All P (volumes_from ps v us)
each_volume K P ps says v [] all = All-nil P
each_volume K P ps says v (u ∷ us) all = All-cons P _ (volumes_from ps (v + 1) us) (says u v (All-head K u us all)) (each_volume K P ps says (v + 1) us (All-tail K u us all))

each_mother : (P : List Placement → Type 0) (ps : List LinkedPlacement) → ((m : ℕ) → P (placements_in m ps)) → (us : List LinkedVolume) → All (λ (u : Volume). P u.placements) (volumes_from ps 0 us)
each_mother P ps says us = each_volume (λ _. Unit {0}) (λ (u : Volume). P u.placements) ps (λ u m _. says m) 0 us (λ k d less. tt)

-- what holds of each placement
pub each_in : (P : Placement → Type 0) (ps : List LinkedPlacement) → All (λ (p : LinkedPlacement). P p.placement) ps → (m : ℕ) → All P (placements_in m ps)
each_in P ps all m = All-map P (λ (p : LinkedPlacement). p.placement) (placed_in m ps) (All-filter (λ (p : LinkedPlacement). nat_eq p.mother m) (λ (p : LinkedPlacement). P p.placement) ps all)

-- ---- all daughters, counted by their mothers
abbrev total : List LinkedPlacement → ℕ → List LinkedVolume → ℕ
total ps v volumes = sum_by instance_count (volumes_from ps v volumes)

daughters_in-cons_here : (p : LinkedPlacement) (ps : List LinkedPlacement) (m : ℕ) → p.mother ≡ m → daughters_in m (p ∷ ps) ≡ copies_of p.placement + daughters_in m ps
daughters_in-cons_here p ps m same = rw (eq-eqb p.mother m same) (sum_by-cons copies_of p.placement (placements_in m ps))

daughters_in-cons_other : (p : LinkedPlacement) (ps : List LinkedPlacement) (m : ℕ) → (p.mother ≡ m → ⊥) → daughters_in m (p ∷ ps) ≡ daughters_in m ps
daughters_in-cons_other p ps m other = rw (ne_eqb p.mother m other) refl

total-cons : (ps : List LinkedPlacement) (v : ℕ) (volume : LinkedVolume) (volumes : List LinkedVolume) → total ps v (volume ∷ volumes) ≡ daughters_in v ps + total ps (v + 1) volumes
total-cons ps v volume volumes =
    sum_by-cons instance_count (record { name = volume.name; solid = volume.solid; material = volume.material; placements = placements_in v ps }) (volumes_from ps (v + 1) volumes)

total_passed : (p : LinkedPlacement) (ps : List LinkedPlacement) (v : ℕ) (volumes : List LinkedVolume) → p.mother < v → total (p ∷ ps) v volumes ≡ total ps v volumes
total_passed p ps v [] less = refl
total_passed p ps v (volume ∷ volumes) less = omega (
  arith,
  total-cons (p ∷ ps) v volume volumes,
  total-cons ps v volume volumes,
  daughters_in-cons_other p ps v (λ e. omega arith),
  total_passed p ps (v + 1) volumes (omega arith),
)

total_more : (p : LinkedPlacement) (ps : List LinkedPlacement) (v : ℕ) (volumes : List LinkedVolume) → total (p ∷ ps) v volumes ≤ copies_of p.placement + total ps v volumes
total_more p ps v [] = omega arith
total_more p ps v (volume ∷ volumes) = elim (cases_eq p.mother v) [
  | inl same ↦
      omega (arith, total-cons (p ∷ ps) v volume volumes, total-cons ps v volume volumes, daughters_in-cons_here p ps v same, total_passed p ps (v + 1) volumes (omega arith))
  | inr other ↦ omega (arith, total-cons (p ∷ ps) v volume volumes, total-cons ps v volume volumes, daughters_in-cons_other p ps v other, total_more p ps (v + 1) volumes)
]

total_none : (v : ℕ) (volumes : List LinkedVolume) → total [] v volumes ≡ 0
total_none v [] = refl
total_none v (volume ∷ volumes) = omega (arith, total-cons [] v volume volumes, total_none (v + 1) volumes)

total-daughters : (ps : List LinkedPlacement) (v : ℕ) (volumes : List LinkedVolume) → total ps v volumes ≤ daughters ps
total-daughters [] v volumes = omega (arith, total_none v volumes)
total-daughters (p ∷ ps) v volumes = omega (arith, total_more p ps v volumes, total-daughters ps v volumes, sum_by-cons (λ (q : LinkedPlacement). copies_of q.placement) p ps)

pub within_limits : (ps : List LinkedPlacement) (volumes : List LinkedVolume) → length volumes ≤ 4096 → All (λ (p : LinkedPlacement). IsPlaceable (length volumes) p.placement) ps → first_crowded [] ps ≡ None
    → IsWithinLimits (volumes_from ps 0 volumes)
within_limits ps volumes few placeable none =
    let long : length (volumes_from ps 0 volumes) ≡ length volumes = length-volumes_from ps 0 volumes in
    let counts = uncrowded ps none in
    record {
      few = omega arith;
      placeable = each_mother (All (IsPlaceable (length (volumes_from ps 0 volumes)))) ps (each_in (IsPlaceable (length (volumes_from ps 0 volumes))) ps (subst (λ n. All (λ (p : LinkedPlacement). IsPlaceable n p.placement) ps) (sym long) placeable)) volumes;
      each = each_mother (λ placements. sum_by copies_of placements ≤ 4096) ps counts.each volumes;
      all = omega (arith, total-daughters ps 0 volumes, counts.all);
    }
