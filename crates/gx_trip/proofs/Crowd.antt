-- Counts of daughters: in a hierarchy within the limits no line is one too many.
use Rattle.std.proofs.Common.{◌≡◌, ℕ, ◌+◌, ◌≤◌, sym, ◌∙◌, ap, subst, refl, arith, false, nat_eq, List, [], ◌∷◌, ◌++◌, map, None, append_assoc}
use Rattle.std.specs.Prelude.{sum_by, nat_lt}
use Rattle.std.proofs.lemmas.Bool.{or_from, le-ltb}
use Rattle.std.proofs.lemmas.List.{map-append}
use Rattle.std.proofs.lemmas.List.Elements.{filter-append}
use Rattle.std.proofs.lemmas.List.Sums.{sum_by-append}
use Rattle.gx_tree.specs.Volume.{copies_of}
use Rattle.gx_link.specs.declared.link.LinkedPlacement.{LinkedPlacement}
use Rattle.gx_link.specs.Crowd.{placed_in, placements_in, is_crowded, first_crowded}
use Rattle.gx_link.proofs.Daughters.{daughters, daughters_in, IsUncrowded}

pub placements_in-append : (m : ℕ) (ps qs : List LinkedPlacement) → placements_in m (ps ++ qs) ≡ placements_in m ps ++ placements_in m qs
placements_in-append m ps qs =
    ap (map (λ (p : LinkedPlacement). p.placement)) (filter-append (λ (p : LinkedPlacement). nat_eq p.mother m) ps qs) ∙ map-append (λ (p : LinkedPlacement). p.placement) (placed_in m ps) (placed_in m qs)

daughters_in-append : (m : ℕ) (ps qs : List LinkedPlacement) → daughters_in m (ps ++ qs) ≡ daughters_in m ps + daughters_in m qs
daughters_in-append m ps qs = ap (sum_by copies_of) (placements_in-append m ps qs) ∙ sum_by-append copies_of (placements_in m ps) (placements_in m qs)

pub daughters-append : (ps qs : List LinkedPlacement) → daughters (ps ++ qs) ≡ daughters ps + daughters qs
daughters-append ps qs = sum_by-append (λ (p : LinkedPlacement). copies_of p.placement) ps qs

pub none_crowded : (before ps : List LinkedPlacement) → IsUncrowded (before ++ ps) → first_crowded before ps ≡ None
none_crowded before [] is = refl
none_crowded before (p ∷ ps) is =
    let front = before ++ p ∷ [] in
    let all : IsUncrowded (front ++ ps) = subst IsUncrowded (sym (append_assoc before (p ∷ []) ps)) is in
    let free : is_crowded front p.mother ≡ false = or_from (nat_lt 4096 (daughters_in p.mother front)) (nat_lt 65536 (daughters front)) (le-ltb 4096 (daughters_in p.mother front) (omega (arith, all.each p.mother, daughters_in-append p.mother front ps))) (le-ltb 65536 (daughters front) (omega (arith, all.all, daughters-append front ps))) in
    rw free (none_crowded front ps all)
