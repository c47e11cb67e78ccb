-- How many verdicts there are at most.
use Rattle.std.proofs.Common.{◌≡◌, ℕ, ◌+◌, ◌-◌, ◌*◌, ◌^◌, ◌<◌, ◌≤◌, List, length, ap, ◌∙◌, arith, length-append}
use Rattle.std.specs.Prelude.{flat_map, sum_by}
use Rattle.std.specs.List.{range_with_len}
use Rattle.std.proofs.lemmas.List.{length-map}
use Rattle.std.proofs.lemmas.List.Concat.{length-flat_map}
use Rattle.std.proofs.lemmas.List.FromFn.{length-range_with_len, get_or-range_with_len, length-map-range_with_len}
use Rattle.std.proofs.lemmas.List.Sums.{sum_by-le}
use Rattle.gx_num.specs.declared.vector.V3.{V3}
use Rattle.gx_tree.specs.declared.placement.Placement.{Placement}
use Rattle.gx_tree.specs.Volume.{copies_of, instance_of, instances_of, instances_in}
use Rattle.gx_tree.specs.Hierarchy.{Hierarchy, volume_at, instances}
use Rattle.gx_tree.specs.Limits.{instance_count}
use Rattle.gx_tree.specs.Fault.{IsTree}
use Rattle.gx_check.specs.Verdicts.{placed_vertices, placed_daughters, solid_vertices, daughter_verdict, daughter_verdicts, pair_verdict, verdicts_with, pair_verdicts, verdicts_in, verdicts}

length-instances_in : (ps : List Placement) → length (instances_in ps) ≡ sum_by copies_of ps
unfolding instances_of
length-instances_in ps = length-flat_map instances_of ps ∙ (λ i. sum_by (λ p. length-map-range_with_len (instance_of p) 0 (copies_of p) i) ps)

few_instances : (h : Hierarchy) → IsTree h → (v : ℕ) → v < length h.volumes → length (instances h v) ≤ 4096
few_instances h tree v below = let few : instance_count (volume_at h.volumes v) ≤ 4096 = tree.limits.each v _ below in omega (arith, length-instances_in (volume_at h.volumes v).placements, few)

length-daughter_verdicts : (v : ℕ) (outer : List V3) (ds : List (List V3)) → length (daughter_verdicts v outer ds) ≡ length ds
unfolding daughter_verdicts
length-daughter_verdicts v outer ds = length-map-range_with_len (daughter_verdict v outer ds) 0 (length ds - 0) ∙ omega arith

length-verdicts_with : (v : ℕ) (ds : List (List V3)) (i : ℕ) → length (verdicts_with v ds i) ≤ length ds
unfolding verdicts_with
length-verdicts_with v ds i = omega (arith, length-map-range_with_len (pair_verdict v ds i) (i + 1) (length ds - (i + 1)))

-- parts of at most m, for so many numbers
length-parts : {X : Type 0} (f : ℕ → List X) (n m : ℕ) → ((k : ℕ) → k < n → length (f k) ≤ m) → length (flat_map f (range_with_len 0 n)) ≤ n * m
length-parts f n m each =
    let sum = sum_by-le (λ k. length (f k)) m (range_with_len 0 n) (λ k d less.
    let below : k < n = omega (arith, length-range_with_len 0 n) in
    let number = get_or-range_with_len 0 n k d below in
    omega (arith, each k below, ap (λ j. length (f j)) number)) in
    omega (arith, length-flat_map f (range_with_len 0 n), sum, ap (λ c. c * m) (length-range_with_len 0 n))

length-pair_verdicts : (v : ℕ) (ds : List (List V3)) → length ds ≤ 4096 → length (pair_verdicts v ds) ≤ 2 ^ 24
unfolding pair_verdicts
length-pair_verdicts v ds few =
    let each = length-parts (verdicts_with v ds) (length ds - 0) 4096 (λ i below. omega (arith, length-verdicts_with v ds i)) in
    omega (arith, each)

pub few_with : (v : ℕ) (ds : List (List V3)) (i : ℕ) → length ds ≤ 4096 → length (verdicts_with v ds i) ≤ 2 ^ 62
few_with v ds i few = omega (arith, length-verdicts_with v ds i)

pub few_daughters : (v : ℕ) (outer : List V3) (ds : List (List V3)) → length ds ≤ 4096 → length (daughter_verdicts v outer ds) ≤ 2 ^ 62
few_daughters v outer ds few = omega (arith, length-daughter_verdicts v outer ds)

pub few_pairs : (v : ℕ) (ds : List (List V3)) → length ds ≤ 4096 → length (pair_verdicts v ds) ≤ 2 ^ 62
few_pairs v ds few = omega (arith, length-pair_verdicts v ds few)

length-verdicts_in : (h : Hierarchy) → IsTree h → (v : ℕ) → v < length h.volumes → length (verdicts_in h v) ≤ 2 ^ 25
unfolding verdicts_in
length-verdicts_in h tree v below =
    let ds = placed_daughters h v in
    let count = length-map (instances h v) (placed_vertices h) in
    let few = few_instances h tree v below in
    omega (arith, length-append (daughter_verdicts v (solid_vertices h v) ds) (pair_verdicts v ds), length-daughter_verdicts v (solid_vertices h v) ds, length-pair_verdicts v ds (omega arith))

pub few_verdicts : (h : Hierarchy) → IsTree h → length (verdicts h) ≤ 2 ^ 62
unfolding verdicts
few_verdicts h tree =
    let each = length-parts (verdicts_in h) (length h.volumes) (2 ^ 25) (length-verdicts_in h tree) in
    let few = tree.limits.few in
    omega (arith, each)
