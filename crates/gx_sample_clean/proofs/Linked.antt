-- What a sample text declares makes the hierarchy of the sample.
use Rattle.std.proofs.Common.{◌≡◌, ℕ, ◌+◌, ◌*◌, ◌≤◌, codes, List, [], ◌∷◌, None, Result, Ok, refl, ap, arith}
use Rattle.std.proofs.Math.Nat.{mul-le-mul}
use Rattle.std.proofs.lemmas.Bool.{le-ltb}
use Rattle.gx_form.specs.First.{◌>>=◌}
use Rattle.gx_tree.specs.Hierarchy.{Hierarchy, leads, is_reached, max_depth}
use Rattle.gx_tree.specs.Fault.{is_in_itself, is_placed, is_too_deep, replica_fault, hierarchy_of}
use Rattle.gx_gather.specs.declared.fault.TextFault.{TextFault}
use Rattle.gx_link.specs.declared.input.Input.{Input}
use Rattle.gx_link.specs.declared.link.LinkedVolume.{LinkedVolume}
use Rattle.gx_link.specs.declared.link.LinkedPlacement.{LinkedPlacement}
use Rattle.gx_link.specs.Links.{Links}
use Rattle.gx_link.specs.Crowd.{first_crowded}
use Rattle.gx_link.specs.Text.{tree_of, input_of}
use Rattle.gx_sample_clean.specs.Sample.{world_solid, cell_solid, core_solid, cells, core, sample_volumes, sample_tree, sample_rays}
use Rattle.gx_sample_clean.proofs.Gathered.{declared, items}

abbrev linked_volumes : ℕ → List LinkedVolume
linked_volumes n =
    record { line = 5; name = codes "world"; solid = world_solid n; material = codes "Air" }
    ∷ record { line = 6; name = codes "cell"; solid = cell_solid; material = codes "Lead" }
    ∷ record { line = 7; name = codes "core"; solid = core_solid; material = codes "Wax" }
    ∷ []

abbrev linked_placements : ℕ → List LinkedPlacement
linked_placements n = record { line = 8; mother = 0; placement = cells n } ∷ record { line = 9; mother = 1; placement = core } ∷ []

abbrev links : ℕ → Links
links n = record { volumes = linked_volumes n; placements = linked_placements n }

uncrowded : (n : ℕ) → n ≤ 64 → first_crowded [] (linked_placements n) ≡ None
uncrowded n few =
    let all : n * n ≤ 4096 = mul-le-mul few few in
    rw (le-ltb 4096 (0 + n * n) (omega (arith, all)), le-ltb 65536 (0 + n * n) (omega (arith, all)), le-ltb 65536 (0 + n * n + 1) (omega (arith, all))) refl

pub formed : (n : ℕ) → hierarchy_of (sample_volumes n) ≡ Ok (sample_tree n)
unfolding hierarchy_of is_in_itself is_placed is_too_deep is_reached leads max_depth replica_fault
formed n = refl

tree_made : (n : ℕ) → n ≤ 64 → tree_of (links n) ≡ Ok (sample_tree n)
tree_made n few = rw (uncrowded n few, formed n) refl

pub input_made : (n : ℕ) → n ≤ 64 → input_of (declared n (items n) (sample_rays n)) ≡ Ok (record { tree = sample_tree n; rays = sample_rays n })
input_made n few =
    let made : Hierarchy → Result Input TextFault = λ tree. Ok (record { tree = tree; rays = sample_rays n }) in
    ap (λ (r : Result Hierarchy TextFault). r >>= made) (tree_made n few)
