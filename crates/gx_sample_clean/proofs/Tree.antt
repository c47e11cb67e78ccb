-- A sample's hierarchy keeps what each hierarchy does: it is within the limits, of solids, not too deep, and its instances are near.
use Rattle.std.proofs.Common.{◌≡◌, ℕ, zero, suc, ◌*◌, ◌<◌, ◌≤◌, ℤ, pos, ◌+ℤ◌, unsigned_abs, true, false, List, [], ◌∷◌, None, Ok, All, refl, arith}
use Rattle.std.specs.Prelude.{int_le, nat_le}
use Rattle.std.proofs.Math.Nat.{mul-le-mul}
use Rattle.std.proofs.lemmas.Int.{ints}
use Rattle.std.proofs.lemmas.Bool.{le-leb}
use Rattle.std.proofs.lemmas.Bool.Decides.{nat_tests}
use Rattle.std.proofs.lemmas.List.Elements.{All-nil, All-cons}
use Rattle.gx_num.specs.declared.vector.TheConstants.{M}
use Rattle.gx_shapes.specs.declared.figure.Figure.{Figure}
use Rattle.gx_shapes.specs.Numbers.{start}
use Rattle.gx_shapes.specs.Solid.{kind_of, whole_fault}
use Rattle.gx_shapes.specs.Accepted.{all_of, IsSolid}
use Rattle.gx_rotation.specs.Matrix.{identity}
use Rattle.gx_rotation.specs.Rotation.{matrix_of}
use Rattle.gx_tree.specs.declared.placement.Placement.{Placement}
use Rattle.gx_tree.specs.Volume.{Volume, rotation_of}
use Rattle.gx_tree.specs.Hierarchy.{volume_at, IsRotation}
use Rattle.gx_tree.specs.Limits.{IsRow, IsPlaceable, IsWithinLimits, instance_count}
use Rattle.gx_tree.specs.Fault.{IsTree}
use Rattle.gx_tree.proofs.Tree.{is_tree}
use Rattle.gx_sample_clean.specs.Sample.{half, first, cells, core, world_solid, cell_solid, core_solid, sample_volumes, sample_tree}
use Rattle.gx_sample_clean.proofs.Linked.{formed}

-- what holds of the world, of the cell and of the core
each_volume : (n : ℕ) (P : Volume → Type 0) → P (volume_at (sample_volumes n) 0) → P (volume_at (sample_volumes n) 1) → P (volume_at (sample_volumes n) 2) → All P (sample_volumes n)
each_volume n P world cell core zero d less = world
each_volume n P world cell core (suc zero) d less = cell
each_volume n P world cell core (suc (suc zero)) d less = core
each_volume n P world cell core (suc (suc (suc v))) d less = absurd (omega (arith, less))

-- ---- the limits

row : (n : ℕ) → 1 ≤ n → n ≤ 64 → IsRow 0 n (pos 20) (first n)
row n some few = record {
  copies = record { direction = omega arith; some = some; few = omega (arith, few) };
  near_step = omega arith;
  near_offset = omega (arith, ints, few);
  near = λ i less. omega (arith, ints, few, less);
}

limits : (n : ℕ) → 1 ≤ n → n ≤ 64 → IsWithinLimits (sample_volumes n)
limits n some few =
    let all : n * n ≤ 4096 = mul-le-mul few few in
    let square : IsPlaceable 3 (cells n) = record { volume = omega arith; range = (row n some few, row n some few) } in
    let single : IsPlaceable 3 core = record { volume = omega arith; range = record { x = omega arith; y = omega arith; z = omega arith } } in
    let none = All-nil (IsPlaceable 3) in
    record {
      few = omega arith;
      placeable = each_volume n (λ v. All (IsPlaceable 3) v.placements) (All-cons (IsPlaceable 3) (cells n) [] square none) (All-cons (IsPlaceable 3) core [] single none) none;
      each = each_volume n (λ v. instance_count v ≤ 4096) (omega (arith, all)) (omega arith) (omega arith);
      all = omega (arith, all);
    }

-- ---- solids

-- that of so many values
solid_of_values : (figure : Figure) (values : List ℤ) (count : ℕ) → all_of (kind_of figure) (start values) ≡ Ok (figure, record { count = count; left = [] }) → whole_fault figure ≡ None → IsSolid figure
solid_of_values figure values count given whole = record {
  values = record { values = values; left = record { count = count; left = [] }; given = given };
  whole = whole;
}

world_is_solid : (n : ℕ) → n ≤ 64 → IsSolid (world_solid n)
world_is_solid n few =
    let wide = half n +ℤ pos 20 in
    let near : nat_le (unsigned_abs wide) (unsigned_abs M) ≡ true = le-leb (unsigned_abs wide) (unsigned_abs M) (omega (arith, ints, few)) in
    let above : int_le wide (pos 0) ≡ false = grind (arith, ints, nat_tests) in
    solid_of_values (world_solid n) (wide ∷ wide ∷ pos 100 ∷ []) 3 (simp (near, above)) refl

solids : (n : ℕ) → n ≤ 64 → All (λ v. IsSolid v.solid) (sample_volumes n)
solids n few =
    each_volume n (λ v. IsSolid v.solid) (world_is_solid n few)
    (solid_of_values cell_solid (pos 10 ∷ pos 10 ∷ pos 50 ∷ []) 3 refl refl)
    (solid_of_values core_solid (pos 4 ∷ pos 8 ∷ pos 4 ∷ pos 8 ∷ pos 40 ∷ []) 5 refl refl)

-- ---- rotations

unturned : IsRotation identity
unfolding matrix_of
unturned = record { index = 0; below = omega arith; same = refl }

turned : (n : ℕ) → All (λ v. All (λ p. IsRotation (rotation_of p)) v.placements) (sample_volumes n)
turned n =
    let none = All-nil (λ p. IsRotation (rotation_of p)) in
    let one : (p : Placement) → IsRotation (rotation_of p) → All (λ p. IsRotation (rotation_of p)) (p ∷ []) = λ p is. All-cons (λ p. IsRotation (rotation_of p)) p [] is none in
    each_volume n (λ v. All (λ p. IsRotation (rotation_of p)) v.placements) (one (cells n) unturned) (one core unturned) none

pub tree : (n : ℕ) → 1 ≤ n → n ≤ 64 → IsTree (sample_tree n)
tree n some few = is_tree (sample_volumes n) 0 (limits n some few) (formed n) (solids n few) (turned n)
