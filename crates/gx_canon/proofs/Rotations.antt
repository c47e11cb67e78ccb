-- The rotations of placements are among those that a canonical text declares.
use Rattle.std.proofs.Common.{◌≡◌, ℕ, ◌<◌, ◌≤◌, pos, Bool, true, false, List, [], ◌∷◌, length, get_or, All, Contains, Some, refl, sym, ap, ◌∙◌, subst, arith, inl, inr}
use Rattle.std.specs.Prelude.{nat_eq, nat_lt, filter, if◌then◌else◌}
use Rattle.std.specs.Int.{from_bool}
use Rattle.std.specs.Ordering.{int_eq}
use Rattle.std.specs.List.{list_any, range_with_len}
use Rattle.std.specs.Option.{option_map, unwrap_or}
use Rattle.std.proofs.lemmas.Bool.{cases_Bool}
use Rattle.std.proofs.lemmas.Bool.Decides.{nat_tests}
use Rattle.std.proofs.lemmas.Fmt.{decimal_injective}
use Rattle.std.proofs.lemmas.List.Elements.{All-contains, All-contains_itself, All-from_get_or}
use Rattle.std.proofs.lemmas.List.Folds.{list_any_at}
use Rattle.std.proofs.lemmas.List.FromFn.{length-range_with_len, get_or-range_with_len}
use Rattle.std.proofs.lemmas.Nat.{mul-le}
use Rattle.gx_algebra.proofs.Lists.{Contains-cases, Contains-head, Contains-tail, Contains-map, Contains-flat_map}
use Rattle.gx_rotation.specs.Matrix.{Matrix}
use Rattle.gx_rotation.specs.Rotation.{matrix_of, number_of, number_of-matrix_of, axis_of, is_negative}
use Rattle.gx_shapes.specs.declared.figure.Figure.TheVariants.{Cuboid}
use Rattle.gx_tree.specs.declared.placement.Placement.{Placement}
use Rattle.gx_tree.specs.declared.placement.Placement.TheVariants as placement
use Rattle.gx_tree.specs.Volume.{Volume, copies_of, rotation_of, instance_of, instances_of}
use Rattle.gx_tree.specs.Hierarchy.{Hierarchy, volume_at, instances, IsRotation, IsInstance}
use Rattle.gx_tree.specs.Limits.{IsInRange}
use Rattle.gx_tree.specs.Fault.{IsTree}
use Rattle.gx_decl.specs.declared.declaration.Declaration.TheVariants.{Turn}
use Rattle.gx_canon.specs.Canonical.{rotation_name, rotation_number, is_used, turns}
use Rattle.gx_canon.specs.Laws.{IsNamed, RotationsBack}

-- ---- lists

in_filter : {X : Type 0} (test : X → Bool) (xs : List X) (x : X) → Contains xs x → test x ≡ true → Contains (filter test xs) x
in_filter test [] x h e = let none = h.1 in absurd (omega (arith, none))
in_filter test (y ∷ ys) x h e = elim (Contains-cases y ys x h) [
  | inl same ↦ let passes : test y ≡ true = ap test same ∙ e in rw passes (subst (Contains (y ∷ filter test ys)) same (Contains-head y (filter test ys)))
  | inr later ↦
      let rest = in_filter test ys x later e in
      elim (cases_Bool (test y)) [ inl passes ↦ rw passes (Contains-tail y (filter test ys) x rest) | inr fails ↦ rw fails rest ]
]

in_range : (n k : ℕ) → k < n → Contains (range_with_len 0 n) k
in_range n k h = (k, omega (arith, h, length-range_with_len 0 n), get_or-range_with_len 0 n k k h ∙ omega arith)

-- ---- each placement has a rotation

some_copies : (p : Placement) → IsInRange p → 1 ≤ copies_of p
some_copies (placement.Single volume copy rotation offset) h = omega arith
some_copies (placement.Replica volume axis count width) h = h.copies.some
some_copies (placement.Linear volume axis rotation count step offset) h = h.copies.some
some_copies (placement.Square volume plane rotation n1 n2 s1 s2 o1 o2) h = omega (arith, mul-le 1 1 n1 n2 h.0.copies.some h.1.copies.some)

module _ (h : Hierarchy) (tree : IsTree h) (v j : ℕ) (e : Placement) (less : v < length h.volumes) (fewer : j < length (volume_at h.volumes v).placements) where
  abbrev mother : Volume
  mother = volume_at h.volumes v

  abbrev p : Placement
  p = get_or mother.placements j e

  turned : IsRotation (rotation_of p)
  unfolding instances_of
  turned =
      let copies = some_copies p (tree.limits.placeable v _ less j e fewer).range in
      let first = Contains-flat_map instances_of mother.placements p (instance_of p 0) (All-contains_itself mother.placements j e fewer) (Contains-map (instance_of p) (range_with_len 0 (copies_of p)) 0 (in_range (copies_of p) 0 (omega (arith, copies)))) in
      (All-contains (IsInstance h) (instances h v) (instance_of p 0) (tree.placed v) first).rotation

  used : (k : ℕ) → rotation_number p ≡ Some k → is_used h.volumes k ≡ true
  used k same =
      let itself : nat_eq k k ≡ true = grind (arith, nat_tests) in
      list_any_at (λ v. list_any (λ p. unwrap_or (option_map (nat_eq k) (rotation_number p)) false) v.placements) h.volumes v _ less
      (list_any_at (λ p. unwrap_or (option_map (nat_eq k) (rotation_number p)) false) mother.placements j e fewer (rw (same, itself) refl))

-- ---- which is declared

from_bool_below : (b : Bool) → from_bool b ≤ 1
from_bool_below true = omega arith
from_bool_below false = omega arith

axis_by : (s t : Bool) → (if s then (if t then 2 else 1) else 0) ≤ 2
axis_by true true = omega arith
axis_by true false = omega arith
axis_by false t = omega arith

pub number_of-below : (m : Matrix) → number_of m < 24
unfolding number_of
number_of-below m =
    omega (arith, axis_by (int_eq m.x.x (pos 0)) (int_eq m.x.y (pos 0)), from_bool_below (nat_lt (axis_of m.z) (axis_of m.y)), from_bool_below (is_negative m.x), from_bool_below (is_negative m.y))

declared : (volumes : List Volume) (k : ℕ) → k < 24 → is_used volumes k ≡ true → Contains (turns volumes) (Turn (rotation_name k) (matrix_of k))
declared volumes k h is = Contains-map (λ k. Turn (rotation_name k) (matrix_of k)) (filter (is_used volumes) (range_with_len 0 24)) k (in_filter (is_used volumes) (range_with_len 0 24) k (in_range 24 k h) is)

by_number : (volumes : List Volume) (m : Matrix) → IsRotation m → is_used volumes (number_of m) ≡ true → Contains (turns volumes) (Turn (rotation_name (number_of m)) m)
by_number volumes m is h =
    let number : number_of m ≡ is.index = ap number_of is.same ∙ number_of-matrix_of is.index is.below in
    let same : matrix_of (number_of m) ≡ m = ap matrix_of number ∙ sym is.same in
    subst (λ (x : Matrix). Contains (turns volumes) (Turn (rotation_name (number_of m)) x)) same (declared volumes (number_of m) (number_of-below m) h)

named_by : (volumes : List Volume) (p : Placement) → IsRotation (rotation_of p) → ((k : ℕ) → rotation_number p ≡ Some k → is_used volumes k ≡ true) → IsNamed volumes p
named_by volumes (placement.Single volume copy rotation offset) is h = by_number volumes rotation is (h (number_of rotation) refl)
named_by volumes (placement.Replica volume axis count width) is h = tt
named_by volumes (placement.Linear volume axis rotation count step offset) is h = by_number volumes rotation is (h (number_of rotation) refl)
named_by volumes (placement.Square volume plane rotation n1 n2 s1 s2 o1 o2) is h = by_number volumes rotation is (h (number_of rotation) refl)

abbrev nothing : Volume
nothing = record { name = []; solid = Cuboid (pos 0) (pos 0) (pos 0); material = []; placements = [] }

all_named : (h : Hierarchy) → IsTree h → All (λ v. All (IsNamed h.volumes) v.placements) h.volumes
all_named h tree =
    All-from_get_or (λ v. All (IsNamed h.volumes) v.placements) h.volumes nothing
    (λ v less j e fewer. named_by h.volumes (get_or (volume_at h.volumes v).placements j e) (turned h tree v j e less fewer) (used h tree v j e less fewer))

abbrev rest_of : List ℕ → List ℕ
rest_of [] = []
rest_of (b ∷ s) = s

pub rotations_back : RotationsBack
rotations_back = record { named = all_named; apart = λ j k below less e. decimal_injective j k (omega (arith, below)) (omega (arith, less)) (ap rest_of e) }
