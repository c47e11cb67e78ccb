-- The hierarchy of a sample is clean: cells are in the world and don't overlap, and each core is in its cell.
use Rattle.std.proofs.Common.{◌≡◌, ℕ, zero, suc, ◌+◌, ◌*◌, ◌/◌, ◌%◌, ◌<◌, ◌≤◌, inl, inr, IsTrue, ℤ, pos, neg_ℤ, ◌+ℤ◌, ◌-ℤ◌, ◌*ℤ◌, ◌≤ℤ◌, ◌<ℤ◌, [], ◌∷◌, length, map, get_or, All, append-nil, sym, ap, ◌∙◌, subst, refl, arith}
use Rattle.std.specs.Prelude.{AllPairs}
use Rattle.std.specs.List.{range_with_len}
use Rattle.std.proofs.Math.Nat.{div-lt_iff_lt-mul}
use Rattle.std.proofs.lemmas.Bool.{cases_lt}
use Rattle.std.proofs.lemmas.List.Elements.{All-nil, All-cons, All-map}
use Rattle.std.proofs.lemmas.List.FromFn.{length-range_with_len, get_or-range_with_len, length-map-range_with_len, get_or-map-range_with_len}
use Rattle.gx_num.specs.declared.vector.V3.{V3}
use Rattle.gx_num.specs.Space.{is_in, is_inside}
use Rattle.gx_num.specs.Vector4.{Vec4}
use Rattle.gx_shapes.specs.Straight.{box, trapezoid}
use Rattle.gx_shapes.specs.Space.{point}
use Rattle.gx_tree.specs.declared.instance.Instance.{Instance}
use Rattle.gx_tree.specs.Volume.{instance_of, instances_of}
use Rattle.gx_tree.specs.Hierarchy.{instances}
use Rattle.gx_check.specs.Clean.{IsContainedIn, AreDisjoint, IsClean}
use Rattle.gx_sample_clean.specs.Sample.{half, cells, core, sample_tree, instances_of_all}
use Rattle.gx_sample_clean.proofs.Rows.{centre, below_end, above_end, apart}
use Rattle.gx_sample_clean.proofs.Points.{IsInBox, in_box, of_box, inside_box, core_in, unturned}
use borrow.Author.Differences.{ints}

-- ---- one cell

-- the centre of the cell in column i and row j
abbrev at : ℕ → ℕ → ℕ → V3
at n i j = point (centre (half n) (pos i)) (centre (half n) (pos j)) (pos 0)

-- the point in the frame of that cell
abbrev seen : ℕ → ℕ → ℕ → Vec4 → Vec4
seen n i j p = record { x = p.x -ℤ p.w *ℤ centre (half n) (pos i); y = p.y -ℤ p.w *ℤ centre (half n) (pos j); z = p.z -ℤ p.w *ℤ pos 0; w = p.w }

row_fits : (n i : ℕ) → i < n → (pos 10 *ℤ pos i +ℤ pos 10) ≤ℤ half n
row_fits n i less = omega (arith, ints, less)

cell_in_world : (n i j : ℕ) (p : Vec4) → i < n → j < n → pos 0 <ℤ p.w → IsInBox (pos 10) (pos 10) (pos 50) (seen n i j p) → IsInBox (half n +ℤ pos 20) (half n +ℤ pos 20) (pos 100) p
cell_in_world n i j p column row weight is =
    let from : (k : ℕ) → pos 0 ≤ℤ pos k = λ k. omega (arith, ints) in
    record {
      right = below_end p.w (half n) (pos i) p.x weight (from i) (row_fits n i column) is.right;
      left = above_end p.w (half n) (pos i) p.x weight (from i) (row_fits n i column) is.left;
      back = below_end p.w (half n) (pos j) p.y weight (from j) (row_fits n j row) is.back;
      front = above_end p.w (half n) (pos j) p.y weight (from j) (row_fits n j row) is.front;
      high = omega (arith, ints, weight, is.high);
      low = omega (arith, ints, weight, is.low);
    }

-- one column is that of another cell too
same_place : (w h x : ℤ) (i j : ℕ) → pos 0 <ℤ w → (x -ℤ w *ℤ centre h (pos i)) <ℤ (pos 10 *ℤ w) → neg_ℤ (x -ℤ w *ℤ centre h (pos i)) <ℤ (pos 10 *ℤ w)
    → (x -ℤ w *ℤ centre h (pos j)) <ℤ (pos 10 *ℤ w) → neg_ℤ (x -ℤ w *ℤ centre h (pos j)) <ℤ (pos 10 *ℤ w) → i ≡ j
same_place w h x i j weight below_i above_i below_j above_j = elim (cases_lt i j) [
  | inl less ↦ absurd (apart w h (pos i) (pos j) x weight (omega (arith, ints, less)) below_i above_j)
  | inr least ↦ elim (cases_lt j i) [
    | inl less ↦ absurd (apart w h (pos j) (pos i) x weight (omega (arith, ints, less)) below_j above_i)
    | inr most ↦ omega (arith, least, most)
  ]
]

-- ---- the cells of the world

row_below : (n k : ℕ) → 1 ≤ n → k < n * n → k / n < n
row_below n k some less = (div-lt_iff_lt-mul some).1 (omega (arith, less))

abbrev cell : ℕ → ℕ → Instance
cell n k = instance_of (cells n) k

world_cells : (n : ℕ) → instances (sample_tree n) 0 ≡ map (cell n) (range_with_len 0 (n * n))
unfolding instances_of
world_cells n = append-nil (map (cell n) (range_with_len 0 (n * n)))

cell_contained : (n k : ℕ) → 1 ≤ n → k < n * n → IsContainedIn (sample_tree n) 0 (cell n k)
cell_contained n k some less p weight is =
    let column : k % n < n = omega arith in
    let inner = in_box (pos 10) (pos 10) (pos 50) (seen n (k % n) (k / n) p) (subst (λ (q : Vec4). IsTrue (is_in (box (pos 10) (pos 10) (pos 50)) q)) (unturned (at n (k % n) (k / n)) p) is) in
    of_box (half n +ℤ pos 20) (half n +ℤ pos 20) (pos 100) p (cell_in_world n (k % n) (k / n) p column (row_below n k some less) weight inner)

cells_disjoint : (n k l : ℕ) → 1 ≤ n → k < l → AreDisjoint (sample_tree n) (cell n k) (cell n l)
cells_disjoint n k l some less p weight one other =
    let inside = λ (i : ℕ) (h : IsTrue (is_inside (box (pos 10) (pos 10) (pos 50)) (seen n (i % n) (i / n) p))). inside_box (pos 10) (pos 10) (pos 50) (seen n (i % n) (i / n) p) h in
    let a = inside k (subst (λ (q : Vec4). IsTrue (is_inside (box (pos 10) (pos 10) (pos 50)) q)) (unturned (at n (k % n) (k / n)) p) one) in
    let b = inside l (subst (λ (q : Vec4). IsTrue (is_inside (box (pos 10) (pos 10) (pos 50)) q)) (unturned (at n (l % n) (l / n)) p) other) in
    let column : k % n ≡ l % n = same_place p.w (half n) p.x (k % n) (l % n) weight a.right a.left b.right b.left in
    let row : k / n ≡ l / n = same_place p.w (half n) p.y (k / n) (l / n) weight a.back a.front b.back b.front in
    let rows : n * (k / n) ≡ n * (l / n) = ap (λ (j : ℕ). n * j) row in
    omega (arith, less, column, rows, some)

-- what holds of each cell
each_cell : (n : ℕ) (P : Instance → Type 0) → ((k : ℕ) → k < n * n → P (cell n k)) → All P (instances (sample_tree n) 0)
each_cell n P holds = subst (All P) (sym (world_cells n)) (All-map P (cell n) (range_with_len 0 (n * n)) (λ k d less.
    let below : k < n * n = omega (arith, length-range_with_len 0 (n * n)) in
    let number : get_or (range_with_len 0 (n * n)) k d < n * n = omega (arith, get_or-range_with_len 0 (n * n) k d below) in
    holds _ number))

world_disjoint : (n : ℕ) → 1 ≤ n → AllPairs (AreDisjoint (sample_tree n)) (instances (sample_tree n) 0)
world_disjoint n some = subst (AllPairs (AreDisjoint (sample_tree n))) (sym (world_cells n)) (λ k l d less within.
    let below : l < n * n = omega (arith, length-map-range_with_len (cell n) 0 (n * n)) in
    let first_is = get_or-map-range_with_len (cell n) 0 (n * n) k k d (omega arith) (omega arith) in
    let second_is = get_or-map-range_with_len (cell n) 0 (n * n) l l d (omega arith) (omega arith) in
    rw (first_is, second_is) (cells_disjoint n k l some less))

-- ---- a cell's core

cell_core : (n : ℕ) → instances (sample_tree n) 1 ≡ instance_of core 0 ∷ []
unfolding instances_of
cell_core n = refl

-- what holds of the core
each_core : (n : ℕ) (P : Instance → Type 0) → P (instance_of core 0) → All P (instances (sample_tree n) 1)
each_core n P holds = subst (All P) (sym (cell_core n)) (All-cons P (instance_of core 0) [] holds (All-nil P))

core_contained : (n : ℕ) → IsContainedIn (sample_tree n) 1 (instance_of core 0)
core_contained n p weight is =
    let q : Vec4 = record { x = p.x -ℤ p.w *ℤ pos 0; y = p.y -ℤ p.w *ℤ pos 0; z = p.z -ℤ p.w *ℤ pos 0; w = p.w } in
    let inner = core_in q weight (subst (λ (r : Vec4). IsTrue (is_in (trapezoid (pos 4) (pos 8) (pos 4) (pos 8) (pos 40)) r)) (unturned (point (pos 0) (pos 0) (pos 0)) p) is) in
    of_box (pos 10) (pos 10) (pos 50) p (record {
      right = omega (arith, ints, inner.right);
      left = omega (arith, ints, inner.left);
      back = omega (arith, ints, inner.back);
      front = omega (arith, ints, inner.front);
      high = omega (arith, ints, inner.high);
      low = omega (arith, ints, inner.low);
    })

-- ---- all volumes

all_contained : (n v : ℕ) → 1 ≤ n → v < 3 → All (IsContainedIn (sample_tree n) v) (instances (sample_tree n) v)
all_contained n zero some less = each_cell n (IsContainedIn (sample_tree n) 0) (λ k. cell_contained n k some)
all_contained n (suc zero) some less = each_core n (IsContainedIn (sample_tree n) 1) (core_contained n)
all_contained n (suc (suc zero)) some less = All-nil (IsContainedIn (sample_tree n) 2)
all_contained n (suc (suc (suc v))) some less = absurd (omega (arith, less))

all_disjoint : (n v : ℕ) → 1 ≤ n → v < 3 → AllPairs (AreDisjoint (sample_tree n)) (instances (sample_tree n) v)
all_disjoint n zero some less = world_disjoint n some
all_disjoint n (suc zero) some less = subst (AllPairs (AreDisjoint (sample_tree n))) (sym (cell_core n)) (λ i j d before within. absurd (omega (arith, before, within)))
all_disjoint n (suc (suc zero)) some less = λ i j d before within. absurd (omega (arith, before, within))
all_disjoint n (suc (suc (suc v))) some less = absurd (omega (arith, less))

pub clean : (n : ℕ) → 1 ≤ n → IsClean (sample_tree n)
clean n some = record { contained = λ v less. all_contained n v some less; disjoint = λ v less. all_disjoint n v some less }

pub count : (n : ℕ) → instances_of_all (sample_tree n) ≡ n * n + 1
count n =
    let world : length (instances (sample_tree n) 0) ≡ n * n = ap length (world_cells n) ∙ length-map-range_with_len (cell n) 0 (n * n) in
    let one : length (instances (sample_tree n) 1) ≡ 1 = ap length (cell_core n) in
    omega (arith, world, one)
