-- What each line of a sample text declares.
use Rattle.std.proofs.Common.{◌≡◌, ℕ, ◌-◌, ◌*◌, ◌≤◌, pos, neg_ℤ, ◌+ℤ◌, unsigned_abs, true, false, codes, [], ◌∷◌, Some, Ok, arith}
use Rattle.std.specs.Prelude.{decimal, int_le, nat_le}
use Rattle.std.specs.Fmt.{digits}
use Rattle.std.proofs.Math.Nat.{mul-le-mul}
use Rattle.std.proofs.lemmas.Int.{ints}
use Rattle.std.proofs.lemmas.Bool.{le-leb}
use Rattle.std.proofs.lemmas.Bool.Decides.{nat_tests}
use Rattle.gx_num.specs.declared.vector.TheConstants.{M}
use Rattle.gx_shapes.specs.Space.{point}
use Rattle.gx_rotation.specs.Matrix.{identity}
use Rattle.gx_rotation.specs.Given.{turn_x, turn_y, turn_z}
use Rattle.gx_param.specs.Param.{place}
use Rattle.gx_expr.specs.Convert.{steps, count}
use Rattle.gx_decl.specs.declared.declaration.Declaration.TheVariants.{Param, Volume, Place, Turn, Trace}
use Rattle.gx_decl.specs.declared.declaration.Form.TheVariants.{Single, Square}
use Rattle.gx_decl.specs.Decl.{declared_of}
use Rattle.gx_canon.specs.Canonical.{millimetre}
use Rattle.gx_canon.proofs.Numbers.{whole, whole_back, steps_whole, count_whole}
use Rattle.gx_sample_clean.specs.Sample.{half, first, start, world_solid, cell_solid, core_solid, ray}
use Rattle.gx_sample_clean.proofs.Values.{one, both, half_word, count_word, wide_word, first_word, start_word, number_word}

-- ---- parameters

pub count_line : (n : ℕ) → n ≤ 64 → declared_of [] millimetre (codes ":P" ∷ codes "n" ∷ decimal n ∷ []) ≡ Ok (Param (codes "n") (whole (pos n)))
count_line n few = simp (whole_back [] (pos n) (omega (arith, few)))

pub half_line : (n : ℕ) → n ≤ 64 → declared_of (one n) millimetre (codes ":P" ∷ codes "half" ∷ codes "10*$n" ∷ []) ≡ Ok (Param (codes "half") (whole (half n)))
half_line n few = simp (half_word n few)

-- ---- the rotation

pub turn_line : (n : ℕ) → declared_of (both n) millimetre (codes ":ROTM" ∷ codes "r0" ∷ codes "0" ∷ codes "0" ∷ codes "0" ∷ []) ≡ Ok (Turn (codes "r0") identity)
unfolding digits turn_x turn_y turn_z
turn_line n = simp (number_word (both n) (pos 0) (omega arith))

-- ---- volumes

pub world_line : (n : ℕ) → n ≤ 64
    → declared_of (both n) millimetre (codes ":VOLU" ∷ codes "world" ∷ codes "BOX" ∷ codes "$half+20" ∷ codes "$half+20" ∷ codes "100" ∷ codes "Air" ∷ [])
    ≡ Ok (Volume (codes "world") (world_solid n) (codes "Air"))
unfolding digits
world_line n few =
    let wide = wide_word n few in
    let size : steps (whole (half n +ℤ pos 20)) millimetre ≡ Ok (half n +ℤ pos 20) = steps_whole (half n +ℤ pos 20) (omega (arith, ints, few)) in
    let above : int_le (half n +ℤ pos 20) (pos 0) ≡ false = grind (arith, ints, nat_tests) in
    simp (wide, size, above, number_word (both n) (pos 100) (omega arith), steps_whole (pos 100) (omega arith))

pub cell_line : (n : ℕ)
    → declared_of (both n) millimetre (codes ":VOLU" ∷ codes "cell" ∷ codes "BOX" ∷ codes "10" ∷ codes "10" ∷ codes "50" ∷ codes "Lead" ∷ [])
    ≡ Ok (Volume (codes "cell") cell_solid (codes "Lead"))
unfolding digits
cell_line n =
    simp (number_word (both n) (pos 10) (omega arith), number_word (both n) (pos 50) (omega arith), steps_whole (pos 10) (omega arith), steps_whole (pos 50) (omega arith))

pub core_line : (n : ℕ)
    → declared_of (both n) millimetre (codes ":VOLU" ∷ codes "core" ∷ codes "TRD" ∷ codes "4" ∷ codes "8" ∷ codes "4" ∷ codes "8" ∷ codes "40" ∷ codes "Wax" ∷ [])
    ≡ Ok (Volume (codes "core") core_solid (codes "Wax"))
unfolding digits
core_line n =
    simp (number_word (both n) (pos 4) (omega arith), number_word (both n) (pos 8) (omega arith), number_word (both n) (pos 40) (omega arith), steps_whole (pos 4) (omega arith), steps_whole (pos 8) (omega arith), steps_whole (pos 40) (omega arith))

-- ---- placements

pub cells_line : (n : ℕ) → 1 ≤ n → n ≤ 64
    → declared_of (both n) millimetre (codes ":PLACE_PARAM" ∷ codes "cell" ∷ codes "1" ∷ codes "world" ∷ codes "SQUARE_XY" ∷ codes "r0" ∷ codes "$n" ∷ codes "$n" ∷ codes "20" ∷ codes "20" ∷ codes "10-$half" ∷ codes "10-$half" ∷ [])
    ≡ Ok (Place (codes "cell") (codes "world") (Some (codes "r0")) (Square 0 n n (pos 20) (pos 20) (first n) (first n)))
unfolding digits
cells_line n some few =
    let copies : count (whole (pos n)) (pos 1) (pos 4096) ≡ Ok (pos n) = count_whole (pos n) (pos 1) (pos 4096) (le-leb 1 n some) (le-leb n 4096 (omega arith)) in
    let all : nat_le (n * n) 4096 ≡ true = le-leb (n * n) 4096 (mul-le-mul few few) in
    let begins : steps (whole (first n)) millimetre ≡ Ok (first n) = steps_whole (first n) (omega (arith, ints, few)) in
    let first_near : nat_le (unsigned_abs (place (first n) (pos 20) 0)) (unsigned_abs M) ≡ true = le-leb (unsigned_abs (place (first n) (pos 20) 0)) (unsigned_abs M) (omega (arith, ints, few)) in
    let last_near : nat_le (unsigned_abs (place (first n) (pos 20) (n - 1))) (unsigned_abs M) ≡ true = le-leb (unsigned_abs (place (first n) (pos 20) (n - 1))) (unsigned_abs M) (omega (arith, ints, few)) in
    simp (
      number_word (both n) (pos 1) (omega arith),
      count_word n,
      copies,
      all,
      number_word (both n) (pos 20) (omega arith),
      steps_whole (pos 20) (omega arith),
      first_word n few,
      begins,
      first_near,
      last_near,
    )

pub core_placed : (n : ℕ)
    → declared_of (both n) millimetre (codes ":PLACE" ∷ codes "core" ∷ codes "1" ∷ codes "cell" ∷ codes "r0" ∷ codes "0" ∷ codes "0" ∷ codes "0" ∷ [])
    ≡ Ok (Place (codes "core") (codes "cell") (Some (codes "r0")) (Single (pos 1) (point (pos 0) (pos 0) (pos 0))))
unfolding digits
core_placed n = simp (number_word (both n) (pos 1) (omega arith), number_word (both n) (pos 0) (omega arith), steps_whole (pos 0) (omega arith))

-- ---- rays

start_steps : (n : ℕ) → n ≤ 64 → steps (whole (start n)) millimetre ≡ Ok (start n)
start_steps n few = steps_whole (start n) (omega (arith, ints, few))

pub first_ray : (n : ℕ) → n ≤ 64
    → declared_of (both n) millimetre (codes ":RAY" ∷ codes "-$half-30" ∷ codes "0" ∷ codes "0" ∷ codes "1" ∷ codes "0" ∷ codes "0" ∷ [])
    ≡ Ok (Trace (ray (point (start n) (pos 0) (pos 0)) (point (pos 1) (pos 0) (pos 0))))
unfolding digits
first_ray n few =
    simp (start_word n few, start_steps n few, number_word (both n) (pos 0) (omega arith), steps_whole (pos 0) (omega arith), number_word (both n) (pos 1) (omega arith), steps_whole (pos 1) (omega arith))

pub second_ray : (n : ℕ) → n ≤ 64
    → declared_of (both n) millimetre (codes ":RAY" ∷ codes "-$half-30" ∷ codes "-$half-30" ∷ codes "0" ∷ codes "1" ∷ codes "1" ∷ codes "0" ∷ [])
    ≡ Ok (Trace (ray (point (start n) (start n) (pos 0)) (point (pos 1) (pos 1) (pos 0))))
unfolding digits
second_ray n few =
    simp (start_word n few, start_steps n few, number_word (both n) (pos 0) (omega arith), steps_whole (pos 0) (omega arith), number_word (both n) (pos 1) (omega arith), steps_whole (pos 1) (omega arith))

pub third_ray : (n : ℕ)
    → declared_of (both n) millimetre (codes ":RAY" ∷ codes "0" ∷ codes "5" ∷ codes "-120" ∷ codes "0" ∷ codes "0" ∷ codes "1" ∷ [])
    ≡ Ok (Trace (ray (point (pos 0) (pos 5) (neg_ℤ (pos 120))) (point (pos 0) (pos 0) (pos 1))))
unfolding digits
third_ray n =
    simp (
      number_word (both n) (pos 0) (omega arith),
      steps_whole (pos 0) (omega arith),
      number_word (both n) (pos 1) (omega arith),
      steps_whole (pos 1) (omega arith),
      number_word (both n) (pos 5) (omega arith),
      steps_whole (pos 5) (omega arith),
      number_word (both n) (neg_ℤ (pos 120)) (omega arith),
      steps_whole (neg_ℤ (pos 120)) (omega arith),
    )
