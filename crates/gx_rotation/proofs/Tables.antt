-- What is computed of each number of a rotation.
use Rattle.std.proofs.Common.{◌≡◌, ℕ, zero, suc, ◌/◌, ◌%◌, Bool, false, not, nat_eq, ◌<◌, ◌≤◌, [], refl, sym, ap, ◌∙◌, subst, arith, slice_index_or, ltb, true, pos, unsigned_abs}
use Rattle.std.proofs.Math.Bool.{beq}
use borrow.Author.Tests.{ltb-true}
use Rattle.gx_rotation.specs.declared.rotation.TheConstants.{PRODUCTS, INVERSES, PERMUTATIONS}
use Rattle.std.proofs.lemmas.Int.{ints}
use Rattle.gx_num.specs.declared.vector.V3.{V3}
use Rattle.gx_num.specs.Vector.{IsWithin, dot_of, cross_of}
use Rattle.gx_rotation.specs.Matrix.{Matrix, product, image, transpose, identity, determinant, is_same_matrix}
use Rattle.gx_rotation.specs.Rotation.{matrix_of, number_of, number_of-matrix_of, unit_vector, signed_rows, takes_axes_to_axes}
use Rattle.gx_rotation.proofs.Each.{each, each_pair, values}

abbrev pub product_at : ℕ → ℕ → ℕ
product_at a b = slice_index_or (slice_index_or PRODUCTS a []) b 0

products : values (λ a. values (λ b. matrix_of (product_at a b)) 24) 24 ≡ values (λ a. values (λ b. product (matrix_of a) (matrix_of b)) 24) 24
unfolding matrix_of
products = refl

pub matrix_of-product_at : (a b : ℕ) → a < 24 → b < 24 → matrix_of (product_at a b) ≡ product (matrix_of a) (matrix_of b)
matrix_of-product_at = each_pair (λ a b. matrix_of (product_at a b)) (λ a b. product (matrix_of a) (matrix_of b)) 24 24 products

pub product_at-below : (a b : ℕ) → a < 24 → b < 24 → product_at a b < 24
product_at-below a b ha hb =
    ltb-true _ _ (each_pair (λ a b. ltb (product_at a b) 24) (λ a b. true) 24 24 refl a b ha hb)

pub matrix_of-inverse_at : (a : ℕ) → a < 24 → matrix_of (slice_index_or INVERSES a 0) ≡ transpose (matrix_of a)
unfolding matrix_of
matrix_of-inverse_at = each (λ a. matrix_of (slice_index_or INVERSES a 0)) (λ a. transpose (matrix_of a)) 24 refl

pub product-transpose_left : (k : ℕ) → k < 24 → product (transpose (matrix_of k)) (matrix_of k) ≡ identity
unfolding matrix_of
product-transpose_left = each (λ k. product (transpose (matrix_of k)) (matrix_of k)) (λ k. identity) 24 refl

pub product-transpose_right : (k : ℕ) → k < 24 → product (matrix_of k) (transpose (matrix_of k)) ≡ identity
unfolding matrix_of
product-transpose_right = each (λ k. product (matrix_of k) (transpose (matrix_of k))) (λ k. identity) 24 refl

pub different : (a b : ℕ) → a < 24 → b < 24 → matrix_of a ≡ matrix_of b → a ≡ b
different a b ha hb e = sym (number_of-matrix_of a ha) ∙ ap (λ m. number_of m) e ∙ number_of-matrix_of b hb

pub axes : (k : ℕ) → k < 24 → takes_axes_to_axes (matrix_of k) ≡ true
unfolding matrix_of
axes = each (λ k. takes_axes_to_axes (matrix_of k)) (λ k. true) 24 refl

pub proper : (k : ℕ) → k < 24 → determinant (matrix_of k) ≡ pos 1
unfolding matrix_of
proper = each (λ k. determinant (matrix_of k)) (λ k. pos 1) 24 refl

-- each row is the vector product of the two others, in turn
abbrev pub crossed : Matrix → Matrix
crossed m = record { x = cross_of m.y m.z; y = cross_of m.z m.x; z = cross_of m.x m.y }

pub crossed-transpose : (k : ℕ) → k < 24 → crossed (transpose (matrix_of k)) ≡ transpose (matrix_of k)
unfolding matrix_of
crossed-transpose = each (λ k. crossed (transpose (matrix_of k))) (λ k. transpose (matrix_of k)) 24 refl

abbrev column : ℕ → ℕ → ℕ
column k i = slice_index_or (slice_index_or PERMUTATIONS (k / 4) ([], false)).0 i 0

pub column-below : (k i : ℕ) → k < 24 → i < 3 → column k i < 3
column-below k i hk hi = ltb-true _ _ (each_pair (λ k i. ltb (column k i) 3) (λ k i. true) 24 3 refl k i hk hi)

-- the signs and columns as the code reads them
abbrev read : ℕ → Matrix
read k =
    let x = nat_eq (k % 4 / 2) 1 in
    let y = nat_eq (k % 2) 1 in
    let odd = (slice_index_or PERMUTATIONS (k / 4) ([], false)).1 in
    signed_rows x y (not (beq (not (beq x y)) odd)) (column k 0) (column k 1) (column k 2)

pub matrix_of-read : (k : ℕ) → k < 24 → matrix_of k ≡ read k
unfolding matrix_of
matrix_of-read = each matrix_of read 24 refl

-- numbers are equal where their matrices are
pub nat_eq-is_same_matrix : (i j : ℕ) → i < 24 → j < 24 → nat_eq i j ≡ is_same_matrix (matrix_of i) (matrix_of j)
unfolding matrix_of
nat_eq-is_same_matrix i j h k = each_pair nat_eq (λ i j. is_same_matrix (matrix_of i) (matrix_of j)) 24 24 refl i j h k

-- ---- the image of a vector is no larger on any axis
unit_within : (axis : ℕ) (negative : Bool) (b : ℕ) (v : V3) → axis < 3 → IsWithin b v → unsigned_abs (dot_of (unit_vector axis negative) v) ≤ b
unit_within zero true b v lt h = omega (arith, ints, h.x)
unit_within zero false b v lt h = omega (arith, ints, h.x)
unit_within (suc zero) true b v lt h = omega (arith, ints, h.y)
unit_within (suc zero) false b v lt h = omega (arith, ints, h.y)
unit_within (suc (suc zero)) true b v lt h = omega (arith, ints, h.z)
unit_within (suc (suc zero)) false b v lt h = omega (arith, ints, h.z)
unit_within (suc (suc (suc n))) negative b v lt h = absurd (omega (arith, lt))

IsWithin-image : (k : ℕ) → k < 24 → (b : ℕ) (v : V3) → IsWithin b v → IsWithin b (image (matrix_of k) v)
IsWithin-image k lt b v h = rw (matrix_of-read k lt) (record {
  x = unit_within (column k 0) _ b v (column-below k 0 lt (omega arith)) h;
  y = unit_within (column k 1) _ b v (column-below k 1 lt (omega arith)) h;
  z = unit_within (column k 2) _ b v (column-below k 2 lt (omega arith)) h;
})

inverse_at-below : (k : ℕ) → k < 24 → slice_index_or INVERSES k 0 < 24
inverse_at-below k lt = ltb-true _ _ (each (λ k. ltb (slice_index_or INVERSES k 0) 24) (λ k. true) 24 refl k lt)

pub IsWithin-image_back : (k : ℕ) → k < 24 → (b : ℕ) (v : V3) → IsWithin b v → IsWithin b (image (transpose (matrix_of k)) v)
IsWithin-image_back k lt b v h = subst (λ (m : Matrix). IsWithin b (image m v)) (matrix_of-inverse_at k lt) (IsWithin-image (slice_index_or INVERSES k 0) (inverse_at-below k lt) b v h)
