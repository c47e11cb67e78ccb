-- The product of matrices is associative, and its image is the image of the image.
use Rattle.std.proofs.Common.{refl, ◌≡◌, ℕ, ◌*◌, ℤ, pos, ◌+ℤ◌, ◌*ℤ◌, ap, arith}
use Rattle.std.proofs.Math.IntN.{+ℤ_idl, zero-*ℤ, *ℤ-zero}
use Rattle.std.proofs.lemmas.Int.{ints}
use borrow.Author.Differences.{up, down, sum_is_lem, product_is}
use Rattle.gx_num.specs.declared.vector.V3.{V3}
use Rattle.gx_num.specs.Vector.{dot_of}
use Rattle.gx_rotation.specs.Matrix.{Matrix, transpose, product, image, identity}

mul-assoc : (a b c : ℤ) → (a *ℤ b) *ℤ c ≡ a *ℤ (b *ℤ c)
mul-assoc a b c =
    let p = product_is a b in
    let q = product_is b c in
    omega (
      arith,
      ints,
      ap (λ (t : ℕ). t * up c) p.0,
      ap (λ (t : ℕ). t * down c) p.0,
      ap (λ (t : ℕ). t * up c) p.1,
      ap (λ (t : ℕ). t * down c) p.1,
      ap (λ (t : ℕ). up a * t) q.0,
      ap (λ (t : ℕ). down a * t) q.0,
      ap (λ (t : ℕ). up a * t) q.1,
      ap (λ (t : ℕ). down a * t) q.1,
    )

mul-add : (a b c : ℤ) → a *ℤ (b +ℤ c) ≡ a *ℤ b +ℤ a *ℤ c
mul-add a b c = omega (arith, ints, ap (λ (t : ℕ). up a * t) (sum_is_lem b c), ap (λ (t : ℕ). down a * t) (sum_is_lem b c))

add-mul : (a b c : ℤ) → (a +ℤ b) *ℤ c ≡ a *ℤ c +ℤ b *ℤ c
add-mul a b c = omega (arith, ints, ap (λ (t : ℕ). t * up c) (sum_is_lem a b), ap (λ (t : ℕ). t * down c) (sum_is_lem a b))

-- the sums of a square of numbers by rows and by columns
by_rows : (a b c d e f g h i : ℤ) → ((a +ℤ b) +ℤ c) +ℤ ((d +ℤ e) +ℤ f) +ℤ ((g +ℤ h) +ℤ i) ≡ ((a +ℤ d) +ℤ g) +ℤ ((b +ℤ e) +ℤ h) +ℤ ((c +ℤ f) +ℤ i)
by_rows a b c d e f g h i = omega (arith, ints)

-- a row times the columns, times a vector
pub dot_of-dot_of : (r u v w c : V3) → dot_of (record { x = dot_of r u; y = dot_of r v; z = dot_of r w }) c ≡ dot_of r (record { x = (u.x *ℤ c.x +ℤ v.x *ℤ c.y) +ℤ w.x *ℤ c.z; y = (u.y *ℤ c.x +ℤ v.y *ℤ c.y) +ℤ w.y *ℤ c.z; z = (u.z *ℤ c.x +ℤ v.z *ℤ c.y) +ℤ w.z *ℤ c.z })
dot_of-dot_of r u v w c =
    simp (add-mul, mul-add, mul-assoc)
    (by_rows (r.x *ℤ (u.x *ℤ c.x)) (r.y *ℤ (u.y *ℤ c.x)) (r.z *ℤ (u.z *ℤ c.x))
    (r.x *ℤ (v.x *ℤ c.y)) (r.y *ℤ (v.y *ℤ c.y)) (r.z *ℤ (v.z *ℤ c.y))
    (r.x *ℤ (w.x *ℤ c.z)) (r.y *ℤ (w.y *ℤ c.z)) (r.z *ℤ (w.z *ℤ c.z)))

pub image-product : (a b : Matrix) (v : V3) → image (product a b) v ≡ image a (image b v)
image-product a b v =
    let t = transpose b in
    rw (dot_of-dot_of a.x t.x t.y t.z v, dot_of-dot_of a.y t.x t.y t.z v, dot_of-dot_of a.z t.x t.y t.z v)

-- a row times a matrix
abbrev times : V3 → Matrix → V3
times r m = let t = transpose m in record { x = dot_of r t.x; y = dot_of r t.y; z = dot_of r t.z }

times-times : (r : V3) (a b : Matrix) → times (times r a) b ≡ times r (product a b)
times-times r a b =
    let s = transpose a in
    let t = transpose b in
    rw (dot_of-dot_of r s.x s.y s.z t.x, dot_of-dot_of r s.x s.y s.z t.y, dot_of-dot_of r s.x s.y s.z t.z)

pub product-product : (a b c : Matrix) → product (product a b) c ≡ product a (product b c)
product-product a b c =
    let x = times-times a.x b c in
    let y = times-times a.y b c in
    let z = times-times a.z b c in
    cc

one-*ℤ : (x : ℤ) → pos 1 *ℤ x ≡ x
one-*ℤ x = omega (arith, ints)

*ℤ-one : (x : ℤ) → x *ℤ pos 1 ≡ x
*ℤ-one x = omega (arith, ints)

+ℤ-zero : (x : ℤ) → x +ℤ pos 0 ≡ x
+ℤ-zero x = omega (arith, ints)

pub image-identity : (v : V3) → image identity v ≡ v
image-identity v = simp (one-*ℤ, zero-*ℤ, +ℤ-zero, +ℤ_idl)

pub product-identity_left : (a : Matrix) → product identity a ≡ a
product-identity_left a = simp (one-*ℤ, zero-*ℤ, +ℤ-zero, +ℤ_idl)

pub product-identity_right : (a : Matrix) → product a identity ≡ a
product-identity_right a = simp (*ℤ-one, *ℤ-zero, +ℤ-zero, +ℤ_idl)

pub vector_is : (x y z : ℤ) (v : V3) → x ≡ v.x → y ≡ v.y → z ≡ v.z → record { x = x; y = y; z = z } ≡ v
vector_is x y z v ex ey ez = rw (ex, ey, ez) refl
