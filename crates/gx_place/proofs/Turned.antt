-- What a rotation and an offset do to points and planes: a motion, by products of vectors.
use Rattle.std.proofs.Common.{◌≡◌, ◌∙◌, ℕ, ◌<◌, Bool, true, false, ℤ, pos, ◌+ℤ◌, ◌-ℤ◌, ◌*ℤ◌, Some, None, [], ◌∷◌, unsigned_abs, refl, sym, ap, subst, arith}
use Rattle.std.specs.Prelude.{if◌then◌else◌}
use Rattle.std.specs.Int.{◌∣◌}
use Rattle.std.specs.Option.{option_map}
use Rattle.std.proofs.lemmas.Int.{ints, unsigned_abs-mul}
use Rattle.std.proofs.lemmas.Nat.Gcd.{dvd_antisymm}
use Rattle.std.proofs.Math.Nat.{dvd-mul_right}
use Rattle.gx_num.specs.declared.vector.V3.{V3}
use Rattle.gx_num.specs.Space.{HalfSpace}
use Rattle.gx_num.specs.Vector.{is_same, sum_of, difference_of, opposite_of, times3, dot_of, cross_of}
use Rattle.gx_num.proofs.Divisors.{IsDivisor-common_divisor}
use Rattle.gx_algebra.proofs.Terms as term
use Rattle.gx_algebra.proofs.Terms.{Term3, ◌≣◌, ◌≣³◌, ◌⊕◌, ◌⊖◌, ◌⊗◌, none}
use Rattle.gx_algebra.proofs.Identity.{identity, identity3, number, vector3}
use Rattle.gx_algebra.proofs.Identities.{same3}
use Rattle.gx_plane.specs.Plane.{divisor_of, primitive, is_zero, flipped, normal_of, plane_at, plane_with}
use Rattle.gx_algebra.proofs.Order.{mul-sub, zero_of_mul}
use Rattle.gx_plane.proofs.Divisors.{divisor_of-zero, zero-is_zero, divisor_of-pos, is_zero-divisor_of, not_zero-divisor_of}
use Rattle.gx_plane.proofs.PlaneFacts.{times3-primitive, dot_of-opposite_of}
use Rattle.gx_convex.specs.Faces.{is_same_plane}
use Rattle.std.proofs.lemmas.Bool.Decides.{Decides-like, same_from_decides}
use Rattle.gx_convex.proofs.FaceFacts.{same_half_space, Decides-is_same_plane}
use Rattle.gx_convex.proofs.Distinct.{Decides-is_same}
use Rattle.gx_rotation.specs.Matrix.{Matrix, transpose, product, image, identity as unit}
use Rattle.gx_rotation.specs.Place.{placed_point, placed_face}
use Rattle.gx_rotation.proofs.Algebra.{image-product, image-identity}
use Rattle.gx_rotation.specs.Rotation.{matrix_of}
use Rattle.gx_rotation.proofs.Tables.{crossed, crossed-transpose, product-transpose_left, product-transpose_right}
use Rattle.gx_place.proofs.Moved.{IsMotion}

-- ---- the image of a vector, over terms: three rows and a vector
abbrev pub image_term : Term3 → Term3 → Term3 → Term3 → Term3
image_term x y z v = record { x = term.dot_of x v; y = term.dot_of y v; z = term.dot_of z v }

abbrev sum_term : Term3 → Term3 → Term3
sum_term a b = record { x = a.x ⊕ b.x; y = a.y ⊕ b.y; z = a.z ⊕ b.z }

abbrev matrix : V3 → V3 → V3 → Matrix
matrix x y z = record { x = x; y = y; z = z }

image-times3 : (m : Matrix) (k : ℤ) (v : V3) → image m (times3 k v) ≡ times3 k (image m v)
image-times3 m = identity3 (vector3 ∷ vector3 ∷ vector3 ∷ number ∷ vector3 ∷ []) (λ x y z k v. image_term x y z (term.times3 k v) ≣³ term.times3 k (image_term x y z v)) tt m.x m.y m.z

image-difference_of : (m : Matrix) (t a b : V3) → difference_of (sum_of t (image m a)) (sum_of t (image m b)) ≡ image m (difference_of a b)
image-difference_of m = identity3 (vector3 ∷ vector3 ∷ vector3 ∷ vector3 ∷ vector3 ∷ vector3 ∷ []) (λ x y z t a b. term.difference_of (sum_term t (image_term x y z a)) (sum_term t (image_term x y z b)) ≣³ image_term x y z (term.difference_of a b)) tt m.x m.y m.z

image-opposite_of : (m : Matrix) (v : V3) → image m (opposite_of v) ≡ opposite_of (image m v)
image-opposite_of m = identity3 (vector3 ∷ vector3 ∷ vector3 ∷ vector3 ∷ []) (λ x y z v. image_term x y z (record { x = none ⊖ v.x; y = none ⊖ v.y; z = none ⊖ v.z }) ≣³ (let w = image_term x y z v in record { x = none ⊖ w.x; y = none ⊖ w.y; z = none ⊖ w.z })) tt m.x m.y m.z

-- the product of two images is the product of one vector with the other brought back
dot_of-image : (m : Matrix) (u v : V3) → dot_of (image m u) v ≡ dot_of u (image (transpose m) v)
dot_of-image m = identity (vector3 ∷ vector3 ∷ vector3 ∷ vector3 ∷ vector3 ∷ []) (λ x y z u v. term.dot_of (image_term x y z u) v ≣ term.dot_of u (image_term (record { x = x.x; y = y.x; z = z.x }) (record { x = x.y; y = y.y; z = z.y }) (record { x = x.z; y = y.z; z = z.z }) v)) tt m.x m.y m.z

pub dot_of-sum_of : (n a b : V3) → dot_of n (sum_of a b) ≡ dot_of n a +ℤ dot_of n b
dot_of-sum_of = identity (vector3 ∷ vector3 ∷ vector3 ∷ []) (λ n a b. term.dot_of n (sum_term a b) ≣ term.dot_of n a ⊕ term.dot_of n b) tt

-- the identity of Lagrange
lagrange : (a b u v : V3) → (dot_of a u *ℤ dot_of b v) -ℤ (dot_of b u *ℤ dot_of a v) ≡ dot_of (cross_of a b) (cross_of u v)
lagrange = identity (vector3 ∷ vector3 ∷ vector3 ∷ vector3 ∷ []) (λ a b u v. (term.dot_of a u ⊗ term.dot_of b v) ⊖ (term.dot_of b u ⊗ term.dot_of a v) ≣ term.dot_of (term.cross_of a b) (term.cross_of u v)) tt

-- ---- a rotation r, of which m is the transpose
pub record IsTurn (r : Matrix) : Type 0 where
  pub back : product r (transpose r) ≡ unit
  pub forth : product (transpose r) r ≡ unit
  pub rows : crossed (transpose r) ≡ transpose r

module _ (r : Matrix) (turn : IsTurn r) where
  abbrev m : Matrix
  m = transpose r

  back_again : (v : V3) → image r (image m v) ≡ v
  back_again v = sym (image-product r m v) ∙ (ap (λ (k : Matrix). image k v) turn.back ∙ image-identity v)

  forth_again : (v : V3) → image m (image r v) ≡ v
  forth_again v = sym (image-product m r v) ∙ (ap (λ (k : Matrix). image k v) turn.forth ∙ image-identity v)

  pub same_products : (u v : V3) → dot_of (image m u) (image m v) ≡ dot_of u v
  same_products u v = dot_of-image m u (image m v) ∙ ap (dot_of u) (back_again v)

  same_crosses : (u v : V3) → cross_of (image m u) (image m v) ≡ image m (cross_of u v)
  same_crosses u v = same3 (cross_of (image m u) (image m v)) (image m (cross_of u v))
      (lagrange m.y m.z u v ∙ ap (λ (k : Matrix). dot_of k.x (cross_of u v)) turn.rows)
      (lagrange m.z m.x u v ∙ ap (λ (k : Matrix). dot_of k.y (cross_of u v)) turn.rows)
      (lagrange m.x m.y u v ∙ ap (λ (k : Matrix). dot_of k.z (cross_of u v)) turn.rows)

-- ---- the divisor of an image
divides_times : (d : ℕ) (a : ℤ) → d ∣ unsigned_abs (pos d *ℤ a)
divides_times d a = rw (unsigned_abs-mul (pos d) a) (dvd-mul_right d (unsigned_abs a))

divisor_of-image : (m : Matrix) (v : V3) → divisor_of v ∣ divisor_of (image m v)
divisor_of-image m v =
    let d = divisor_of v in
    let p = image m (primitive v) in
    let w = image m v in
    let whole : w ≡ times3 (pos d) p = ap (image m) (sym (times3-primitive v)) ∙ image-times3 m (pos d) (primitive v) in
    let part : (a b : ℤ) → a ≡ pos d *ℤ b → d ∣ unsigned_abs a = λ a b e. subst (λ (z : ℤ). d ∣ unsigned_abs z) (sym e) (divides_times d b) in
    (IsDivisor-common_divisor (unsigned_abs w.x ∷ unsigned_abs w.y ∷ unsigned_abs w.z ∷ [])).every d
    (part w.x p.x (ap (λ (u : V3). u.x) whole), (part w.y p.y (ap (λ (u : V3). u.y) whole), (part w.z p.z (ap (λ (u : V3). u.z) whole), tt)))

none_is : (v : V3) → is_zero v ≡ true → divisor_of v ≡ 0
none_is v e = ap divisor_of (zero-is_zero v e) ∙ divisor_of-zero

same_times3 : (d : ℕ) (a b : V3) → 0 < d → times3 (pos d) a ≡ times3 (pos d) b → a ≡ b
same_times3 d a b h e = same3 a b (cancel a.x b.x (ap (λ (v : V3). v.x) e)) (cancel a.y b.y (ap (λ (v : V3). v.y) e)) (cancel a.z b.z (ap (λ (v : V3). v.z) e))
  where
    cancel : (x y : ℤ) → pos d *ℤ x ≡ pos d *ℤ y → x ≡ y
    cancel x y q = omega (arith, ints, zero_of_mul (pos d) (x -ℤ y) (omega (arith, ints, h)) (omega (arith, ints, mul-sub (pos d) x y, q)))

module _ (r : Matrix) (turn : IsTurn r) (t : V3) where
  abbrev inverse : Matrix
  inverse = transpose r

  divisor_of-turned : (v : V3) → divisor_of (image inverse v) ≡ divisor_of v
  divisor_of-turned v = dvd_antisymm (subst (λ (w : V3). divisor_of (image inverse v) ∣ divisor_of w) (back_again r turn v) (divisor_of-image r (image inverse v))) (divisor_of-image inverse v)

  is_zero-turned : (v : V3) → is_zero (image inverse v) ≡ is_zero v
  is_zero-turned v = go (is_zero v) refl
    where
      go : (b : Bool) → is_zero v ≡ b → is_zero (image inverse v) ≡ b
      go true e = is_zero-divisor_of (image inverse v) (divisor_of-turned v ∙ none_is v e)
      go false e = not_zero-divisor_of (image inverse v) (rw (divisor_of-turned v) (divisor_of-pos v e))

  -- the common divisor is above 0, and both are what it divides
  primitive-turned : (v : V3) → is_zero v ≡ false → primitive (image inverse v) ≡ image inverse (primitive v)
  primitive-turned v e =
      let d = divisor_of v in
      let whole : times3 (pos d) (primitive (image inverse v)) ≡ times3 (pos d) (image inverse (primitive v)) =
      ap (λ (k : ℕ). times3 (pos k) (primitive (image inverse v))) (sym (divisor_of-turned v)) ∙ (times3-primitive (image inverse v) ∙ (ap (image inverse) (sym (times3-primitive v)) ∙ image-times3 inverse (pos d) (primitive v))) in
      same_times3 d (primitive (image inverse v)) (image inverse (primitive v)) (divisor_of-pos v e) whole

  -- ---- points and planes
  normal : (a b c : V3) → normal_of (placed_point r t a) (placed_point r t b) (placed_point r t c) ≡ image inverse (normal_of a b c)
  normal a b c = (λ i. cross_of (image-difference_of inverse t b a i) (image-difference_of inverse t c a i)) ∙ same_crosses r turn (difference_of b a) (difference_of c a)

  at : (n p : V3) → dot_of (image inverse n) (placed_point r t p) ≡ dot_of n p +ℤ dot_of (image inverse n) t
  at n p = dot_of-sum_of (image inverse n) t (image inverse p) ∙ (ap (λ (a : ℤ). dot_of (image inverse n) t +ℤ a) (same_products r turn n p) ∙ swap (dot_of (image inverse n) t) (dot_of n p))
    where
      swap : (a b : ℤ) → a +ℤ b ≡ b +ℤ a
      swap a b = omega (arith, ints)

  with : (n a : V3) → plane_with (image inverse n) (placed_point r t a) ≡ option_map (placed_face r t) (plane_with n a)
  with n a = rw (is_zero-turned n) (go (is_zero n) refl)
    where
      go : (b : Bool) → is_zero n ≡ b → (if b then None else Some (plane_at (image inverse n) (placed_point r t a))) ≡ option_map (placed_face r t) (if b then None else Some (plane_at n a))
      go true e = refl
      go false e = ap Some (same_half_space (plane_at (image inverse n) (placed_point r t a)) (placed_face r t (plane_at n a)) (primitive-turned n e) (ap (λ (m : V3). dot_of m (placed_point r t a)) (primitive-turned n e) ∙ at (primitive n) a))

  injective : (a b : V3) → image inverse a ≡ image inverse b → a ≡ b
  injective a b e = sym (back_again r turn a) ∙ (ap (image r) e ∙ back_again r turn b)

  same_point : (a b : V3) → placed_point r t a ≡ placed_point r t b → a ≡ b
  same_point a b e = injective a b (same3 (image inverse a) (image inverse b) (less t.x (ap (λ (v : V3). v.x) e)) (less t.y (ap (λ (v : V3). v.y) e)) (less t.z (ap (λ (v : V3). v.z) e)))
    where
      less : (s : ℤ) {x y : ℤ} → s +ℤ x ≡ s +ℤ y → x ≡ y
      less s h = omega (arith, ints, h)

  same_plane : (h k : HalfSpace) → placed_face r t h ≡ placed_face r t k → h ≡ k
  same_plane h k e =
      let n = injective h.n k.n (ap (λ (f : HalfSpace). f.n) e) in
      let moved : h.e +ℤ dot_of (image inverse h.n) t ≡ k.e +ℤ dot_of (image inverse k.n) t = ap (λ (f : HalfSpace). f.e) e in
      same_half_space h k n (omega (arith, ints, moved, ap (λ (v : V3). dot_of (image inverse v) t) n))

  pub IsMotion-placed : IsMotion (placed_point r t) (placed_face r t)
  IsMotion-placed = record {
    through = λ a b c. ap (λ (n : V3). plane_with n (placed_point r t a)) (normal a b c) ∙ with (normal_of a b c) a;
    flips = λ h.
        let n = image-opposite_of inverse h.n in
        same_half_space (flipped (placed_face r t h)) (placed_face r t (flipped h)) (sym n)
        (omega (arith, ints, ap (λ (v : V3). dot_of v t) n, dot_of-opposite_of (image inverse h.n) t));
    sides = λ h p. omega (arith, ints, at h.n p);
    volumes = λ a b c p. (λ i. dot_of (normal a b c i) (image-difference_of inverse t p a i)) ∙ same_products r turn (normal_of a b c) (difference_of p a);
    same_points = λ a b. same_from_decides (is_same (placed_point r t a) (placed_point r t b)) (is_same a b)
        (Decides-like (is_same (placed_point r t a) (placed_point r t b)) (same_point a b) (ap (placed_point r t)) (Decides-is_same (placed_point r t a) (placed_point r t b))) (Decides-is_same a b);
    same_planes = λ h k. same_from_decides (is_same_plane (placed_face r t h) (placed_face r t k)) (is_same_plane h k)
        (Decides-like (is_same_plane (placed_face r t h) (placed_face r t k)) (same_plane h k) (ap (placed_face r t)) (Decides-is_same_plane (placed_face r t h) (placed_face r t k))) (Decides-is_same_plane h k);
  }

pub IsTurn-matrix_of : (k : ℕ) → k < 24 → IsTurn (matrix_of k)
IsTurn-matrix_of k lt = record { back = product-transpose_right k lt; forth = product-transpose_left k lt; rows = crossed-transpose k lt }
