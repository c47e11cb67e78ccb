-- A face is through three of its points whose minors are a multiple of it; so faces of points that aren't coplanar, with one such three in
-- common, are the same.
use Rattle.std.proofs.Common.{◌≡◌, ℕ, ◌*◌, ◌<◌, ◌/◌, true, false, Some, None, List, All, ℤ, pos, negsuc, ◌-ℤ◌, ◌*ℤ◌, ◌≤ℤ◌, unsigned_abs, [], ◌∷◌, refl, sym, ap, ◌∙◌, arith, map, Option, subst, Contains, ◌<ℤ◌, ◌+ℤ◌, ◌≢◌, filter, ⊎_elim}
use Rattle.std.proofs.Math.Nat.{div-add-mod, dvd_of_mul-dvd-mul_left, eq-one_of_dvd-one, dvd-mul_right}
use Rattle.std.proofs.lemmas.Int.{by_lt_z, unsigned_abs-mul}
use Rattle.std.proofs.lemmas.List.Elements.{All-nil, All-head, All-tail, All-append, All-map, All-weaker, All-cons, All-contains, All-contains_itself}
use Rattle.std.proofs.lemmas.Nat.Gcd.{mod-eq-zero_of_dvd}
use Rattle.std.specs.Int.{◌∣◌}
use Rattle.gx_algebra.proofs.Terms as term
use Rattle.gx_algebra.proofs.Identities.{same3, dot4-times4, dot4_comm, dot4-origin, dot4-minors_first, dot4-minors_second, dot4-minors_third}
use Rattle.gx_algebra.proofs.Identity.{identity, number, vector3, identity4, vector4, half_space}
use Rattle.gx_algebra.proofs.Laws.{mul_comm}
use Rattle.gx_algebra.proofs.Lists.{Contains-map}
use Rattle.gx_algebra.proofs.Order.{mul-eq-zero, mul-sub}
use Rattle.gx_algebra.proofs.Ring.{same}
use Rattle.gx_algebra.proofs.Terms.{◌≣◌, ◌⊖◌, ◌⊗◌, none, Term3, Term4, ◌≣⁴◌, ◌⊕◌}
use Rattle.gx_convex.proofs.Distinct.{All-distinct_by}
use Rattle.gx_convex.proofs.FaceFacts.{same_half_space, All-filter}
use Rattle.gx_convex.proofs.Spanning.{Spans-within}
use Rattle.gx_convex.specs.Faces.{faces_of, is_same_plane}
use Rattle.gx_convex.specs.Points.{are_coplanar}
use Rattle.gx_num.proofs.Divisors.{IsDivisor-common_divisor, IsDivisor}
use Rattle.gx_num.specs.Number.{common_divisor}
use Rattle.gx_num.specs.Space.{HalfSpace}
use Rattle.gx_num.specs.Vector.{times3}
use Rattle.gx_num.specs.Vector4.{Vec4, dot4, times4, minors, origin, plus4}
use Rattle.gx_num.specs.declared.vector.V3.{V3}
use Rattle.gx_plane.proofs.Candidates.{normal_term}
use Rattle.gx_plane.proofs.Complete.{lifted, within, within_term, dot4-within}
use Rattle.gx_plane.proofs.Divisors.{divisor_of-opposite, divisor_of-zero, IsPrimitive-primitive}
use Rattle.gx_plane.proofs.ExtremeRays.{at_three}
use Rattle.gx_plane.proofs.PlaneFacts.{Decides-supports, times3-primitive, IsWith, plane_through_some}
use Rattle.gx_plane.proofs.TripleFacts.{All-triples_of, planes_of}
use Rattle.gx_plane.specs.Between.{triples_of, both_ways, candidates}
use Rattle.gx_plane.specs.Laws.{IsAbove, Spans}
use Rattle.gx_plane.specs.Plane.{divisor_of, primitive, side_of, supports, flipped, normal_of, plane_through, plane_from}
use borrow.Author.Differences.{ints}

-- ---- the sum of members
abbrev pub total : List Vec4 → Vec4
total [] = origin
total (m ∷ members) = plus4 m (total members)

pub dot4-total : (m : Vec4) (members : List Vec4) (v : Vec4) → dot4 (total (m ∷ members)) v ≡ dot4 m v +ℤ dot4 (total members) v
dot4-total m members v = sums m (total members) v
  where
    sums : (a b c : Vec4) → dot4 (plus4 a b) c ≡ dot4 a c +ℤ dot4 b c
    sums = identity (vector4 ∷ vector4 ∷ vector4 ∷ []) (λ a b c. term.dot4 (term.plus4 a b) c ≣ term.dot4 a c ⊕ term.dot4 b c) tt

pub total-nonneg : (members : List Vec4) (v : Vec4) → IsAbove members v → pos 0 ≤ℤ dot4 (total members) v
total-nonneg [] v above = omega (arith, ints, dot4_comm origin v, dot4-origin v)
total-nonneg (m ∷ members) v above =
    let P : Vec4 → Type 0 = λ a. pos 0 ≤ℤ dot4 a v in
    omega (arith, ints, dot4-total m members v, All-head P m members above, total-nonneg members v (All-tail P m members above))

-- where it has product 0, so has each member
pub total-zero : (members : List Vec4) (v : Vec4) → IsAbove members v → dot4 (total members) v ≡ pos 0 → All (λ m. dot4 m v ≡ pos 0) members
total-zero [] v above e = All-nil (λ m. dot4 m v ≡ pos 0)
total-zero (m ∷ members) v above e =
    let P : Vec4 → Type 0 = λ a. pos 0 ≤ℤ dot4 a v in
    let first = All-head P m members above in
    let rest = All-tail P m members above in
    let sum = dot4-total m members v in
    let nonneg = total-nonneg members v rest in
    All-cons (λ m. dot4 m v ≡ pos 0) m members (omega (arith, ints, e, sum, first, nonneg)) (total-zero members v rest (omega (arith, ints, e, sum, first, nonneg)))

-- and the other way
pub total-none : (members : List Vec4) (v : Vec4) → All (λ m. dot4 m v ≡ pos 0) members → dot4 (total members) v ≡ pos 0
total-none [] v h = dot4_comm origin v ∙ dot4-origin v
total-none (m ∷ members) v h =
    let P : Vec4 → Type 0 = λ m. dot4 m v ≡ pos 0 in
    omega (arith, ints, dot4-total m members v, All-head P m members h, total-none members v (All-tail P m members h))

-- a vector above members that span has a product above 0 with their sum
pub total-pos : (members : List Vec4) (v : Vec4) → Spans members → v ≢ origin → IsAbove members v → pos 0 <ℤ dot4 (total members) v
total-pos members v spans apart above =
    by_lt_z (pos 0) (dot4 (total members) v) (λ lt. lt)
    (λ le. absurd (apart (spans v (total-zero members v above (omega (arith, ints, le, total-nonneg members v above))))))

-- ---- a face
pub record IsFace (vertices : List V3) (f : HalfSpace) : Type 0 where
  pub a : V3
  pub b : V3
  pub c : V3
  pub a_in : Contains vertices a
  pub b_in : Contains vertices b
  pub c_in : Contains vertices c
  pub scale : ℤ
  pub scaled : scale ≢ pos 0
  pub through : minors (within a) (within b) (within c) ≡ times4 scale (lifted f)
  pub primitive : divisor_of f.n ≡ 1
  pub above : IsAbove (map within vertices) (lifted f)

pub above_at : (vertices : List V3) (v : Vec4) → IsAbove (map within vertices) v → (r : V3) → Contains vertices r → pos 0 ≤ℤ dot4 (within r) v
above_at vertices v above r m =
    All-contains (λ m. pos 0 ≤ℤ dot4 m v) (map within vertices) (within r) above (Contains-map within vertices r m)

-- the face of a triple that supports the points, in either way
abbrev FaceIfSupports : List V3 → HalfSpace → Type 0
FaceIfSupports vertices h = supports h vertices ≡ true → IsFace vertices h

above-supports : (vertices : List V3) (h : HalfSpace) → supports h vertices ≡ true → IsAbove (map within vertices) (lifted h)
above-supports vertices h s =
    All-map (λ m. pos 0 ≤ℤ dot4 m (lifted h)) within vertices
    (All-weaker (λ p. side_of h p ≤ℤ pos 0) (λ p. pos 0 ≤ℤ dot4 (within p) (lifted h)) (λ p le. omega (arith, ints, le, dot4-within h p)) vertices ((Decides-supports h vertices).0 s))

-- the plane with normal n through a
abbrev plane_term : Term3 → Term3 → Term4
plane_term n a = record { x = n.x; y = n.y; z = n.z; w = term.dot_of n a }

minors-within : (a b c : V3) → minors (within a) (within b) (within c) ≡ lifted (plane_from (normal_of a b c) a)
minors-within = identity4 (vector3 ∷ vector3 ∷ vector3 ∷ []) (λ a b c. term.minors (within_term a) (within_term b) (within_term c) ≣⁴ plane_term (normal_term a b c) a) tt

lifted-times3 : (k : ℤ) (n a : V3) → lifted (plane_from (times3 k n) a) ≡ times4 k (lifted (plane_from n a))
lifted-times3 = identity4 (number ∷ vector3 ∷ vector3 ∷ []) (λ k n a. plane_term (term.times3 k n) a ≣⁴ term.times4 k (plane_term n a)) tt

times4-flipped : (k : ℤ) (h : HalfSpace) → times4 k (lifted h) ≡ times4 (pos 0 -ℤ k) (lifted (flipped h))
times4-flipped = identity4 (number ∷ half_space ∷ []) (λ k h. term.times4 k (record { x = h.n.x; y = h.n.y; z = h.n.z; w = h.e }) ≣⁴ term.times4 (none ⊖ k) (record { x = none ⊖ h.n.x; y = none ⊖ h.n.y; z = none ⊖ h.n.z; w = none ⊖ h.e })) tt

face_ways : (vertices : List V3) (t : V3 × V3 × V3) (o : Option HalfSpace) → plane_through t.0 t.1 t.2 ≡ o → Contains vertices t.0 × Contains vertices t.1 × Contains vertices t.2 → All (FaceIfSupports vertices) (both_ways o)
face_ways vertices t None e h = All-nil (FaceIfSupports vertices)
face_ways vertices t (Some k) e h =
    All-cons (FaceIfSupports vertices) k (flipped k ∷ [])
    (face k d (λ z. omega (arith, ints, z, through.apart)) is one)
    (All-cons (FaceIfSupports vertices) (flipped k) []
    (face (flipped k) (pos 0 -ℤ d) (λ z. omega (arith, ints, z, through.apart)) (is ∙ times4-flipped d k) (divisor_of-opposite k.n ∙ one))
    (All-nil (FaceIfSupports vertices)))
  where
    n : V3
    n = normal_of t.0 t.1 t.2

    through : IsWith n t.0 k
    through = plane_through_some t.0 t.1 t.2 k e

    d : ℤ
    d = pos (divisor_of n)

    is : minors (within t.0) (within t.1) (within t.2) ≡ times4 d (lifted k)
    is = minors-within t.0 t.1 t.2 ∙ ap (λ (m : V3). lifted (plane_from m t.0)) (sym (times3-primitive n)) ∙ lifted-times3 d (primitive n) t.0 ∙ ap (λ (g : HalfSpace). times4 d (lifted g)) (sym through.same)

    one : divisor_of k.n ≡ 1
    one = ap (λ (g : HalfSpace). divisor_of g.n) through.same ∙ (IsPrimitive-primitive n through.apart).divisor

    face : (g : HalfSpace) (s : ℤ) → s ≢ pos 0 → minors (within t.0) (within t.1) (within t.2) ≡ times4 s (lifted g) → divisor_of g.n ≡ 1 → FaceIfSupports vertices g
    face g s apart is one supporting = record {
      a = t.0;
      b = t.1;
      c = t.2;
      a_in = h.0;
      b_in = h.1;
      c_in = h.2;
      scale = s;
      scaled = apart;
      through = is;
      primitive = one;
      above = above-supports vertices g supporting;
    }

pub IsFace-faces_of : (vertices : List V3) → All (IsFace vertices) (faces_of vertices)
IsFace-faces_of vertices =
    All-distinct_by is_same_plane (IsFace vertices) [] (filter (λ h. supports h vertices) (candidates vertices))
    (All-filter (IsFace vertices) (λ h. supports h vertices) (candidates vertices) (over (triples_of vertices) (All-triples_of (Contains vertices) vertices (All-contains_itself vertices))))
  where
    over : (ts : List (V3 × V3 × V3)) → All (λ t. Contains vertices t.0 × Contains vertices t.1 × Contains vertices t.2) ts → All (FaceIfSupports vertices) (planes_of ts)
    over [] k = All-nil (FaceIfSupports vertices)
    over (t ∷ ts) k =
        let P : V3 × V3 × V3 → Type 0 = λ t. Contains vertices t.0 × Contains vertices t.1 × Contains vertices t.2 in
        All-append (FaceIfSupports vertices) (both_ways (plane_through t.0 t.1 t.2)) (planes_of ts) (face_ways vertices t (plane_through t.0 t.1 t.2) refl (All-head P t ts k)) (over ts (All-tail P t ts k))

-- ---- a face's own points are on it
other_factor : (k z : ℤ) → k ≢ pos 0 → k *ℤ z ≡ pos 0 → z ≡ pos 0
other_factor k z apart e = ⊎_elim (λ zero. absurd (apart zero)) (λ same. same) (mul-eq-zero k z e)

-- the products of a vector with a face's three points are 0
pub record IsThrough (vertices : List V3) (f : HalfSpace) (face : IsFace vertices f) (v : Vec4) : Type 0 where
  pub a : dot4 (within face.a) v ≡ pos 0
  pub b : dot4 (within face.b) v ≡ pos 0
  pub c : dot4 (within face.c) v ≡ pos 0

module _ (vertices : List V3) (f : HalfSpace) (face : IsFace vertices f) where
  dot4-through : (p : Vec4) → dot4 p (minors (within face.a) (within face.b) (within face.c)) ≡ face.scale *ℤ dot4 p (lifted f)
  dot4-through p = ap (dot4 p) face.through ∙ dot4-times4 face.scale p (lifted f)

  pub through_own : IsThrough vertices f face (lifted f)
  through_own = record {
    a = on (within face.a) (dot4-minors_first (within face.a) (within face.b) (within face.c));
    b = on (within face.b) (dot4-minors_second (within face.a) (within face.b) (within face.c));
    c = on (within face.c) (dot4-minors_third (within face.a) (within face.b) (within face.c));
  }
    where
      on : (p : Vec4) → dot4 p (minors (within face.a) (within face.b) (within face.c)) ≡ pos 0 → dot4 p (lifted f) ≡ pos 0
      on p e = other_factor face.scale (dot4 p (lifted f)) face.scaled (sym (dot4-through p) ∙ e)

  -- what is through them is along the face
  pub along_face : (v : Vec4) → IsThrough vertices f face v → (g p : Vec4) → dot4 g (lifted f) *ℤ dot4 p v ≡ dot4 p (lifted f) *ℤ dot4 g v
  along_face v on g p =
      let met = at_three (within face.a) (within face.b) (within face.c) g p v on.a on.b on.c in
      let zero = other_factor face.scale (dot4 g (lifted f) *ℤ dot4 p v -ℤ dot4 p (lifted f) *ℤ dot4 g v) face.scaled
      (omega (arith, ints, split face.scale (dot4 g (lifted f)) (dot4 p v) (dot4 p (lifted f)) (dot4 g v), met, ap (λ (z : ℤ). z *ℤ dot4 p v) (dot4-through g), ap (λ (z : ℤ). z *ℤ dot4 g v) (dot4-through p))) in
      omega (arith, ints, zero)
    where
      split : (k a b c d : ℤ) → k *ℤ (a *ℤ b -ℤ c *ℤ d) ≡ (k *ℤ a) *ℤ b -ℤ (k *ℤ c) *ℤ d
      split = identity (number ∷ number ∷ number ∷ number ∷ number ∷ []) (λ k a b c d. k ⊗ (a ⊗ b ⊖ c ⊗ d) ≣ (k ⊗ a) ⊗ b ⊖ (k ⊗ c) ⊗ d) tt

  -- a face is not zero
  pub not_origin : lifted f ≢ origin
  not_origin e = absurd (omega (arith, face.primitive, ap (λ (v : Vec4). divisor_of (record { x = v.x; y = v.y; z = v.z })) e, divisor_of-zero))

-- ---- half-spaces that are multiples of each other
divisor_of-times : (k : ℕ) (n : V3) → 0 < k → divisor_of n ≡ 1 → divisor_of (times3 (pos k) n) ≡ k
divisor_of-times k n lt one =
    ap common_divisor (λ i. unsigned_abs-mul (pos k) n.x i ∷ unsigned_abs-mul (pos k) n.y i ∷ unsigned_abs-mul (pos k) n.z i ∷ []) ∙ omega (arith, whole, ap (λ (q : ℕ). k * q) (eq-one_of_dvd-one unit))
  where
    products : List ℕ
    products = k * unsigned_abs n.x ∷ k * unsigned_abs n.y ∷ k * unsigned_abs n.z ∷ []

    is : IsDivisor products (common_divisor products)
    is = IsDivisor-common_divisor products

    whole : k * (common_divisor products / k) ≡ common_divisor products
    whole = omega (arith, div-add-mod (common_divisor products) k, mod-eq-zero_of_dvd k (is.every k (dvd-mul_right k (unsigned_abs n.x), (dvd-mul_right k (unsigned_abs n.y), (dvd-mul_right k (unsigned_abs n.z), tt)))))

    part : (a : ℕ) → common_divisor products ∣ k * a → common_divisor products / k ∣ a
    part a h = dvd_of_mul-dvd-mul_left (common_divisor products / k) lt (subst (λ (m : ℕ). m ∣ k * a) (sym whole) h)

    unit : common_divisor products / k ∣ 1
    unit = subst (λ (m : ℕ). common_divisor products / k ∣ m) one ((IsDivisor-common_divisor (unsigned_abs n.x ∷ unsigned_abs n.y ∷ unsigned_abs n.z ∷ [])).every (common_divisor products / k) (part (unsigned_abs n.x) is.divides.0, (part (unsigned_abs n.y) is.divides.1.0, (part (unsigned_abs n.z) is.divides.1.1.0, tt))))

same_multiple : (k l : ℤ) (f g : HalfSpace) → pos 0 <ℤ k → pos 0 <ℤ l → divisor_of f.n ≡ 1 → divisor_of g.n ≡ 1 → ((p : Vec4) → k *ℤ dot4 p (lifted f) ≡ l *ℤ dot4 p (lifted g)) → f ≡ g
same_multiple (pos k) (pos l) f g k_pos l_pos f_one g_one same =
    same_half_space f g (same3 f.n g.n (factor f.n.x g.n.x x) (factor f.n.y g.n.y y) (factor f.n.z g.n.z z)) (factor f.e g.e (along (record { x = pos 0; y = pos 0; z = pos 0; w = pos 1 }) f.e g.e (omega (arith, ints)) (omega (arith, ints))))
  where
    along : (p : Vec4) (a b : ℤ) → dot4 p (lifted f) ≡ a → dot4 p (lifted g) ≡ b → pos k *ℤ a ≡ pos l *ℤ b
    along p a b e d = ap (λ (t : ℤ). pos k *ℤ t) (sym e) ∙ same p ∙ ap (λ (t : ℤ). pos l *ℤ t) d

    x : pos k *ℤ f.n.x ≡ pos l *ℤ g.n.x
    x = along (record { x = pos 1; y = pos 0; z = pos 0; w = pos 0 }) f.n.x g.n.x (omega (arith, ints)) (omega (arith, ints))

    y : pos k *ℤ f.n.y ≡ pos l *ℤ g.n.y
    y = along (record { x = pos 0; y = pos 1; z = pos 0; w = pos 0 }) f.n.y g.n.y (omega (arith, ints)) (omega (arith, ints))

    z : pos k *ℤ f.n.z ≡ pos l *ℤ g.n.z
    z = along (record { x = pos 0; y = pos 0; z = pos 1; w = pos 0 }) f.n.z g.n.z (omega (arith, ints)) (omega (arith, ints))

    multiples : k ≡ l
    multiples = sym (divisor_of-times k f.n (omega (arith, ints, k_pos)) f_one) ∙ ap divisor_of (same3 (times3 (pos k) f.n) (times3 (pos l) g.n) x y z) ∙ divisor_of-times l g.n (omega (arith, ints, l_pos)) g_one

    factor : (a b : ℤ) → pos k *ℤ a ≡ pos l *ℤ b → a ≡ b
    factor a b e = omega (arith, ints, other_factor (pos k) (a -ℤ b) (λ z. omega (arith, ints, z, k_pos)) (omega (arith, ints, mul-sub (pos k) a b, e, ap (λ (m : ℕ). pos m *ℤ b) multiples)))
same_multiple (pos k) (negsuc l) f g k_pos l_pos f_one g_one same = absurd (omega (arith, ints, l_pos))
same_multiple (negsuc k) l f g k_pos l_pos f_one g_one same = absurd (omega (arith, ints, k_pos))

-- faces with one's three points in common are the same
pub same_face : (vertices : List V3) → are_coplanar vertices ≡ false → (f g : HalfSpace) (face : IsFace vertices f) → IsFace vertices g → IsThrough vertices f face (lifted g) → g ≡ f
same_face vertices solid f g face other on =
    same_multiple (dot4 o (lifted f)) (dot4 o (lifted g)) g f
    (total-pos (map within vertices) (lifted f) (Spans-within vertices solid) (not_origin vertices f face) face.above)
    (total-pos (map within vertices) (lifted g) (Spans-within vertices solid) (not_origin vertices g other) other.above)
    other.primitive
    face.primitive
    (λ p. along_face vertices f face (lifted g) on o p ∙ mul_comm (dot4 p (lifted f)) (dot4 o (lifted g)))
  where
    o : Vec4
    o = total (map within vertices)
