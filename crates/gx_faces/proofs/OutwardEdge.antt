-- Where a vector in a face's plane is outside some half-space with all vertices, it is outside an edge of the face.
use Rattle.std.proofs.Common.{◌≡◌, Bool, true, List, All, ℤ, pos, negsuc, ◌-ℤ◌, ◌*ℤ◌, ◌≤ℤ◌, [], ◌∷◌, refl, sym, ap, ◌∙◌, arith, map, subst, ◌⊎◌, inl, inr, Contains, ◌<ℤ◌, ◌+ℤ◌, ◌≢◌, filter}
use Rattle.std.proofs.lemmas.Bool.Decides.{Decides-int_eq}
use Rattle.std.proofs.lemmas.Int.{by_lt_z}
use Rattle.std.proofs.lemmas.List.Elements.{All-head, All-tail, All-map, All-weaker, All-cons, All-contains, All-contains_itself}
use Rattle.std.specs.Ordering.{int_eq}
use Rattle.gx_algebra.proofs.Terms as term
use Rattle.gx_algebra.proofs.Identities.{dot4-times4, dot4-opposite4, dot4-origin}
use Rattle.gx_algebra.proofs.Identity.{identity, number, vector3, identity4, vector4, half_space}
use Rattle.gx_algebra.proofs.Lists.{All-from_map, Contains-unmap, Contains-cases}
use Rattle.gx_algebra.proofs.Order.{zero_of_mul, by_sign, nonneg_of_mul, mul_nonneg, mul_pos_neg}
use Rattle.gx_algebra.proofs.Ring.{num}
use Rattle.gx_algebra.proofs.Terms.{◌≣◌, ◌⊖◌, ◌⊗◌, none, Term3, Term4, ◌≣⁴◌, ◌⊕◌, TermHalfSpace}
use Rattle.gx_convex.proofs.FaceFacts.{All-from_filter, All-filter}
use Rattle.gx_faces.proofs.FacePoints.{total, dot4-total, total-pos, IsFace, above_at, through_own, along_face}
use Rattle.gx_faces.specs.Closed.{turn_of, IsEdge}
use Rattle.gx_num.specs.Space.{HalfSpace}
use Rattle.gx_num.specs.Vector4.{Vec4, dot4, times4, opposite4, minors, plus4}
use Rattle.gx_num.specs.declared.vector.V3.{V3}
use Rattle.gx_plane.proofs.Complete.{lifted, within, within_term, dot4-within}
use Rattle.gx_plane.proofs.Cones.{dot4-self_zero}
use Rattle.gx_plane.proofs.Divisors.{divisor_of-zero}
use Rattle.gx_plane.proofs.ExtremeRays.{tilted, at_three}
use Rattle.gx_plane.specs.Laws.{IsAbove, Spans, IsBeyond, IsFromThree}
use Rattle.gx_plane.specs.Plane.{divisor_of, side_of}
use borrow.Author.Differences.{ints}

abbrev upright_term : Term3 → Term4
upright_term n = record { x = n.x; y = n.y; z = n.z; w = none }

abbrev lifted_term : TermHalfSpace → Term4
lifted_term h = record { x = h.n.x; y = h.n.y; z = h.n.z; w = h.e }

-- ---- half-spaces upright on a face
-- the direction of the normal
abbrev pub upright : HalfSpace → Vec4
upright f = record { x = f.n.x; y = f.n.y; z = f.n.z; w = pos 0 }

-- what has product 0 with the normal, and a positive multiple of the products with h on the face
abbrev pub turned : HalfSpace → HalfSpace → Vec4
turned f h = plus4 (times4 (dot4 (upright f) (lifted f)) (lifted h)) (times4 (pos 0 -ℤ dot4 (upright f) (lifted h)) (lifted f))

pub dot4-upright_turned : (f h : HalfSpace) → dot4 (upright f) (turned f h) ≡ pos 0
dot4-upright_turned = identity (half_space ∷ half_space ∷ []) (λ f h. term.dot4 (upright_term f.n) (term.plus4 (term.times4 (term.dot4 (upright_term f.n) (lifted_term f)) (lifted_term h)) (term.times4 (none ⊖ term.dot4 (upright_term f.n) (lifted_term h)) (lifted_term f))) ≣ none) tt

pub dot4-turned : (f h : HalfSpace) (p : Vec4) → dot4 p (lifted f) ≡ pos 0 → dot4 p (turned f h) ≡ dot4 (upright f) (lifted f) *ℤ dot4 p (lifted h)
dot4-turned f h p on =
    omega (arith, ints, sums (dot4 (upright f) (lifted f)) (pos 0 -ℤ dot4 (upright f) (lifted h)) p (lifted h) (lifted f), ap (λ (z : ℤ). (pos 0 -ℤ dot4 (upright f) (lifted h)) *ℤ z) on)
  where
    sums : (k l : ℤ) (p a b : Vec4) → dot4 p (plus4 (times4 k a) (times4 l b)) ≡ k *ℤ dot4 p a +ℤ l *ℤ dot4 p b
    sums = identity (number ∷ number ∷ vector4 ∷ vector4 ∷ vector4 ∷ []) (λ k l p a b. term.dot4 p (term.plus4 (term.times4 k a) (term.times4 l b)) ≣ k ⊗ term.dot4 p a ⊕ l ⊗ term.dot4 p b) tt

-- upright on the face, through two of its points
abbrev pub wall : HalfSpace → V3 → V3 → Vec4
wall f p q = minors (within q) (within p) (upright f)

dot4-wall : (f : HalfSpace) (p q r : V3) → dot4 (within r) (wall f p q) ≡ turn_of f p q r
dot4-wall = identity (half_space ∷ vector3 ∷ vector3 ∷ vector3 ∷ []) (λ f p q r. term.dot4 (within_term r) (term.minors (within_term q) (within_term p) (upright_term f.n)) ≣ term.dot_of f.n (term.cross_of (term.difference_of q p) (term.difference_of r p))) tt

-- ---- three members of which one is a multiple of the third vector, or two are
at_first : (s : ℤ) (a b d : Vec4) → minors (times4 s d) a b ≡ times4 s (minors a b d)
at_first = identity4 (number ∷ vector4 ∷ vector4 ∷ vector4 ∷ []) (λ s a b d. term.minors (term.times4 s d) a b ≣⁴ term.times4 s (term.minors a b d)) tt

at_second : (s : ℤ) (a b d : Vec4) → minors a (times4 s d) b ≡ times4 s (minors b a d)
at_second = identity4 (number ∷ vector4 ∷ vector4 ∷ vector4 ∷ []) (λ s a b d. term.minors a (term.times4 s d) b ≣⁴ term.times4 s (term.minors b a d)) tt

at_third : (s : ℤ) (a b d : Vec4) → minors a b (times4 s d) ≡ times4 s (minors a b d)
at_third = identity4 (number ∷ vector4 ∷ vector4 ∷ vector4 ∷ []) (λ s a b d. term.minors a b (term.times4 s d) ≣⁴ term.times4 s (term.minors a b d)) tt

twice_first : (s t : ℤ) (a d x : Vec4) → dot4 x (minors (times4 s d) (times4 t d) a) ≡ pos 0
twice_first = identity (number ∷ number ∷ vector4 ∷ vector4 ∷ vector4 ∷ []) (λ s t a d x. term.dot4 x (term.minors (term.times4 s d) (term.times4 t d) a) ≣ none) tt

twice_ends : (s t : ℤ) (a d x : Vec4) → dot4 x (minors (times4 s d) a (times4 t d)) ≡ pos 0
twice_ends = identity (number ∷ number ∷ vector4 ∷ vector4 ∷ vector4 ∷ []) (λ s t a d x. term.dot4 x (term.minors (term.times4 s d) a (term.times4 t d)) ≣ none) tt

twice_last : (s t : ℤ) (a d x : Vec4) → dot4 x (minors a (times4 s d) (times4 t d)) ≡ pos 0
twice_last = identity (number ∷ number ∷ vector4 ∷ vector4 ∷ vector4 ∷ []) (λ s t a d x. term.dot4 x (term.minors a (term.times4 s d) (term.times4 t d)) ≣ none) tt

swapped : (k : ℤ) (a b d : Vec4) → times4 k (minors a b d) ≡ times4 (pos 0 -ℤ k) (minors b a d)
swapped = identity4 (number ∷ vector4 ∷ vector4 ∷ vector4 ∷ []) (λ k a b d. term.times4 k (term.minors a b d) ≣⁴ term.times4 (none ⊖ k) (term.minors b a d)) tt

times4-one : (v : Vec4) → v ≡ times4 (pos 1) v
times4-one = identity4 (vector4 ∷ []) (λ v. v ≣⁴ term.times4 (num (pos 1)) v) tt

opposite4-is : (v : Vec4) → opposite4 v ≡ times4 (negsuc 0) v
opposite4-is = identity4 (vector4 ∷ []) (λ v. term.opposite4 v ≣⁴ term.times4 (num (negsuc 0)) v) tt

times4-times4 : (k l : ℤ) (v : Vec4) → times4 k (times4 l v) ≡ times4 (k *ℤ l) v
times4-times4 = identity4 (number ∷ number ∷ vector4 ∷ []) (λ k l v. term.times4 k (term.times4 l v) ≣⁴ term.times4 (k ⊗ l) v) tt

opposite4-dot4 : (a b : Vec4) → dot4 (opposite4 a) b ≡ pos 0 -ℤ dot4 a b
opposite4-dot4 = identity (vector4 ∷ vector4 ∷ []) (λ a b. term.dot4 (term.opposite4 a) b ≣ none ⊖ term.dot4 a b) tt

-- ---- the points of a face
abbrev is_on : HalfSpace → V3 → Bool
is_on f r = int_eq (side_of f r) (pos 0)

abbrev pub points_on : List V3 → HalfSpace → List V3
points_on vertices f = filter (is_on f) vertices

pub record IsOn (vertices : List V3) (f : HalfSpace) (r : V3) : Type 0 where
  pub in_list : Contains vertices r
  pub on : dot4 (within r) (lifted f) ≡ pos 0

on_is : (f : HalfSpace) (r : V3) → dot4 (within r) (lifted f) ≡ pos 0 → side_of f r ≡ pos 0
on_is f r e = omega (arith, ints, e, dot4-within f r)

-- the edge that a vector in the plane of a face is outside of
pub record IsOutward (vertices : List V3) (f : HalfSpace) (x : Vec4) : Type 0 where
  pub p : V3
  pub q : V3
  pub edge : IsEdge vertices f p q
  pub outside : dot4 x (wall f p q) <ℤ pos 0
  pub inside : pos 0 <ℤ dot4 (total (map within (points_on vertices f))) (wall f p q)

module _ (vertices : List V3) (f : HalfSpace) (face : IsFace vertices f) where
  pub upright-pos : pos 0 <ℤ dot4 (upright f) (lifted f)
  upright-pos =
      by_lt_z (pos 0) (dot4 (upright f) (lifted f)) (λ lt. lt)
      (λ le. absurd (omega (arith, face.primitive, ap (λ (v : Vec4). divisor_of (record { x = v.x; y = v.y; z = v.z })) (dot4-self_zero (upright f) (omega (arith, ints, le, self f))), divisor_of-zero)))
    where
      self : (f : HalfSpace) → dot4 (upright f) (upright f) ≡ dot4 (upright f) (lifted f)
      self = identity (half_space ∷ []) (λ f. term.dot4 (upright_term f.n) (upright_term f.n) ≣ term.dot4 (upright_term f.n) (lifted_term f)) tt

  -- what holds of all its points holds of its three
  pub All-own : (P : V3 → Type 0) → All P (points_on vertices f) → P face.a × P face.b × P face.c
  All-own P h = let own = through_own vertices f face in (one face.a face.a_in own.a, one face.b face.b_in own.b, one face.c face.c_in own.c)
    where
      one : (r : V3) → Contains vertices r → dot4 (within r) (lifted f) ≡ pos 0 → P r
      one r m e = All-contains (λ r. is_on f r ≡ true → P r) vertices r (All-from_filter P (is_on f) vertices h) m ((Decides-int_eq (side_of f r) (pos 0)).1 (on_is f r e))

  pub IsOn-points_on : All (IsOn vertices f) (points_on vertices f)
  IsOn-points_on =
      All-filter (IsOn vertices f) (is_on f) vertices
      (All-weaker (Contains vertices) (λ r. is_on f r ≡ true → IsOn vertices f r) (λ r m e. record { in_list = m; on = omega (arith, ints, (Decides-int_eq (side_of f r) (pos 0)).0 e, dot4-within f r) }) vertices (All-contains_itself vertices))

  -- the points, and both ways along the normal
  abbrev members : List Vec4
  members = upright f ∷ opposite4 (upright f) ∷ map within (points_on vertices f)

  spans : Spans members
  spans v h =
      let P : Vec4 → Type 0 = λ m. dot4 m v ≡ pos 0 in
      let normal = All-head P (upright f) (opposite4 (upright f) ∷ map within (points_on vertices f)) h in
      let rest = All-tail P (opposite4 (upright f)) (map within (points_on vertices f)) (All-tail P (upright f) (opposite4 (upright f) ∷ map within (points_on vertices f)) h) in
      let own = All-own (λ r. dot4 (within r) v ≡ pos 0) (All-from_map P within (points_on vertices f) rest) in
      let along = along_face vertices f face v (record { a = own.0; b = own.1; c = own.2 }) (upright f) v in
      dot4-self_zero v (omega (arith, ints, zero_of_mul (dot4 (upright f) (lifted f)) (dot4 v v) upright-pos (omega (arith, ints, along, ap (λ (z : ℤ). dot4 v (lifted f) *ℤ z) normal))))

  -- a member is along the normal, or a point
  abbrev Part : Vec4 → Type 0
  Part m = ((s : ℤ) × (m ≡ times4 s (upright f))) ⊎ ((r : V3) × IsOn vertices f r × (m ≡ within r))

  part : (m : Vec4) → Contains members m → Part m
  part m h = go (Contains-cases (upright f) (opposite4 (upright f) ∷ map within (points_on vertices f)) m h)
    where
      point : Contains (map within (points_on vertices f)) m → Part m
      point k =
          let r = Contains-unmap within (points_on vertices f) m k in
          inr (r.0, All-contains (IsOn vertices f) (points_on vertices f) r.0 IsOn-points_on r.1, sym r.2)

      later : (opposite4 (upright f) ≡ m) ⊎ Contains (map within (points_on vertices f)) m → Part m
      later (inl e) = inl (negsuc 0, sym e ∙ opposite4-is (upright f))
      later (inr k) = point k

      go : (upright f ≡ m) ⊎ Contains (opposite4 (upright f) ∷ map within (points_on vertices f)) m → Part m
      go (inl e) = inl (pos 1, sym e ∙ times4-one (upright f))
      go (inr k) = later (Contains-cases (opposite4 (upright f)) (map within (points_on vertices f)) m k)

  -- a multiple of a wall
  record IsWall (w : Vec4) : Type 0 where
    p : V3
    q : V3
    on_p : IsOn vertices f p
    on_q : IsOn vertices f q
    scale : ℤ
    same : w ≡ times4 scale (wall f p q)

  -- three members that a vector in the plane is not along determine one
  IsWall-minors : (x a b c : Vec4) → dot4 x (lifted f) ≡ pos 0 → dot4 x (minors a b c) ≢ pos 0 → Part a → Part b → Part c → IsWall (minors a b c)
  IsWall-minors x a b c on apart first second third = go first second third
    where
      three : {k l m : Vec4} → a ≡ k → b ≡ l → c ≡ m → minors a b c ≡ minors k l m
      three e f g = λ i. minors (e i) (f i) (g i)

      go : Part a → Part b → Part c → IsWall (minors a b c)
      go (inl (s, e)) (inl (t, g)) third = absurd (apart (ap (dot4 x) (three e g refl) ∙ twice_first s t c (upright f) x))
      go (inl (s, e)) (inr second) (inl (t, g)) = absurd (apart (ap (dot4 x) (three e refl g) ∙ twice_ends s t b (upright f) x))
      go (inr first) (inl (s, e)) (inl (t, g)) = absurd (apart (ap (dot4 x) (three refl e g) ∙ twice_last s t a (upright f) x))
      go (inl (s, e)) (inr (q, on_q, g)) (inr (r, on_r, h)) = record {
        p = r;
        q = q;
        on_p = on_r;
        on_q = on_q;
        scale = s;
        same = three e g h ∙ at_first s (within q) (within r) (upright f);
      }
      go (inr (p, on_p, e)) (inl (s, g)) (inr (r, on_r, h)) = record {
        p = p;
        q = r;
        on_p = on_p;
        on_q = on_r;
        scale = s;
        same = three e g h ∙ at_second s (within p) (within r) (upright f);
      }
      go (inr (p, on_p, e)) (inr (q, on_q, g)) (inl (s, h)) = record {
        p = q;
        q = p;
        on_p = on_q;
        on_q = on_p;
        scale = s;
        same = three e g h ∙ at_third s (within p) (within q) (upright f);
      }
      go (inr (p, on_p, e)) (inr (q, on_q, g)) (inr (r, on_r, h)) =
          let met = at_three (within p) (within q) (within r) (upright f) x (lifted f) on_p.on on_q.on on_r.on in
          let n = minors (within p) (within q) (within r) in
          absurd (apart (ap (dot4 x) (three e g h) ∙ zero_of_mul (dot4 (upright f) (lifted f)) (dot4 x n) upright-pos (omega (arith, ints, met, ap (λ (z : ℤ). dot4 (upright f) n *ℤ z) on))))

  IsWall-three : (x w : Vec4) → dot4 x (lifted f) ≡ pos 0 → dot4 x w ≢ pos 0 → IsFromThree members w → IsWall w
  IsWall-three x w on apart three = go three.same
    where
      n : Vec4
      n = minors three.first three.second three.third

      wall_n : dot4 x n ≢ pos 0 → IsWall n
      wall_n ne = IsWall-minors x three.first three.second three.third on ne (part three.first three.first_in) (part three.second three.second_in) (part three.third three.third_in)

      opposite_wall : w ≡ opposite4 n → IsWall n → IsWall w
      opposite_wall e is = record {
        p = is.p;
        q = is.q;
        on_p = is.on_p;
        on_q = is.on_q;
        scale = negsuc 0 *ℤ is.scale;
        same = e ∙ opposite4-is n ∙ ap (times4 (negsuc 0)) is.same ∙ times4-times4 (negsuc 0) is.scale (wall f is.p is.q);
      }

      go : (w ≡ n) ⊎ (w ≡ opposite4 n) → IsWall w
      go (inl e) = subst IsWall (sym e) (wall_n (λ z. apart (ap (dot4 x) e ∙ z)))
      go (inr e) = opposite_wall e (wall_n (λ z. apart (omega (arith, ints, ap (dot4 x) e, dot4-opposite4 x n, z))))

  -- ---- a wall with all points of the face at its left
  module _ (x w : Vec4) (is : IsBeyond members (opposite4 x) w) where
    outward_at : (p q : V3) → IsOn vertices f p → IsOn vertices f q → (k : ℤ) → pos 0 <ℤ k → w ≡ times4 k (wall f p q) → IsOutward vertices f x
    outward_at p q on_p on_q k positive is_wall = record {
      p = p;
      q = q;
      edge = record {
        first_in = on_p.in_list;
        second_in = on_q.in_list;
        apart = λ e. omega (arith, ints, outside, ap (λ r. dot4 x (wall f p r)) (sym e), twice (within p) (upright f) x);
        first = on_is f p on_p.on;
        second = on_is f q on_q.on;
        left = All-weaker (λ r. is_on f r ≡ true → pos 0 ≤ℤ dot4 (within r) (wall f p q)) (λ r. side_of f r ≡ pos 0 → pos 0 ≤ℤ turn_of f p q r) (λ r le e. omega (arith, ints, le ((Decides-int_eq (side_of f r) (pos 0)).1 e), dot4-wall f p q r)) vertices
            (All-from_filter (λ r. pos 0 ≤ℤ dot4 (within r) (wall f p q)) (is_on f) vertices (All-from_map (λ m. pos 0 ≤ℤ dot4 m (wall f p q)) within (points_on vertices f) at_points));
      };
      outside = outside;
      inside = omega (
        arith,
        ints,
        total-pos members (wall f p q) spans (λ e. omega (arith, ints, outside, ap (dot4 x) e, dot4-origin x)) above,
        dot4-total (upright f) (opposite4 (upright f) ∷ map within (points_on vertices f)) (wall f p q),
        dot4-total (opposite4 (upright f)) (map within (points_on vertices f)) (wall f p q),
        opposite4-dot4 (upright f) (wall f p q),
      );
    }
      where
        product : (m : Vec4) → dot4 m w ≡ k *ℤ dot4 m (wall f p q)
        product m = ap (dot4 m) is_wall ∙ dot4-times4 k m (wall f p q)

        above : IsAbove members (wall f p q)
        above = All-weaker (λ m. pos 0 ≤ℤ dot4 m w) (λ m. pos 0 ≤ℤ dot4 m (wall f p q)) (λ m le. nonneg_of_mul k (dot4 m (wall f p q)) positive (omega (arith, ints, le, product m))) members is.above

        at_points : IsAbove (map within (points_on vertices f)) (wall f p q)
        at_points = let P : Vec4 → Type 0 = λ m. pos 0 ≤ℤ dot4 m (wall f p q) in All-tail P (opposite4 (upright f)) (map within (points_on vertices f)) (All-tail P (upright f) (opposite4 (upright f) ∷ map within (points_on vertices f)) above)

        outside : dot4 x (wall f p q) <ℤ pos 0
        outside =
            by_lt_z (dot4 x (wall f p q)) (pos 0) (λ lt. lt)
            (λ le. absurd (omega (arith, ints, is.beyond, opposite4-dot4 x w, product x, mul_nonneg k (dot4 x (wall f p q)) (omega (arith, ints, positive)) le)))

        twice : (a d x : Vec4) → dot4 x (minors a a d) ≡ pos 0
        twice = identity (vector4 ∷ vector4 ∷ vector4 ∷ []) (λ a d x. term.dot4 x (term.minors a a d) ≣ none) tt

    outward_by : dot4 x (lifted f) ≡ pos 0 → IsFromThree members w → IsOutward vertices f x
    outward_by on three =
        by_sign along.scale
        (λ lt. outward_at along.q along.p along.on_q along.on_p (pos 0 -ℤ along.scale) (omega (arith, ints, lt)) (along.same ∙ swapped along.scale (within along.q) (within along.p) (upright f)))
        (λ z. absurd (omega (arith, ints, is.beyond, opposite4-dot4 x w, ap (dot4 x) along.same, dot4-times4 along.scale x (wall f along.p along.q), ap (λ (s : ℤ). s *ℤ dot4 x (wall f along.p along.q)) z)))
        (λ gt. outward_at along.p along.q along.on_p along.on_q along.scale gt along.same)
      where
        along : IsWall w
        along = IsWall-three x w on (λ z. omega (arith, ints, z, is.beyond, opposite4-dot4 x w)) three

  -- ---- the edge
  pub outward : (x : Vec4) (h : HalfSpace) → dot4 x (lifted f) ≡ pos 0 → IsAbove (map within vertices) (lifted h) → dot4 x (lifted h) <ℤ pos 0 → IsOutward vertices f x
  outward x h on above below = from (tilted members (opposite4 x) spans (turned f h) start)
    where
      normal : dot4 (upright f) (turned f h) ≡ pos 0
      normal = dot4-upright_turned f h

      k : ℤ
      k = dot4 (upright f) (lifted f)

      at : (r : V3) → IsOn vertices f r → pos 0 ≤ℤ dot4 (within r) (turned f h)
      at r is =
          omega (arith, ints, dot4-turned f h (within r) is.on, mul_nonneg k (dot4 (within r) (lifted h)) (omega (arith, ints, upright-pos)) (above_at vertices (lifted h) above r is.in_list))

      start : IsBeyond members (opposite4 x) (turned f h)
      start = let P : Vec4 → Type 0 = λ m. pos 0 ≤ℤ dot4 m (turned f h) in record {
        above = All-cons P (upright f) (opposite4 (upright f) ∷ map within (points_on vertices f)) (omega (arith, ints, normal))
            (All-cons P (opposite4 (upright f)) (map within (points_on vertices f)) (omega (arith, ints, normal, opposite4-dot4 (upright f) (turned f h)))
            (All-map P within (points_on vertices f) (All-weaker (IsOn vertices f) (λ r. pos 0 ≤ℤ dot4 (within r) (turned f h)) at (points_on vertices f) IsOn-points_on)));
        beyond = omega (arith, ints, opposite4-dot4 x (turned f h), dot4-turned f h x on, mul_pos_neg k (dot4 x (lifted h)) upright-pos below);
      }

      from : (w : Vec4) × IsBeyond members (opposite4 x) w × IsFromThree members w → IsOutward vertices f x
      from (w, is, three) = outward_by x w is on three
