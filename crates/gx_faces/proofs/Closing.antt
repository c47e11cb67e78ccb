-- Closed faces are all. Were a face h missing, take the first of the closed ones on the way from its points to the middle of the vertices:
-- where the way crosses it, it is outside of h, so outside of an edge of that face, and beyond the face that is joined there.
use Rattle.std.proofs.Common.{◌≡◌, false, List, All, ℤ, pos, ◌-ℤ◌, ◌*ℤ◌, ◌≤ℤ◌, [], ◌∷◌, ap, ◌∙◌, arith, map, subst, ◌⊎◌, inl, inr, Contains, ◌<ℤ◌, get_or, ◌≢◌, ⊎_elim}
use Rattle.std.proofs.lemmas.Bool.Decides.{not_from_Decides}
use Rattle.std.proofs.lemmas.Int.{by_lt_z}
use Rattle.std.proofs.lemmas.List.Elements.{All-nil, All-head, All-tail, All-map, All-weaker, All-cons, All-contains, All-from_recursion, recursion_from_All}
use Rattle.gx_algebra.proofs.Terms as term
use Rattle.gx_algebra.proofs.Identity.{identity, number, vector4}
use Rattle.gx_algebra.proofs.Laws.{mul-zero}
use Rattle.gx_algebra.proofs.Lists.{All-from_map, Contains-head, Contains-tail}
use Rattle.gx_algebra.proofs.Order.{mul_pos, mul_nonneg, mul_pos_neg, mul-le-left, le_of_mul-le-left}
use Rattle.gx_algebra.proofs.Terms.{◌≣◌, ◌⊖◌, ◌⊗◌, none}
use Rattle.gx_convex.proofs.Distinct.{by_bool}
use Rattle.gx_convex.proofs.FaceFacts.{Decides-is_same_plane, is_same_plane-same}
use Rattle.gx_convex.proofs.Spanning.{Spans-within}
use Rattle.gx_convex.specs.Faces.{faces_of, is_same_plane}
use Rattle.gx_convex.specs.Points.{are_coplanar}
use Rattle.gx_faces.proofs.FacePoints.{total, total-nonneg, total-zero, total-none, total-pos, IsFace, above_at, IsFace-faces_of, IsThrough, through_own, not_origin, same_face}
use Rattle.gx_faces.proofs.OutwardEdge.{upright, turned, dot4-upright_turned, dot4-turned, wall, points_on, IsOn, IsOutward, upright-pos, All-own, IsOn-points_on, outward}
use Rattle.gx_faces.specs.Closed.{IsJoined, IsClosedAt, AreClosed, ClosedFacesAreAll}
use Rattle.gx_num.specs.Space.{HalfSpace}
use Rattle.gx_num.specs.Vector4.{Vec4, dot4, times4, plus4}
use Rattle.gx_num.specs.declared.vector.V3.{V3}
use Rattle.gx_plane.proofs.Complete.{lifted, within, dot4-within}
use Rattle.gx_plane.proofs.ExtremeRays.{at_three}
use Rattle.gx_plane.specs.Laws.{IsAbove}
use Rattle.gx_plane.specs.Plane.{side_of}
use borrow.Author.Differences.{ints}

-- ---- a member with the least of fractions, by cross products
record IsLeast {X : Type 0} (top under : X → ℤ) (xs : List X) (x : X) : Type 0 where
  in_list : Contains xs x
  least : All (λ y. (top x *ℤ under y) ≤ℤ (top y *ℤ under x)) xs

-- a/k is at most c/m where it is at most b/l, and that is at most c/m
least_through : (a b c k l m : ℤ) → pos 0 <ℤ k → pos 0 <ℤ l → pos 0 <ℤ m → (a *ℤ l) ≤ℤ (b *ℤ k) → (b *ℤ m) ≤ℤ (c *ℤ l) → (a *ℤ m) ≤ℤ (c *ℤ k)
least_through a b c k l m k_pos l_pos m_pos first second =
    le_of_mul-le-left l (a *ℤ m) (c *ℤ k) l_pos
    (omega (arith, ints, turn l a m, turn l c k, turn k b m, mul-le-left m (a *ℤ l) (b *ℤ k) (omega (arith, ints, m_pos)) first, mul-le-left k (b *ℤ m) (c *ℤ l) (omega (arith, ints, k_pos)) second, turn m a l, turn m b k, turn k c l))
  where
    turn : (k a m : ℤ) → k *ℤ (a *ℤ m) ≡ (a *ℤ k) *ℤ m
    turn = identity (number ∷ number ∷ number ∷ []) (λ k a m. k ⊗ (a ⊗ m) ≣ (a ⊗ k) ⊗ m) tt

least_of : {X : Type 0} (top under : X → ℤ) (x : X) (xs : List X) → All (λ y. pos 0 <ℤ under y) (x ∷ xs) → (y : X) × IsLeast top under (x ∷ xs) y
least_of top under x [] h =
    (x, record { in_list = Contains-head x []; least = All-cons (λ y. (top x *ℤ under y) ≤ℤ (top y *ℤ under x)) x [] (omega (arith, ints)) (All-nil (λ y. (top x *ℤ under y) ≤ℤ (top y *ℤ under x))) })
least_of top under x (z ∷ zs) h = with_head (least_of top under z zs positive)
  where
    positive : All (λ y. pos 0 <ℤ under y) (z ∷ zs)
    positive = All-tail (λ y. pos 0 <ℤ under y) x (z ∷ zs) h

    head : pos 0 <ℤ under x
    head = All-head (λ y. pos 0 <ℤ under y) x (z ∷ zs) h

    with_head : (y : _) × IsLeast top under (z ∷ zs) y → (y : _) × IsLeast top under (x ∷ z ∷ zs) y
    with_head (y, is) =
        by_lt_z (top x *ℤ under y) (top y *ℤ under x)
        (λ lt. (
          x,
          record {
            in_list = Contains-head x (z ∷ zs);
            least = All-cons (λ v. (top x *ℤ under v) ≤ℤ (top v *ℤ under x)) x (z ∷ zs) (omega (arith, ints))
                (λ i d below. least_through (top x) (top y) (top (get_or (z ∷ zs) i d)) (under x) (under y) (under (get_or (z ∷ zs) i d)) head (All-contains (λ v. pos 0 <ℤ under v) (z ∷ zs) y positive is.in_list) (positive i d below) (omega (arith, ints, lt)) (is.least i d below));
          },
        ))
        (λ le. (
          y,
          record {
            in_list = Contains-tail x (z ∷ zs) y is.in_list;
            least = All-cons (λ v. (top y *ℤ under v) ≤ℤ (top v *ℤ under y)) x (z ∷ zs) le is.least;
          },
        ))

-- of a list with a member
least_member : {X : Type 0} (top under : X → ℤ) (xs : List X) (x : X) → Contains xs x → All (λ y. pos 0 <ℤ under y) xs → (y : X) × IsLeast top under xs y
least_member top under [] x m h = absurd (omega (arith, m.1))
least_member top under (z ∷ zs) x m h = least_of top under z zs h

-- ---- a half-space is one of a list, or each of them is another
one_or_other : (h : HalfSpace) (xs : List HalfSpace) → Contains xs h ⊎ All (λ x. x ≢ h) xs
one_or_other h [] = inr (All-nil (λ x. x ≢ h))
one_or_other h (x ∷ xs) =
    by_bool (is_same_plane x h)
    (λ e. inl (subst (Contains (x ∷ xs)) (is_same_plane-same x h e) (Contains-head x xs)))
    (λ e. ⊎_elim (λ m. inl (Contains-tail x xs h m)) (λ rest. inr (All-cons (λ x. x ≢ h) x xs (not_from_Decides (is_same_plane x h) (Decides-is_same_plane x h) e) rest)) (one_or_other h xs))

-- ---- where the way from a point to another crosses a face, by their products with it
abbrev crossing : Vec4 → Vec4 → HalfSpace → Vec4
crossing a b f = plus4 (times4 (dot4 b (lifted f)) a) (times4 (pos 0 -ℤ dot4 a (lifted f)) b)

dot4-crossing : (a b : Vec4) (f g : HalfSpace) → dot4 (crossing a b f) (lifted g) ≡ dot4 b (lifted f) *ℤ dot4 a (lifted g) -ℤ dot4 a (lifted f) *ℤ dot4 b (lifted g)
dot4-crossing a b f g = sums (dot4 b (lifted f)) (dot4 a (lifted f)) a b (lifted g)
  where
    sums : (k l : ℤ) (a b v : Vec4) → dot4 (plus4 (times4 k a) (times4 (pos 0 -ℤ l) b)) v ≡ k *ℤ dot4 a v -ℤ l *ℤ dot4 b v
    sums = identity (number ∷ number ∷ vector4 ∷ vector4 ∷ vector4 ∷ []) (λ k l a b v. term.dot4 (term.plus4 (term.times4 k a) (term.times4 (none ⊖ l) b)) v ≣ k ⊗ term.dot4 a v ⊖ l ⊗ term.dot4 b v) tt

-- ---- no face is missing
module _ (vertices : List V3) (faces : List HalfSpace) (solid : are_coplanar vertices ≡ false) (is : AreClosed vertices faces) where
  abbrev middle : Vec4
  middle = total (map within vertices)

  IsFace-faces : All (IsFace vertices) faces
  IsFace-faces = All-weaker (Contains (faces_of vertices)) (IsFace vertices) (λ g. All-contains (IsFace vertices) (faces_of vertices) g (IsFace-faces_of vertices)) faces is.each

  middle-pos : (g : HalfSpace) → IsFace vertices g → pos 0 <ℤ dot4 middle (lifted g)
  middle-pos g face = total-pos (map within vertices) (lifted g) (Spans-within vertices solid) (not_origin vertices g face) face.above

  -- the points of a face have a sum that is on it, and inside of each other face
  module _ (h : HalfSpace) (face : IsFace vertices h) where
    abbrev three : List Vec4
    three = within face.a ∷ within face.b ∷ within face.c ∷ []

    three-zero : dot4 (total three) (lifted h) ≡ pos 0
    three-zero =
        let own = through_own vertices h face in
        let P : Vec4 → Type 0 = λ m. dot4 m (lifted h) ≡ pos 0 in
        total-none three (lifted h) (All-from_recursion P three (own.a, (own.b, (own.c, tt))))

    three-pos : (g : HalfSpace) → IsFace vertices g → g ≢ h → pos 0 <ℤ dot4 (total three) (lifted g)
    three-pos g other apart = by_lt_z (pos 0) (dot4 (total three) (lifted g)) (λ lt. lt) (λ le. absurd (apart (same_face vertices solid h g face other (through le))))
      where
        above : IsAbove three (lifted g)
        above = All-from_recursion (λ m. pos 0 ≤ℤ dot4 m (lifted g)) three (at face.a face.a_in, (at face.b face.b_in, (at face.c face.c_in, tt)))
          where
            at : (r : V3) → Contains vertices r → pos 0 ≤ℤ dot4 (within r) (lifted g)
            at = above_at vertices (lifted g) other.above

        through : dot4 (total three) (lifted g) ≤ℤ pos 0 → IsThrough vertices h face (lifted g)
        through le =
            let zero = recursion_from_All (λ m. dot4 m (lifted g) ≡ pos 0) three (total-zero three (lifted g) above (omega (arith, ints, le, total-nonneg three (lifted g) above))) in
            record { a = zero.0; b = zero.1.0; c = zero.1.1.0 }

  -- ---- a vector outside of an edge is beyond the face that is joined there
  module _ (f g : HalfSpace) (face : IsFace vertices f) (other : IsFace vertices g) (apart : g ≢ f) where
    abbrev points : List Vec4
    points = map within (points_on vertices f)

    points-zero : dot4 (total points) (lifted f) ≡ pos 0
    points-zero =
        total-none points (lifted f)
        (All-map (λ m. dot4 m (lifted f) ≡ pos 0) within (points_on vertices f) (All-weaker (IsOn vertices f) (λ r. dot4 (within r) (lifted f) ≡ pos 0) (λ r on. on.on) (points_on vertices f) (IsOn-points_on vertices f face)))

    points-pos : pos 0 <ℤ dot4 (total points) (lifted g)
    points-pos = by_lt_z (pos 0) (dot4 (total points) (lifted g)) (λ lt. lt) (λ le. absurd (apart (same_face vertices solid f g face other (through le))))
      where
        above : IsAbove points (lifted g)
        above =
            All-map (λ m. pos 0 ≤ℤ dot4 m (lifted g)) within (points_on vertices f)
            (All-weaker (IsOn vertices f) (λ r. pos 0 ≤ℤ dot4 (within r) (lifted g)) (λ r on. above_at vertices (lifted g) other.above r on.in_list) (points_on vertices f) (IsOn-points_on vertices f face))

        through : dot4 (total points) (lifted g) ≤ℤ pos 0 → IsThrough vertices f face (lifted g)
        through le =
            let zero = total-zero points (lifted g) above (omega (arith, ints, le, total-nonneg points (lifted g) above)) in
            let own = All-own vertices f face (λ r. dot4 (within r) (lifted g) ≡ pos 0) (All-from_map (λ m. dot4 m (lifted g) ≡ pos 0) within (points_on vertices f) zero) in
            record { a = own.0; b = own.1; c = own.2 }

    below_joined : (x : Vec4) (e : IsOutward vertices f x) → dot4 x (lifted f) ≡ pos 0 → side_of g e.p ≡ pos 0 → side_of g e.q ≡ pos 0 → dot4 x (lifted g) <ℤ pos 0
    below_joined x e on at_p at_q = by_lt_z (dot4 x (lifted g)) (pos 0) (λ lt. lt) (λ le. absurd (no le))
      where
        k : ℤ
        k = dot4 (upright f) (lifted f)

        k_pos : pos 0 <ℤ k
        k_pos = upright-pos vertices f face

        w : Vec4
        w = wall f e.p e.q

        at : (r : V3) → side_of f r ≡ pos 0 → side_of g r ≡ pos 0 → dot4 (within r) (turned f g) ≡ pos 0
        at r on_f on_g = dot4-turned f g (within r) (omega (arith, ints, on_f, dot4-within f r)) ∙ ap (λ (z : ℤ). k *ℤ z) {y = pos 0} (omega (arith, ints, on_g, dot4-within g r)) ∙ mul-zero k

        no : pos 0 ≤ℤ dot4 x (lifted g) → ⊥
        no le =
            let s = total points in
            let gs = dot4 s (lifted g) in
            let gx = dot4 x (lifted g) in
            omega (
              arith,
              ints,
              at_three (within e.q) (within e.p) (upright f) x s (turned f g) (at e.q e.edge.second at_q) (at e.p e.edge.first at_p) (dot4-upright_turned f g),
              ap (λ (z : ℤ). dot4 x w *ℤ z) (dot4-turned f g s points-zero),
              ap (λ (z : ℤ). dot4 s w *ℤ z) (dot4-turned f g x on),
              mul_pos_neg (k *ℤ gs) (dot4 x w) (mul_pos k gs k_pos points-pos) e.outside,
              mul_nonneg (dot4 s w) (k *ℤ gx) (omega (arith, ints, e.inside)) (mul_nonneg k gx (omega (arith, ints, k_pos)) le),
            )

  -- ---- so no face is missing
  missing : (h : HalfSpace) → IsFace vertices h → All (λ g. g ≢ h) faces → ⊥
  missing h face others =
      from (least_member (λ g. dot4 t (lifted g)) (λ g. dot4 middle (lifted g)) faces is.some is.some_in (All-weaker (IsFace vertices) (λ g. pos 0 <ℤ dot4 middle (lifted g)) middle-pos faces IsFace-faces))
    where
      t : Vec4
      t = total (three h face)

      from : (f : HalfSpace) × IsLeast (λ g. dot4 t (lifted g)) (λ g. dot4 middle (lifted g)) faces f → ⊥
      from (f, least) = joined (All-contains (IsClosedAt vertices faces) faces f is.closed least.in_list edge.p edge.q edge.edge)
        where
          f_face : IsFace vertices f
          f_face = All-contains (IsFace vertices) faces f IsFace-faces least.in_list

          x : Vec4
          x = crossing t middle f

          on : dot4 x (lifted f) ≡ pos 0
          on = omega (arith, ints, dot4-crossing t middle f f)

          outside : dot4 x (lifted h) <ℤ pos 0
          outside = omega (
            arith,
            ints,
            dot4-crossing t middle f h,
            ap (λ (z : ℤ). dot4 middle (lifted f) *ℤ z) (three-zero h face),
            mul_pos (dot4 t (lifted f)) (dot4 middle (lifted h)) (three-pos h face f f_face (All-contains (λ g. g ≢ h) faces f others least.in_list)) (middle-pos h face),
          )

          edge : IsOutward vertices f x
          edge = outward vertices f f_face x h on face.above outside

          joined : IsJoined faces f edge.p edge.q → ⊥
          joined other = omega (
            arith,
            ints,
            below_joined f other.other f_face (All-contains (IsFace vertices) faces other.other IsFace-faces other.is_face) other.apart x edge on other.first other.second,
            dot4-crossing t middle f other.other,
            All-contains (λ g. (dot4 t (lifted f) *ℤ dot4 middle (lifted g)) ≤ℤ (dot4 t (lifted g) *ℤ dot4 middle (lifted f))) faces other.other least.least other.is_face,
          )

pub closed_faces_are_all : ClosedFacesAreAll
closed_faces_are_all vertices faces solid is =
    All-weaker (IsFace vertices) (Contains faces) (λ h face. ⊎_elim (λ m. m) (λ others. absurd (missing vertices faces solid is h face others)) (one_or_other h faces)) (faces_of vertices) (IsFace-faces_of vertices)
