-- Where no common point is strictly inside a face, a plane is between: the opposite of the face is a sum of faces of both, and the part
-- that comes from the face's own solid is that plane. Then a candidate is between.
use Rattle.std.proofs.Common.{◌≡◌, ◌⊎◌, inl, inr, ℕ, true, false, ◌&&◌, Option, Some, None, ℤ, pos, ◌+ℤ◌, ◌-ℤ◌, ◌*ℤ◌, ◌≤ℤ◌, ◌<ℤ◌, List, [], ◌∷◌, ◌++◌, map, drop, find, length, All, Contains, refl, sym, ap, ◌∙◌, arith, true≢false}
use Rattle.std.proofs.Math.Bool.{and_comm}
use Rattle.std.specs.Option.{option_or}
use Rattle.std.proofs.lemmas.Int.{by_lt_z}
use Rattle.std.proofs.lemmas.List.Elements.{All-weaker, All-map, All-contains, All-contains_itself}
use Rattle.std.proofs.lemmas.List.Folds.{find-append}
use Rattle.gx_num.specs.declared.vector.V3.{V3}
use Rattle.gx_num.specs.Space.{HalfSpace}
use Rattle.gx_num.specs.Vector4.{Vec4, origin, dot4, plus4, times4, opposite4}
use Rattle.gx_algebra.proofs.Terms as term
use Rattle.gx_algebra.proofs.Terms.{◌≣◌, ◌≣⁴◌, ◌⊖◌, ◌⊗◌, none}
use Rattle.gx_algebra.proofs.Identity.{identity, identity4, number, vector4, half_space}
use Rattle.gx_algebra.proofs.Identities.{dot4_comm, dot4-plus4, dot4-times4, dot4-opposite4}
use Rattle.gx_algebra.proofs.Lists.{All-append_parts}
use Rattle.gx_algebra.proofs.Order.{mul_nonneg, mul_pos}
use Rattle.gx_plane.specs.Laws.{IsAbove, Spans, IsSeparated, IsInCone, combination}
use Rattle.gx_plane.specs.Plane.{side_of, supports, flipped, is_zero}
use Rattle.gx_plane.specs.Between.{is_between, candidates}
use Rattle.gx_plane.proofs.Cones.{found, dot4-combination}
use Rattle.gx_plane.proofs.Complete.{lifted, within, beyond, sides, dot4-within, Decides-is_between, none_between}
use Rattle.gx_plane.proofs.PlaneFacts.{Decides-supports, side_of-flipped, flipped-flipped}
use Rattle.gx_convex.specs.Points.{are_coplanar}
use Rattle.gx_convex.specs.Hull.{IsBound}
use Rattle.gx_convex.specs.Faces.{faces_of}
use Rattle.gx_convex.specs.Extent.{extent_of}
use Rattle.gx_convex.proofs.Spanning.{Spans-within}
use Rattle.gx_separate.specs.Between.{axis_planes, first_between}
use Rattle.gx_common.specs.Common.{point_of}
use Rattle.gx_common.proofs.Lists.{every_or}
use Rattle.gx_common.proofs.Mixes.{against, half_of, half_of_side, dot4-against_point, above_vertex, Spans-faces}
use borrow.Author.Differences.{ints}

-- ---- a plane between, with something off it
pub record IsApart (a b : List V3) : Type 0 where
  pub plane : HalfSpace
  pub off : Vec4
  pub between : is_between a b plane ≡ true
  pub beyond : pos 0 <ℤ dot4 off (lifted plane)

-- the same with the two exchanged
pub exchanged : (a b : List V3) → IsApart b a → IsApart a b
exchanged a b s = record {
  plane = flipped h;
  off = opposite4 s.off;
  between = ap (λ (k : HalfSpace). supports (flipped h) a && supports k b) (flipped-flipped h) ∙ and_comm (supports (flipped h) a) (supports h b) ∙ s.between;
  beyond = rw (off_flipped s.off h) s.beyond;
}
  where
    h : HalfSpace
    h = s.plane

    off_flipped : (v : Vec4) (h : HalfSpace) → dot4 (opposite4 v) (lifted (flipped h)) ≡ dot4 v (lifted h)
    off_flipped = identity (vector4 ∷ half_space ∷ []) (λ v h. term.dot4 (term.opposite4 v) (record { x = none ⊖ h.n.x; y = none ⊖ h.n.y; z = none ⊖ h.n.z; w = none ⊖ h.e }) ≣ term.dot4 v (record { x = h.n.x; y = h.n.y; z = h.n.z; w = h.e })) tt

-- ---- a sum of members of two lists, in two parts
plus4-origin : (v : Vec4) → v ≡ plus4 origin v
plus4-origin = identity4 (vector4 ∷ []) (λ v. v ≣⁴ term.plus4 term.origin v) tt

plus4_assoc : (u v w : Vec4) → plus4 u (plus4 v w) ≡ plus4 (plus4 u v) w
plus4_assoc = identity4 (vector4 ∷ vector4 ∷ vector4 ∷ []) (λ u v w. term.plus4 u (term.plus4 v w) ≣⁴ term.plus4 (term.plus4 u v) w) tt

combination-append : (ks : List ℕ) (xs ys : List Vec4) → combination ks (xs ++ ys) ≡ plus4 (combination ks xs) (combination (drop (length xs) ks) ys)
combination-append [] [] ys = refl
combination-append [] (x ∷ xs) ys = refl
combination-append (k ∷ ks) [] ys = plus4-origin (combination (k ∷ ks) ys)
combination-append (k ∷ ks) (x ∷ xs) ys =
    ap (plus4 (times4 (pos k) x)) (combination-append ks xs ys) ∙ plus4_assoc (times4 (pos k) x) (combination ks xs) (combination (drop (length xs) ks) ys)

-- ---- the faces of both
abbrev pub members : List V3 → List V3 → List Vec4
members a b = map against (faces_of a) ++ map against (faces_of b)

pub Spans-members : (a b : List V3) → are_coplanar a ≡ false → Spans (members a b)
Spans-members a b solid v h =
    Spans-faces a solid v (All-append_parts (λ m. dot4 m v ≡ pos 0) (map against (faces_of a)) (map against (faces_of b)) h).0

-- a vertex strictly inside a half-space
abbrev IsOff : List V3 → HalfSpace → Type 0
IsOff a h = (p : V3) × Contains a p × (pos 0 <ℤ dot4 (against h) (point_of p))

-- not all vertices are on a face
off_face : (a : List V3) → are_coplanar a ≡ false → (h : HalfSpace) → IsBound a h → IsOff a h
off_face a solid h b = go (every_or (λ p. side_of h p ≡ pos 0) (IsOff a h) a each)
  where
    each : (p : V3) → Contains a p → (side_of h p ≡ pos 0) ⊎ IsOff a h
    each p c =
        by_lt_z (side_of h p) (pos 0)
        (λ lt. inr (p, c, omega (arith, ints, lt, dot4-against_point h p)))
        (λ le. inl (omega (arith, ints, le, All-contains (λ q. side_of h q ≤ℤ pos 0) a p ((Decides-supports h a).0 b.supports) c)))

    go : All (λ p. side_of h p ≡ pos 0) a ⊎ IsOff a h → IsOff a h
    go (inr w) = w
    go (inl on) =
        let zero : lifted h ≡ origin = Spans-within a solid (lifted h) (All-map (λ m. dot4 m (lifted h) ≡ pos 0) within a (All-weaker (λ p. side_of h p ≡ pos 0) (λ p. dot4 (within p) (lifted h) ≡ pos 0) (λ p k. omega (arith, ints, k, dot4-within h p)) a on)) in
        absurd (true≢false (sym (ap (λ (v : Vec4). is_zero (record { x = v.x; y = v.y; z = v.z })) zero) ∙ b.plane))

-- ---- a common point strictly inside the face, or a plane between
pub record IsCommon (a b : List V3) (m p : Vec4) : Type 0 where
  pub above : IsAbove (members a b) p
  pub strict : pos 0 <ℤ dot4 m p

pub common_or_apart : (a b : List V3) → are_coplanar a ≡ false → (h : HalfSpace) → IsBound a h → ((p : Vec4) × IsCommon a b (against h) p) ⊎ IsApart a b
common_or_apart a b solid h bound = go (found (length (members a b)) (members a b) (opposite4 (against h)) refl)
  where
    go : IsSeparated (members a b) (opposite4 (against h)) ⊎ IsInCone (members a b) (opposite4 (against h)) → ((p : Vec4) × IsCommon a b (against h) p) ⊎ IsApart a b
    go (inl q) = inl (
      q.by,
      record {
        above = q.above;
        strict = omega (arith, ints, q.below, dot4_comm (opposite4 (against h)) q.by, dot4-opposite4 q.by (against h), dot4_comm (against h) q.by);
      },
    )
    go (inr q) = inr (record {
      plane = plane;
      off = within off.0;
      between = both ((Decides-supports plane a).1 (All-weaker (Contains a) (λ p. side_of plane p ≤ℤ pos 0) in_a a (All-contains_itself a))) ((Decides-supports (flipped plane) b).1 (All-weaker (Contains b) (λ p. side_of (flipped plane) p ≤ℤ pos 0) in_b b (All-contains_itself b)));
      beyond = omega (arith, ints, dot4-within plane off.0, half_of_side v off.0, v_is (point_of off.0), own off.0 off.1, mul_pos k (dot4 (against h) (point_of off.0)) positive off.2);
    })
      where
        k : ℤ
        k = pos q.multiple

        positive : pos 0 <ℤ k
        positive = omega (arith, ints, q.positive)

        first : Vec4
        first = combination q.multiples (map against (faces_of a))

        second : Vec4
        second = combination (drop (length (map against (faces_of a))) q.multiples) (map against (faces_of b))

        v : Vec4
        v = plus4 (times4 k (against h)) first

        plane : HalfSpace
        plane = half_of v

        both : supports plane a ≡ true → supports (flipped plane) b ≡ true → is_between a b plane ≡ true
        both s t = rw (s, t) refl

        off : IsOff a h
        off = off_face a solid h bound

        v_is : (p : Vec4) → dot4 v p ≡ k *ℤ dot4 (against h) p +ℤ dot4 p first
        v_is p = omega (arith, ints, dot4_comm v p, dot4-plus4 p (times4 k (against h)) first, dot4-times4 k p (against h), ap (λ (z : ℤ). k *ℤ z) (dot4_comm p (against h)))

        own : (p : V3) → Contains a p → pos 0 ≤ℤ dot4 (point_of p) first
        own p c = dot4-combination q.multiples (map against (faces_of a)) (point_of p) (above_vertex a p c)

        in_a : (p : V3) → Contains a p → side_of plane p ≤ℤ pos 0
        in_a p c =
            let face : pos 0 ≤ℤ dot4 (against h) (point_of p) = omega (arith, ints, dot4-against_point h p, All-contains (λ x. side_of h x ≤ℤ pos 0) a p ((Decides-supports h a).0 bound.supports) c) in
            omega (arith, ints, half_of_side v p, v_is (point_of p), own p c, mul_nonneg k (dot4 (against h) (point_of p)) (omega (arith, ints, positive)) face)

        rest : (p : Vec4) → dot4 v p ≡ pos 0 -ℤ dot4 p second
        rest p =
            let sum : dot4 p (times4 k (opposite4 (against h))) ≡ dot4 p (plus4 first second) = ap (dot4 p) (q.sum ∙ combination-append q.multiples (map against (faces_of a)) (map against (faces_of b))) in
            omega (arith, ints, v_is p, sum, dot4-plus4 p first second, turn k p (against h))
          where
            turn : (k : ℤ) (p m : Vec4) → dot4 p (times4 k (opposite4 m)) ≡ pos 0 -ℤ k *ℤ dot4 m p
            turn = identity (number ∷ vector4 ∷ vector4 ∷ []) (λ k p m. term.dot4 p (term.times4 k (term.opposite4 m)) ≣ none ⊖ k ⊗ term.dot4 m p) tt

        in_b : (p : V3) → Contains b p → side_of (flipped plane) p ≤ℤ pos 0
        in_b p c = omega (arith, ints, side_of-flipped plane p, half_of_side v p, rest (point_of p), dot4-combination (drop (length (map against (faces_of a))) q.multiples) (map against (faces_of b)) (point_of p) (above_vertex b p c))

-- ---- some plane between gives a candidate
pub candidate_between : (a b : List V3) → are_coplanar a ≡ false → IsApart a b → (h : HalfSpace) × (first_between a b ≡ Some h)
candidate_between a b solid s = go (first_between a b) refl
  where
    spans : Spans (sides a b)
    spans v h =
        Spans-within a solid v (All-append_parts (λ m. dot4 m v ≡ pos 0) (map within a) (map beyond b) h).0

    second_none : (r t : Option HalfSpace) → option_or r t ≡ None → t ≡ None
    second_none None t e = e
    second_none (Some h) t e = cc

    go : (o : Option HalfSpace) → first_between a b ≡ o → (h : HalfSpace) × (first_between a b ≡ Some h)
    go (Some h) e = (h, e)
    go None e =
        absurd (none_between a b s.plane s.off spans (record { above = (Decides-is_between a b s.plane).0 s.between; beyond = s.beyond })
        (second_none (find (is_between a b) (axis_planes (extent_of a))) (find (is_between a b) (candidates (a ++ b)))
        (sym (find-append (is_between a b) (axis_planes (extent_of a)) (candidates (a ++ b))) ∙ e)))
