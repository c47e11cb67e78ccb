-- Where each face is reached, the mean of the points is strictly inside all faces, and then no plane is between.
use Rattle.std.proofs.Common.{get_or, ◌≡◌, ◌⊎◌, inl, inr, true, false, Some, pos, ◌-ℤ◌, ◌*ℤ◌, ◌≤ℤ◌, ◌<ℤ◌, List, [], ◌∷◌, ◌++◌, map, All, Contains, refl, sym, ap, subst, arith}
use Rattle.std.proofs.lemmas.Bool.{and_parts}
use Rattle.std.proofs.lemmas.List.Elements.{All-nil, All-from_recursion, All-cons, All-head, All-tail, All-weaker, All-map, All-append, All-contains, All-contains_itself}
use Rattle.gx_num.specs.declared.vector.V3.{V3}
use Rattle.gx_num.specs.Space.{HalfSpace, normal_dot, is_inside}
use Rattle.gx_num.specs.Vector4.{Vec4, origin, dot4, plus4}
use Rattle.gx_algebra.proofs.Terms as term
use Rattle.gx_algebra.proofs.Terms.{◌≣◌, ◌⊖◌, ◌⊗◌, none}
use Rattle.gx_algebra.proofs.Identity.{identity, vector4, half_space}
use Rattle.gx_algebra.proofs.Identities.{dot4-plus4, dot4-origin}
use Rattle.gx_algebra.proofs.Lists.{All-from_map, All-append_parts, Contains-head}
use Rattle.gx_plane.specs.Laws.{IsAbove}
use Rattle.gx_plane.specs.Plane.{supports, flipped, is_zero}
use Rattle.gx_plane.specs.Between.{is_between, candidates}
use Rattle.gx_plane.proofs.Divisors.{unsigned_abs-opposite}
use Rattle.gx_convex.specs.Points.{are_coplanar}
use Rattle.gx_convex.specs.Faces.{faces_of}
use Rattle.gx_convex.specs.Extent.{extent_of}
use Rattle.gx_convex.proofs.Truth.{Decides-is_inside}
use Rattle.gx_convex.proofs.FaceFacts.{proper_candidates, implied}
use Rattle.gx_convex.proofs.Strict.{strict}
use Rattle.gx_separate.specs.Between.{axis_planes, first_between}
use Rattle.gx_common.specs.Common.{candidate_points}
use Rattle.gx_common.specs.Laws.{IsReached, AreReached, IsInsideBoth}
use Rattle.gx_common.proofs.Lists.{find_some}
use Rattle.gx_common.proofs.Mixes.{against, dot4-against, mix_of, proper_or_zero}
use Rattle.gx_common.proofs.Apart.{members}
use Rattle.gx_common.proofs.Reached.{Decides-is_strict, reached_from_common, candidates_above}
use borrow.Author.Differences.{ints}

-- ---- the mean of points that are in all half-spaces, one strictly inside each, is strictly inside all
-- a point in all half-spaces and strictly inside this one
abbrev IsStrictAt : List Vec4 → Vec4 → Type 0
IsStrictAt ms m = (p : Vec4) × IsAbove ms p × (pos 0 <ℤ dot4 m p)

record IsMean (ms ls : List Vec4) : Type 0 where
  point : Vec4
  above : IsAbove ms point
  strict : All (λ m. pos 0 <ℤ dot4 m point) ls

mean : (ms ls : List Vec4) → All (Contains ms) ls → All (IsStrictAt ms) ls → IsMean ms ls
mean ms [] c h = record {
  point = origin;
  above = All-weaker (Contains ms) (λ m. pos 0 ≤ℤ dot4 m origin) (λ m k. omega (arith, ints, dot4-origin m)) ms (All-contains_itself ms);
  strict = All-nil (λ m. pos 0 <ℤ dot4 m origin);
}
mean ms (l ∷ ls) c h = add (All-head (IsStrictAt ms) l ls h) (mean ms ls (All-tail (Contains ms) l ls c) (All-tail (IsStrictAt ms) l ls h))
  where
    add : IsStrictAt ms l → IsMean ms ls → IsMean ms (l ∷ ls)
    add (p, above, lt) r = record {
      point = plus4 p r.point;
      above = λ i d k. omega (arith, ints, dot4-plus4 (get_or ms i d) p r.point, above i d k, r.above i d k);
      strict = All-cons (λ m. pos 0 <ℤ dot4 m (plus4 p r.point)) l ls
          (omega (arith, ints, lt, dot4-plus4 l p r.point, All-contains (λ m. pos 0 ≤ℤ dot4 m r.point) ms l r.above (All-head (Contains ms) l ls c)))
          (λ i d k. omega (arith, ints, dot4-plus4 (get_or ls i d) p r.point, r.strict i d k, All-contains (λ m. pos 0 ≤ℤ dot4 m p) ms (get_or ls i d) above (All-tail (Contains ms) l ls c i d k)));
    }

-- ---- a point inside both
pub some_face : (a : List V3) → are_coplanar a ≡ false → (h : HalfSpace) × Contains (faces_of a) h
some_face a solid = go (faces_of a) refl
  where
    below : Vec4
    below = record { x = pos 0; y = pos 0; z = pos 0; w = pos 0 -ℤ pos 1 }

    go : (hs : List HalfSpace) → faces_of a ≡ hs → (h : HalfSpace) × Contains (faces_of a) h
    go (h ∷ hs) e = (h, subst (λ (gs : List HalfSpace). Contains gs h) (sym e) (Contains-head h hs))
    go [] e = absurd (no (proper_or_zero a below (mix_of a solid below (subst (λ (gs : List HalfSpace). IsAbove (map against gs) below) (sym e) (All-nil (λ m. pos 0 ≤ℤ dot4 m below))))))
      where
        no : (below ≡ origin) ⊎ (pos 0 <ℤ below.w) → ⊥
        no (inl f) = omega (arith, ints, ap (λ (v : Vec4). v.w) f)
        no (inr lt) = omega (arith, ints, lt)

pub inside_from_reached : (a b : List V3) → are_coplanar a ≡ false → AreReached a b → IsInsideBoth (faces_of a) (faces_of b)
inside_from_reached a b solid r = of (mean (members a b) (members a b) (All-contains_itself (members a b)) each)
  where
    reached : (hs : List HalfSpace) → All (IsReached (candidate_points a b)) hs → All (IsStrictAt (members a b)) (map against hs)
    reached hs h =
        All-map (IsStrictAt (members a b)) against hs
        (All-weaker (IsReached (candidate_points a b)) (λ h. IsStrictAt (members a b) (against h)) (λ h k. (k.point, All-contains (IsAbove (members a b)) (candidate_points a b) k.point (candidates_above a b) k.in_list, (Decides-is_strict h k.point).0 k.strict)) hs h)

    each : All (IsStrictAt (members a b)) (members a b)
    each =
        let parts = All-append_parts (IsReached (candidate_points a b)) (faces_of a) (faces_of b) r in
        All-append (IsStrictAt (members a b)) (map against (faces_of a)) (map against (faces_of b)) (reached (faces_of a) parts.0) (reached (faces_of b) parts.1)

    of : IsMean (members a b) (members a b) → IsInsideBoth (faces_of a) (faces_of b)
    of m = record {
      point = m.point;
      proper = proper (proper_or_zero a m.point (mix_of a solid m.point (All-append_parts (λ n. pos 0 ≤ℤ dot4 n m.point) (map against (faces_of a)) (map against (faces_of b)) m.above).0));
      inside = inside_by (faces_of a) parts.0;
      inside_other = inside_by (faces_of b) parts.1;
    }
      where
        parts : All (λ n. pos 0 <ℤ dot4 n m.point) (map against (faces_of a)) × All (λ n. pos 0 <ℤ dot4 n m.point) (map against (faces_of b))
        parts = All-append_parts (λ n. pos 0 <ℤ dot4 n m.point) (map against (faces_of a)) (map against (faces_of b)) m.strict

        inside_by : (hs : List HalfSpace) → All (λ n. pos 0 <ℤ dot4 n m.point) (map against hs) → is_inside hs m.point ≡ true
        inside_by hs k =
            (Decides-is_inside hs m.point).1 (All-weaker (λ h. pos 0 <ℤ dot4 (against h) m.point) (λ h. normal_dot h m.point <ℤ (h.e *ℤ m.point.w)) (λ h k. omega (arith, ints, k, dot4-against h m.point)) hs (All-from_map (λ n. pos 0 <ℤ dot4 n m.point) against hs k))

        proper : (m.point ≡ origin) ⊎ (pos 0 <ℤ m.point.w) → pos 0 <ℤ m.point.w
        proper (inr lt) = lt
        proper (inl e) =
            let face = some_face a solid in
            let up : pos 0 <ℤ dot4 (against face.0) m.point = All-contains (λ h. pos 0 <ℤ dot4 (against h) m.point) (faces_of a) face.0 (All-from_map (λ n. pos 0 <ℤ dot4 n m.point) against (faces_of a) parts.0) face.1 in
            absurd (omega (arith, ints, up, ap (dot4 (against face.0)) e, dot4-origin (against face.0)))

pub reached_from_inside : (a b : List V3) → are_coplanar a ≡ false → are_coplanar b ≡ false → IsInsideBoth (faces_of a) (faces_of b) → AreReached a b
reached_from_inside a b solid_a solid_b i = All-append (IsReached (candidate_points a b)) (faces_of a) (faces_of b) (each (faces_of a) strict_a) (each (faces_of b) strict_b)
  where
    IsStrict : HalfSpace → Type 0
    IsStrict h = pos 0 <ℤ dot4 (against h) i.point

    stricts : (hs : List HalfSpace) → is_inside hs i.point ≡ true → All IsStrict hs
    stricts hs e = All-weaker (λ h. normal_dot h i.point <ℤ (h.e *ℤ i.point.w)) IsStrict (λ h lt. omega (arith, ints, lt, dot4-against h i.point)) hs ((Decides-is_inside hs i.point).0 e)

    strict_a : All IsStrict (faces_of a)
    strict_a = stricts (faces_of a) i.inside

    strict_b : All IsStrict (faces_of b)
    strict_b = stricts (faces_of b) i.inside_other

    weak : (hs : List HalfSpace) → All IsStrict hs → IsAbove (map against hs) i.point
    weak hs k =
        All-map (λ m. pos 0 ≤ℤ dot4 m i.point) against hs (All-weaker IsStrict (λ h. pos 0 ≤ℤ dot4 (against h) i.point) (λ h lt. omega (arith, ints, lt)) hs k)

    above : IsAbove (members a b) i.point
    above =
        All-append (λ m. pos 0 ≤ℤ dot4 m i.point) (map against (faces_of a)) (map against (faces_of b)) (weak (faces_of a) strict_a) (weak (faces_of b) strict_b)

    each : (hs : List HalfSpace) → All IsStrict hs → All (IsReached (candidate_points a b)) hs
    each hs k = All-weaker IsStrict (IsReached (candidate_points a b)) (λ h lt. reached_from_common a b solid_a solid_b h i.point (record { above = above; strict = lt })) hs k

-- ---- no plane is between two solids with a point inside both
-- what is found is a plane, and is between
pub record IsPlaneBetween (a b : List V3) (h : HalfSpace) : Type 0 where
  pub plane : is_zero h.n ≡ false
  pub bounds : supports h a ≡ true
  pub bounds_other : supports (flipped h) b ≡ true

pub plane_between : (a b : List V3) (h : HalfSpace) → first_between a b ≡ Some h → IsPlaneBetween a b h
plane_between a b h e = record {
  plane = All-contains (λ h. is_zero h.n ≡ false) planes h all found.0;
  bounds = tests.0;
  bounds_other = tests.1;
}
  where
    planes : List HalfSpace
    planes = axis_planes (extent_of a) ++ candidates (a ++ b)

    all : All (λ h. is_zero h.n ≡ false) planes
    all =
        All-append (λ h. is_zero h.n ≡ false) (axis_planes (extent_of a)) (candidates (a ++ b))
        (All-from_recursion (λ h. is_zero h.n ≡ false) (axis_planes (extent_of a)) (refl, (refl, (refl, (refl, (refl, (refl, tt)))))))
        (proper_candidates (a ++ b))

    found : Contains planes h × (is_between a b h ≡ true)
    found = find_some (is_between a b) planes h e

    tests : (supports h a ≡ true) × (supports (flipped h) b ≡ true)
    tests = and_parts (supports h a) (supports (flipped h) b) found.1

pub normal_dot-flipped : (h : HalfSpace) (p : Vec4) → normal_dot (flipped h) p -ℤ (flipped h).e *ℤ p.w ≡ h.e *ℤ p.w -ℤ normal_dot h p
normal_dot-flipped = identity (half_space ∷ vector4 ∷ []) (λ h p. term.normal_dot (record { n = record { x = none ⊖ h.n.x; y = none ⊖ h.n.y; z = none ⊖ h.n.z }; e = none ⊖ h.e }) p ⊖ (none ⊖ h.e) ⊗ p.w ≣ h.e ⊗ p.w ⊖ term.normal_dot h p) tt

pub never : (a b : List V3) → are_coplanar a ≡ false → are_coplanar b ≡ false → (h : HalfSpace) → first_between a b ≡ Some h → IsInsideBoth (faces_of a) (faces_of b) → ⊥
never a b solid_a solid_b h e i = omega (arith, ints, first, second, normal_dot-flipped h i.point)
  where
    is : IsPlaneBetween a b h
    is = plane_between a b h e

    flipped_plane : is_zero (flipped h).n ≡ false
    flipped_plane = rw (unsigned_abs-opposite h.n.x, unsigned_abs-opposite h.n.y, unsigned_abs-opposite h.n.z) is.plane

    first : normal_dot h i.point <ℤ (h.e *ℤ i.point.w)
    first = strict (faces_of a) h is.plane (λ q w k. implied a solid_a h is.bounds q k) i.point i.proper i.inside

    second : normal_dot (flipped h) i.point <ℤ ((flipped h).e *ℤ i.point.w)
    second = strict (faces_of b) (flipped h) flipped_plane (λ q w k. implied b solid_b (flipped h) is.bounds_other q k) i.point i.proper i.inside_other
