-- The common points of two solids show that their insides meet.
use Rattle.std.proofs.Common.{get_or, ◌≡◌, ◌⊎◌, inl, inr, ℕ, ◌*◌, ◌/◌, Bool, ◌&&◌, true, false, cond, Option, Some, None, ℤ, pos, negsuc, neg_ℤ, ◌*ℤ◌, ◌≤ℤ◌, ◌<ℤ◌, int_div, int_lt, unsigned_abs, List, [], ◌∷◌, ◌++◌, map, filter, filter_map, find, All, Contains, refl, sym, ap, ◌∙◌, subst, arith, suc}
use Rattle.std.specs.Int.{◌∣◌}
use Rattle.std.specs.Option.{option_map, option_and_then}
use Rattle.std.specs.Ordering.{int_eq}
use Rattle.std.proofs.Math.Nat.{div-add-mod}
use Rattle.std.proofs.lemmas.Nat.Gcd.{mod-eq-zero_of_dvd}
use Rattle.std.proofs.lemmas.Bool.{and_parts}
use Rattle.std.proofs.lemmas.Bool.Decides.{Decides-int_eq}
use Rattle.std.proofs.lemmas.List.Elements.{All-nil, All-cons, All-head, All-tail, All-weaker, All-map, All-append, All-filter, All-contains, All-contains_itself}
use Rattle.gx_num.specs.declared.vector.V3.{V3}
use Rattle.gx_num.specs.Space.{HalfSpace, normal_dot, is_in, is_inside}
use Rattle.gx_num.specs.Vector4.{Vec4, dot4, times4, divisor_of4, lowest4}
use Rattle.gx_num.proofs.Divisors.{IsDivisor-common_divisor}
use Rattle.gx_num.proofs.Points.{divisor_of4-pos}
use Rattle.gx_algebra.proofs.Identities.{same4, dot4-times4, dot4-plus4, dot4-origin}
use Rattle.gx_algebra.proofs.Lists.{All-append_parts, Contains-head, Contains-tail, Contains-cases, Contains-map}
use Rattle.gx_algebra.proofs.Order.{mul-neg, nonneg_of_mul, pos_of_mul}
use Rattle.gx_plane.specs.Laws.{IsAbove}
use Rattle.gx_plane.specs.Plane.{side_of}
use Rattle.gx_plane.specs.Between.{pairs_of}
use Rattle.gx_convex.specs.Points.{distinct_by}
use Rattle.gx_convex.specs.Faces.{faces_of}
use Rattle.gx_convex.specs.Laws.{AreTheSolid}
use Rattle.gx_convex.proofs.Cutting.{faces_are_the_solid}
use Rattle.gx_convex.proofs.Distinct.{All-distinct_by, All-from_distinct_by}
use Rattle.gx_convex.proofs.Truth.{Decides-is_inside}
use Rattle.gx_common.specs.Common.{point_of, mixed, crossing, crossings, candidate_points, is_strict, taken, taken_of, is_same_point}
use Rattle.gx_common.specs.Laws.{IsReached, mean_of, AreShown, PointsShow}
use Rattle.gx_common.proofs.Lists.{find_some, All-filter_map, All-flat_map}
use Rattle.gx_common.proofs.Mixes.{against, dot4-against, in_from_above}
use Rattle.gx_common.proofs.Apart.{members}
use Rattle.gx_common.proofs.Reached.{Decides-is_strict, candidates_above}
use Rattle.gx_common.proofs.Inside.{some_face}
use borrow.Author.Differences.{ints}

-- ---- a point in lowest terms is the same point
whole_quotient : (a : ℤ) (d : ℕ) → d ∣ unsigned_abs a → pos d *ℤ int_div a (pos d) ≡ a
whole_quotient (pos n) d h = ap pos (omega (arith, div-add-mod n d, mod-eq-zero_of_dvd d h))
whole_quotient (negsuc n) d h = go (suc n / d) (omega (arith, div-add-mod (suc n) d, mod-eq-zero_of_dvd d h))
  where
    go : (q : ℕ) → d * q ≡ suc n → pos d *ℤ neg_ℤ (pos q) ≡ negsuc n
    go q e = omega (arith, ints, e, mul-neg (pos d) (pos q))

-- p is a multiple of it, by a number above 0
pub lowest4-times : (p : Vec4) → p ≡ times4 (pos (divisor_of4 p)) (lowest4 p)
lowest4-times p =
    let all = (IsDivisor-common_divisor (unsigned_abs p.x ∷ unsigned_abs p.y ∷ unsigned_abs p.z ∷ unsigned_abs p.w ∷ [])).divides in
    sym (same4 (times4 (pos (divisor_of4 p)) (lowest4 p)) p (whole_quotient p.x (divisor_of4 p) all.0) (whole_quotient p.y (divisor_of4 p) all.1.0) (whole_quotient p.z (divisor_of4 p) all.1.1.0) (whole_quotient p.w (divisor_of4 p) all.1.1.1.0))

-- what a product with a point tells, the product with the point in lowest terms does
module _ (p : Vec4) (positive : pos 0 <ℤ p.w) where
  scaled : (m : Vec4) → dot4 m p ≡ pos (divisor_of4 p) *ℤ dot4 m (lowest4 p)
  scaled m = ap (dot4 m) (lowest4-times p) ∙ dot4-times4 (pos (divisor_of4 p)) m (lowest4 p)

  some : pos 0 <ℤ pos (divisor_of4 p)
  some = omega (arith, ints, divisor_of4-pos p positive)

  above_lowest : (m : Vec4) → pos 0 ≤ℤ dot4 m p → pos 0 ≤ℤ dot4 m (lowest4 p)
  above_lowest m h = nonneg_of_mul (pos (divisor_of4 p)) (dot4 m (lowest4 p)) some (rw (scaled m) at h)

  strict_lowest : (m : Vec4) → pos 0 <ℤ dot4 m p → pos 0 <ℤ dot4 m (lowest4 p)
  strict_lowest m h = pos_of_mul (pos (divisor_of4 p)) (dot4 m (lowest4 p)) (omega (arith, ints, some)) (rw (scaled m) at h)

  proper_lowest : pos 0 <ℤ (lowest4 p).w
  proper_lowest =
      let w : p.w ≡ pos (divisor_of4 p) *ℤ (lowest4 p).w = ap (λ (v : Vec4). v.w) (lowest4-times p) in
      pos_of_mul (pos (divisor_of4 p)) (lowest4 p).w (omega (arith, ints, some)) (rw w at positive)

-- ---- what is taken are candidates, one strictly inside each face
record AreTaken (points : List Vec4) (hs : List HalfSpace) (ps : List Vec4) : Type 0 where
  in_list : All (Contains points) ps
  strict : All (IsReached ps) hs

taken_are : (points : List Vec4) (hs : List HalfSpace) (ps : List Vec4) → taken points hs ≡ Some ps → AreTaken points hs ps
taken_are points [] ps e = record { in_list = subst (All (Contains points)) (same e) (All-nil (Contains points)); strict = All-nil (IsReached ps) }
  where
    same : Some [] ≡ Some ps → [] ≡ ps
    same f = cc
taken_are points (g ∷ hs) ps e = go (find (is_strict g) points) (taken points hs) refl refl (taken_are points hs) e
  where
    go : (o : Option Vec4) (u : Option (List Vec4)) → find (is_strict g) points ≡ o → taken points hs ≡ u → ((qs : List Vec4) → taken points hs ≡ Some qs → AreTaken points hs qs) → option_and_then (λ p. option_map (λ ps. p ∷ ps) u) o ≡ Some ps → AreTaken points (g ∷ hs) ps
    go None u f k those s = cc
    go (Some p) None f k those s = cc
    go (Some p) (Some qs) f k those s = subst (AreTaken points (g ∷ hs)) (same s) (record {
      in_list = All-cons (Contains points) p qs is.0 rest.in_list;
      strict = All-cons (IsReached (p ∷ qs)) g hs (record { point = p; in_list = Contains-head p qs; strict = is.1 })
          (All-weaker (IsReached qs) (IsReached (p ∷ qs)) (λ h r. record { point = r.point; in_list = Contains-tail p qs r.point r.in_list; strict = r.strict }) hs rest.strict);
    })
      where
        is : Contains points p × (is_strict g p ≡ true)
        is = find_some (is_strict g) points p f

        rest : AreTaken points hs qs
        rest = those qs k

        same : Some (p ∷ qs) ≡ Some ps → p ∷ qs ≡ ps
        same z = cc

-- ---- the same of the distinct ones in lowest terms
is_same_point-same : (a b : Vec4) → is_same_point a b ≡ true → a ≡ b
is_same_point-same a b e =
    let xyz = and_parts (int_eq a.x b.x && int_eq a.y b.y && int_eq a.z b.z) (int_eq a.w b.w) e in
    let xy = and_parts (int_eq a.x b.x && int_eq a.y b.y) (int_eq a.z b.z) xyz.0 in
    let x = and_parts (int_eq a.x b.x) (int_eq a.y b.y) xy.0 in
    same4 a b ((Decides-int_eq a.x b.x).0 x.0) ((Decides-int_eq a.y b.y).0 x.1) ((Decides-int_eq a.z b.z).0 xy.1) ((Decides-int_eq a.w b.w).0 xyz.1)

-- each point in lowest terms, once
abbrev once : List Vec4 → List Vec4
once ps = distinct_by is_same_point [] (map lowest4 ps)

All-once : (P Q : Vec4 → Type 0) → ((p : Vec4) → P p → Q (lowest4 p)) → (ps : List Vec4) → All P ps → All Q (once ps)
All-once P Q each ps h =
    All-distinct_by is_same_point Q [] (map lowest4 ps) (All-map Q lowest4 ps (All-weaker P (λ p. Q (lowest4 p)) each ps h))

Contains-once : (ps : List Vec4) (p : Vec4) → Contains ps p → Contains (once ps) (lowest4 p)
Contains-once ps p c =
    All-contains (Contains (once ps)) (map lowest4 ps) (lowest4 p)
    (All-from_distinct_by is_same_point is_same_point-same (Contains (once ps)) [] (map lowest4 ps) (All-nil (Contains (once ps))) (All-contains_itself (once ps)))
    (Contains-map lowest4 ps p c)

-- ---- the mean
mean_nonneg : (m : Vec4) (ps : List Vec4) → All (λ p. pos 0 ≤ℤ dot4 m p) ps → pos 0 ≤ℤ dot4 m (mean_of ps)
mean_nonneg m [] h = omega (arith, ints, dot4-origin m)
mean_nonneg m (p ∷ ps) h =
    omega (arith, ints, dot4-plus4 m p (mean_of ps), All-head (λ p. pos 0 ≤ℤ dot4 m p) p ps h, mean_nonneg m ps (All-tail (λ p. pos 0 ≤ℤ dot4 m p) p ps h))

mean_pos : (m : Vec4) (ps : List Vec4) (q : Vec4) → All (λ p. pos 0 ≤ℤ dot4 m p) ps → Contains ps q → pos 0 <ℤ dot4 m q → pos 0 <ℤ dot4 m (mean_of ps)
mean_pos m [] q h c lt = absurd (omega (arith, c.1))
mean_pos m (p ∷ ps) q h c lt = go (Contains-cases p ps q c) (λ k. mean_pos m ps q rest k lt)
  where
    first : pos 0 ≤ℤ dot4 m p
    first = All-head (λ p. pos 0 ≤ℤ dot4 m p) p ps h

    rest : All (λ p. pos 0 ≤ℤ dot4 m p) ps
    rest = All-tail (λ p. pos 0 ≤ℤ dot4 m p) p ps h

    go : (p ≡ q) ⊎ Contains ps q → (Contains ps q → pos 0 <ℤ dot4 m (mean_of ps)) → pos 0 <ℤ dot4 m (mean_of (p ∷ ps))
    go (inl e) behind = omega (arith, ints, dot4-plus4 m p (mean_of ps), mean_nonneg m ps rest, lt, ap (dot4 m) e)
    go (inr k) behind = omega (arith, ints, dot4-plus4 m p (mean_of ps), behind k, first)

-- ---- candidates have w above 0
abbrev IsProper : Vec4 → Type 0
IsProper p = pos 0 <ℤ p.w

crossing_proper : (h : HalfSpace) (u v : V3) (x : Vec4) → crossing h u v ≡ Some x → IsProper x
crossing_proper h u v x e = go (int_lt (side_of h u *ℤ side_of h v) (pos 0)) refl e
  where
    nonzero : (s t : ℤ) → int_lt (s *ℤ t) (pos 0) ≡ true → pos 0 <ℤ pos (unsigned_abs t)
    nonzero s t f = grind (arith, ints, f)

    go : (t : Bool) → int_lt (side_of h u *ℤ side_of h v) (pos 0) ≡ t → cond t (Some (mixed (unsigned_abs (side_of h v)) u (unsigned_abs (side_of h u)) v)) None ≡ Some x → IsProper x
    go false f s = cc
    go true f s = subst IsProper (same s) (omega (arith, ints, nonzero (side_of h u) (side_of h v) f))
      where
        same : Some (mixed (unsigned_abs (side_of h v)) u (unsigned_abs (side_of h u)) v) ≡ Some x → mixed (unsigned_abs (side_of h v)) u (unsigned_abs (side_of h u)) v ≡ x
        same z = cc

candidates_proper : (a b : List V3) → All IsProper (candidate_points a b)
candidates_proper a b =
    All-append IsProper (filter (is_in (faces_of b)) (map point_of a)) _ (vertices a (faces_of b))
    (All-append IsProper (filter (is_in (faces_of a)) (map point_of b)) _ (vertices b (faces_of a))
    (All-append IsProper (filter (is_in (faces_of b)) (crossings a (faces_of b))) (filter (is_in (faces_of a)) (crossings b (faces_of a))) (edges a (faces_of b)) (edges b (faces_of a))))
  where
    vertices : (ps : List V3) (hs : List HalfSpace) → All IsProper (filter (is_in hs) (map point_of ps))
    vertices ps hs = All-filter (is_in hs) IsProper (map point_of ps) (All-map IsProper point_of ps (All-weaker (Contains ps) (λ p. IsProper (point_of p)) (λ p c. omega (arith, ints)) ps (All-contains_itself ps)))

    edges : (ps : List V3) (hs : List HalfSpace) → All IsProper (filter (is_in hs) (crossings ps hs))
    edges ps hs =
        All-filter (is_in hs) IsProper (crossings ps hs)
        (All-flat_map IsProper (λ t. filter_map (λ h. crossing h t.0 t.1) hs) (pairs_of ps) (All-weaker (Contains (pairs_of ps)) (λ t. All IsProper (filter_map (λ h. crossing h t.0 t.1) hs)) (λ t c. All-filter_map IsProper (λ h. crossing h t.0 t.1) hs (λ h x. crossing_proper h t.0 t.1 x)) (pairs_of ps) (All-contains_itself (pairs_of ps))))

-- ---- the law
pub points_show : PointsShow
points_show solid other a b solid_a solid_b hull_a hull_b points e = go (taken_of a b) refl e
  where
    go : (o : Option (List Vec4)) → taken_of a b ≡ o → option_map once o ≡ Some points → AreShown solid other a b points
    go None f k = cc
    go (Some ps) f k = subst (AreShown solid other a b) (same k) shown
      where
        same : Some (once ps) ≡ Some points → once ps ≡ points
        same z = cc

        own : AreTheSolid solid a
        own = faces_are_the_solid solid a solid_a hull_a

        others : AreTheSolid other b
        others = faces_are_the_solid other b solid_b hull_b

        are : AreTaken (candidate_points a b) (faces_of a ++ faces_of b) ps
        are = taken_are (candidate_points a b) (faces_of a ++ faces_of b) ps f

        -- in the faces of both, and proper
        IsGood : Vec4 → Type 0
        IsGood p = IsAbove (members a b) p × IsProper p

        taken_good : All IsGood ps
        taken_good =
            All-weaker (Contains (candidate_points a b)) IsGood
            (λ p c. (All-contains (IsAbove (members a b)) (candidate_points a b) p (candidates_above a b) c, All-contains IsProper (candidate_points a b) p (candidates_proper a b) c)) ps are.in_list

        good : All IsGood (once ps)
        good = All-once IsGood IsGood (λ p k. (λ i d lt. above_lowest p k.1 (get_or (members a b) i d) (k.0 i d lt), proper_lowest p k.1)) ps taken_good

        parts : (p : Vec4) → IsGood p → IsAbove (map against (faces_of a)) p × IsAbove (map against (faces_of b)) p
        parts p k = All-append_parts (λ m. pos 0 ≤ℤ dot4 m p) (map against (faces_of a)) (map against (faces_of b)) k.0

        reached : All (IsReached (once ps)) (faces_of a ++ faces_of b)
        reached = All-weaker (IsReached ps) (IsReached (once ps)) (λ h r. record {
          point = lowest4 r.point;
          in_list = Contains-once ps r.point r.in_list;
          strict = (Decides-is_strict h (lowest4 r.point)).1 (strict_lowest r.point (All-contains IsGood ps r.point taken_good r.in_list).1 (against h) ((Decides-is_strict h r.point).0 r.strict));
        }) (faces_of a ++ faces_of b) are.strict

        mean : Vec4
        mean = mean_of (once ps)

        inside : (hs : List HalfSpace) → ((p : Vec4) → IsGood p → IsAbove (map against hs) p) → All (IsReached (once ps)) hs → is_inside hs mean ≡ true
        inside hs above r = (Decides-is_inside hs mean).1 (All-weaker (Contains hs) (λ h. normal_dot h mean <ℤ (h.e *ℤ mean.w)) each hs (All-contains_itself hs))
          where
            each : (h : HalfSpace) → Contains hs h → normal_dot h mean <ℤ (h.e *ℤ mean.w)
            each h c =
                let k = All-contains (IsReached (once ps)) hs h r c in
                let nonneg : All (λ q. pos 0 ≤ℤ dot4 (against h) q) (once ps) = All-weaker IsGood (λ q. pos 0 ≤ℤ dot4 (against h) q) (λ q g. All-contains (λ m. pos 0 ≤ℤ dot4 m q) (map against hs) (against h) (above q g) (Contains-map against hs h c)) (once ps) good in
                omega (arith, ints, dot4-against h mean, mean_pos (against h) (once ps) k.point nonneg k.in_list ((Decides-is_strict h k.point).0 k.strict))

        proper_mean : IsProper mean
        proper_mean =
            let face = some_face a solid_a in
            let r = All-contains (IsReached (once ps)) (faces_of a) face.0 (All-append_parts (IsReached (once ps)) (faces_of a) (faces_of b) reached).0 face.1 in
            omega (arith, ints, w_is mean, mean_pos up (once ps) r.point (All-weaker IsGood (λ q. pos 0 ≤ℤ dot4 up q) (λ q k. omega (arith, ints, w_is q, k.1)) (once ps) good) r.in_list (omega (arith, ints, w_is r.point, (All-contains IsGood (once ps) r.point good r.in_list).1)))
          where
            up : Vec4
            up = record { x = pos 0; y = pos 0; z = pos 0; w = pos 1 }

            w_is : (p : Vec4) → dot4 up p ≡ p.w
            w_is p = omega (arith, ints)

        shown : AreShown solid other a b (once ps)
        shown = let both = All-append_parts (IsReached (once ps)) (faces_of a) (faces_of b) reached in record {
          proper = All-weaker IsGood IsProper (λ p k. k.1) (once ps) good;
          in_solid = All-weaker IsGood (λ p. is_in solid p ≡ true) (λ p k. own.same_in p k.1 ∙ in_from_above (faces_of a) p (parts p k).0) (once ps) good;
          in_other = All-weaker IsGood (λ p. is_in other p ≡ true) (λ p k. others.same_in p k.1 ∙ in_from_above (faces_of b) p (parts p k).1) (once ps) good;
          strict = reached;
          proper_mean = proper_mean;
          mean_in_solid = own.same_inside mean proper_mean ∙ inside (faces_of a) (λ p k. (parts p k).0) both.0;
          mean_in_other = others.same_inside mean proper_mean ∙ inside (faces_of b) (λ p k. (parts p k).1) both.1;
        }
