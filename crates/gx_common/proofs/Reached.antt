-- Each face has a candidate point strictly inside it, or a plane is between; and each candidate point is in both.
use Rattle.std.proofs.Common.{get_or, ◌≡◌, ◌⊎◌, inl, inr, ℕ, Bool, true, false, cond, Some, None, pos, ◌*ℤ◌, ◌≤ℤ◌, ◌<ℤ◌, int_lt, unsigned_abs, List, ◌++◌, map, filter, filter_map, All, Contains, subst, arith}
use Rattle.std.specs.Bool.{Decides}
use Rattle.std.proofs.lemmas.List.Elements.{All-weaker, All-map, All-append, All-filter, All-contains, All-contains_itself, filter_passes}
use Rattle.gx_num.specs.declared.vector.V3.{V3}
use Rattle.gx_num.specs.Space.{HalfSpace, normal_dot, is_in}
use Rattle.gx_num.specs.Vector4.{Vec4, dot4}
use Rattle.gx_algebra.proofs.Lists.{All-append_parts}
use Rattle.gx_algebra.proofs.Order.{mul_nonneg}
use Rattle.gx_plane.specs.Laws.{IsAbove}
use Rattle.gx_plane.specs.Plane.{side_of}
use Rattle.gx_plane.specs.Between.{pairs_of}
use Rattle.gx_plane.proofs.TripleFacts.{All-pairs_of}
use Rattle.gx_convex.specs.Points.{are_coplanar}
use Rattle.gx_convex.specs.Faces.{faces_of}
use Rattle.gx_convex.specs.Hull.{IsBound}
use Rattle.gx_convex.proofs.FaceFacts.{faces_bound}
use Rattle.gx_common.specs.Common.{point_of, mixed, crossing, crossings, candidate_points, is_strict}
use Rattle.gx_common.specs.Laws.{IsReached, AreReached}
use Rattle.gx_common.proofs.Lists.{every_or, All-filter_map, All-flat_map}
use Rattle.gx_common.proofs.Mixes.{against, dot4-against, above_vertex, above_from_in}
use Rattle.gx_common.proofs.Apart.{members, IsApart, IsCommon, common_or_apart, exchanged}
use Rattle.gx_common.proofs.Corners.{IsFound, candidate_inside, dot4-mixed, vertices_in, edge_points}
use borrow.Author.Differences.{ints}

-- ---- strictly inside, as a product
pub Decides-is_strict : (h : HalfSpace) (p : Vec4) → Decides (is_strict h p) (pos 0 <ℤ dot4 (against h) p)
Decides-is_strict h p = (λ e. omega (arith, ints, e, dot4-against h p), λ lt. yes (omega (arith, ints, lt, dot4-against h p)))
  where
    yes : normal_dot h p <ℤ (h.e *ℤ p.w) → is_strict h p ≡ true
    yes lt = grind (arith, ints)

pub swap_above : (a b : List V3) (p : Vec4) → IsAbove (members b a) p → IsAbove (members a b) p
swap_above a b p h =
    let parts = All-append_parts (λ m. pos 0 ≤ℤ dot4 m p) (map against (faces_of b)) (map against (faces_of a)) h in
    All-append (λ m. pos 0 ≤ℤ dot4 m p) (map against (faces_of a)) (map against (faces_of b)) parts.1 parts.0

-- ---- each face is reached, or a plane is between
pub reached_from_common : (a b : List V3) → are_coplanar a ≡ false → are_coplanar b ≡ false → (h : HalfSpace) (p : Vec4) → IsCommon a b (against h) p → IsReached (candidate_points a b) h
reached_from_common a b solid_a solid_b h p c = of (candidate_inside a b solid_a solid_b (against h) p (record { above = c.above; beyond = c.strict }))
  where
    of : IsFound (candidate_points a b) (against h) → IsReached (candidate_points a b) h
    of r = record { point = r.point; in_list = r.in_list; strict = (Decides-is_strict h r.point).1 r.strict }

pub reached_or_apart : (a b : List V3) → are_coplanar a ≡ false → are_coplanar b ≡ false → AreReached a b ⊎ IsApart a b
reached_or_apart a b solid_a solid_b = join (every_or (IsReached (candidate_points a b)) (IsApart a b) (faces_of a) first) (every_or (IsReached (candidate_points a b)) (IsApart a b) (faces_of b) second)
  where
    first : (h : HalfSpace) → Contains (faces_of a) h → IsReached (candidate_points a b) h ⊎ IsApart a b
    first h ch = go (common_or_apart a b solid_a h (All-contains (IsBound a) (faces_of a) h (faces_bound a) ch))
      where
        go : ((p : Vec4) × IsCommon a b (against h) p) ⊎ IsApart a b → IsReached (candidate_points a b) h ⊎ IsApart a b
        go (inl (p, c)) = inl (reached_from_common a b solid_a solid_b h p c)
        go (inr s) = inr s

    second : (h : HalfSpace) → Contains (faces_of b) h → IsReached (candidate_points a b) h ⊎ IsApart a b
    second h ch = go (common_or_apart b a solid_b h (All-contains (IsBound b) (faces_of b) h (faces_bound b) ch))
      where
        go : ((p : Vec4) × IsCommon b a (against h) p) ⊎ IsApart b a → IsReached (candidate_points a b) h ⊎ IsApart a b
        go (inl (p, c)) = inl (reached_from_common a b solid_a solid_b h p (record { above = swap_above a b p c.above; strict = c.strict }))
        go (inr s) = inr (exchanged a b s)

    join : All (IsReached (candidate_points a b)) (faces_of a) ⊎ IsApart a b → All (IsReached (candidate_points a b)) (faces_of b) ⊎ IsApart a b → AreReached a b ⊎ IsApart a b
    join (inr s) k = inr s
    join (inl h) (inr s) = inr s
    join (inl h) (inl k) = inl (All-append (IsReached (candidate_points a b)) (faces_of a) (faces_of b) h k)

-- ---- each candidate point is in both
-- the product with each face of a is at least 0
abbrev IsAboveOwn : List V3 → Vec4 → Type 0
IsAboveOwn a x = IsAbove (map against (faces_of a)) x

above_crossing : (a : List V3) (h : HalfSpace) (u v : V3) (x : Vec4) → IsAboveOwn a (point_of u) → IsAboveOwn a (point_of v) → crossing h u v ≡ Some x → IsAboveOwn a x
above_crossing a h u v x above_u above_v e = go (int_lt (side_of h u *ℤ side_of h v) (pos 0)) e
  where
    k : ℕ
    k = unsigned_abs (side_of h v)

    l : ℕ
    l = unsigned_abs (side_of h u)

    both : (m : Vec4) → pos 0 ≤ℤ dot4 m (point_of u) → pos 0 ≤ℤ dot4 m (point_of v) → pos 0 ≤ℤ dot4 m (mixed k u l v)
    both m hu hv =
        omega (arith, ints, dot4-mixed m k u l v, mul_nonneg (pos k) (dot4 m (point_of u)) (omega (arith, ints)) hu, mul_nonneg (pos l) (dot4 m (point_of v)) (omega (arith, ints)) hv)

    go : (t : Bool) → cond t (Some (mixed k u l v)) None ≡ Some x → IsAboveOwn a x
    go false f = cc
    go true f = subst (IsAboveOwn a) (some_same f) (λ i d lt. both (get_or (map against (faces_of a)) i d) (above_u i d lt) (above_v i d lt))
      where
        some_same : Some (mixed k u l v) ≡ Some x → mixed k u l v ≡ x
        some_same z = cc

-- those points of a that are in b
filter_above : (a b : List V3) (points : List Vec4) → All (IsAboveOwn a) points → All (IsAbove (members a b)) (filter (is_in (faces_of b)) points)
filter_above a b points h k d lt =
    let x = get_or (filter (is_in (faces_of b)) points) k d in
    All-append (λ m. pos 0 ≤ℤ dot4 m x) (map against (faces_of a)) (map against (faces_of b)) (All-filter (is_in (faces_of b)) (IsAboveOwn a) points h k d lt) (above_from_in (faces_of b) x (filter_passes (is_in (faces_of b)) points k d lt))

own_above : (a b : List V3) → All (IsAbove (members a b)) (vertices_in a b) × All (IsAbove (members a b)) (edge_points a b)
own_above a b = (filter_above a b (map point_of a) (All-map (IsAboveOwn a) point_of a vertices), filter_above a b (crossings a (faces_of b)) edges)
  where
    vertices : All (λ p. IsAboveOwn a (point_of p)) a
    vertices = All-weaker (Contains a) (λ p. IsAboveOwn a (point_of p)) (λ p. above_vertex a p) a (All-contains_itself a)

    edges : All (IsAboveOwn a) (crossings a (faces_of b))
    edges = All-flat_map (IsAboveOwn a) (λ t. filter_map (λ h. crossing h t.0 t.1) (faces_of b)) (pairs_of a) (All-weaker (λ t. IsAboveOwn a (point_of t.0) × IsAboveOwn a (point_of t.1)) (λ t. All (IsAboveOwn a) (filter_map (λ h. crossing h t.0 t.1) (faces_of b))) (λ t c. All-filter_map (IsAboveOwn a) (λ h. crossing h t.0 t.1) (faces_of b) (λ h x. above_crossing a h t.0 t.1 x c.0 c.1)) (pairs_of a) (All-pairs_of (λ p. IsAboveOwn a (point_of p)) a vertices))

pub candidates_above : (a b : List V3) → All (IsAbove (members a b)) (candidate_points a b)
candidates_above a b =
    let other = own_above b a in
    All-append (IsAbove (members a b)) (vertices_in a b) (vertices_in b a ++ (edge_points a b ++ edge_points b a)) (own_above a b).0
    (All-append (IsAbove (members a b)) (vertices_in b a) (edge_points a b ++ edge_points b a) (swapped (vertices_in b a) other.0)
    (All-append (IsAbove (members a b)) (edge_points a b) (edge_points b a) (own_above a b).1 (swapped (edge_points b a) other.1)))
  where
    swapped : (ps : List Vec4) → All (IsAbove (members b a)) ps → All (IsAbove (members a b)) ps
    swapped ps h = All-weaker (IsAbove (members b a)) (IsAbove (members a b)) (swap_above a b) ps h
