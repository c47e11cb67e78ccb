-- A point that the faces of vertices hold at is a mean of the vertices, or 0.
use Rattle.std.proofs.Common.{◌≡◌, ◌⊎◌, inl, inr, ℕ, zero, suc, ◌<◌, true, false, ℤ, pos, ◌+ℤ◌, ◌-ℤ◌, ◌*ℤ◌, ◌≤ℤ◌, ◌<ℤ◌, List, [], ◌∷◌, map, length, All, Contains, refl, ap, ◌∙◌, arith}
use Rattle.std.proofs.lemmas.List.Elements.{All-nil, All-cons, All-head, All-tail, All-weaker, All-map, All-contains, All-contains_itself}
use Rattle.gx_num.specs.declared.vector.V3.{V3}
use Rattle.gx_num.specs.Space.{HalfSpace, normal_dot, is_in}
use Rattle.gx_num.specs.Vector4.{Vec4, origin, dot4, plus4, times4, opposite4}
use Rattle.gx_algebra.proofs.Terms as term
use Rattle.gx_algebra.proofs.Ring.{num}
use Rattle.gx_algebra.proofs.Terms.{Term3, Term4, ◌≣◌, ◌≣⁴◌, ◌⊕◌, ◌⊖◌, ◌⊗◌, none}
use Rattle.gx_algebra.proofs.Identity.{identity, identity4, number, vector3, vector4, half_space}
use Rattle.gx_algebra.proofs.Identities.{same4, dot4_comm, dot4-opposite4}
use Rattle.gx_algebra.proofs.Lists.{All-from_map}
use Rattle.gx_algebra.proofs.Order.{zero_of_mul, pos_of_mul}
use Rattle.gx_plane.specs.Laws.{IsAbove, Spans, IsSeparated, IsInCone, combination}
use Rattle.gx_plane.specs.Plane.{side_of, supports}
use Rattle.gx_plane.proofs.Cones.{found, times4-zero_plus}
use Rattle.gx_plane.proofs.PlaneFacts.{Decides-supports}
use Rattle.gx_convex.specs.Points.{are_coplanar}
use Rattle.gx_convex.specs.Hull.{IsAtMost, IsBound}
use Rattle.gx_convex.specs.Faces.{faces_of}
use Rattle.gx_convex.proofs.Truth.{Decides-is_in}
use Rattle.gx_convex.proofs.FaceFacts.{faces_bound, implied}
use Rattle.gx_common.specs.Common.{point_of}
use borrow.Author.Differences.{ints}

-- ---- half-spaces as vectors of four numbers: the product with a point is at least 0 where the half-space holds
abbrev pub against : HalfSpace → Vec4
against h = record { x = pos 0 -ℤ h.n.x; y = pos 0 -ℤ h.n.y; z = pos 0 -ℤ h.n.z; w = h.e }

-- and back
abbrev pub half_of : Vec4 → HalfSpace
half_of v = record { n = record { x = pos 0 -ℤ v.x; y = pos 0 -ℤ v.y; z = pos 0 -ℤ v.z }; e = v.w }

abbrev pub point_term : Term3 → Term4
point_term p = record { x = p.x; y = p.y; z = p.z; w = num (pos 1) }

pub dot4-against : (h : HalfSpace) (p : Vec4) → dot4 (against h) p ≡ h.e *ℤ p.w -ℤ normal_dot h p
dot4-against = identity (half_space ∷ vector4 ∷ []) (λ h p. term.dot4 (record { x = none ⊖ h.n.x; y = none ⊖ h.n.y; z = none ⊖ h.n.z; w = h.e }) p ≣ h.e ⊗ p.w ⊖ term.normal_dot h p) tt

pub dot4-against_point : (h : HalfSpace) (p : V3) → dot4 (against h) (point_of p) ≡ pos 0 -ℤ side_of h p
dot4-against_point = identity (half_space ∷ vector3 ∷ []) (λ h p. term.dot4 (record { x = none ⊖ h.n.x; y = none ⊖ h.n.y; z = none ⊖ h.n.z; w = h.e }) (point_term p) ≣ none ⊖ (term.dot_of h.n p ⊖ h.e)) tt

half_of_normal_dot : (v p : Vec4) → (half_of v).e *ℤ p.w -ℤ normal_dot (half_of v) p ≡ dot4 v p
half_of_normal_dot = identity (vector4 ∷ vector4 ∷ []) (λ v p. v.w ⊗ p.w ⊖ term.normal_dot (record { n = record { x = none ⊖ v.x; y = none ⊖ v.y; z = none ⊖ v.z }; e = v.w }) p ≣ term.dot4 v p) tt

pub half_of_side : (v : Vec4) (p : V3) → side_of (half_of v) p ≡ pos 0 -ℤ dot4 v (point_of p)
half_of_side = identity (vector4 ∷ vector3 ∷ []) (λ v p. term.dot_of (record { x = none ⊖ v.x; y = none ⊖ v.y; z = none ⊖ v.z }) p ⊖ v.w ≣ none ⊖ term.dot4 v (point_term p)) tt

pub above_from_in : (hs : List HalfSpace) (p : Vec4) → is_in hs p ≡ true → IsAbove (map against hs) p
above_from_in hs p e =
    All-map (λ m. pos 0 ≤ℤ dot4 m p) against hs (All-weaker (λ h. IsAtMost h p) (λ h. pos 0 ≤ℤ dot4 (against h) p) (λ h k. omega (arith, ints, k, dot4-against h p)) hs ((Decides-is_in hs p).0 e))

pub in_from_above : (hs : List HalfSpace) (p : Vec4) → IsAbove (map against hs) p → is_in hs p ≡ true
in_from_above hs p k =
    (Decides-is_in hs p).1 (All-weaker (λ h. pos 0 ≤ℤ dot4 (against h) p) (λ h. IsAtMost h p) (λ h k. omega (arith, ints, k, dot4-against h p)) hs (All-from_map (λ m. pos 0 ≤ℤ dot4 m p) against hs k))

-- faces are at least 0 at the vertices
pub above_vertex : (a : List V3) (p : V3) → Contains a p → IsAbove (map against (faces_of a)) (point_of p)
above_vertex a p c =
    All-map (λ m. pos 0 ≤ℤ dot4 m (point_of p)) against (faces_of a)
    (All-weaker (IsBound a) (λ h. pos 0 ≤ℤ dot4 (against h) (point_of p)) (λ h b. omega (arith, ints, dot4-against_point h p, All-contains (λ q. side_of h q ≤ℤ pos 0) a p ((Decides-supports h a).0 b.supports) c)) (faces_of a) (faces_bound a))

-- ---- sums of points, each as often as it is listed
abbrev pub total : List V3 → Vec4
total [] = origin
total (p ∷ ps) = plus4 (point_of p) (total ps)

-- a positive multiple of the point is a sum of listed points, some more than once
pub record IsMix (a : List V3) (p : Vec4) : Type 0 where
  pub multiple : ℕ
  pub positive : 0 < multiple
  pub parts : List V3
  pub in_list : All (Contains a) parts
  pub sum : times4 (pos multiple) p ≡ total parts

-- p so many times, before the rest
abbrev repeated : ℕ → V3 → List V3 → List V3
repeated zero p ps = ps
repeated (suc k) p ps = p ∷ repeated k p ps

times4-suc_plus : (k : ℤ) (g v : Vec4) → plus4 (times4 (k +ℤ pos 1) g) v ≡ plus4 g (plus4 (times4 k g) v)
times4-suc_plus = identity4 (number ∷ vector4 ∷ vector4 ∷ []) (λ k g v. term.plus4 (term.times4 (k ⊕ num (pos 1)) g) v ≣⁴ term.plus4 g (term.plus4 (term.times4 k g) v)) tt

total-repeated : (k : ℕ) (p : V3) (ps : List V3) → plus4 (times4 (pos k) (point_of p)) (total ps) ≡ total (repeated k p ps)
total-repeated zero p ps = times4-zero_plus (point_of p) (total ps)
total-repeated (suc k) p ps =
    ap (λ (z : ℤ). plus4 (times4 z (point_of p)) (total ps)) one ∙ times4-suc_plus (pos k) (point_of p) (total ps) ∙ ap (plus4 (point_of p)) (total-repeated k p ps)
  where
    one : pos (suc k) ≡ pos k +ℤ pos 1
    one = omega (arith, ints)

All-repeated : (P : V3 → Type 0) (k : ℕ) (p : V3) (ps : List V3) → P p → All P ps → All P (repeated k p ps)
All-repeated P zero p ps h k = k
All-repeated P (suc n) p ps h k = All-cons P p (repeated n p ps) h (All-repeated P n p ps h k)

-- each point as often as the list of numbers says
abbrev listed : List ℕ → List V3 → List V3
listed (k ∷ ks) (p ∷ ps) = repeated k p (listed ks ps)
listed [] ps = []
listed (k ∷ ks) [] = []

combination-listed : (ks : List ℕ) (ps : List V3) → combination ks (map point_of ps) ≡ total (listed ks ps)
combination-listed (k ∷ ks) (p ∷ ps) =
    ap (plus4 (times4 (pos k) (point_of p))) (combination-listed ks ps) ∙ total-repeated k p (listed ks ps)
combination-listed [] ps = refl
combination-listed (k ∷ ks) [] = refl

All-listed : (P : V3 → Type 0) (ks : List ℕ) (ps : List V3) → All P ps → All P (listed ks ps)
All-listed P (k ∷ ks) (p ∷ ps) h =
    All-repeated P k p (listed ks ps) (All-head P p ps h) (All-listed P ks ps (All-tail P p ps h))
All-listed P [] ps h = All-nil P
All-listed P (k ∷ ks) [] h = All-nil P

-- ---- what the faces hold at is a mix of vertices: a vector that parts it from them would be a half-space that the faces imply
pub mix_of : (a : List V3) → are_coplanar a ≡ false → (p : Vec4) → IsAbove (map against (faces_of a)) p → IsMix a p
mix_of a solid p above = go (found (length (map point_of a)) (map point_of a) p refl)
  where
    go : IsSeparated (map point_of a) p ⊎ IsInCone (map point_of a) p → IsMix a p
    go (inr q) = record {
      multiple = q.multiple;
      positive = q.positive;
      parts = listed q.multiples a;
      in_list = All-listed (Contains a) q.multiples a (All-contains_itself a);
      sum = q.sum ∙ combination-listed q.multiples a;
    }
    go (inl q) =
        let h = half_of q.by in
        let bounds : supports h a ≡ true = (Decides-supports h a).1 (All-weaker (λ x. pos 0 ≤ℤ dot4 (point_of x) q.by) (λ x. side_of h x ≤ℤ pos 0) (λ x k. omega (arith, ints, k, half_of_side q.by x, dot4_comm q.by (point_of x))) a (All-from_map (λ m. pos 0 ≤ℤ dot4 m q.by) point_of a q.above)) in
        absurd (omega (arith, ints, q.below, half_of_normal_dot q.by p, dot4_comm q.by p, implied a solid h bounds p (in_from_above (faces_of a) p above)))

-- ---- its last number is above 0, or it is 0
length_w : (ps : List V3) → pos 0 ≤ℤ (total ps).w
length_w [] = omega (arith, ints)
length_w (p ∷ ps) = omega (arith, ints, length_w ps)

pub proper_or_zero : (a : List V3) (p : Vec4) → IsMix a p → (p ≡ origin) ⊎ (pos 0 <ℤ p.w)
proper_or_zero a p m = go m.parts m.sum
  where
    k : ℤ
    k = pos m.multiple

    positive : pos 0 <ℤ k
    positive = omega (arith, ints, m.positive)

    go : (ps : List V3) → times4 k p ≡ total ps → (p ≡ origin) ⊎ (pos 0 <ℤ p.w)
    go [] e = inl (same4 p origin (zero_of_mul k p.x positive (ap (λ (v : Vec4). v.x) e)) (zero_of_mul k p.y positive (ap (λ (v : Vec4). v.y) e)) (zero_of_mul k p.z positive (ap (λ (v : Vec4). v.z) e)) (zero_of_mul k p.w positive (ap (λ (v : Vec4). v.w) e)))
    go (u ∷ us) e =
        let long : k *ℤ p.w ≡ pos 1 +ℤ (total us).w = ap (λ (v : Vec4). v.w) e in
        inr (pos_of_mul k p.w (omega (arith, ints, positive)) (omega (arith, ints, long, length_w us)))

-- only 0 has product 0 with all faces
pub Spans-faces : (a : List V3) → are_coplanar a ≡ false → Spans (map against (faces_of a))
Spans-faces a solid v h = go (mixed v (λ m e. omega (arith, ints, e))) (mixed (opposite4 v) (λ m e. omega (arith, ints, e, dot4-opposite4 m v)))
  where
    mixed : (u : Vec4) → ((m : Vec4) → dot4 m v ≡ pos 0 → pos 0 ≤ℤ dot4 m u) → (u ≡ origin) ⊎ (pos 0 <ℤ u.w)
    mixed u f = proper_or_zero a u (mix_of a solid u (All-weaker (λ m. dot4 m v ≡ pos 0) (λ m. pos 0 ≤ℤ dot4 m u) f (map against (faces_of a)) h))

    go : (v ≡ origin) ⊎ (pos 0 <ℤ v.w) → (opposite4 v ≡ origin) ⊎ (pos 0 <ℤ (opposite4 v).w) → v ≡ origin
    go (inl e) other = e
    go (inr lt) (inl e) = absurd (omega (arith, ints, lt, ap (λ (u : Vec4). u.w) e))
    go (inr lt) (inr gt) = absurd (omega (arith, ints, lt, gt))
