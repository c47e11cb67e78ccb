-- Half-spaces and points as vectors of four numbers: only 0 is orthogonal to points that aren't coplanar.
use Rattle.std.proofs.Common.{get_or, ◌≡◌, false, List, [], ◌∷◌, map, All, ℤ, pos, ◌-ℤ◌, ◌*ℤ◌, ◌<ℤ◌, ap, ◌∙◌, arith}
use Rattle.std.proofs.lemmas.Bool.Decides.{not_from_Decides}
use Rattle.std.proofs.lemmas.Int.{by_lt_z}
use Rattle.gx_num.specs.declared.vector.V3.{V3}
use Rattle.gx_num.specs.Space.{HalfSpace, normal_dot}
use Rattle.gx_num.specs.Vector4.{Vec4, dot4, det4, minors}
use Rattle.gx_algebra.proofs.Terms as term
use Rattle.gx_algebra.proofs.Terms.{◌≣◌, ◌⊖◌, ◌⊗◌, none}
use Rattle.gx_algebra.proofs.Identity.{identity, vector3, vector4, half_space}
use Rattle.gx_algebra.proofs.Identities.{cramer}
use Rattle.gx_algebra.proofs.Laws.{mul_comm, mul-zero}
use Rattle.gx_algebra.proofs.Order.{zero_of_mul}
use Rattle.gx_plane.specs.Laws.{Spans}
use Rattle.gx_algebra.proofs.Lists.{All-from_map}
use Rattle.gx_plane.proofs.Complete.{within_term, lifted, within}
use Rattle.gx_plane.proofs.Cones.{dot4-self_zero}
use Rattle.gx_convex.specs.Points.{are_coplanar}
use Rattle.gx_convex.proofs.Coplanar.{IsCoplanar, Decides-are_coplanar, volume, volume_term}
use borrow.Author.Differences.{ints}

-- what is to have a product above 0 with a half-space that the point breaks
abbrev pub broken_by : Vec4 → Vec4
broken_by p = record { x = p.x; y = p.y; z = p.z; w = pos 0 -ℤ p.w }

pub dot4-broken_by : (h : HalfSpace) (p : Vec4) → dot4 (broken_by p) (lifted h) ≡ normal_dot h p -ℤ h.e *ℤ p.w
dot4-broken_by = identity (half_space ∷ vector4 ∷ []) (λ h p. term.dot4 (record { x = p.x; y = p.y; z = p.z; w = none ⊖ p.w }) (record { x = h.n.x; y = h.n.y; z = h.n.z; w = h.e }) ≣ term.normal_dot h p ⊖ h.e ⊗ p.w) tt

volume_is : (a b c p : V3) → dot4 (within p) (minors (within a) (within b) (within c)) ≡ pos 0 -ℤ volume a b c p
volume_is = identity (vector3 ∷ vector3 ∷ vector3 ∷ vector3 ∷ []) (λ a b c p. term.dot4 (within_term p) (term.minors (within_term a) (within_term b) (within_term c)) ≣ none ⊖ volume_term a b c p) tt

volume_zero : (a b c p : V3) (v : Vec4) → pos 0 <ℤ dot4 v v → dot4 (within a) v ≡ pos 0 → dot4 (within b) v ≡ pos 0 → dot4 (within c) v ≡ pos 0 → dot4 (within p) v ≡ pos 0 → volume a b c p ≡ pos 0
volume_zero a b c p v lt av bv cv pv =
    let n = minors (within a) (within b) (within c) in
    let product : dot4 (within p) n *ℤ dot4 v v ≡ pos 0 = omega (arith, ints, cramer (within a) (within b) (within c) v (within p) v, times (dot4 v n) pv, times (det4 (within p) v (within b) (within c)) av, times (det4 (within p) v (within c) (within a)) bv, times (det4 (within p) v (within a) (within b)) cv) in
    omega (arith, ints, volume_is a b c p, zero_of_mul (dot4 v v) (dot4 (within p) n) lt (mul_comm (dot4 v v) (dot4 (within p) n) ∙ product))
  where
    times : (k : ℤ) {z : ℤ} → z ≡ pos 0 → k *ℤ z ≡ pos 0
    times k e = ap (λ (t : ℤ). k *ℤ t) e ∙ mul-zero k

pub Spans-within : (vertices : List V3) → are_coplanar vertices ≡ false → Spans (map within vertices)
Spans-within vertices e v h =
    by_lt_z (pos 0) (dot4 v v) (λ lt. absurd (not_from_Decides (are_coplanar vertices) (Decides-are_coplanar vertices) e (coplanar lt))) (dot4-self_zero v)
  where
    each : All (λ p. dot4 (within p) v ≡ pos 0) vertices
    each = All-from_map (λ m. dot4 m v ≡ pos 0) within vertices h

    coplanar : pos 0 <ℤ dot4 v v → IsCoplanar vertices
    coplanar lt i a ia j b jb k c kc l p lp =
        volume_zero (get_or vertices i a) (get_or vertices j b) (get_or vertices k c) (get_or vertices l p) v lt (each i a ia) (each j b jb) (each k c kc) (each l p lp)
