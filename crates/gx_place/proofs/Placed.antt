-- A placed solid: a point is in its faces exactly where its local point is in the solid.
use Rattle.std.proofs.Common.{◌≡◌, ◌∙◌, ℕ, ◌<◌, ℤ, ◌-ℤ◌, ◌*ℤ◌, int_le, int_lt, List, [], ◌∷◌, map, sym, ap, arith}
use Rattle.std.proofs.lemmas.Int.{ints}
use Rattle.std.proofs.lemmas.Bool.Decides.{Decides-like, same_from_decides}
use Rattle.gx_num.specs.declared.vector.V3.{V3}
use Rattle.gx_num.specs.Space.{HalfSpace, normal_dot, is_in, is_inside}
use Rattle.gx_num.specs.Vector4.{Vec4}
use Rattle.gx_algebra.proofs.Terms as term
use Rattle.gx_algebra.proofs.Terms.{Term3, ◌≣◌, ◌⊕◌, ◌⊖◌, ◌⊗◌}
use Rattle.gx_algebra.proofs.Identity.{identity, vector3, vector4, half_space}
use Rattle.gx_plane.proofs.PlaneFacts.{Decides-int_le}
use Rattle.gx_convex.specs.Faces.{faces_of}
use Rattle.gx_convex.proofs.Cutting.{faces_are_the_solid}
use Rattle.gx_convex.proofs.Truth.{Decides-int_lt}
use Rattle.gx_rotation.specs.Matrix.{Matrix}
use Rattle.gx_rotation.specs.Rotation.{matrix_of}
use Rattle.gx_rotation.specs.Place.{local_point, placed_point, placed_face}
use Rattle.gx_place.specs.Laws.{PlacedSolids}
use Rattle.gx_place.proofs.Moved.{list_all-map, faces_of-map}
use Rattle.gx_place.proofs.Turned.{image_term, IsMotion-placed, IsTurn-matrix_of}

-- a placed inequality at a point is the inequality at the local point
same_height : (r : Matrix) (t : V3) (h : HalfSpace) (p : Vec4) → normal_dot (placed_face r t h) p -ℤ (placed_face r t h).e *ℤ p.w ≡ normal_dot h (local_point r t p) -ℤ h.e *ℤ p.w
same_height r = identity (vector3 ∷ vector3 ∷ vector3 ∷ vector3 ∷ half_space ∷ vector4 ∷ [])
    (λ x y z t h p.
    let n = image_term (record { x = x.x; y = y.x; z = z.x }) (record { x = x.y; y = y.y; z = z.y }) (record { x = x.z; y = y.z; z = z.z }) h.n in
    let l = image_term x y z (record { x = p.x ⊖ p.w ⊗ t.x; y = p.y ⊖ p.w ⊗ t.y; z = p.z ⊖ p.w ⊗ t.z }) in
    term.normal_dot (record { n = n; e = h.e }) p ⊖ (h.e ⊕ term.dot_of n t) ⊗ p.w ≣ term.normal_dot h (record { x = l.x; y = l.y; z = l.z; w = p.w }) ⊖ h.e ⊗ p.w) tt r.x r.y r.z

same_le : (a b c d : ℤ) → a -ℤ b ≡ c -ℤ d → int_le a b ≡ int_le c d
same_le a b c d e = same_from_decides (int_le a b) (int_le c d) (Decides-like (int_le a b) (λ h. omega (arith, ints, e, h)) (λ h. omega (arith, ints, e, h)) (Decides-int_le a b)) (Decides-int_le c d)

same_lt : (a b c d : ℤ) → a -ℤ b ≡ c -ℤ d → int_lt a b ≡ int_lt c d
same_lt a b c d e = same_from_decides (int_lt a b) (int_lt c d) (Decides-like (int_lt a b) (λ h. omega (arith, ints, e, h)) (λ h. omega (arith, ints, e, h)) (Decides-int_lt a b)) (Decides-int_lt c d)

is_in-placed : (r : Matrix) (t : V3) (hs : List HalfSpace) (p : Vec4) → is_in (map (placed_face r t) hs) p ≡ is_in hs (local_point r t p)
is_in-placed r t hs p =
    list_all-map (λ (h : HalfSpace). int_le (normal_dot h p) (h.e *ℤ p.w)) (λ (h : HalfSpace). int_le (normal_dot h (local_point r t p)) (h.e *ℤ p.w)) (placed_face r t)
    (λ h. same_le (normal_dot (placed_face r t h) p) ((placed_face r t h).e *ℤ p.w) (normal_dot h (local_point r t p)) (h.e *ℤ p.w) (same_height r t h p)) hs

is_inside-placed : (r : Matrix) (t : V3) (hs : List HalfSpace) (p : Vec4) → is_inside (map (placed_face r t) hs) p ≡ is_inside hs (local_point r t p)
is_inside-placed r t hs p =
    list_all-map (λ (h : HalfSpace). int_lt (normal_dot h p) (h.e *ℤ p.w)) (λ (h : HalfSpace). int_lt (normal_dot h (local_point r t p)) (h.e *ℤ p.w)) (placed_face r t)
    (λ h. same_lt (normal_dot (placed_face r t h) p) ((placed_face r t h).e *ℤ p.w) (normal_dot h (local_point r t p)) (h.e *ℤ p.w) (same_height r t h p)) hs

pub faces_placed : (k : ℕ) → k < 24 → (t : V3) (vertices : List V3) → faces_of (map (placed_point (matrix_of k) t) vertices) ≡ map (placed_face (matrix_of k) t) (faces_of vertices)
faces_placed k lt t = faces_of-map (placed_point (matrix_of k) t) (placed_face (matrix_of k) t) (IsMotion-placed (matrix_of k) (IsTurn-matrix_of k lt) t)

pub placed_solids : PlacedSolids
placed_solids k lt t solid vertices apart hull =
    let faces = faces_placed k lt t vertices in
    let r = matrix_of k in
    let same = faces_are_the_solid solid vertices apart hull in
    record {
      faces = faces;
      same_in = λ p h. ap (λ hs. is_in hs p) faces ∙ (is_in-placed r t (faces_of vertices) p ∙ sym (same.same_in (local_point r t p) h));
      same_inside = λ p h. ap (λ hs. is_inside hs p) faces ∙ (is_inside-placed r t (faces_of vertices) p ∙ sym (same.same_inside (local_point r t p) h));
    }
