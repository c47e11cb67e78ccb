-- A ray in a daughter's frame: at each parameter its point is the local point, and it has a direction.
use Rattle.std.proofs.Common.{◌≡◌, [], ◌∷◌, ℤ, pos, ◌+ℤ◌, ◌-ℤ◌, ◌*ℤ◌, refl, sym, ap, subst, ◌∙◌}
use Rattle.gx_num.specs.declared.vector.V3.{V3}
use Rattle.gx_num.specs.Vector.{dot_of, difference_of}
use Rattle.gx_num.specs.Ray.{point_of_ray}
use Rattle.gx_algebra.proofs.Terms as term
use Rattle.gx_algebra.proofs.Terms.{none, ◌≣◌, ◌⊕◌, ◌⊖◌, ◌⊗◌}
use Rattle.gx_algebra.proofs.Identity.{identity, number, vector3}
use Rattle.gx_algebra.proofs.Identities.{same3, same4}
use Rattle.gx_rotation.specs.Matrix as matrix
use Rattle.gx_rotation.specs.Matrix.{Matrix, product, image, transpose}
use Rattle.gx_rotation.proofs.Algebra.{image-product, image-identity}
use Rattle.gx_rotation.proofs.Tables.{product-transpose_left}
use Rattle.gx_tree.specs.Deepest.{local_of}
use Rattle.gx_frame.specs.Frames.{local_ray}
use Rattle.gx_frame.specs.Laws.{PointsStay, RaysMoveOn}

dot_of-along : (r o d t : V3) (p q : ℤ)
    → dot_of r (record { x = (q *ℤ o.x +ℤ p *ℤ d.x) -ℤ (q *ℤ t.x); y = (q *ℤ o.y +ℤ p *ℤ d.y) -ℤ (q *ℤ t.y); z = (q *ℤ o.z +ℤ p *ℤ d.z) -ℤ (q *ℤ t.z) })
    ≡ q *ℤ dot_of r (difference_of o t) +ℤ p *ℤ dot_of r d
dot_of-along = identity (vector3 ∷ vector3 ∷ vector3 ∷ vector3 ∷ number ∷ number ∷ []) (λ r o d t p q.
    term.dot_of r (record { x = (q ⊗ o.x ⊕ p ⊗ d.x) ⊖ q ⊗ t.x; y = (q ⊗ o.y ⊕ p ⊗ d.y) ⊖ q ⊗ t.y; z = (q ⊗ o.z ⊕ p ⊗ d.z) ⊖ q ⊗ t.z })
    ≣ q ⊗ term.dot_of r (term.difference_of o t) ⊕ p ⊗ term.dot_of r d) tt

-- for every matrix
pub points_stay : PointsStay
points_stay i ray t =
    let along = λ (row : V3). dot_of-along row ray.o ray.d i.offset (pos t.num) (pos t.den) in
    same4 (local_of i (point_of_ray ray t)) (point_of_ray (local_ray i ray) t) (along i.rotation.x) (along i.rotation.y) (along i.rotation.z) refl

abbrev nothing : V3
nothing = record { x = pos 0; y = pos 0; z = pos 0 }

dot_of-nothing : (r : V3) → dot_of r nothing ≡ pos 0
dot_of-nothing = identity (vector3 ∷ []) (λ r. term.dot_of r (record { x = none; y = none; z = none }) ≣ none) tt

-- what is 0 when it is turned is so turned back
pub rays_move_on : RaysMoveOn
rays_move_on i ray rotation moves = λ ex ey ez.
    let m = i.rotation in
    let back = transpose m in
    let undone : product back m ≡ matrix.identity = subst (λ (m : Matrix). product (transpose m) m ≡ matrix.identity) (sym rotation.same) (product-transpose_left rotation.index rotation.below) in
    let turned : image m ray.d ≡ nothing = same3 (image m ray.d) nothing ex ey ez in
    let rest : image back nothing ≡ nothing = same3 (image back nothing) nothing (dot_of-nothing back.x) (dot_of-nothing back.y) (dot_of-nothing back.z) in
    let is : ray.d ≡ nothing =
    sym (image-identity ray.d) ∙ ap (λ (m : Matrix). image m ray.d) (sym undone) ∙ image-product back m ray.d ∙ ap (image back) turned ∙ rest in
    moves (ap (λ (v : V3). v.x) is) (ap (λ (v : V3). v.y) is) (ap (λ (v : V3). v.z) is)
