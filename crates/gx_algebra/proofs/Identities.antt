-- Identities of vectors and determinants.
use Rattle.std.proofs.Common.{◌≡◌, ℕ, [], ◌∷◌, ℤ, pos, ◌+ℤ◌, ◌-ℤ◌, ◌*ℤ◌}
use Rattle.gx_num.specs.declared.vector.V3.{V3}
use Rattle.gx_num.specs.declared.ray.Ray.{Ray}
use Rattle.gx_num.specs.Space.{HalfSpace, normal_dot}
use Rattle.gx_num.specs.Vector4.{Vec4, origin, dot4, plus4, times4, opposite4, det4, minors}
use Rattle.gx_num.specs.Ray.{point_of_ray}
use Rattle.gx_num.specs.Vector.{dot_of}
use Rattle.gx_algebra.proofs.Terms as term
use Rattle.gx_algebra.proofs.Terms.{◌≣◌, ◌≣³◌, ◌⊕◌, ◌⊖◌, ◌⊗◌, none}
use Rattle.gx_algebra.proofs.Identity.{identity, number, natural, vector4, half_space, ray}

-- vectors with the same components are one
pub same3 : (a b : V3) → a.x ≡ b.x → a.y ≡ b.y → a.z ≡ b.z → a ≡ b
same3 a b p q r = λ i. record { x = p i; y = q i; z = r i }

pub same4 : (a b : Vec4) → a.x ≡ b.x → a.y ≡ b.y → a.z ≡ b.z → a.w ≡ b.w → a ≡ b
same4 a b p q r s = λ i. record { x = p i; y = q i; z = r i; w = s i }

-- ---- three numbers
-- ---- four numbers
pub dot4_comm : (a b : Vec4) → dot4 a b ≡ dot4 b a
dot4_comm = identity (vector4 ∷ vector4 ∷ []) (λ a b. term.dot4 a b ≣ term.dot4 b a) tt

pub dot4-plus4 : (a b c : Vec4) → dot4 a (plus4 b c) ≡ dot4 a b +ℤ dot4 a c
dot4-plus4 = identity (vector4 ∷ vector4 ∷ vector4 ∷ []) (λ a b c. term.dot4 a (term.plus4 b c) ≣ term.dot4 a b ⊕ term.dot4 a c) tt

pub dot4-times4 : (k : ℤ) (a b : Vec4) → dot4 a (times4 k b) ≡ k *ℤ dot4 a b
dot4-times4 = identity (number ∷ vector4 ∷ vector4 ∷ []) (λ k a b. term.dot4 a (term.times4 k b) ≣ k ⊗ term.dot4 a b) tt

pub dot4-opposite4 : (a b : Vec4) → dot4 a (opposite4 b) ≡ pos 0 -ℤ dot4 a b
dot4-opposite4 = identity (vector4 ∷ vector4 ∷ []) (λ a b. term.dot4 a (term.opposite4 b) ≣ none ⊖ term.dot4 a b) tt

pub dot4-origin : (a : Vec4) → dot4 a origin ≡ pos 0
dot4-origin = identity (vector4 ∷ []) (λ a. term.dot4 a term.origin ≣ none) tt

-- minors are orthogonal to their rows: a determinant with two equal rows is 0
pub dot4-minors_first : (a b c : Vec4) → dot4 a (minors a b c) ≡ pos 0
dot4-minors_first = identity (vector4 ∷ vector4 ∷ vector4 ∷ []) (λ a b c. term.dot4 a (term.minors a b c) ≣ none) tt

pub dot4-minors_second : (a b c : Vec4) → dot4 b (minors a b c) ≡ pos 0
dot4-minors_second = identity (vector4 ∷ vector4 ∷ vector4 ∷ []) (λ a b c. term.dot4 b (term.minors a b c) ≣ none) tt

pub dot4-minors_third : (a b c : Vec4) → dot4 c (minors a b c) ≡ pos 0
dot4-minors_third = identity (vector4 ∷ vector4 ∷ vector4 ∷ []) (λ a b c. term.dot4 c (term.minors a b c) ≣ none) tt

-- five vectors of four numbers, by their products with a sixth (the rule of Cramer)
pub cramer : (a b c g p v : Vec4) → ((dot4 g (minors a b c) *ℤ dot4 p v -ℤ dot4 p (minors a b c) *ℤ dot4 g v) +ℤ (det4 p g b c *ℤ dot4 a v)) +ℤ (det4 p g c a *ℤ dot4 b v +ℤ det4 p g a b *ℤ dot4 c v) ≡ pos 0
cramer = identity (vector4 ∷ vector4 ∷ vector4 ∷ vector4 ∷ vector4 ∷ vector4 ∷ []) (λ a b c g p v. ((term.dot4 g (term.minors a b c) ⊗ term.dot4 p v ⊖ term.dot4 p (term.minors a b c) ⊗ term.dot4 g v) ⊕ (term.det4 p g b c ⊗ term.dot4 a v)) ⊕ (term.det4 p g c a ⊗ term.dot4 b v ⊕ term.det4 p g a b ⊗ term.dot4 c v) ≣ none) tt

-- ---- inequalities at the points of a ray
pub normal_dot-point_of_ray : (h : HalfSpace) (r : Ray) (p q : ℕ) → normal_dot h (point_of_ray r (record { num = p; den = q })) ≡ pos q *ℤ dot_of h.n r.o +ℤ pos p *ℤ dot_of h.n r.d
normal_dot-point_of_ray = identity (half_space ∷ ray ∷ natural ∷ natural ∷ []) (λ h r p q. term.normal_dot h (term.point_of_ray r p q) ≣ q ⊗ term.dot_of h.n r.o ⊕ p ⊗ term.dot_of h.n r.d) tt
