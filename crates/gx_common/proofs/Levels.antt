-- On which side of a plane a point between two others is, by the sides of the two.
use Rattle.std.proofs.Common.{◌≡◌, ℕ, ◌≤◌, ◌*◌, ℤ, pos, ◌+ℤ◌, ◌-ℤ◌, ◌*ℤ◌, ◌<ℤ◌, int_le, unsigned_abs, to_z, of_z, [], ◌∷◌, refl, ap, ◌∙◌, arith}
use Rattle.std.specs.Int.{w128}
use Rattle.std.specs.Ordering.{int_cmp, MatchOrdering}
use Rattle.std.specs.declared.cmp.Ordering.{Ordering}
use Rattle.std.specs.declared.cmp.Ordering.TheVariants.{Less, Equal, Greater}
use Rattle.std.proofs.lemmas.Bool.Decides.{same_from_decides}
use Rattle.std.proofs.lemmas.Cmp.{int_ranked}
use Rattle.std.proofs.lemmas.Int.{to_z-of_z, fits_signed_from_abs}
use Rattle.gx_num.specs.declared.vector.V3.{V3}
use Rattle.gx_num.specs.Space.{HalfSpace, normal_dot}
use Rattle.gx_algebra.proofs.Terms as term
use Rattle.gx_algebra.proofs.Terms.{◌≣◌, ◌⊕◌, ◌⊖◌, ◌⊗◌}
use Rattle.gx_algebra.proofs.Identity.{identity, natural, vector3, half_space}
use Rattle.gx_plane.specs.Plane.{offset_reach, side_of}
use Rattle.gx_plane.proofs.PlaneFacts.{Decides-int_le}
use Rattle.gx_common.specs.Common.{mixed}
use borrow.Author.Differences.{ints}

pub side_of-mixed : (h : HalfSpace) (k : ℕ) (p : V3) (l : ℕ) (q : V3) → pos k *ℤ side_of h p +ℤ pos l *ℤ side_of h q ≡ normal_dot h (mixed k p l q) -ℤ h.e *ℤ (mixed k p l q).w
side_of-mixed = identity (half_space ∷ natural ∷ vector3 ∷ natural ∷ vector3 ∷ []) (λ h k p l q. k ⊗ (term.dot_of h.n p ⊖ h.e) ⊕ l ⊗ (term.dot_of h.n q ⊖ h.e) ≣ term.normal_dot h (record { x = k ⊗ p.x ⊕ l ⊗ q.x; y = k ⊗ p.y ⊕ l ⊗ q.y; z = k ⊗ p.z ⊕ l ⊗ q.z; w = k ⊕ l }) ⊖ h.e ⊗ (k ⊕ l)) tt

-- a difference against 0 is how its parts compare
int_cmp-difference : (a b s : ℤ) → s ≡ a -ℤ b → int_cmp s (pos 0) ≡ int_cmp a b
int_cmp-difference a b s e = go (int_cmp s (pos 0)) (int_cmp a b) (int_ranked s (pos 0) (int_cmp s (pos 0)) refl) (int_ranked a b (int_cmp a b) refl)
  where
    go : (o u : Ordering) → MatchOrdering o (s <ℤ pos 0) (s ≡ pos 0) (pos 0 <ℤ s) → MatchOrdering u (a <ℤ b) (a ≡ b) (b <ℤ a) → o ≡ u
    go Less Less h k = refl
    go Less Equal h k = absurd (omega (arith, ints, e, h, k))
    go Less Greater h k = absurd (omega (arith, ints, e, h, k))
    go Equal Less h k = absurd (omega (arith, ints, e, h, k))
    go Equal Equal h k = refl
    go Equal Greater h k = absurd (omega (arith, ints, e, h, k))
    go Greater Less h k = absurd (omega (arith, ints, e, h, k))
    go Greater Equal h k = absurd (omega (arith, ints, e, h, k))
    go Greater Greater h k = refl

pub int_le-difference : (a b s : ℤ) → s ≡ a -ℤ b → int_le s (pos 0) ≡ int_le a b
int_le-difference a b s e =
    same_from_decides (int_le s (pos 0)) (int_le a b) (Decides-int_le s (pos 0)) (λ t. omega (arith, ints, e, (Decides-int_le a b).0 t), λ le. (Decides-int_le a b).1 (omega (arith, ints, e, le)))

-- a side as it is handed over by value
pub by_value : (z : ℤ) → unsigned_abs z ≤ 2 * offset_reach → to_z w128 (of_z w128 z) ≡ z
by_value z h = to_z-of_z w128 z (fits_signed_from_abs w128 z (omega (arith, h)))

pub level_is : (h : HalfSpace) (k : ℕ) (p : V3) (l : ℕ) (q : V3) (s t : ℤ) (o : Ordering) → o ≡ int_cmp (pos k *ℤ to_z w128 (of_z w128 s) +ℤ pos l *ℤ to_z w128 (of_z w128 t)) (pos 0) → s ≡ side_of h p → t ≡ side_of h q → unsigned_abs s ≤ 2 * offset_reach → unsigned_abs t ≤ 2 * offset_reach → o ≡ int_cmp (normal_dot h (mixed k p l q)) (h.e *ℤ (mixed k p l q).w)
level_is h k p l q s t o e es et bs bt =
    e ∙ ap (λ (z : ℤ). int_cmp (pos k *ℤ z +ℤ pos l *ℤ to_z w128 (of_z w128 t)) (pos 0)) (by_value s bs ∙ es) ∙ ap (λ (z : ℤ). int_cmp (pos k *ℤ side_of h p +ℤ pos l *ℤ z) (pos 0)) (by_value t bt ∙ et)
    ∙ int_cmp-difference (normal_dot h (mixed k p l q)) (h.e *ℤ (mixed k p l q).w) (pos k *ℤ side_of h p +ℤ pos l *ℤ side_of h q) (side_of-mixed h k p l q)
