-- What the tests of a facet compute.
use Rattle.std.proofs.Common.{◌≡◌, Bool, true, false, ◌&&◌, pos, Option, Some, None, List, [], ◌∷◌, refl, sym, ap, ◌∙◌, arith, true≢false}
use Rattle.std.specs.List.{list_all}
use Rattle.std.specs.Ordering.{int_eq}
use Rattle.std.proofs.lemmas.Bool.Decides.{Decides-int_eq}
use Rattle.gx_num.specs.declared.vector.V3.{V3}
use Rattle.gx_num.specs.Vector.{dot_of, difference_of}
use Rattle.gx_num.specs.Space.{HalfSpace}
use Rattle.gx_algebra.proofs.Terms as term
use Rattle.gx_algebra.proofs.Terms.{◌≣◌, ◌⊖◌, none}
use Rattle.gx_algebra.proofs.Identity.{identity, vector3}
use Rattle.gx_algebra.proofs.Order.{zero_of_mul}
use Rattle.gx_plane.specs.Plane.{side_of, normal_of, divisor_of, plane_from, plane_at, plane_through}
use Rattle.gx_plane.proofs.Candidates.{normal_term}
use Rattle.gx_plane.proofs.PlaneFacts.{side_of-plane_at, plane_through_some}
use Rattle.gx_convex.proofs.Distinct.{by_bool}
use Rattle.gx_convex.proofs.FaceFacts.{is_same_plane-same}
use Rattle.gx_shapes.specs.declared.facet.Facet.{Facet}
use Rattle.gx_shapes.specs.Tessellation.{fourth, corners_of, inward, is_plane, covers}
use borrow.Author.Differences.{ints}

pub side_of-plane_from : (n a p : V3) → dot_of n (difference_of p a) ≡ side_of (plane_from n a) p
side_of-plane_from = identity (vector3 ∷ vector3 ∷ vector3 ∷ []) (λ n a p. term.dot_of n (term.difference_of p a) ≣ term.dot_of n p ⊖ term.dot_of n a) tt

abbrev pub is_on : HalfSpace → V3 → Bool
is_on h p = int_eq (side_of h p) (pos 0)

-- a plane along the normal of three of its points has them
on_three : (h : HalfSpace) (a b c : V3) (rest : List V3) → ((p : V3) → dot_of (normal_of a b c) (difference_of p a) ≡ pos 0 → side_of h p ≡ pos 0) → list_all (is_on h) (a ∷ b ∷ c ∷ rest) ≡ list_all (is_on h) rest
on_three h a b c rest at = λ i. on a (first a b c) i && (on b (second a b c) i && (on c (third a b c) i && list_all (is_on h) rest))
  where
    on : (p : V3) → dot_of (normal_of a b c) (difference_of p a) ≡ pos 0 → is_on h p ≡ true
    on p e = (Decides-int_eq (side_of h p) (pos 0)).1 (at p e)

    first : (a b c : V3) → dot_of (normal_of a b c) (difference_of a a) ≡ pos 0
    first = identity (vector3 ∷ vector3 ∷ vector3 ∷ []) (λ a b c. term.dot_of (normal_term a b c) (term.difference_of a a) ≣ none) tt

    second : (a b c : V3) → dot_of (normal_of a b c) (difference_of b a) ≡ pos 0
    second = identity (vector3 ∷ vector3 ∷ vector3 ∷ []) (λ a b c. term.dot_of (normal_term a b c) (term.difference_of b a) ≣ none) tt

    third : (a b c : V3) → dot_of (normal_of a b c) (difference_of c a) ≡ pos 0
    third = identity (vector3 ∷ vector3 ∷ vector3 ∷ []) (λ a b c. term.dot_of (normal_term a b c) (term.difference_of c a) ≣ none) tt

-- so all corners are on a facet's plane where the fourth is
pub is_on-corners : (f : Facet) → list_all (is_on (inward f)) (corners_of f) ≡ list_all (is_on (inward f)) (fourth f.d)
is_on-corners f =
    on_three (inward f) f.a f.b f.c (fourth f.d) (λ p e. sym (side_of-plane_from (normal_of f.a f.b f.c) f.a p) ∙ e)

-- and a facet covers no face that hasn't its corners
pub covers-is_on : (face : HalfSpace) (f : Facet) → list_all (is_on face) (f.a ∷ f.b ∷ f.c ∷ []) ≡ false → false ≡ covers face f
covers-is_on face f off =
    by_bool (covers face f) (λ e. absurd (true≢false (sym (whole (plane_through f.a f.b f.c) refl e) ∙ off))) sym
  where
    whole : (o : Option HalfSpace) → plane_through f.a f.b f.c ≡ o → is_plane face o ≡ true → list_all (is_on face) (f.a ∷ f.b ∷ f.c ∷ []) ≡ true
    whole None through e = absurd (true≢false (sym e))
    whole (Some h) through e = on_three face f.a f.b f.c [] at
      where
        at : (p : V3) → dot_of (normal_of f.a f.b f.c) (difference_of p f.a) ≡ pos 0 → side_of face p ≡ pos 0
        at p zero =
            let n = normal_of f.a f.b f.c in
            let is = plane_through_some f.a f.b f.c h through in
            ap (λ (h : HalfSpace). side_of h p) (is_same_plane-same face h e ∙ is.same) ∙ zero_of_mul (pos (divisor_of n)) (side_of (plane_at n f.a) p) (omega (arith, ints, is.apart)) (side_of-plane_at n f.a p ∙ zero)
