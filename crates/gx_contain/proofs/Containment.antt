-- A solid is in another where no vertex is outside.
use Rattle.std.proofs.Common.{◌≡◌, ◌↔◌, Bool, true, false, not, find, List, [], ◌∷◌, None, All, Contains, pos, ◌≤ℤ◌, int_le, refl, sym, ap, ◌∙◌, arith}
use Rattle.std.proofs.lemmas.Bool.{not-false}
use Rattle.std.proofs.lemmas.List.Elements.{All-head, All-tail, All-contains, All-contains_itself, All-weaker}
use Rattle.std.specs.Bool.{Decides}
use Rattle.std.proofs.lemmas.Bool.Decides.{Decides-by_and}
use Rattle.gx_num.specs.declared.vector.V3.{V3}
use Rattle.gx_num.specs.Space.{HalfSpace, is_in}
use Rattle.gx_num.specs.Vector4.{Vec4}
use Rattle.gx_algebra.proofs.Laws.{mul-one}
use Rattle.gx_algebra.proofs.Lists.{find-none}
use Rattle.gx_plane.proofs.PlaneFacts.{Decides-int_le}
use Rattle.gx_plane.specs.Plane.{side_of, supports}
use Rattle.gx_plane.proofs.PlaneFacts.{Decides-supports}
use Rattle.gx_convex.specs.Points.{are_coplanar}
use Rattle.gx_convex.specs.Faces.{faces_of}
use Rattle.gx_convex.specs.Hull.{IsAtMost, IsBound, IsHullOf}
use Rattle.gx_convex.proofs.Bounds.{All-is_in}
use Rattle.gx_convex.proofs.Cutting.{faces_are_the_solid}
use Rattle.gx_convex.proofs.Truth.{Decides-is_in}
use Rattle.gx_contain.specs.Outside.{is_within, first_outside}
use Rattle.gx_contain.specs.Laws.{IsContained, Containment}
use borrow.Author.Differences.{ints}

none-find : {X : Type 0} (test : X → Bool) (xs : List X) → All (λ x. test x ≡ false) xs → find test xs ≡ None
none-find test [] h = refl
none-find test (x ∷ xs) h = rw (All-head (λ x. test x ≡ false) x xs h) (none-find test xs (All-tail (λ x. test x ≡ false) x xs h))

-- a vertex as a point
abbrev at : V3 → Vec4
at v = record { x = v.x; y = v.y; z = v.z; w = pos 1 }

behind : (h : HalfSpace) (v : V3) → IsAtMost h (at v) ↔ side_of h v ≤ℤ pos 0
behind h v = let one = mul-one h.e in (λ le. omega (arith, ints, le, one), λ le. omega (arith, ints, le, one))

Decides-is_within : (planes : List HalfSpace) (v : V3) → Decides (is_within planes v) (All (λ h. side_of h v ≤ℤ pos 0) planes)
Decides-is_within planes v =
    Decides-by_and (λ h. int_le (side_of h v) (pos 0)) (λ h. side_of h v ≤ℤ pos 0) (λ hs. is_within hs v) (λ h. Decides-int_le (side_of h v) (pos 0)) refl (λ _ _. refl) planes

module _ (mother daughter : List HalfSpace) (outer inner : List V3) (solid : are_coplanar outer ≡ false) (is : IsHullOf mother outer) (has : IsHullOf daughter inner) where
  -- no vertex is outside, so each face bounds the vertices, and with them the daughter
  contained : first_outside outer inner ≡ None → IsContained daughter mother
  contained none p positive e =
      (faces_are_the_solid mother outer solid is).same_in p positive
      ∙ (Decides-is_in (faces_of outer) p).1 (All-weaker (Contains (faces_of outer)) (λ h. IsAtMost h p) (λ h among. has.bounded h (supporting h among) p positive e) (faces_of outer) (All-contains_itself (faces_of outer)))
    where
      within : (v : V3) → Contains inner v → is_within (faces_of outer) v ≡ true
      within v among = not-false (is_within (faces_of outer) v) (find-none (λ v. not (is_within (faces_of outer) v)) inner v none among)

      supporting : (h : HalfSpace) → Contains (faces_of outer) h → supports h inner ≡ true
      supporting h face =
          (Decides-supports h inner).1 (All-weaker (Contains inner) (λ v. side_of h v ≤ℤ pos 0) (λ v among. All-contains (λ h. side_of h v ≤ℤ pos 0) (faces_of outer) h ((Decides-is_within (faces_of outer) v).0 (within v among)) face) inner (All-contains_itself inner))

  -- each vertex is a point of the daughter, and so one of the mother
  not_outside : IsContained daughter mother → first_outside outer inner ≡ None
  not_outside all =
      none-find (λ v. not (is_within (faces_of outer) v)) inner
      (All-weaker (Contains inner) (λ v. not (is_within (faces_of outer) v) ≡ false) (λ v among. ap not (within v among)) inner (All-contains_itself inner))
    where
      vertex : (v : V3) → Contains inner v → is_in daughter (at v) ≡ true
      vertex v among =
          (Decides-is_in daughter (at v)).1
          (All-weaker (IsBound inner) (λ h. IsAtMost h (at v)) (λ h bound. (behind h v).1 (All-contains (λ v. side_of h v ≤ℤ pos 0) inner v ((Decides-supports h inner).0 bound.supports) among)) daughter has.bounds)

      within : (v : V3) → Contains inner v → is_within (faces_of outer) v ≡ true
      within v among =
          let faces = sym ((faces_are_the_solid mother outer solid is).same_in (at v) (omega (arith, ints))) ∙ all (at v) (omega (arith, ints)) (vertex v among) in
          (Decides-is_within (faces_of outer) v).1 (All-weaker (λ h. IsAtMost h (at v)) (λ h. side_of h v ≤ℤ pos 0) (λ h. (behind h v).0) (faces_of outer) (All-is_in (faces_of outer) (at v) faces))

pub containment : Containment
containment mother daughter outer inner solid is has = (contained mother daughter outer inner solid is has, not_outside mother daughter outer inner solid is has)
