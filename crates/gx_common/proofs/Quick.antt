-- Where extents have no inside in common, or a face has no vertex of the other solid strictly inside, no point is inside both, and none is taken.
use Rattle.std.proofs.Common.{◌≡◌, ◌⊎◌, inl, inr, Bool, true, false, ◌||◌, Option, Some, None, ℤ, pos, ◌*ℤ◌, ◌≤ℤ◌, ◌<ℤ◌, int_le, int_lt, List, [], ◌∷◌, All, refl, sym, ap, ◌∙◌, arith, true≢false}
use Rattle.std.specs.List.{list_any}
use Rattle.std.specs.Option.{is_none, is_some}
use Rattle.std.proofs.lemmas.Bool.{or_parts}
use Rattle.std.proofs.lemmas.List.Elements.{All-nil, All-cons, All-weaker}
use Rattle.std.proofs.lemmas.List.Sums.{list_all-from_AllPass}
use Rattle.gx_num.specs.declared.vector.V3.{V3}
use Rattle.gx_num.specs.Space.{HalfSpace, normal_dot, is_in, is_inside}
use Rattle.gx_num.specs.Vector4.{Vec4}
use Rattle.gx_algebra.proofs.Order.{mul-le-left}
use Rattle.gx_plane.specs.Plane.{side_of, supports, flipped}
use Rattle.gx_plane.proofs.PlaneFacts.{Decides-int_le, Decides-supports, side_of-flipped}
use Rattle.gx_convex.specs.Points.{are_coplanar}
use Rattle.gx_convex.specs.Faces.{faces_of}
use Rattle.gx_convex.specs.Extent.{extent_of}
use Rattle.gx_convex.specs.Hull.{IsAtMost}
use Rattle.gx_convex.specs.Laws.{IsBetween, IsWithinExtent, AreTheSolid}
use Rattle.gx_convex.proofs.Cutting.{faces_are_the_solid}
use Rattle.gx_convex.proofs.Distinct.{by_bool}
use Rattle.gx_convex.proofs.FaceFacts.{faces_bound, implied}
use Rattle.gx_convex.proofs.Truth.{Decides-is_in, Decides-is_inside}
use Rattle.gx_separate.specs.Between.{first_between}
use Rattle.gx_common.specs.Common.{taken_of}
use Rattle.gx_common.specs.Laws.{AreReached, IsInsideBoth, AreAlternatives}
use Rattle.gx_common.specs.Reached.{are_extents_apart, are_reached_by}
use Rattle.gx_common.proofs.Alternatives.{alternatives}
use Rattle.gx_common.proofs.Inside.{normal_dot-flipped}
use borrow.Author.Differences.{ints}

-- ---- points are taken just where no plane is between
module _ (a b : List V3) (solid_a : are_coplanar a ≡ false) (solid_b : are_coplanar b ≡ false) where
  law : AreAlternatives a b
  law = alternatives a b solid_a solid_b

  pub none_taken : (IsInsideBoth (faces_of a) (faces_of b) → ⊥) → taken_of a b ≡ None
  none_taken never = go (taken_of a b) refl
    where
      go : (o : Option (List Vec4)) → taken_of a b ≡ o → taken_of a b ≡ None
      go None e = e
      go (Some ps) e = absurd (never (law.meet.1 (law.given.0 (ps, e))))

  taken_or_between : is_none (taken_of a b) ≡ is_some (first_between a b)
  taken_or_between = go (taken_of a b) (first_between a b) refl refl
    where
      go : (t : Option (List Vec4)) (h : Option HalfSpace) → taken_of a b ≡ t → first_between a b ≡ h → is_none t ≡ is_some h
      go None (Some h) e f = refl
      go (Some ps) None e f = refl
      go (Some ps) (Some h) e f = absurd (law.never_both h f (law.given.0 (ps, e)))
      go None None e f = absurd (neither law.either)
        where
          neither : ((h : HalfSpace) × (first_between a b ≡ Some h)) ⊎ AreReached a b → ⊥
          neither (inl (h, g)) = no (sym f ∙ g)
            where
              no : None ≡ Some h → ⊥
              no z = cc
          neither (inr r) = no (law.given.1 r)
            where
              no : ((ps : List Vec4) × (taken_of a b ≡ Some ps)) → ⊥
              no (ps, g) = absurd (none (sym e ∙ g))
                where
                  none : None ≡ Some ps → ⊥
                  none z = cc

  pub apart_is : (found : Option (List Vec4)) → found ≡ taken_of a b → is_none found ≡ is_some (first_between a b)
  apart_is found e = ap (λ (t : Option (List Vec4)). is_none t) e ∙ taken_or_between

  pub meet_is : (found : Option (List Vec4)) → found ≡ taken_of a b → is_some found ≡ is_none (first_between a b)
  meet_is found e = go found (first_between a b) (apart_is found e)
    where
      go : (t : Option (List Vec4)) (h : Option HalfSpace) → is_none t ≡ is_some h → is_some t ≡ is_none h
      go None None f = sym f
      go None (Some h) f = refl
      go (Some ps) None f = refl
      go (Some ps) (Some h) f = sym f

-- ---- extents
own_solid : (a : List V3) → are_coplanar a ≡ false → AreTheSolid (faces_of a) a
own_solid a solid =
    faces_are_the_solid (faces_of a) a solid (record { bounds = faces_bound a; bounded = λ h s p _ e. implied a solid h s p e })

refuted : (low high at other_low other_high w : ℤ) → pos 0 <ℤ w → IsBetween low high at w → IsBetween other_low other_high at w → int_le high other_low ≡ false
refuted low high at other_low other_high w positive own other = by_bool (int_le high other_low)
    (λ e. absurd (omega (arith, ints, mul-le-left w high other_low (omega (arith, ints, positive)) ((Decides-int_le high other_low).0 e), own.below, other.above, swap w high, swap w other_low)))
    (λ e. e)
  where
    swap : (u v : ℤ) → u *ℤ v ≡ v *ℤ u
    swap u v = grind (arith, ints)

all_refuted : (s t u v w x : Bool) → s ≡ false → t ≡ false → u ≡ false → v ≡ false → w ≡ false → x ≡ false → ((s || (t || u)) || (v || (w || x))) ≡ false
all_refuted s t u v w x e f g h k l = rw (e, f, g, h, k, l) refl

pub none_apart : (a b : List V3) → are_coplanar a ≡ false → are_coplanar b ≡ false → are_extents_apart (extent_of a) (extent_of b) ≡ true → taken_of a b ≡ None
none_apart a b solid_a solid_b apart = none_taken a b solid_a solid_b no
  where
    no : IsInsideBoth (faces_of a) (faces_of b) → ⊥
    no i = true≢false (sym apart ∙ all_refuted _ _ _ _ _ _ (before first.x second.x) (before first.y second.y) (before first.z second.z) (before second.x first.x) (before second.y first.y) (before second.z first.z))
      where
        first : IsWithinExtent a i.point
        first = (own_solid a solid_a).extent i.point i.proper i.inside

        second : IsWithinExtent b i.point
        second = (own_solid b solid_b).extent i.point i.proper i.inside_other

        before : {low high at other_low other_high : ℤ} → IsBetween low high at i.point.w → IsBetween other_low other_high at i.point.w → int_le high other_low ≡ false
        before {low} {high} {at} {other_low} {other_high} s t = refuted low high at other_low other_high i.point.w i.proper s t

-- ---- faces that no vertex of the other solid is strictly inside of
none_before : (test : V3 → Bool) (ps : List V3) → list_any test ps ≡ false → All (λ p. test p ≡ false) ps
none_before test [] e = All-nil (λ p. test p ≡ false)
none_before test (p ∷ ps) e =
    let parts = or_parts (test p) (list_any test ps) e in
    All-cons (λ p. test p ≡ false) p ps parts.0 (none_before test ps parts.1)

reached_by : (b : List V3) → are_coplanar b ≡ false → (h : HalfSpace) (p : Vec4) → is_in (faces_of b) p ≡ true → normal_dot h p <ℤ (h.e *ℤ p.w) → list_any (λ q. int_lt (side_of h q) (pos 0)) b ≡ true
reached_by b solid h p inside strict = by_bool (list_any (λ q. int_lt (side_of h q) (pos 0)) b) (λ e. e) (λ e. absurd (no (none_before (λ q. int_lt (side_of h q) (pos 0)) b e)))
  where
    not_below : (z : ℤ) → int_lt z (pos 0) ≡ false → pos 0 ≤ℤ z
    not_below z e = grind (arith, ints)

    no : All (λ q. int_lt (side_of h q) (pos 0) ≡ false) b → ⊥
    no none =
        let bounds : supports (flipped h) b ≡ true = (Decides-supports (flipped h) b).1 (All-weaker (λ q. int_lt (side_of h q) (pos 0) ≡ false) (λ q. side_of (flipped h) q ≤ℤ pos 0) (λ q e. omega (arith, ints, side_of-flipped h q, not_below (side_of h q) e)) b none) in
        omega (arith, ints, strict, normal_dot-flipped h p, implied b solid (flipped h) bounds p inside)

are_reached : (a b : List V3) → are_coplanar b ≡ false → (p : Vec4) → is_inside (faces_of a) p ≡ true → is_in (faces_of b) p ≡ true → are_reached_by (faces_of a) b ≡ true
are_reached a b solid p inside inside_other =
    list_all-from_AllPass (λ h. list_any (λ q. int_lt (side_of h q) (pos 0)) b) (faces_of a)
    (All-weaker (λ h. normal_dot h p <ℤ (h.e *ℤ p.w)) (λ h. list_any (λ q. int_lt (side_of h q) (pos 0)) b ≡ true) (λ h lt. reached_by b solid h p inside_other lt) (faces_of a) ((Decides-is_inside (faces_of a) p).0 inside))

-- what is strictly inside is in
is_in-from_inside : (hs : List HalfSpace) (p : Vec4) → is_inside hs p ≡ true → is_in hs p ≡ true
is_in-from_inside hs p e =
    (Decides-is_in hs p).1 (All-weaker (λ h. normal_dot h p <ℤ (h.e *ℤ p.w)) (λ h. IsAtMost h p) (λ h lt. omega (arith, ints, lt)) hs ((Decides-is_inside hs p).0 e))

pub none_unreached : (a b : List V3) → are_coplanar a ≡ false → are_coplanar b ≡ false → (are_reached_by (faces_of a) b ≡ false) ⊎ (are_reached_by (faces_of b) a ≡ false) → taken_of a b ≡ None
none_unreached a b solid_a solid_b (inl e) =
    none_taken a b solid_a solid_b (λ i. true≢false (sym (are_reached a b solid_b i.point i.inside (is_in-from_inside (faces_of b) i.point i.inside_other)) ∙ e))
none_unreached a b solid_a solid_b (inr e) =
    none_taken a b solid_a solid_b (λ i. true≢false (sym (are_reached b a solid_a i.point i.inside_other (is_in-from_inside (faces_of a) i.point i.inside)) ∙ e))
