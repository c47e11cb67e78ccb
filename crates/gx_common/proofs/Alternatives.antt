-- The law of alternatives, from its parts.
use Rattle.std.proofs.Common.{◌≡◌, ◌⊎◌, inl, inr, Option, Some, None, ◌++◌, refl, sym, ◌∙◌}
use Rattle.gx_num.specs.Space.{HalfSpace}
use Rattle.gx_plane.specs.Plane.{flipped}
use Rattle.gx_convex.specs.Faces.{faces_of}
use Rattle.gx_convex.specs.Laws.{AreTheSolid}
use Rattle.gx_convex.proofs.Cutting.{faces_are_the_solid}
use Rattle.gx_separate.specs.Between.{first_between}
use Rattle.gx_common.specs.Common.{candidate_points}
use Rattle.gx_common.specs.Laws.{AreReached, IsInsideBoth, AreAlternatives, Alternatives, SolidsApart}
use Rattle.gx_common.proofs.Apart.{IsApart, candidate_between}
use Rattle.gx_common.proofs.Reached.{reached_or_apart}
use Rattle.gx_common.proofs.Inside.{inside_from_reached, reached_from_inside, never, plane_between}
use Rattle.gx_common.proofs.Taken.{reached_from_taken, taken_from_reached}

pub alternatives : Alternatives
alternatives a b solid_a solid_b = record {
  either = either (reached_or_apart a b solid_a solid_b);
  never_both = λ h e r. never a b solid_a solid_b h e (inside_from_reached a b solid_a r);
  meet = (reached_from_inside a b solid_a solid_b, inside_from_reached a b solid_a);
  given = (λ t. reached_from_taken (candidate_points a b) (faces_of a ++ faces_of b) t.0 t.1, taken_from_reached (candidate_points a b) (faces_of a ++ faces_of b));
}
  where
    either : AreReached a b ⊎ IsApart a b → ((h : HalfSpace) × (first_between a b ≡ Some h)) ⊎ AreReached a b
    either (inl r) = inr r
    either (inr s) = inl (candidate_between a b solid_a s)

pub solids_apart : SolidsApart
solids_apart solid other a b solid_a solid_b hull_a hull_b = record {
  meet = (λ i. none (first_between a b) refl (both i), λ e. inside (law.meet.1 (from_none e law.either)));
  given = (λ i. law.given.1 (law.meet.0 (both i)), λ t. inside (law.meet.1 (law.given.0 t)));
  between = λ h e p w.
      let is = plane_between a b h e in
      (same_a.bounded h is.bounds p w, same_b.bounded (flipped h) is.bounds_other p w);
}
  where
    law : AreAlternatives a b
    law = alternatives a b solid_a solid_b

    same_a : AreTheSolid solid a
    same_a = faces_are_the_solid solid a solid_a hull_a

    same_b : AreTheSolid other b
    same_b = faces_are_the_solid other b solid_b hull_b

    both : IsInsideBoth solid other → IsInsideBoth (faces_of a) (faces_of b)
    both i = record {
      point = i.point;
      proper = i.proper;
      inside = sym (same_a.same_inside i.point i.proper) ∙ i.inside;
      inside_other = sym (same_b.same_inside i.point i.proper) ∙ i.inside_other;
    }

    inside : IsInsideBoth (faces_of a) (faces_of b) → IsInsideBoth solid other
    inside i = record {
      point = i.point;
      proper = i.proper;
      inside = same_a.same_inside i.point i.proper ∙ i.inside;
      inside_other = same_b.same_inside i.point i.proper ∙ i.inside_other;
    }

    none : (o : Option HalfSpace) → first_between a b ≡ o → IsInsideBoth (faces_of a) (faces_of b) → first_between a b ≡ None
    none None e i = e
    none (Some h) e i = absurd (law.never_both h e (law.meet.0 i))

    from_none : first_between a b ≡ None → ((h : HalfSpace) × (first_between a b ≡ Some h)) ⊎ AreReached a b → AreReached a b
    from_none e (inr r) = r
    from_none e (inl (h, f)) = absurd (differ (sym e ∙ f))
      where
        differ : None ≡ Some h → ⊥
        differ z = cc
