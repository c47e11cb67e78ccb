use Rattle.std.proofs.Common.{◌≡◌, ◌∙◌, ◌^◌, ◌+◌, None, unsigned_abs, sym, ap, subst, arith}
use Rattle.std.proofs.lemmas.Option.{same_Some}
use Rattle.gx_num.specs.declared.vector.TheConstants.{M}
use Rattle.gx_num.specs.declared.extent.Extent.{Extent}
use Rattle.gx_num.specs.Vector.{IsWithin}
use Rattle.gx_plane.specs.Plane.{reach}
use Rattle.gx_convex.specs.Extent.{extent_of}
use Rattle.gx_place.proofs.Sizes.{IsWithin-larger}
use Rattle.gx_tree.specs.declared.instance.Instance.{Instance}
use Rattle.gx_check.specs.Verdicts.{placed_vertices}
use Rattle.gx_frame.specs.Frames.{IsMet}
use Rattle.gx_boxes.specs.Boxes.{IsMet as IsBoxMet}
use Rattle.gx_sealed.specs.declared.placed.Daughter.{Daughter}
use Rattle.gx_sealed.proofs.Boxes.{near_extent, not_met}
use Rattle.gx_sealed.proofs.sealed.Sealed.clip.Goals as goal
use Rattle.gx_sealed.proofs.sealed.Sealed.clip.Given.{Over}
use Rattle.gx_sealed.proofs.sealed.Sealed.clip.Goals.{After-daughter}

extent_is : (g : Over) (c : After-daughter g) → c.daughter.result.now.extent ≡ extent_of (placed_vertices c.args.self.now c.daughter.result.now.instance)
extent_is g c = ap (λ (d : Daughter). d.extent) c.daughter.ensures.daughter.extent

pub misses-requires-clause-low : goal.misses-requires-clause-low
misses-requires-clause-low g c =
    subst (λ (e : Extent). IsWithin reach e.low) (sym (extent_is g c)) (near_extent c.args.self.now c.daughter.ensures.kept.tree c.daughter.result.now.instance c.daughter.ensures.daughter.instance).0

pub misses-requires-clause-high : goal.misses-requires-clause-high
misses-requires-clause-high g c =
    subst (λ (e : Extent). IsWithin reach e.high) (sym (extent_is g c)) (near_extent c.args.self.now c.daughter.ensures.kept.tree c.daughter.result.now.instance c.daughter.ensures.daughter.instance).1

pub returns-then-misses-clause-met : goal.returns-then-misses-clause-met
returns-then-misses-clause-met g c = λ i at.
    let h = c.args.self.now in
    let own = c.daughter.result.now.instance in
    let daughter = c.daughter.ensures.daughter in
    let none = subst (λ (e : Extent). IsBoxMet e c.args.ray.now → ⊥) (extent_is g (goal.at.returns-then-misses-clause-met g c).After-daughter) (c.misses.ensures c.if-misses.true) in
    subst (λ (j : Instance). IsMet h j c.args.ray.now None) (same_Some own i (sym daughter.at ∙ at)) (not_met h c.daughter.ensures.kept.tree own daughter.instance c.args.ray.now none)

pub span_in-requires-clause-origin : goal.span_in-requires-clause-origin
span_in-requires-clause-origin g c = IsWithin-larger (2 ^ 31 + unsigned_abs M) (2 ^ 61) c.local_ray.result.o (omega arith) (c.local_ray.ensures.origin (2 ^ 31) c.requires.ray.origin)

pub span_in-requires-clause-direction : goal.span_in-requires-clause-direction
span_in-requires-clause-direction g c = IsWithin-larger (2 ^ 31) (2 ^ 61) c.local_ray.result.d (omega arith) (c.local_ray.ensures.direction (2 ^ 31) c.requires.ray.direction)
