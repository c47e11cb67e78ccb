-- The part of a ray that is inside a solid has one beginning and one end, so a daughter is met in one way.
use Rattle.std.proofs.Common.{◌≡◌, ℕ, refl, sym, ◌∙◌, arith, true≢false, List, Option, None, Some}
use Rattle.gx_num.specs.declared.ray.Ray.{Ray}
use Rattle.gx_num.specs.Space.{HalfSpace}
use Rattle.gx_num.specs.Ray.{RayParameter, IsUpTo}
use Rattle.gx_num.proofs.Order.{mediant, above_mediant, below_mediant, positive_mediant}
use Rattle.gx_fraction.specs.Fraction.{parameter_of}
use Rattle.gx_path.proofs.Unique.{same_parameter}
use Rattle.gx_clip.specs.declared.span.Span.{Span}
use Rattle.gx_clip.specs.Clip.{IsInsideBetween, IsClip}
use Rattle.gx_tree.specs.declared.instance.Instance.{Instance}
use Rattle.gx_tree.specs.Hierarchy.{Hierarchy}
use Rattle.gx_frame.specs.Frames.{local_ray, IsMet}
use Rattle.gx_nest.specs.Met.{hit_of}
use Rattle.gx_nest.specs.Laws.{MetIsFound}
use Rattle.gx_nest.proofs.Intervals.{starts_within, ends_within}

module _ (solid : List HalfSpace) (ray : Ray) where
  within : (a b c d : RayParameter) → IsInsideBetween solid ray a b → IsInsideBetween solid ray c d → IsUpTo c a × IsUpTo b d
  within a b c d p q = (
    starts_within a b c p.from_lowest.positive p.to_lowest.positive q.from_lowest.positive p.ordered (λ t h over under. let is = (q.inside t h).0 ((p.inside t h).1 (over, under)) in omega (arith, is.0)),
    ends_within a b d p.from_lowest.positive p.to_lowest.positive q.to_lowest.positive p.ordered (λ t h over under. let is = (q.inside t h).0 ((p.inside t h).1 (over, under)) in omega (arith, is.1)),
  )

  pub one_part : (a b c d : RayParameter) → IsInsideBetween solid ray a b → IsInsideBetween solid ray c d → (a ≡ c) × (b ≡ d)
  one_part a b c d p q =
      let there = within a b c d p q in
      let back = within c d a b q p in
      (same_parameter a c p.from_lowest q.from_lowest back.0 there.0, same_parameter b d p.to_lowest q.to_lowest there.1 back.1)

  pub never : (a b : RayParameter) → IsInsideBetween solid ray a b → IsClip solid ray None → ⊥
  never a b p none =
      let t = mediant a b in
      let h = positive_mediant a b p.from_lowest.positive p.ordered in
      true≢false (sym ((p.inside t h).1 (above_mediant a b p.ordered, below_mediant a b p.ordered)) ∙ none t h)

one_hit : (h : Hierarchy) (k : ℕ) (i : Instance) (ray : Ray) (a b : Option Span) → IsMet h i ray a → IsMet h i ray b → hit_of k i ray a ≡ hit_of k i ray b
one_hit h k i ray None None p q = refl
one_hit h k i ray None (Some b) p q = absurd (never _ _ (parameter_of b.from) (parameter_of b.to) q p)
one_hit h k i ray (Some a) None p q = absurd (never _ _ (parameter_of a.from) (parameter_of a.to) p q)
one_hit h k i ray (Some a) (Some b) p q =
    let same = one_part _ _ (parameter_of a.from) (parameter_of a.to) (parameter_of b.from) (parameter_of b.to) p q in
    λ x. Some (record { ordinal = k; from = same.0 x; to = same.1 x; daughter = record { volume = i.volume; ray = local_ray i ray } })

pub met_is_found : MetIsFound
met_is_found h found is_found frame moves k i at span met = let f = is_found frame moves k i at in f.2 ∙ one_hit h k i frame.ray f.0 span f.1 met
