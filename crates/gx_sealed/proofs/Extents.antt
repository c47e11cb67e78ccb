-- The extents of daughters, by their ordinals: they are proper, and points inside a daughter are strictly within hers.
use Rattle.std.proofs.Common.{◌≡◌, ◌∙◌, ℕ, ◌<◌, true, pos, ◌<ℤ◌, length, map, get_or, slice_get, Some, All, sym, ap, subst, arith}
use Rattle.std.specs.Option.{option_map}
use Rattle.std.proofs.lemmas.Int.{ints}
use Rattle.std.proofs.lemmas.List.{length-map}
use Rattle.std.proofs.lemmas.List.Elements.{All-map, All-weaker}
use Rattle.std.proofs.lemmas.List.FromFn.{length-range_with_len, get_or-range_with_len}
use Rattle.std.proofs.lemmas.Option.{slice_get-map, slice_get_within, get_or_from_slice_get}
use Rattle.std.proofs.lemmas.Simd.{map-map}
use Rattle.gx_num.specs.declared.extent.Extent.{Extent}
use Rattle.gx_num.specs.declared.ray.Ray.{Ray}
use Rattle.gx_num.specs.Space.{is_inside}
use Rattle.gx_num.specs.Vector4.{Vec4}
use Rattle.gx_num.proofs.Order.{above_positive}
use Rattle.gx_num.specs.Ray.{RayParameter, IsBelow, point_of_ray}
use Rattle.gx_fraction.specs.Fraction.{parameter_of}
use Rattle.gx_convex.specs.Extent.{extent_of}
use Rattle.gx_clip.specs.declared.span.Span.{Span}
use Rattle.gx_shapes.specs.Solid.{solid_of}
use Rattle.gx_tree.specs.declared.instance.Instance.{Instance}
use Rattle.gx_tree.specs.Hierarchy.{Hierarchy, volume_at, instances, IsInstance}
use Rattle.gx_tree.specs.Deepest.{local_of}
use Rattle.gx_tree.specs.Fault.{IsTree}
use Rattle.gx_check.specs.Verdicts.{placed_vertices}
use Rattle.gx_frame.specs.Frames.{IsMet}
use Rattle.gx_frame.proofs.Frames.{points_stay}
use Rattle.gx_boxes.specs.Boxes.{IsWithinOpen}
use Rattle.gx_boxes.specs.Boxes.{IsProper}
use Rattle.gx_sealed.specs.declared.placed.Daughter.{Daughter}
use Rattle.gx_sealed.specs.Placed.{daughter_of, daughters_of}
use Rattle.gx_sealed.specs.Cells.{extents_in, extent_in, ordinals_in}
use Rattle.gx_sealed.proofs.Boxes.{proper, in_extent}

pub length-extents_in : (h : Hierarchy) (v : ℕ) → length (extents_in h v) ≡ length (instances h v)
unfolding extents_in
length-extents_in h v = length-map (instances h v) (λ i. extent_of (placed_vertices h i))

-- that of the daughter with this ordinal
pub extent_in-is : (h : Hierarchy) (v k : ℕ) (i : Instance) → slice_get (instances h v) k ≡ Some i → extent_in h v k ≡ extent_of (placed_vertices h i)
unfolding extents_in
extent_in-is h v k i at =
    let f : Instance → Extent = λ i. extent_of (placed_vertices h i) in
    get_or_from_slice_get (map f (instances h v)) k (f i) _ (slice_get-map f (instances h v) k ∙ ap (option_map f) at)

-- those of the daughters that are kept
pub extents_of_daughters : (h : Hierarchy) (v : ℕ) → map (λ (d : Daughter). d.extent) (daughters_of h v) ≡ extents_in h v
unfolding daughters_of extents_in
extents_of_daughters h v = map-map (λ (d : Daughter). d.extent) (daughter_of h) (instances h v)

module _ (h : Hierarchy) (tree : IsTree h) (v : ℕ) where
  pub all_proper : All IsProper (extents_in h v)
  unfolding extents_in
  all_proper = All-map IsProper (λ i. extent_of (placed_vertices h i)) (instances h v) (All-weaker (IsInstance h) (λ i. IsProper (extent_of (placed_vertices h i))) (λ i is. proper h tree i is) (instances h v) (tree.placed v))

  pub proper_in : All (λ k. IsProper (extent_in h v k)) (ordinals_in h v)
  proper_in k d less =
      let below : k < length (instances h v) = omega (arith, length-range_with_len 0 (length (instances h v))) in
      let same : k ≡ get_or (ordinals_in h v) k d = omega (arith, get_or-range_with_len 0 (length (instances h v)) k d below) in
      subst (λ j. IsProper (extent_in h v j)) same (all_proper k _ (omega (arith, length-extents_in h v)))

  module _ (k : ℕ) (i : Instance) (at : slice_get (instances h v) k ≡ Some i) where
    is_instance : IsInstance h i
    is_instance = subst (IsInstance h) (get_or_from_slice_get (instances h v) k i i at) (tree.placed v k i (slice_get_within (instances h v) k i at))

    -- a point inside the daughter
    pub inside_extent : (p : Vec4) → pos 0 <ℤ p.w → is_inside (solid_of (volume_at h.volumes i.volume).solid) (local_of i p) ≡ true → IsWithinOpen (extent_in h v k) p
    inside_extent p positive inside = subst (λ (e : Extent). IsWithinOpen e p) (sym (extent_in-is h v k i at)) (in_extent h tree i is_instance p positive inside)

    -- and each point of a ray between the ends of the part that is inside her
    pub met_extent : (ray : Ray) (span : Span) → IsMet h i ray (Some span) → (t : RayParameter) → 0 < t.den → IsBelow (parameter_of span.from) t → IsBelow t (parameter_of span.to) → IsWithinOpen (extent_in h v k) (point_of_ray ray t)
    met_extent ray span met t positive after before =
        inside_extent (point_of_ray ray t) (omega (arith, ints, positive))
        (ap (is_inside (solid_of (volume_at h.volumes i.volume).solid)) (points_stay i ray t) ∙ (met.inside t (above_positive (parameter_of span.from) t after, positive)).1 (after, before))
