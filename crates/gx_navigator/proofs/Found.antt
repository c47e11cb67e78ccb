-- What the walk is told is what the ray meets.
use Rattle.std.proofs.Common.{◌≡◌, ℕ, ◌<◌, inl, inr, refl, sym, ap, ◌∙◌, subst, arith, List, [], map, length, slice_get, Option, None, Some}
use Rattle.std.specs.List.{AllByRecursion}
use Rattle.std.specs.Option.{option_map, ForSome}
use Rattle.std.proofs.lemmas.Option.{slice_get_cases}
use Rattle.gx_num.specs.declared.ray.Ray.{Ray}
use Rattle.gx_num.specs.Ray.{HasDirection}
use Rattle.gx_fraction.specs.Fraction.{parameter_of}
use Rattle.gx_clip.specs.declared.span.Span.{Span}
use Rattle.gx_clip.specs.Clip.{IsClip}
use Rattle.gx_tree.specs.declared.instance.Instance.{Instance}
use Rattle.gx_tree.specs.Hierarchy.{Hierarchy, instances, max_depth}
use Rattle.gx_tree.specs.Fault.{IsTree}
use Rattle.gx_tree.specs.Deepest.{path_along}
use Rattle.gx_check.specs.Clean.{IsClean}
use Rattle.gx_frame.specs.Frames.{local_ray, IsMet}
use Rattle.gx_path.specs.Path.{max_length}
use Rattle.gx_path.specs.Report.{IsReport}
use Rattle.gx_partition.specs.Partition.{open_rows}
use Rattle.gx_partition.specs.Walk.{Hit, pieces_of}
use Rattle.gx_partition.proofs.Sorted.{all-sorted}
use Rattle.gx_nest.specs.Met.{Frame as Place, hit_of as hit_at, IsFound, met_in as all_met}
use Rattle.gx_nest.proofs.Nested.{solid_at, bounded_at, instance_at, moves_at}
use Rattle.gx_nest.proofs.OneHit.{met_is_found}
use Rattle.gx_nest.proofs.Steady.{open_report}
use Rattle.gx_walk.specs.declared.met.Frame.{Frame}
use Rattle.gx_walk.specs.declared.met.Met.{Met}
use Rattle.gx_walk.specs.Hits.{CountOf, hit_of, hits_of, cost_of}
use Rattle.gx_navigator.specs.Clipped.{clip_of, clip_of-clip}
use Rattle.gx_navigator.specs.Paths.{daughter_of}
use Rattle.gx_navigator.specs.Tests.{IsCost}
use Rattle.gx_navigator.specs.Tracer.{met_at, met_in, met_of, meets, place}
use Rattle.gx_navigator.proofs.Relabel.{relabel, sorted-relabel, pieces-relabel, cost-relabel}
use Rattle.gx_navigator.proofs.Spans.{same_hit}

hit_at-met : (k : ℕ) (i : Instance) (ray : Ray) (span : Option Span) → option_map (relabel place) (option_map hit_of (option_map (met_at k ray i) span)) ≡ hit_at k i ray span
hit_at-met k i ray None = refl
hit_at-met k i ray (Some span) = refl

levels : max_length ≡ max_depth
unfolding max_length max_depth
levels = refl

get_some : (is : List Instance) (k : ℕ) → k < length is → (i : Instance) × (slice_get is k ≡ Some i)
get_some is k less = elim (slice_get_cases is k).1 [ inl at ↦ (at.0, at.2) | inr none ↦ absurd (omega (arith, none.0)) ]

module _ (h : Hierarchy) where
  abbrev pub found : Place → ℕ → Option (Hit Place)
  found p k = option_map (relabel place) (option_map hit_of (met_of h (record { volume = p.volume; ray = p.ray }) k))

  abbrev pub hits : Frame → List (Hit Frame)
  hits = hits_of (met_of h) (λ v. length (instances h v))

  hits-found : (f : Frame) → all_met h found (place f) ≡ map (relabel place) (hits f)
  hits-found f = sorted-relabel place (λ k. option_map hit_of (met_of h f k)) (length (instances h f.volume))

  -- each daughter that is met is linked to her mother
  pub linked : (f : Frame) → AllByRecursion (λ (hit : Hit Frame). daughter_of h f.volume hit.ordinal ≡ Some hit.daughter.volume) (hits f)
  linked f = all-sorted (λ k. option_map hit_of (met_of h f k)) (λ hit. daughter_of h f.volume hit.ordinal ≡ Some hit.daughter.volume) (length (instances h f.volume)) (λ k hit below e. by k hit (met_of h f k) refl e)
    where
      by : (k : ℕ) (hit : Hit Frame) (o : Option Met) → met_of h f k ≡ o → option_map hit_of o ≡ Some hit → daughter_of h f.volume hit.ordinal ≡ Some hit.daughter.volume
      by k hit None is e = absurd (cc)
      by k hit (Some met) is e =
          let m = meets h f k met is in
          let same : hit_of met ≡ hit = cc in
          subst (λ (x : Hit Frame). daughter_of h f.volume x.ordinal ≡ Some x.daughter.volume) same (ap (daughter_of h f.volume) m.0 ∙ m.1)

  module _ (tree : IsTree h) where
    pub is_found : IsFound h found
    is_found p moves k i at = (
      clip_of (solid_at h i.volume) (local_ray i p.ray),
      clip_of-clip (solid_at h i.volume) (local_ray i p.ray) (bounded_at h tree i.volume (instance_at h tree p.volume k i at).volume) (moves_at h tree p.volume k i at p.ray moves),
      ap (λ o. option_map (relabel place) (option_map hit_of (met_in h k p.ray o))) at ∙ hit_at-met k i p.ray (clip_of (solid_at h i.volume) (local_ray i p.ray)),
    )

    met_of-span : (mother : Frame) → HasDirection mother.ray → (k : ℕ) (i : Instance) → slice_get (instances h mother.volume) k ≡ Some i → (span : Option Span) → IsMet h i mother.ray span
        → met_of h mother k ≡ option_map (met_at k mother.ray i) span
    unfolding is_found
    met_of-span mother moves k i at span met =
        let p = place mother in
        let same = sym (is_found p moves k i at).2 ∙ met_is_found h found is_found p moves k i at span met in
        ap (met_in h k mother.ray) at
        ∙ ap (option_map (met_at k mother.ray i)) (same_hit k i mother.ray (clip_of (solid_at h i.volume) (local_ray i mother.ray)) span same)

    -- what a test answers is what is met
    module _ (mother : Frame) (moves : HasDirection mother.ray) (k : ℕ) (less : k < length (instances h mother.volume)) where
      pub met_of-none : ForSome (slice_get (instances h mother.volume) k) (λ i. IsMet h i mother.ray None) → None ≡ met_of h mother k
      met_of-none met = let at = get_some (instances h mother.volume) k less in sym (met_of-span mother moves k at.0 at.1 None (met at.0 at.1))

      pub met_of-some : (span : Span) (v : ℕ) (ray : Ray) → ForSome (slice_get (instances h mother.volume) k) (λ i. IsMet h i mother.ray (Some span))
          → ForSome (slice_get (instances h mother.volume) k) (λ i. v ≡ i.volume) → ForSome (slice_get (instances h mother.volume) k) (λ i. ray ≡ local_ray i mother.ray)
          → Some (record { ordinal = k; span = span; frame = record { volume = v; ray = ray } }) ≡ met_of h mother k
      met_of-some span v ray met volume entered =
          let at = get_some (instances h mother.volume) k less in
          ap (λ (w : ℕ). Some (record { ordinal = k; span = span; frame = record { volume = w; ray = ray } })) (volume at.0 at.1)
          ∙ ap (λ (r : Ray). Some (record { ordinal = k; span = span; frame = record { volume = at.0.volume; ray = r } })) (entered at.0 at.1)
          ∙ sym (met_of-span mother moves k at.0 at.1 (Some span) (met at.0 at.1))

    module _ (clean : IsClean h) (ray : Ray) (moves : HasDirection ray) where
      -- nowhere in the world there is nothing to report, and nothing to count
      pub no_report : IsClip (solid_at h h.world) ray None → IsReport (path_along h ray) []
      no_report clip = open_report h tree clean found is_found ray moves None clip

      pub no_cost : (count : CountOf Place) → IsClip (solid_at h h.world) ray None → IsCost h count ray 0
      no_cost count clip = record { found = found; is_found = is_found; span = None; is_span = clip; sum = refl }

      module _ (v : ℕ) (is : v ≡ h.world) (span : Span) (clip : IsClip (solid_at h h.world) ray (Some span)) where
        abbrev world : Frame
        world = record { volume = v; ray = ray }

        pub report : IsReport (path_along h ray) (open_rows (pieces_of hits max_length (parameter_of span.from) (parameter_of span.to) world))
        report =
            let from = parameter_of span.from in
            let to = parameter_of span.to in
            let same =
            ap (λ (w : ℕ). pieces_of (all_met h found) max_depth from to (record { volume = w; ray = ray })) (sym is)
            ∙ ap (λ n. pieces_of (all_met h found) n from to (place world)) (sym levels)
            ∙ pieces-relabel place hits (all_met h found) hits-found max_length from to world in
            subst (λ l. IsReport (path_along h ray) (open_rows l)) same (open_report h tree clean found is_found ray moves (Some span) clip)

        pub cost : (count : CountOf Place) → IsCost h count ray (cost_of (λ f. count (place f)) hits max_length (parameter_of span.from) (parameter_of span.to) world)
        cost count =
            let from = parameter_of span.from in
            let to = parameter_of span.to in
            record {
              found = found;
              is_found = is_found;
              span = Some span;
              is_span = clip;
              sum =
                  sym (cost-relabel place hits (all_met h found) hits-found count max_length from to world)
                  ∙ ap (λ n. cost_of count (all_met h found) n from to (place world)) levels
                  ∙ ap (λ (w : ℕ). cost_of count (all_met h found) max_depth from to (record { volume = w; ray = ray })) is;
            }
