-- What a ray meets in a hierarchy, as the walk asks about it. No public contract stands on this file.
use Rattle.std.proofs.Common.{◌≡◌, ℕ, ◌+◌, ◌*◌, ◌<◌, ◌≤◌, ◌^◌, refl, sym, ap, ◌∙◌, subst, arith, List, length, slice_get, Option, None, Some, unsigned_abs}
use Rattle.std.specs.Option.{option_map}
use Rattle.gx_num.specs.declared.vector.TheConstants.{M}
use Rattle.gx_num.specs.declared.ray.Ray.{Ray}
use Rattle.gx_num.specs.Space.{HalfSpace}
use Rattle.gx_num.specs.Vector.{IsWithin, difference_of}
use Rattle.gx_num.specs.Ray.{RayParameter, HasDirection}
use Rattle.gx_fraction.specs.Fraction.{parameter_of}
use Rattle.gx_clip.specs.declared.span.Span.{Span}
use Rattle.gx_clip.specs.Clip.{IsInsideBetween, IsClip}
use Rattle.gx_shapes.specs.Solid.{solid_of}
use Rattle.gx_tree.specs.declared.instance.Instance.{Instance}
use Rattle.gx_tree.specs.Hierarchy.{Hierarchy, volume_at, instances}
use Rattle.gx_tree.specs.Fault.{IsTree}
use Rattle.gx_check.specs.Clean.{IsClean}
use Rattle.gx_frame.specs.Frames.{local_ray}
use Rattle.gx_nest.specs.Met.{Frame as Place}
use Rattle.gx_nest.proofs.Nested.{solid_at, bounded_at, instance_at, moves_at}
use Rattle.gx_sealed.proofs.Turned.{IsWithin-image, IsWithin-difference}
use Rattle.gx_walk.specs.declared.met.Frame.{Frame}
use Rattle.gx_walk.specs.declared.met.Met.{Met}
use Rattle.gx_walk.specs.Hits.{Count}
use Rattle.gx_navigator.specs.Clipped.{clip_of, clip_of-clip}
use Rattle.gx_navigator.specs.Paths.{daughter_of}
use Rattle.gx_navigator.specs.Tests.{BoxTest, IsBoxTest, cut_by, tests_in, reads_in}

-- the daughter with this ordinal, inside whom the ray is in a span
abbrev pub met_at : ℕ → Ray → Instance → Span → Met
met_at k ray i span = record { ordinal = k; span = span; frame = record { volume = i.volume; ray = local_ray i ray } }

abbrev pub met_in : Hierarchy → ℕ → Ray → Option Instance → Option Met
met_in h k ray None = None
met_in h k ray (Some i) = option_map (met_at k ray i) (clip_of (solid_of (volume_at h.volumes i.volume).solid) (local_ray i ray))

abbrev pub met_of : Hierarchy → Frame → ℕ → Option Met
met_of h mother k = met_in h k mother.ray (slice_get (instances h mother.volume) k)

-- a volume of a clean hierarchy, and a ray that is inside it in a span, with room for the offsets of so many levels below
pub record IsKnown (h : Hierarchy) (n : ℕ) (frame : Frame) (span : Span) : Type 0 where
  pub tree : IsTree h
  pub clean : IsClean h
  pub volume : frame.volume < length h.volumes
  pub bound : ℕ
  pub room : bound + n * unsigned_abs M ≤ 2 ^ 31
  pub origin : IsWithin bound frame.ray.o
  pub direction : IsWithin (2 ^ 31) frame.ray.d
  pub moves : HasDirection frame.ray
  pub inside : IsInsideBetween (solid_at h frame.volume) frame.ray (parameter_of span.from) (parameter_of span.to)

abbrev pub place : Frame → Place
place f = record { volume = f.volume; ray = f.ray }

-- what some test of boxes lets pass
pub record IsBound (h : Hierarchy) (tests reads : Count) : Type 0 where
  pub passes : BoxTest
  pub is_test : IsBoxTest passes
  pub tests_are : (f : Frame) (from to : RayParameter) → tests f from to ≡ tests_in h passes (place f) from to
  pub reads_are : (f : Frame) (from to : RayParameter) → reads f from to ≡ reads_in h passes (place f) from to

-- a header is read
abbrev pub least_of : Hierarchy → Place → ℕ
least_of h f = elim (cut_by h f.volume (volume_at h.volumes f.volume).placements) [ None ↦ 0 | Some cut ↦ 1 ]

-- what is met is one of the daughters, in a span in which the ray is inside her
pub record IsMetAt (h : Hierarchy) (mother : Frame) (k : ℕ) (met : Met) : Type 0 where
  pub instance : Instance
  pub at : slice_get (instances h mother.volume) k ≡ Some instance
  pub ordinal : met.ordinal ≡ k
  pub frame : met.frame ≡ record { volume = instance.volume; ray = local_ray instance mother.ray }
  pub span : clip_of (solid_at h instance.volume) (local_ray instance mother.ray) ≡ Some met.span

met_by : (h : Hierarchy) (mother : Frame) (k : ℕ) (i : Instance) (span : Option Span) (met : Met) → slice_get (instances h mother.volume) k ≡ Some i
    → clip_of (solid_at h i.volume) (local_ray i mother.ray) ≡ span → option_map (met_at k mother.ray i) span ≡ Some met → IsMetAt h mother k met
met_by h mother k i None met at clip e = absurd (cc)
met_by h mother k i (Some span) met at clip e =
    let same : met_at k mother.ray i span ≡ met = cc in
    record {
      instance = i;
      at = at;
      ordinal = ap (λ (m : Met). m.ordinal) (sym same);
      frame = ap (λ (m : Met). m.frame) (sym same);
      span = clip ∙ ap (λ (m : Met). Some m.span) same;
    }

pub is_met_at : (h : Hierarchy) (mother : Frame) (k : ℕ) (met : Met) → met_of h mother k ≡ Some met → IsMetAt h mother k met
is_met_at h mother k met e = by (slice_get (instances h mother.volume) k) refl e
  where
    by : (o : Option Instance) → slice_get (instances h mother.volume) k ≡ o → met_in h k mother.ray o ≡ Some met → IsMetAt h mother k met
    by None at e = absurd (cc)
    by (Some i) at e = met_by h mother k i (clip_of (solid_at h i.volume) (local_ray i mother.ray)) met at refl e

pub meets : (h : Hierarchy) (mother : Frame) (k : ℕ) (met : Met) → met_of h mother k ≡ Some met → (met.ordinal ≡ k) × (daughter_of h mother.volume k ≡ Some met.frame.volume)
meets h mother k met e =
    let is = is_met_at h mother k met e in
    (is.ordinal, ap (option_map (λ i. i.volume)) is.at ∙ ap (λ (f : Frame). Some f.volume) (sym is.frame))

-- inside whom the ray is in the span
pub met-inside : (h : Hierarchy) → IsTree h → (mother : Frame) → HasDirection mother.ray → (k : ℕ) (met : Met) (is : IsMetAt h mother k met)
    → IsInsideBetween (solid_at h is.instance.volume) (local_ray is.instance mother.ray) (parameter_of met.span.from) (parameter_of met.span.to)
met-inside h tree mother moves k met is =
    let i = is.instance in
    let clip = clip_of-clip (solid_at h i.volume) (local_ray i mother.ray) (bounded_at h tree i.volume (instance_at h tree mother.volume k i is.at).volume) (moves_at h tree mother.volume k i is.at mother.ray moves) in
    subst (IsClip (solid_at h i.volume) (local_ray i mother.ray)) is.span clip

pub knows_met : (h : Hierarchy) (mother : Frame) (n : ℕ) (span : Span) (k : ℕ) (met : Met) → IsKnown h (n + 1) mother span → met_of h mother k ≡ Some met → IsKnown h n met.frame met.span
knows_met h mother n span k met known e =
    let is = is_met_at h mother k met e in
    let i = is.instance in
    let kept = instance_at h known.tree mother.volume k i is.at in
    let below : IsKnown h n (record { volume = i.volume; ray = local_ray i mother.ray }) met.span = record {
      tree = known.tree;
      clean = known.clean;
      volume = kept.volume;
      bound = known.bound + unsigned_abs M;
      room = omega (arith, known.room);
      origin = IsWithin-image i.rotation kept.rotation (known.bound + unsigned_abs M) (difference_of mother.ray.o i.offset) (IsWithin-difference known.bound (unsigned_abs M) mother.ray.o i.offset known.origin kept.offset);
      direction = IsWithin-image i.rotation kept.rotation (2 ^ 31) mother.ray.d known.direction;
      moves = moves_at h known.tree mother.volume k i is.at mother.ray known.moves;
      inside = met-inside h known.tree mother known.moves k met is;
    } in
    subst (λ (f : Frame). IsKnown h n f met.span) (sym is.frame) below
