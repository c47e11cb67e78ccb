-- What rays meet in the second sample, given the spans in its cells.
use Rattle.std.proofs.Common.{◌≡◌, ℕ, suc, ◌+◌, ◌*◌, ◌%◌, ◌<◌, pos, List, [], ◌∷◌, slice_get, Option, None, Some, refl, ap, ◌∙◌, arith}
use Rattle.std.specs.Prelude.{sum_by}
use Rattle.std.specs.Int.{IsGcd}
use Rattle.std.proofs.lemmas.Int.{ints}
use Rattle.std.proofs.lemmas.Nat.Gcd.{IsGcd-from_mod, IsGcd-from_zero}
use Rattle.gx_num.specs.Ray.{RayParameter, HasDirection, IsBelow}
use Rattle.gx_num.specs.Space.{HalfSpace}
use Rattle.gx_num.specs.declared.ray.Ray.{Ray}
use Rattle.gx_fraction.specs.Fraction.{Fraction, parameter_of}
use Rattle.gx_clip.specs.declared.span.Span.{Span}
use Rattle.gx_clip.specs.declared.interval.Interval.{Interval}
use Rattle.gx_clip.specs.Clip.{IsClip}
use Rattle.gx_clip.specs.Interval.{whole, part_inside}
use Rattle.gx_clip.specs.Parameter.{IsLowestForm}
use Rattle.gx_clip.proofs.Clips.{from_span}
use Rattle.gx_tree.specs.declared.instance.Instance.{Instance}
use Rattle.gx_tree.specs.Volume.{instance_of, instances_of}
use Rattle.gx_tree.specs.Hierarchy.{Hierarchy, instances, max_depth}
use Rattle.gx_frame.specs.Frames.{IsMet}
use Rattle.gx_partition.specs.Walk.{Hit, insert_found}
use Rattle.gx_nest.specs.Met.{Frame, hit_of, IsFound, met_in}
use Rattle.gx_nest.proofs.Nested.{solid_at}
use Rattle.gx_nest.proofs.OneHit.{met_is_found, one_part, never}
use Rattle.gx_walk.specs.Hits.{CountOf, cost_of}
use Rattle.gx_navigator.specs.Tests.{IsCost, cost_along}
use Rattle.gx_sample_clean.specs.Sample.{cells, core, sample_tree}

abbrev pub h : Hierarchy
h = sample_tree 2

-- ---- spans between whole numbers

abbrev number : ℕ → Fraction
number a = record { num = pos a; den = 1 }

abbrev pub at : ℕ → RayParameter
at a = record { num = a; den = 1 }

abbrev pub span : (a b : ℕ) → a < b → Span
span a b less = record { from = number a; to = number b; start = omega (arith, ints); end = omega (arith, ints); ordered = omega (arith, less) }

form : (t : RayParameter) (a : ℕ) → 0 < t.den → a * t.den ≡ t.num → IsLowestForm t (number a)
form t a positive same = record {
  den = positive;
  sign = omega (arith, ints);
  lowest = record { positive = omega arith; coprime = IsGcd-from_mod a 1 1 (IsGcd-from_zero 1 (a % 1) (omega arith)) };
  same = omega (arith, same);
}

pub clip_is : (solid : List HalfSpace) (r : Ray) (from to : RayParameter) (a b : ℕ) (less : a < b) → part_inside (Some whole) solid r ≡ Some (record { from = from; to = Some to })
    → IsBelow from to → 0 < from.den → 0 < to.den → a * from.den ≡ from.num → b * to.den ≡ to.num → IsClip solid r (Some (span a b less))
clip_is solid r from to a b less is below positive_from positive_to same_from same_to =
    from_span solid r (record { from = from; to = Some to }) to (Some (span a b less)) is refl (below, form from a positive_from same_from, form to b positive_to same_to)

-- ---- what is met

abbrev pub cell : ℕ → Instance
cell k = instance_of (cells 2) k

abbrev pub inner : Instance
inner = instance_of core 0

abbrev pub world : Ray → Frame
world r = record { volume = 0; ray = r }

abbrev pub in_cell : Ray → Frame
in_cell r = record { volume = 1; ray = r }

module _ (found : Frame → ℕ → Option (Hit Frame)) (is : IsFound h found) (r : Ray) (moves : HasDirection r) where
  pub in_world : (a b c d : Option Span) → IsMet h (cell 0) r a → IsMet h (cell 1) r b → IsMet h (cell 2) r c → IsMet h (cell 3) r d
      → met_in h found (world r) ≡ insert_found (hit_of 3 (cell 3) r d) (insert_found (hit_of 2 (cell 2) r c) (insert_found (hit_of 1 (cell 1) r b) (insert_found (hit_of 0 (cell 0) r a) [])))
  unfolding instances_of
  in_world a b c d first second third fourth =
      let here : (k : ℕ) → slice_get (instances h 0) k ≡ Some (cell k) → (s : Option Span) → IsMet h (cell k) r s → found (world r) k ≡ hit_of k (cell k) r s = λ k e s met. met_is_found h found is (world r) moves k (cell k) e s met in
      λ i. insert_found (here 3 refl d fourth i) (insert_found (here 2 refl c third i) (insert_found (here 1 refl b second i) (insert_found (here 0 refl a first i) [])))

  pub within_cell : (a : Option Span) → IsMet h inner r a → met_in h found (in_cell r) ≡ insert_found (hit_of 0 inner r a) []
  unfolding instances_of
  within_cell a met = λ i. insert_found (met_is_found h found is (in_cell r) moves 0 inner refl a met i) []

-- ---- what it costs

-- in a volume, and in the daughters that are met
pub spread : (count : CountOf Frame) (hits : Frame → List (Hit Frame)) (n : ℕ) (from to : RayParameter) (f : Frame) (known : List (Hit Frame)) → hits f ≡ known
    → cost_of count hits (suc n) from to f ≡ count f from to + sum_by (λ x. cost_of count hits n x.from x.to x.daughter) known
spread count hits n from to f known e = ap (λ (l : List (Hit Frame)). count f from to + sum_by (λ x. cost_of count hits n x.from x.to x.daughter) l) e

-- the ray is inside the world in one span alone
pub cost_is : (count : CountOf Frame) (r : Ray) (a b : ℕ) (less : a < b) → IsClip (solid_at h 0) r (Some (span a b less)) → (n : ℕ) (c : IsCost h count r n) → n ≡ cost_of count (met_in h c.found) max_depth (at a) (at b) (world r)
cost_is count r a b less clip n c = c.sum ∙ by c.span c.is_span
  where
    by : (s : Option Span) → IsClip (solid_at h 0) r s → cost_along h count c.found r s ≡ cost_of count (met_in h c.found) max_depth (at a) (at b) (world r)
    by None none = absurd (never (solid_at h 0) r (at a) (at b) clip none)
    by (Some s) some = let same = one_part (solid_at h 0) r (parameter_of s.from) (parameter_of s.to) (at a) (at b) some clip in λ i. cost_of count (met_in h c.found) max_depth (same.0 i) (same.1 i) (world r)
