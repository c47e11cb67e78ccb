-- What a ray meets can be found, so each ray has a report.
use Rattle.std.proofs.Common.{◌≡◌, ℕ, ℤ, pos, negsuc, zero, suc, ◌⊎◌, inl, inr, refl, subst, List, slice_get, Option, None, Some}
use Rattle.gx_num.specs.declared.ray.Ray.{Ray}
use Rattle.gx_num.specs.Ray.{HasDirection}
use Rattle.gx_clip.specs.declared.span.Span.{Span}
use Rattle.gx_clip.proofs.Clips.{clip_exists}
use Rattle.gx_path.specs.Report.{Row, IsReport}
use Rattle.gx_partition.specs.Partition.{open_rows}
use Rattle.gx_partition.specs.Walk.{Hit}
use Rattle.gx_tree.specs.declared.instance.Instance.{Instance}
use Rattle.gx_tree.specs.Hierarchy.{Hierarchy, instances}
use Rattle.gx_tree.specs.Fault.{IsTree}
use Rattle.gx_tree.specs.Deepest.{path_along}
use Rattle.gx_check.specs.Clean.{IsClean}
use Rattle.gx_frame.specs.Frames.{local_ray, IsMet}
use Rattle.gx_nest.specs.Met.{Frame, hit_of, IsFound, pieces_along}
use Rattle.gx_nest.proofs.Nested.{solid_at, bounded_at, instance_at, moves_at}
use Rattle.gx_nest.proofs.Steady.{open_report}

zero_or_not : (z : ℤ) → (z ≡ pos 0) ⊎ (z ≡ pos 0 → ⊥)
zero_or_not (pos zero) = inl refl
zero_or_not (pos (suc n)) = inr (λ e. cc)
zero_or_not (negsuc n) = inr (λ e. cc)

directed : (ray : Ray) → HasDirection ray ⊎ (HasDirection ray → ⊥)
directed ray = by (zero_or_not ray.d.x) (zero_or_not ray.d.y) (zero_or_not ray.d.z)
  where
    by : {X Y Z : Type 0} → X ⊎ (X → ⊥) → Y ⊎ (Y → ⊥) → Z ⊎ (Z → ⊥) → (X → Y → Z → ⊥) ⊎ ((X → Y → Z → ⊥) → ⊥)
    by (inr never) y z = inl (λ a b c. never a)
    by (inl x) (inr never) z = inl (λ a b c. never b)
    by (inl x) (inl y) (inr never) = inl (λ a b c. never c)
    by (inl x) (inl y) (inl z) = inr (λ all. all x y z)

module _ (h : Hierarchy) (tree : IsTree h) where
  -- the part of a ray that is inside a daughter
  clip_at : (d : Frame) (k : ℕ) (i : Instance) → HasDirection d.ray → slice_get (instances h d.volume) k ≡ Some i → (span : Option Span) × IsMet h i d.ray span
  clip_at d k i moves at =
      clip_exists (solid_at h i.volume) (local_ray i d.ray) (bounded_at h tree i.volume (instance_at h tree d.volume k i at).volume) (moves_at h tree d.volume k i at d.ray moves)

  found_at : (d : Frame) (k : ℕ) → HasDirection d.ray → (o : Option Instance) → slice_get (instances h d.volume) k ≡ o → Option (Hit Frame)
  found_at d k moves None at = None
  found_at d k moves (Some i) at = hit_of k i d.ray (clip_at d k i moves at).0

  found_by : (d : Frame) → HasDirection d.ray ⊎ (HasDirection d.ray → ⊥) → ℕ → Option (Hit Frame)
  found_by d (inl moves) k = found_at d k moves (slice_get (instances h d.volume) k) refl
  found_by d (inr still) k = None

  pub found : Frame → ℕ → Option (Hit Frame)
  found d k = found_by d (directed d.ray) k

  pub is_found : IsFound h found
  unfolding found found_by found_at clip_at
  is_found d moves k i at = by (directed d.ray)
    where
      IsHere : Instance → Option (Hit Frame) → Type 0
      IsHere i hit = (span : Option Span) × IsMet h i d.ray span × (hit ≡ hit_of k i d.ray span)

      here : (moves : HasDirection d.ray) (o : Option Instance) (e : slice_get (instances h d.volume) k ≡ o) → o ≡ Some i → IsHere i (found_at d k moves o e)
      here moves None e f = absurd (cc)
      here moves (Some j) e f = let same : j ≡ i = cc in let clip = clip_at d k j moves e in subst (λ x. IsHere x (found_at d k moves (Some j) e)) same (clip.0, clip.1, refl)

      by : (o : HasDirection d.ray ⊎ (HasDirection d.ray → ⊥)) → IsHere i (found_by d o k)
      by (inl moves) = here moves (slice_get (instances h d.volume) k) refl at
      by (inr still) = absurd (still moves)

  pub each_ray : IsClean h → (ray : Ray) → HasDirection ray → (rows : List Row) × IsReport (path_along h ray) rows
  each_ray clean ray moves =
      let clip = clip_exists (solid_at h h.world) ray (bounded_at h tree h.world tree.world) moves in
      (open_rows (pieces_along h found ray clip.0), open_report h tree clean found is_found ray moves clip.0 clip.1)
