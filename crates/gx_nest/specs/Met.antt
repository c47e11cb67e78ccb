-- What a ray meets in the volumes of a hierarchy, and the pieces that come of it (this project's own).
use Rattle.std.specs.Prelude.{◌≡◌, ℕ, List, [], length, slice_get, Option, None, Some}
use Rattle.gx_num.specs.declared.ray.Ray.{Ray}
use Rattle.gx_num.specs.Ray.{HasDirection}
use Rattle.gx_fraction.specs.Fraction.{parameter_of}
use Rattle.gx_clip.specs.declared.span.Span.{Span}
use Rattle.gx_tree.specs.declared.instance.Instance.{Instance}
use Rattle.gx_tree.specs.Hierarchy.{Hierarchy, instances, max_depth}
use Rattle.gx_frame.specs.Frames.{local_ray, IsMet}
use Rattle.gx_partition.specs.Partition.{Piece}
use Rattle.gx_partition.specs.Walk.{Hit, sorted, pieces_of}

-- a volume, and the ray in its frame
pub record Frame : Type 0 where
  pub volume : ℕ
  pub ray : Ray

-- the daughter with this ordinal, inside whom the ray is in a span, or nowhere
abbrev pub hit_of : ℕ → Instance → Ray → Option Span → Option (Hit Frame)
hit_of k i ray None = None
hit_of k i ray (Some span) =
    Some (record { ordinal = k; from = parameter_of span.from; to = parameter_of span.to; daughter = record { volume = i.volume; ray = local_ray i ray } })

-- what is found at an ordinal is the daughter there, as the ray meets her
abbrev pub IsFound : Hierarchy → (Frame → ℕ → Option (Hit Frame)) → Type 0
IsFound h found = (frame : Frame) → HasDirection frame.ray → (k : ℕ) (i : Instance) → slice_get (instances h frame.volume) k ≡ Some i
    → (span : Option Span) × IsMet h i frame.ray span × (found frame k ≡ hit_of k i frame.ray span)

-- all daughters that are met in a volume, in the order of entry
abbrev pub met_in : Hierarchy → (Frame → ℕ → Option (Hit Frame)) → Frame → List (Hit Frame)
met_in h found frame = sorted (found frame) (length (instances h frame.volume))

-- the pieces of a ray, given its span in the world
abbrev pub pieces_along : Hierarchy → (Frame → ℕ → Option (Hit Frame)) → Ray → Option Span → List Piece
pieces_along h found ray None = []
pieces_along h found ray (Some span) = pieces_of (met_in h found) max_depth (parameter_of span.from) (parameter_of span.to) (record { volume = h.world; ray = ray })
