-- A ray in the frame of a daughter that is turned and moved in her mother (the Geant4 Book for Application Developers, geometry, physical volumes).
use Rattle.std.specs.Prelude.{Option}
use Rattle.gx_num.specs.declared.ray.Ray.{Ray}
use Rattle.gx_num.specs.Vector.{difference_of}
use Rattle.gx_clip.specs.declared.span.Span.{Span}
use Rattle.gx_clip.specs.Clip.{IsClip}
use Rattle.gx_rotation.specs.Matrix.{image}
use Rattle.gx_shapes.specs.Solid.{solid_of}
use Rattle.gx_tree.specs.declared.instance.Instance.{Instance}
use Rattle.gx_tree.specs.Hierarchy.{Hierarchy, volume_at}

-- a ray of the mother's frame in the daughter's
abbrev pub local_ray : Instance → Ray → Ray
local_ray i ray = record { o = image i.rotation (difference_of ray.o i.offset); d = image i.rotation ray.d }

-- the part above 0 of a ray of the mother's frame that is inside the daughter
abbrev pub IsMet : Hierarchy → Instance → Ray → Option Span → Type 0
IsMet h i ray span = IsClip (solid_of (volume_at h.volumes i.volume).solid) (local_ray i ray) span
