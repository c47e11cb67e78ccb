-- The deepest volume at a point: from the world, the first of all daughters inside which the local point is, and so on in her.
use Rattle.std.specs.Prelude.{◌≡◌, ℕ, zero, suc, ◌+◌, Bool, List, [], ◌∷◌, Option, None, Some, if◌then◌else◌}
use Rattle.gx_num.specs.declared.ray.Ray.{Ray}
use Rattle.gx_num.specs.Space.{is_inside}
use Rattle.gx_num.specs.Vector4.{Vec4}
use Rattle.gx_num.specs.Ray.{RayParameter, point_of_ray}
use Rattle.gx_shapes.specs.Solid.{solid_of}
use Rattle.gx_rotation.specs.Place.{local_point}
use Rattle.gx_tree.specs.declared.instance.Instance.{Instance}
use Rattle.gx_tree.specs.Hierarchy.{Hierarchy, volume_at, instances, max_depth}

-- a point of the mother's frame in the daughter's
abbrev pub local_of : Instance → Vec4 → Vec4
local_of i p = local_point i.rotation i.offset p

-- the point of the mother's frame is inside her daughter
abbrev pub is_inside_daughter : Hierarchy → Vec4 → Instance → Bool
is_inside_daughter h p i = is_inside (solid_of (volume_at h.volumes i.volume).solid) (local_of i p)

-- a daughter with her ordinal
pub record Daughter : Type 0 where
  pub ordinal : ℕ
  pub instance : Instance

-- the first that passes, numbered from `k` on
abbrev pub first_from : (Instance → Bool) → ℕ → List Instance → Option Daughter
first_from test k [] = None
first_from test k (i ∷ instances) = if test i then Some (record { ordinal = k; instance = i }) else first_from test (k + 1) instances

-- the first of all daughters inside which a point of the volume's frame is
abbrev pub first_daughter : Hierarchy → ℕ → Vec4 → Option Daughter
first_daughter h v p = first_from (is_inside_daughter h p) 0 (instances h v)

-- the ordinals from a volume down, for a point inside it, at most so many
abbrev pub descend : Hierarchy → ℕ → ℕ → Vec4 → List ℕ
descend h zero v p = []
descend h (suc n) v p = elim (first_daughter h v p) [
  | None ↦ []
  | Some d ↦ d.ordinal ∷ descend h n d.instance.volume (local_of d.instance p)
]

-- the ordinals that lead to the deepest volume inside which a point is, or nothing where it isn't inside the world
abbrev pub deepest : Hierarchy → Vec4 → Option (List ℕ)
deepest h p = if is_inside (solid_of (volume_at h.volumes h.world).solid) p then Some (descend h max_depth h.world p) else None

-- where the points of a ray are
abbrev pub path_along : Hierarchy → Ray → RayParameter → Option (List ℕ)
path_along h ray t = deepest h (point_of_ray ray t)

-- The same as a relation, with no number of steps: the ordinals lead from daughter to first daughter, and end where there is none.
abbrev pub IsDeepest : Hierarchy → ℕ → Vec4 → List ℕ → Type 0
IsDeepest h v p [] = first_daughter h v p ≡ None
IsDeepest h v p (k ∷ path) = (d : Daughter) × (first_daughter h v p ≡ Some d) × (d.ordinal ≡ k) × IsDeepest h d.instance.volume (local_of d.instance p) path
