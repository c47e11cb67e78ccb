-- Clean hierarchies: daughters are in their mothers and don't overlap (the Geant4 Book for Application Developers, geometry, overlapping volumes).
use Rattle.std.specs.Prelude.{ℕ, ◌<◌, pos, ◌<ℤ◌, Bool, IsTrue, length, All, AllPairs}
use Rattle.gx_num.specs.Space.{is_in}
use Rattle.gx_num.specs.Vector4.{Vec4}
use Rattle.gx_shapes.specs.Solid.{solid_of}
use Rattle.gx_tree.specs.declared.instance.Instance.{Instance}
use Rattle.gx_tree.specs.Hierarchy.{Hierarchy, volume_at, instances}
use Rattle.gx_tree.specs.Deepest.{local_of, is_inside_daughter}

-- the point of the mother's frame is in her daughter
abbrev pub is_in_daughter : Hierarchy → Vec4 → Instance → Bool
is_in_daughter h p i = is_in (solid_of (volume_at h.volumes i.volume).solid) (local_of i p)

-- each point in the daughter is in her mother
abbrev pub IsContainedIn : Hierarchy → ℕ → Instance → Type 0
IsContainedIn h v i = (p : Vec4) → pos 0 <ℤ p.w → IsTrue (is_in_daughter h p i) → IsTrue (is_in (solid_of (volume_at h.volumes v).solid) p)

-- no point is inside both
abbrev pub AreDisjoint : Hierarchy → Instance → Instance → Type 0
AreDisjoint h i j = (p : Vec4) → pos 0 <ℤ p.w → IsTrue (is_inside_daughter h p i) → IsTrue (is_inside_daughter h p j) → ⊥

-- each daughter is in her mother, and no point is inside two of a mother's daughters, which have different ordinals
pub record IsClean (h : Hierarchy) : Type 0 where
  pub contained : (v : ℕ) → v < length h.volumes → All (IsContainedIn h v) (instances h v)
  pub disjoint : (v : ℕ) → v < length h.volumes → AllPairs (AreDisjoint h) (instances h v)
