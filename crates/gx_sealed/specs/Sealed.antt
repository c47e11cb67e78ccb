-- Hierarchies that are sealed for tracing, and the rays that are traced in them (this project's own).
use Rattle.std.specs.Prelude.{◌≡◌, ℕ, ◌^◌, ◌≤◌, length, find, Some, EachIndex, SomeIndex}
use Rattle.gx_num.specs.declared.ray.Ray.{Ray}
use Rattle.gx_num.specs.Vector.{IsWithin}
use Rattle.gx_num.specs.Ray.{HasDirection}
use Rattle.gx_tree.specs.Hierarchy.{Hierarchy, instances}
use Rattle.gx_tree.specs.Fault.{IsTree}
use Rattle.gx_check.specs.Clean.{IsClean}
use Rattle.gx_check.specs.Verdicts.{verdicts, refutes}
use Rattle.gx_sealed.specs.declared.error.SealError.{SealError}
use Rattle.gx_sealed.specs.declared.error.SealError.TheVariants.{Refuted, NoMemory}

-- what a sealed hierarchy keeps
pub record IsSealed (h : Hierarchy) : Type 0 where
  pub tree : IsTree h
  pub clean : IsClean h

-- why it isn't sealed: it is handed back with the first verdict that refutes it; want of memory has no cause
abbrev pub IsSealCause : Hierarchy → SealError → Type 0
IsSealCause h (Refuted back verdict) = (back ≡ h) × (find refutes (verdicts h) ≡ Some verdict)
IsSealCause h NoMemory = Unit {0}

-- the greatest number of daughters: no volume has more, and some volume has as many
pub record IsMostDaughters (h : Hierarchy) (n : ℕ) : Type 0 where
  pub at_most : EachIndex h.volumes (λ v. length (instances h v) ≤ n)
  pub reached : SomeIndex h.volumes (λ v. length (instances h v) ≡ n)

-- a ray that has a direction, and numbers that leave room for 32 frames and their products
pub record IsTraceable (ray : Ray) : Type 0 where
  pub origin : IsWithin (2 ^ 31) ray.o
  pub direction : IsWithin (2 ^ 31) ray.d
  pub moves : HasDirection ray
