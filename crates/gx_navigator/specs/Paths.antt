-- Paths of daughters in a hierarchy (this project's own).
use Rattle.std.specs.Prelude.{ℕ, slice_get, Option}
use Rattle.std.specs.Option.{option_map}
use Rattle.gx_tree.specs.Hierarchy.{Hierarchy, instances}

-- which volume the daughter with an ordinal is
abbrev pub daughter_of : Hierarchy → ℕ → ℕ → Option ℕ
daughter_of h v k = option_map (λ i. i.volume) (slice_get (instances h v) k)
