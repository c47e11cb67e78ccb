-- The order of entry of the daughters met. No public contract stands on this file.
use Rattle.std.specs.Prelude.{◌≡◌, ℕ, Bool, sum_by, List, map, Option, None, Some}
use Rattle.std.specs.List.{All}
use Rattle.std.specs.Ordering.{is_lt, nat_cmp, ordering_then}
use Rattle.gx_fraction.specs.Fraction.{compare}
use Rattle.gx_partition.specs.Walk.{Hit}
use Rattle.gx_walk.specs.declared.met.Frame.{Frame}
use Rattle.gx_walk.specs.declared.met.Met.{Met}
use Rattle.gx_walk.specs.Hits.{hit_of}

-- entered before the other, or at once with the lower ordinal
abbrev pub is_earlier : Met → Met → Bool
is_earlier a b = is_lt (ordering_then (compare a.span.from b.span.from) (nat_cmp a.ordinal b.ordinal))

-- what a daughter counts for, where she is met
abbrev pub weight : (ℕ → Option Met) → (Hit Frame → ℕ) → ℕ → ℕ
weight met f k = elim (met k) [ None ↦ 0 | Some m ↦ f (hit_of m) ]

-- these are the daughters met at some ordinals, in some order
pub record AreMet (met : ℕ → Option Met) (ks : List ℕ) (mets : List Met) : Type 0 where
  pub known : All (λ m. met m.ordinal ≡ Some m) mets
  -- they are as many, however one counts
  pub same : (f : Hit Frame → ℕ) → sum_by f (map hit_of mets) ≡ sum_by (weight met f) ks
