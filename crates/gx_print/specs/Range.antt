-- The verdicts and the rows that have a line in a hierarchy.
use Rattle.std.specs.Prelude.{ℕ, Bool, true, List, [], ◌∷◌, IsTrue, All, ◌&&◌, nat_lt, length}
use Rattle.gx_tree.specs.Hierarchy.{Hierarchy, instances}
use Rattle.gx_check.specs.declared.verdict.Verdict.{Verdict}
use Rattle.gx_check.specs.declared.verdict.Verdict.TheVariants.{Inner, Outer, Apart, Overlap}
use Rattle.gx_check.specs.Verdicts.{verdicts}
use Rattle.gx_print.specs.Texts.{volume_below}

-- a volume has a daughter of this ordinal
abbrev pub has_daughter : Hierarchy → ℕ → ℕ → Bool
has_daughter h v k = nat_lt v (length h.volumes) && nat_lt k (length (instances h v))

-- ordinals lead from a volume down by daughters
abbrev pub is_path : Hierarchy → ℕ → List ℕ → Bool
is_path h v [] = true
is_path h v (k ∷ path) = has_daughter h v k && is_path h (volume_below h v k) path

-- the mother and the daughters of a verdict are in the hierarchy
abbrev pub is_in_range : Hierarchy → Verdict → Bool
is_in_range h (Inner mother k) = has_daughter h mother k
is_in_range h (Outer mother k point) = has_daughter h mother k
is_in_range h (Apart mother first second plane) = has_daughter h mother first && has_daughter h mother second
is_in_range h (Overlap mother first second points) = has_daughter h mother first && has_daughter h mother second

-- so are those of all its verdicts
abbrev pub VerdictsInRange : Type 0
VerdictsInRange = (h : Hierarchy) → All (λ v. IsTrue (is_in_range h v)) (verdicts h)
