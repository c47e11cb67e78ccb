-- Marks that stand for rows where these are counted. No public contract stands on this file.
use Rattle.std.specs.Prelude.{ℕ, zero, suc, List, [], ◌∷◌}

-- so many marks
abbrev pub marks : ℕ → List ℕ
marks zero = []
marks (suc n) = 0 ∷ marks n
