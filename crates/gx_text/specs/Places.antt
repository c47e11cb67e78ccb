-- Where the words of a line stand in its bytes. No public contract stands on this file.
use Rattle.std.specs.Prelude.{ℕ, ◌≤◌, List, [], ◌∷◌, map, nat_lt, slice_range, if◌then◌else◌}
use Rattle.gx_text.specs.declared.line.Place.{Place}

abbrev pub words_at : List ℕ → List Place → List (List ℕ)
words_at text places = map (λ place. slice_range text place.start place.end) places

-- a place that has a byte
abbrev pub unless_empty : ℕ → ℕ → List Place
unless_empty start end = if nat_lt start end then record { start = start; end = end } ∷ [] else []

-- a place among the first n bytes
abbrev pub IsWithin : ℕ → Place → Type 0
IsWithin n place = (place.start ≤ place.end) × (place.end ≤ n)
