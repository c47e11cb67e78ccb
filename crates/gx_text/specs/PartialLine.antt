-- A line that isn't ended yet. No public contract stands on this file.
use Rattle.std.specs.Prelude.{ℕ, ◌-◌, List, [], ◌∷◌, length, slice_index, Bool, false, ◌==◌, ◌&&◌, ◌||◌, not}
use Rattle.gx_text.specs.Lines.{begins_comment, is_allowed}

-- its comment has begun
abbrev pub has_comment : List ℕ → Bool
has_comment [] = false
has_comment (b ∷ rest) = begins_comment (b ∷ rest) || has_comment rest

-- its last byte is this one
abbrev pub ends : List ℕ → ℕ → Bool
ends line b = not (length line == 0) && (slice_index line (length line - 1) == b)

-- the byte is in its comment, or is allowed and doesn't follow a CR
abbrev pub brings_nothing : List ℕ → ℕ → Bool
brings_nothing line b = has_comment line || (is_allowed b && not (ends line 13))
