-- What a name is.
use Rattle.std.specs.Prelude.{ℕ, Bool, List, length, slice_index, ◌==◌, ◌&&◌, not, nat_le}
use Rattle.std.specs.List.{list_all}

-- 1 to 255 bytes, none of them `"` (34) or `$` (36), and the first isn't `:` (58)
abbrev pub is_name_of : List ℕ → Bool
is_name_of word =
    not (length word == 0) && nat_le (length word) 255 && not (slice_index word 0 == 58)
    && list_all (λ b. not (b == 34) && not (b == 36)) word
