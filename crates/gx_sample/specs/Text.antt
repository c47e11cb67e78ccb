-- The sample text of n. It is this project's own.
use Rattle.std.specs.Prelude.{ℕ, List, [], ◌∷◌, ◌++◌, codes, decimal, flat_map}

-- the lines that are the same for each n
abbrev pub fixed_lines : List (List ℕ)
fixed_lines =
    codes ":P half 10*$n"
    ∷ codes ":ROTM r0 0 0 0"
    ∷ codes ":VOLU world BOX $half+20 $half+20 100 Air"
    ∷ codes ":VOLU cell BOX 10 10 50 Lead"
    ∷ codes ":VOLU core TRD 4 8 4 8 40 Wax"
    ∷ codes ":PLACE_PARAM cell 1 world SQUARE_XY r0 $n $n 20 20 10-$half 10-$half"
    ∷ codes ":PLACE core 1 cell r0 0 0 0"
    ∷ codes ":RAY -$half-30 0 0 1 0 0"
    ∷ codes ":RAY -$half-30 -$half-30 0 1 1 0"
    ∷ codes ":RAY 0 5 -120 0 0 1"
    ∷ []

-- all lines, in order
abbrev pub sample_lines : ℕ → List (List ℕ)
sample_lines n =
    (codes "// sample " ++ decimal n)
    ∷ (codes ":P n " ++ decimal n)
    ∷ fixed_lines

-- each line is ended with LF
unfoldable pub sample_text : ℕ → List ℕ
sample_text n = flat_map (λ line. line ++ 10 ∷ []) (sample_lines n)
