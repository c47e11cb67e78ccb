-- What lines are written from, and their bytes. No public contract stands on this file.
use Rattle.std.specs.Prelude.{ℕ, Bool, false, nat_eq, if◌then◌else◌, List, [], ◌∷◌, ◌++◌, map, flat_map}
use Rattle.std.specs.List.{range_with_len}
use Rattle.std.specs.Option.{option_map, unwrap_or}
use Rattle.std.specs.Fmt.{decimal, signed_decimal}
use Rattle.gx_shapes.specs.Solid.{kind_of}
use Rattle.gx_rotation.specs.Rotation.{matrix_of}
use Rattle.gx_tree.specs.declared.placement.Placement.{Placement}
use Rattle.gx_tree.specs.Volume.{Volume}
use Rattle.gx_decl.specs.declared.declaration.Declaration.{Declaration}
use Rattle.gx_decl.specs.declared.declaration.Declaration.TheVariants.{Turn}
use Rattle.gx_canon.specs.Words.{vector_words, scale_word, kind_word, value_words, words_of}
use Rattle.gx_canon.specs.Text.{joined}
use Rattle.gx_canon.specs.Canonical.{rotation_name, rotation_number, is_used, placed}
use Rattle.gx_list.specs.declared.piece.Piece.{Piece}
use Rattle.gx_list.specs.declared.piece.Piece.TheVariants as piece

-- the words that it gives
abbrev pub words_in : Piece → List (List ℕ)
words_in (piece.Word word) = word.now ∷ []
words_in (piece.Count count) = decimal count ∷ []
words_in (piece.Copy copy) = signed_decimal copy ∷ []
words_in (piece.Length length) = signed_decimal length.now ∷ []
words_in (piece.Vector v) = vector_words v
words_in (piece.Ratio scale) = scale_word scale ∷ []
words_in (piece.Turn k) = rotation_name k ∷ []

-- a blank before each word
unfoldable pub spaced : List (List ℕ) → List ℕ
spaced words = flat_map (λ word. 32 ∷ word) words

-- a line of these words
unfoldable pub line_of : List (List ℕ) → List ℕ
line_of words = joined words ++ 10 ∷ []

abbrev pub line : Declaration → List ℕ
line d = line_of (words_of d)

-- the line of a rotation, if some placement has it
abbrev pub turn_line : List Volume → ℕ → List ℕ
turn_line volumes k = if is_used volumes k then line (Turn (rotation_name k) (matrix_of k)) else []

-- of each of the 24
unfoldable pub turn_lines : List Volume → List (List ℕ)
turn_lines volumes = map (turn_line volumes) (range_with_len 0 24)

-- the lines of the placements in a mother
abbrev pub lines_in : List Volume → Volume → List (List ℕ)
lines_in volumes mother = map (λ placement. line (placed volumes mother placement)) mother.placements

-- the placement has the rotation with this number
abbrev pub has_rotation : ℕ → Placement → Bool
has_rotation k placement = unwrap_or (option_map (nat_eq k) (rotation_number placement)) false

-- the words of a volume's line after the first
abbrev pub volume_words : Volume → List (List ℕ)
volume_words v = v.name ∷ kind_word (kind_of v.solid) ∷ value_words v.solid ++ v.material ∷ []
