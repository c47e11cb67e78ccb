-- The rows of a table.
use Rattle.std.specs.Prelude.{ℕ, ◌≡◌, ◌-◌, ◌<◌, IsTrue, Bool, Option, List, ◌++◌, length, replicate, find}
use Rattle.std.specs.Char.{is_ascii}
use Rattle.std.specs.List.{list_all}
use Rattle.std.specs.Option.{option_map}
use Rattle.std.specs.Str.{str_eq_ignore_ascii_case}

-- a text and its number
pub record TableEntry : Type 0 where
  pub text : List ℕ
  pub number : ℕ

-- the number of the first row whose text is the word, in any case of its letters
abbrev pub number_in : List TableEntry → List ℕ → Option ℕ
number_in rows word =
    option_map (λ (row : TableEntry). row.number) (find (λ row. str_eq_ignore_ascii_case row.text word) rows)

-- all bytes are ASCII
abbrev pub is_ascii_text : List ℕ → Bool
is_ascii_text text = list_all is_ascii text

-- the text and zeros after it, 16 bytes in all
abbrev pub padded : List ℕ → List ℕ
padded text = text ++ replicate (16 - length text) 0

-- the array holds the text, of this many bytes, 1 to 16, all ASCII, and zeros after it
pub record Holds (bytes : List ℕ) (count : ℕ) (text : List ℕ) : Type 0 where
  pub some : 0 < count
  pub whole : length text ≡ count
  pub padding : padded text ≡ bytes
  pub ascii : IsTrue (is_ascii_text text)
