-- A line as its reader sees it.
use Rattle.std.specs.Prelude.{ℕ, List}

-- its number, from 1, and its words
pub record TextLine : Type 0 where
  pub number : ℕ
  pub words : List (List ℕ)
