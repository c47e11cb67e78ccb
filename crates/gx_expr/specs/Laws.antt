-- What the whole ratio of two fractions is, and which words are expressions.
use Rattle.std.specs.Prelude.{◌≡◌, ℤ, pos, ◌*ℤ◌, ◌<ℤ◌, ◌<◌, ◌↔◌, ℕ, List, Some}
use Rattle.gx_fraction.specs.Fraction.{Fraction}
use Rattle.gx_expr.specs.Convert.{whole_ratio}
use Rattle.gx_expr.specs.Tree.{Tree, tree_of, Derives}

-- n times b is a, crosswise
abbrev pub IsTimes : ℤ → Fraction → Fraction → Type 0
IsTimes n b a = n *ℤ (b.num *ℤ pos a.den) ≡ a.num *ℤ pos b.den

-- the whole ratio is the one n with n * b = a
abbrev pub IsExact : Type 0
IsExact = (a b : Fraction) (n : ℤ) → 0 < a.den → pos 0 <ℤ b.num → (whole_ratio a b ≡ Some n) ↔ IsTimes n b a

-- a word has the tree that the grammar derives for it, and no other one
abbrev pub IsGrammar : Type 0
IsGrammar = (word : List ℕ) (t : Tree) → (tree_of word ≡ Some t) ↔ Derives word t
