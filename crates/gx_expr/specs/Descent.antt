-- How the descent goes over a text, byte by byte. No public contract stands on this file.
use Rattle.std.specs.Prelude.{◌≡◌, ℕ, ◌<◌, ◌≤◌, ◌==◌, Bool, true, false, not, List, [], ◌∷◌, length, Option, None, Some, Result}
use Rattle.gx_expr.specs.declared.fault.ExprFault.{ExprFault}
use Rattle.gx_expr.specs.declared.operator.SumSign.{SumSign}
use Rattle.gx_expr.specs.declared.operator.SumSign.TheVariants.{Plus, Minus}
use Rattle.gx_expr.specs.declared.operator.ProductSign.{ProductSign}
use Rattle.gx_expr.specs.declared.operator.ProductSign.TheVariants.{Times, Over}
use Rattle.gx_expr.specs.declared.cursor.Class.{Class}
use Rattle.gx_expr.specs.declared.cursor.Class.TheVariants.{Digit, Letter, NameByte}
use Rattle.gx_expr.specs.Param.{Param}
use Rattle.gx_expr.specs.Eval.{of_one, value_of}
use Rattle.gx_expr.specs.Token.{is_name_byte, Token, tokens_of}
use Rattle.gx_expr.specs.Tree.{Context, Tree, same, first, signed_by, tree_from}
use Rattle.std.specs.Char.{is_ascii_digit, is_ascii_alphabetic}
use Rattle.gx_expr.specs.Quantity.{Quantity, opposite_of}

-- ---- bytes

abbrev pub test_of : Class → ℕ → Bool
test_of Digit = is_ascii_digit
test_of Letter = is_ascii_alphabetic
test_of NameByte = is_name_byte

abbrev pub begins : ℕ → List ℕ → Bool
begins byte [] = false
begins byte (b ∷ s) = b == byte

-- the byte was passed, or isn't the first one
abbrev pub Takes : ℕ → List ℕ → List ℕ → Bool → Type 0
Takes byte old new true = old ≡ byte ∷ new
Takes byte old new false = (new ≡ old) × (begins byte old ≡ false)

-- ---- operators

-- the byte that a sign is
abbrev pub sum_byte : SumSign → ℕ
sum_byte Plus = 43
sum_byte Minus = 45

abbrev pub product_byte : ProductSign → ℕ
product_byte Times = 42
product_byte Over = 47

-- no `+` or `-` is first
pub record IsSumEnd (s : List ℕ) : Type 0 where
  pub plus : begins 43 s ≡ false
  pub minus : begins 45 s ≡ false

-- no `*` or `/` is first
pub record IsProductEnd (s : List ℕ) : Type 0 where
  pub times : begins 42 s ≡ false
  pub over : begins 47 s ≡ false

abbrev pub IsSumSign : List ℕ → List ℕ → Option SumSign → Type 0
IsSumSign old new None = (new ≡ old) × IsSumEnd old
IsSumSign old new (Some sign) = old ≡ sum_byte sign ∷ new

abbrev pub IsProductSign : List ℕ → List ℕ → Option ProductSign → Type 0
IsProductSign old new None = (new ≡ old) × IsProductEnd old
IsProductSign old new (Some sign) = old ≡ product_byte sign ∷ new

-- one more sign
abbrev pub flipped : SumSign → Bool → Bool
flipped Plus negative = negative
flipped Minus negative = not negative

-- ---- trees

abbrev pub tree_after : List Context → Context → Option Tree → Option (List Token) → Option Tree
tree_after outer here primary None = None
tree_after outer here primary (Some tokens) = tree_from outer here primary tokens

-- the tree at a place, with this text to come
unfoldable pub tree_on : List Context → Context → Option Tree → List ℕ → Option Tree
tree_on outer here primary text = tree_after outer here primary (tokens_of text)

-- the places of a factor, of a term and of an expression
abbrev pub anywhere : Context → Context
anywhere here = here

abbrev pub after : (Tree → Tree) → Context
after sum = record { sum = sum; product = same; sign = same }

abbrev pub alone : Unit {0} → Context
alone _ = first

-- the opposite where there is one
abbrev pub signed : Bool → Result Quantity ExprFault → Result Quantity ExprFault
signed true a = of_one opposite_of a
signed false a = a

-- the signs from `old` to `new` make a tree of the next primary, with its value or the opposite of it
pub record IsSigned (old : List ℕ) (new : List ℕ) (negative : Bool) : Type 0 where
  pub tree : Tree → Tree
  pub gives : (params : List Param) (t : Tree) → value_of params (tree t) ≡ signed negative (value_of params t)
  pub longer : length new ≤ length old
  pub front : (outer : List Context) (here : Context) → tree_on outer here None old ≡ tree_on outer (signed_by tree here) None new

-- the text from `old` to `new` is a tree with this value, wherever a tree of its kind may stand
pub record IsRead {X : Type 0} (place : X → Context) (open_count : ℕ) (params : List Param) (old : List ℕ) (value : Result Quantity ExprFault) (new : List ℕ) : Type 0 where
  pub tree : Tree
  pub gives : value_of params tree ≡ value
  pub longer : length new < length old
  pub front : (outer : List Context) (x : X) → length outer ≡ open_count → tree_on outer (place x) None old ≡ tree_on outer (place x) (Some tree) new

-- the text has no tree at its front, wherever a tree of this kind may stand
pub record HasNone {X : Type 0} (place : X → Context) (open_count : ℕ) (old : List ℕ) : Type 0 where
  pub front : (outer : List Context) (x : X) → length outer ≡ open_count → tree_on outer (place x) None old ≡ None

-- a tree was read, or there is none
abbrev pub Reads : {X : Type 0} → (X → Context) → ℕ → List Param → List ℕ → List ℕ → Option (Result Quantity ExprFault) → Type 0
Reads place open_count params old new None = HasNone place open_count old
Reads place open_count params old new (Some value) = IsRead place open_count params old value new
