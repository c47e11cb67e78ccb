-- The tree of the tokens of a word, which is read from the left; the law of the grammar says which trees these are.
use Rattle.std.specs.Prelude.{◌≡◌, ◌<◌, ◌++◌, ℕ, suc, nat_lt, if◌then◌else◌, List, [], ◌∷◌, length, Option, None, Some}
use Rattle.gx_expr.specs.Token.{Leaf, Token, operand, sum_sign, product_sign, opening, closing, tokens_of}
use Rattle.gx_expr.specs.declared.operator.SumSign.{SumSign}
use Rattle.gx_expr.specs.declared.operator.SumSign.TheVariants.{Plus, Minus}
use Rattle.gx_expr.specs.declared.operator.ProductSign.{ProductSign}

pub data Tree : Type 0 where
  leaf : Leaf → Tree
  opposite : Tree → Tree
  sum : SumSign → Tree → Tree → Tree
  product : ProductSign → Tree → Tree → Tree

-- What stands before a place, within its parentheses: the sum so far makes a tree of the term that is to come, the
-- product so far makes the term of its next factor, and the signs make the factor of its primary.
pub record Context : Type 0 where
  pub sum : Tree → Tree
  pub product : Tree → Tree
  pub sign : Tree → Tree

abbrev pub same : Tree → Tree
same t = t

-- nothing stands before the place
abbrev pub first : Context
first = record { sum = same; product = same; sign = same }

-- the primary with its signs; the term that ends with it; the expression that ends with it
abbrev pub factor_of : Context → Tree → Tree
factor_of here primary = here.sign primary

abbrev pub term_of : Context → Tree → Tree
term_of here primary = here.product (factor_of here primary)

abbrev pub whole_of : Context → Tree → Tree
whole_of here primary = here.sum (term_of here primary)

-- another term is to come, or another factor
abbrev pub next_term : SumSign → Context → Tree → Context
next_term sign here primary = record { sum = sum sign (whole_of here primary); product = same; sign = same }

abbrev pub next_factor : ProductSign → Context → Tree → Context
next_factor sign here primary = record { sum = here.sum; product = product sign (term_of here primary); sign = same }

-- a tree with a sign before it
abbrev pub with_sign : SumSign → Tree → Tree
with_sign Plus t = t
with_sign Minus t = opposite t

-- the next primary has these signs too
abbrev pub signed_by : (Tree → Tree) → Context → Context
signed_by sign here = record { sum = here.sum; product = here.product; sign = λ t. here.sign (sign t) }

-- the most parentheses that may be open at one place
abbrev pub max_open : ℕ
max_open = 64

-- The tree of the tokens that are left, where these levels are open around the place and this primary stands right before
-- it, or none does.
abbrev pub tree_from : List Context → Context → Option Tree → List Token → Option Tree
tree_from outer here None [] = None
tree_from outer here None (operand l ∷ tokens) = tree_from outer here (Some (leaf l)) tokens
tree_from outer here None (sum_sign sign ∷ tokens) = tree_from outer (signed_by (with_sign sign) here) None tokens
tree_from outer here None (product_sign sign ∷ tokens) = None
tree_from outer here None (opening ∷ tokens) = if nat_lt (length outer) max_open then tree_from (here ∷ outer) first None tokens else None
tree_from outer here None (closing ∷ tokens) = None
tree_from [] here (Some t) [] = Some (whole_of here t)
tree_from (around ∷ outer) here (Some t) [] = None
tree_from outer here (Some t) (operand l ∷ tokens) = None
tree_from outer here (Some t) (sum_sign sign ∷ tokens) = tree_from outer (next_term sign here t) None tokens
tree_from outer here (Some t) (product_sign sign ∷ tokens) = tree_from outer (next_factor sign here t) None tokens
tree_from outer here (Some t) (opening ∷ tokens) = None
tree_from [] here (Some t) (closing ∷ tokens) = None
tree_from (around ∷ outer) here (Some t) (closing ∷ tokens) = tree_from outer around (Some (whole_of here t)) tokens

abbrev pub tree_of_tokens : Option (List Token) → Option Tree
tree_of_tokens None = None
tree_of_tokens (Some tokens) = tree_from [] first None tokens

-- the tree of a word, where the word is an expression with at most 64 parentheses open at one place
abbrev pub tree_of : List ℕ → Option Tree
tree_of word = tree_of_tokens (tokens_of word)

-- ---- the grammar as a relation: the tokens of an expression, a term, a factor and a primary with their trees, where
-- so many parentheses are open around them; it is this project's own

mutual
  -- expr = term { ("+" | "-") term }
  pub data IsExpr : ℕ → List Token → Tree → Type 0 where
    term : {n : ℕ} {ps : List Token} {t : Tree} → IsTerm n ps t → IsExpr n ps t
    more_terms : {n : ℕ} {ps qs : List Token} {t u : Tree} (sign : SumSign) → IsExpr n ps t → IsTerm n qs u → IsExpr n (ps ++ sum_sign sign ∷ qs) (sum sign t u)

  -- term = factor { ("*" | "/") factor }
  pub data IsTerm : ℕ → List Token → Tree → Type 0 where
    factor : {n : ℕ} {ps : List Token} {t : Tree} → IsFactor n ps t → IsTerm n ps t
    more_factors : {n : ℕ} {ps qs : List Token} {t u : Tree} (sign : ProductSign) → IsTerm n ps t → IsFactor n qs u → IsTerm n (ps ++ product_sign sign ∷ qs) (product sign t u)

  -- factor = { "+" | "-" } primary
  pub data IsFactor : ℕ → List Token → Tree → Type 0 where
    primary : {n : ℕ} {ps : List Token} {t : Tree} → IsPrimary n ps t → IsFactor n ps t
    more_signs : {n : ℕ} {ps : List Token} {t : Tree} (sign : SumSign) → IsFactor n ps t → IsFactor n (sum_sign sign ∷ ps) (with_sign sign t)

  -- primary = number | "$" name | unit | "(" expr ")"
  pub data IsPrimary : ℕ → List Token → Tree → Type 0 where
    alone : {n : ℕ} {l : Leaf} → IsPrimary n (operand l ∷ []) (leaf l)
    parentheses : {n : ℕ} {ps : List Token} {t : Tree} → n < max_open → IsExpr (suc n) ps t → IsPrimary n (opening ∷ ps ++ closing ∷ []) t

-- the word's tokens are an expression with this tree
abbrev pub Derives : List ℕ → Tree → Type 0
Derives word t = (tokens : List Token) × (tokens_of word ≡ Some tokens) × IsExpr 0 tokens t
