-- The tokens of a word. A number is
--     number = (digits [ "." [ digits ] ] | "." digits) [ ("e" | "E") [ "+" | "-" ] digits ]
-- and the longest spelling is taken for a number, for a name (letters, digits and `_`) and for a unit (letters). The
-- spellings are this project's own.
use Rattle.std.specs.Prelude.{ℕ, suc, zero, ◌+◌, ◌-◌, ◌*◌, ℤ, pos, neg_ℤ, ◌-ℤ◌, Bool, ◌==◌, ◌&&◌, ◌||◌, true, false, if◌then◌else◌, List, [], ◌∷◌, ◌++◌, length, take, drop, fold, Option, None, Some}
use Rattle.std.specs.Char.{is_ascii_digit, is_ascii_alphabetic}
use Rattle.std.specs.List.{prefix_len}
use Rattle.gx_expr.specs.declared.operator.SumSign.{SumSign}
use Rattle.gx_expr.specs.declared.operator.SumSign.TheVariants.{Plus, Minus}
use Rattle.gx_expr.specs.declared.operator.ProductSign.{ProductSign}
use Rattle.gx_expr.specs.declared.operator.ProductSign.TheVariants.{Times, Over}

-- a letter, a digit or `_`
abbrev pub is_name_byte : ℕ → Bool
is_name_byte b = is_ascii_alphabetic b || is_ascii_digit b || b == 95

-- the value of decimal digits
abbrev pub value_of_digits : List ℕ → ℕ
value_of_digits digits = fold (λ value b. 10 * value + (b - 48)) 0 digits

-- a decimal number: its digits, and the power of ten to multiply them by
pub record Decimal : Type 0 where
  pub digits : List ℕ
  pub scale : ℤ

-- what an expression begins from: a number, a name or a unit
pub data Leaf : Type 0 where
  number : Decimal → Leaf
  name : List ℕ → Leaf
  unit : List ℕ → Leaf

-- ---- the tokens of a word

-- what is read from the front of a text, and how many bytes it takes
pub record Part (A : Type 0) : Type 0 where
  pub what : A
  pub size : ℕ

-- the longest run at the front
abbrev pub run_of : (ℕ → Bool) → List ℕ → Part (List ℕ)
run_of test s = record { what = take (prefix_len test s) s; size = prefix_len test s }

-- a point (46) and the digits after it, which may be none
abbrev pub fraction_at : List ℕ → Part (List ℕ)
fraction_at [] = record { what = []; size = 0 }
fraction_at (b ∷ s) = if b == 46 then record { what = (run_of is_ascii_digit s).what; size = suc (run_of is_ascii_digit s).size } else record { what = []; size = 0 }

-- a sign, `-` (45) or `+` (43), or none: whether it is `-`
abbrev pub sign_at : List ℕ → Part Bool
sign_at [] = record { what = false; size = 0 }
sign_at (b ∷ s) = if b == 45 then record { what = true; size = 1 } else record { what = false; size = if b == 43 then 1 else 0 }

-- the magnitude with its sign
abbrev pub power_of : Bool → ℕ → ℤ
power_of negative n = if negative then neg_ℤ (pos n) else pos n

-- no exponent is one of 0, of no byte
abbrev pub no_exponent : Part ℤ
no_exponent = record { what = pos 0; size = 0 }

-- a mark, a sign and digits; a mark that no digits follow is no exponent
abbrev pub exponent_from : Part Bool → Part (List ℕ) → Part ℤ
exponent_from sign digits = if digits.size == 0 then no_exponent else record { what = power_of sign.what (value_of_digits digits.what); size = suc (sign.size + digits.size) }

-- the exponent whose mark stands before the text
abbrev pub exponent_after : List ℕ → Part ℤ
exponent_after s = exponent_from (sign_at s) (run_of is_ascii_digit (drop (sign_at s).size s))

-- an exponent after its mark, `e` (101) or `E` (69)
abbrev pub exponent_at : List ℕ → Part ℤ
exponent_at [] = no_exponent
exponent_at (b ∷ s) = if b == 101 || b == 69 then exponent_after s else no_exponent

abbrev pub decimal_from : Part (List ℕ) → Part (List ℕ) → Part ℤ → Part Decimal
decimal_from whole fraction exponent = record {
  what = record { digits = whole.what ++ fraction.what; scale = exponent.what -ℤ pos (length fraction.what) };
  size = whole.size + fraction.size + exponent.size;
}

abbrev pub decimal_at : List ℕ → Part Decimal
decimal_at s =
    let whole = run_of is_ascii_digit s in
    let fraction = fraction_at (drop whole.size s) in
    decimal_from whole fraction (exponent_at (drop fraction.size (drop whole.size s)))

-- a number begins with a digit, or with a point before a digit
abbrev pub begins_decimal : List ℕ → Bool
begins_decimal [] = false
begins_decimal (b ∷ []) = is_ascii_digit b
begins_decimal (b ∷ c ∷ s) = is_ascii_digit b || (b == 46 && is_ascii_digit c)

pub data Token : Type 0 where
  operand : Leaf → Token
  sum_sign : SumSign → Token
  product_sign : ProductSign → Token
  opening : Token
  closing : Token

abbrev pub named : (List ℕ → Leaf) → List ℕ → ℕ → Option (Part Token)
named leaf_of what size = if length what == 0 then None else Some (record { what = operand (leaf_of what); size = size })

abbrev pub one : Token → Option (Part Token)
one token = Some (record { what = token; size = 1 })

-- the token that a text begins with: an operator, a parenthesis, a name after `$` (36), a unit or a number
abbrev pub token_at : List ℕ → Option (Part Token)
token_at [] = None
token_at (b ∷ s) =
    if b == 43 then one (sum_sign Plus)
    else if b == 45 then one (sum_sign Minus)
    else if b == 42 then one (product_sign Times)
    else if b == 47 then one (product_sign Over)
    else if b == 40 then one opening
    else if b == 41 then one closing
    else if b == 36 then named name (run_of is_name_byte s).what (suc (run_of is_name_byte s).size)
    else if begins_decimal (b ∷ s) then Some (record { what = operand (number (decimal_at (b ∷ s)).what); size = (decimal_at (b ∷ s)).size })
    else named unit (run_of is_ascii_alphabetic (b ∷ s)).what (run_of is_ascii_alphabetic (b ∷ s)).size

abbrev pub in_front : Token → Option (List Token) → Option (List Token)
in_front token None = None
in_front token (Some tokens) = Some (token ∷ tokens)

abbrev pub onto : Option (Part Token) → (ℕ → Option (List Token)) → Option (List Token)
onto None others = None
onto (Some part) others = in_front part.what (others part.size)

-- the tokens of a text, whose first `skip` bytes belong to a token that was read before
abbrev pub tokens_from : ℕ → List ℕ → Option (List Token)
tokens_from skip [] = Some []
tokens_from (suc skip) (b ∷ s) = tokens_from skip s
tokens_from zero (b ∷ s) = onto (token_at (b ∷ s)) (λ size. tokens_from (size - 1) s)

abbrev pub tokens_of : List ℕ → Option (List Token)
tokens_of word = tokens_from 0 word
