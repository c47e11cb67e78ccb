-- The values of expressions, or their first fault in evaluation: operands before their operator, left before right.
-- Units: the documentation of Geant4's ASCII text geometry format; which ones, and every width, are this project's own.
use Rattle.std.specs.Prelude.{ℕ, suc, ◌-◌, ◌*◌, ◌^◌, ℤ, pos, negsuc, ◌+ℤ◌, ◌==◌, ◌||◌, nat_lt, false, if◌then◌else◌, List, length, take, drop, unsigned_abs, Option, None, Some, Result, Ok, Err}
use Rattle.std.specs.List.{prefix_len, suffix_len}
use Rattle.gx_expr.specs.Unit.{value_of_unit}
use Rattle.gx_expr.specs.declared.fault.ExprFault.{ExprFault}
use Rattle.gx_expr.specs.declared.fault.ExprFault.TheVariants.{Syntax, UnknownParam, TooWide}
use Rattle.gx_expr.specs.Param.{Param, value_of_name}
use Rattle.gx_expr.specs.Token.{Decimal, value_of_digits, Leaf, number, name, unit}
use Rattle.gx_expr.specs.Tree.{Tree, leaf, opposite, sum, product, tree_of}
use Rattle.gx_expr.specs.declared.operator.SumSign.{SumSign}
use Rattle.gx_expr.specs.declared.operator.SumSign.TheVariants.{Plus, Minus}
use Rattle.gx_expr.specs.declared.operator.ProductSign.{ProductSign}
use Rattle.gx_expr.specs.declared.operator.ProductSign.TheVariants.{Times, Over}
use Rattle.gx_expr.specs.Quantity.{Quantity, ratio, sum_of, difference_of, product_of, quotient_of, opposite_of}

-- ---- numbers

abbrev pub zeros_before : List ℕ → ℕ
zeros_before digits = prefix_len (λ b. b == 48) digits

abbrev pub zeros_after : List ℕ → ℕ
zeros_after digits = suffix_len (λ b. b == 48) digits

-- the digits without the zeros in front
abbrev pub trimmed : List ℕ → List ℕ
trimmed digits = drop (zeros_before digits) digits

-- the digits without the zeros at the end
abbrev pub front_of : List ℕ → List ℕ
front_of digits = take (length digits - zeros_after digits) digits

-- n * 10^k
abbrev pub shifted : ℕ → ℤ → Result Quantity ExprFault
shifted n (pos k) = ratio (pos (n * 10 ^ k)) (pos 1) false false
shifted n (negsuc k) = ratio (pos n) (pos (10 ^ suc k)) false false

-- at most 18 digits, and a power of ten from -18 to 18
abbrev pub if_short : List ℕ → ℤ → Result Quantity ExprFault
if_short digits k = if nat_lt 18 (length digits) || nat_lt 18 (unsigned_abs k) then Err TooWide else shifted (value_of_digits digits) k

-- a number that isn't 0 is its digits without the zeros at both ends, times a power of ten
abbrev pub value_of_decimal : Decimal → Result Quantity ExprFault
value_of_decimal d =
    let inner = front_of (trimmed d.digits) in
    if length inner == 0 then ratio (pos 0) (pos 1) false false else if_short inner (d.scale +ℤ pos (zeros_after (trimmed d.digits)))

abbrev pub found : {A B : Type 0} → ExprFault → (A → B) → Option A → Result B ExprFault
found fault f None = Err fault
found fault f (Some a) = Ok (f a)

-- ---- trees

abbrev pub of_one : (Quantity → Quantity) → Result Quantity ExprFault → Result Quantity ExprFault
of_one operation (Err fault) = Err fault
of_one operation (Ok a) = Ok (operation a)

abbrev pub of_two : (Quantity → Quantity → Result Quantity ExprFault) → Result Quantity ExprFault → Result Quantity ExprFault → Result Quantity ExprFault
of_two operation (Err fault) b = Err fault
of_two operation (Ok a) (Err fault) = Err fault
of_two operation (Ok a) (Ok b) = operation a b

-- what a sign between terms does, and one between factors
abbrev pub sum_operation : SumSign → Quantity → Quantity → Result Quantity ExprFault
sum_operation Plus = sum_of
sum_operation Minus = difference_of

abbrev pub product_operation : ProductSign → Quantity → Quantity → Result Quantity ExprFault
product_operation Times = product_of
product_operation Over = quotient_of

abbrev pub value_of_leaf : List Param → Leaf → Result Quantity ExprFault
value_of_leaf params (number d) = value_of_decimal d
value_of_leaf params (name n) = found UnknownParam (λ w. w) (value_of_name params n)
value_of_leaf params (unit u) = value_of_unit u

abbrev pub value_of : List Param → Tree → Result Quantity ExprFault
value_of params (leaf l) = value_of_leaf params l
value_of params (opposite a) = of_one opposite_of (value_of params a)
value_of params (sum sign a b) = of_two (sum_operation sign) (value_of params a) (value_of params b)
value_of params (product sign a b) = of_two (product_operation sign) (value_of params a) (value_of params b)

abbrev pub value_of_tree : List Param → Option Tree → Result Quantity ExprFault
value_of_tree params None = Err Syntax
value_of_tree params (Some tree) = value_of params tree

-- the value of a word: no tree is a fault before all others
unfoldable pub value_of_word : List Param → List ℕ → Result Quantity ExprFault
value_of_word params word = value_of_tree params (tree_of word)
