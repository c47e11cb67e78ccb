-- Values of expressions: fractions with marks, and their sums, differences, products and quotients.
use Rattle.std.specs.Prelude.{◌≤◌, ◌<ℤ◌, ℕ, ℤ, pos, neg_ℤ, ◌*ℤ◌, ◌+ℤ◌, ◌-ℤ◌, ◌^◌, unsigned_abs, int_lt, nat_lt, Bool, not, ◌==◌, ◌&&◌, ◌||◌, Result, Ok, Err, if◌then◌else◌}
use Rattle.std.specs.Ordering.{int_eq}
use Rattle.gx_num.specs.Number.{IsLowest}
use Rattle.gx_fraction.specs.Fraction.{Fraction, lowest, opposite}
use Rattle.gx_expr.specs.declared.fault.ExprFault.{ExprFault}
use Rattle.gx_expr.specs.declared.fault.ExprFault.TheVariants.{DivideByZero, TooWide}

-- a fraction, with a mark where it is a length and one where it is an angle
pub record Quantity : Type 0 where
  pub number : Fraction
  pub length : Bool
  pub angle : Bool

-- both or neither
abbrev pub is_same_mark : Bool → Bool → Bool
is_same_mark a b = if a then b else not b

-- the same fraction in lowest terms, and the same marks
abbrev pub is_same_quantity : Quantity → Quantity → Bool
is_same_quantity a b =
    int_eq a.number.num b.number.num && (a.number.den == b.number.den) && is_same_mark a.length b.length && is_same_mark a.angle b.angle

-- the greatest that a numerator's magnitude and a denominator may be
abbrev pub max_width : ℕ
max_width = 2 ^ 62

abbrev pub is_wide : Fraction → Bool
is_wide f = nat_lt max_width (unsigned_abs f.num) || nat_lt max_width f.den

-- num/den in lowest terms; den isn't 0
abbrev pub reduced : ℤ → ℤ → Fraction
reduced num den = if int_lt den (pos 0) then lowest (neg_ℤ num) (unsigned_abs den) else lowest num (unsigned_abs den)

abbrev pub if_narrow : Bool → Bool → Fraction → Result Quantity ExprFault
if_narrow length angle f = if is_wide f then Err TooWide else Ok (record { number = f; length = length; angle = angle })

-- the value num/den with these marks
abbrev pub ratio : ℤ → ℤ → Bool → Bool → Result Quantity ExprFault
ratio num den length angle = if int_eq den (pos 0) then Err DivideByZero else if_narrow length angle (reduced num den)

-- with a mark where one of the operands has it
abbrev pub ratio_of : ℤ → ℤ → Quantity → Quantity → Result Quantity ExprFault
ratio_of num den a b = ratio num den (a.length || b.length) (a.angle || b.angle)

-- a/b + c/d = (a*d + c*b) / (b*d)
abbrev pub sum_of : Quantity → Quantity → Result Quantity ExprFault
sum_of a b =
    ratio_of ((a.number.num *ℤ pos b.number.den) +ℤ (b.number.num *ℤ pos a.number.den)) (pos a.number.den *ℤ pos b.number.den) a b

-- a/b - c/d = (a*d - c*b) / (b*d)
abbrev pub difference_of : Quantity → Quantity → Result Quantity ExprFault
difference_of a b =
    ratio_of ((a.number.num *ℤ pos b.number.den) -ℤ (b.number.num *ℤ pos a.number.den)) (pos a.number.den *ℤ pos b.number.den) a b

-- a/b * c/d = (a*c) / (b*d)
abbrev pub product_of : Quantity → Quantity → Result Quantity ExprFault
product_of a b = ratio_of (a.number.num *ℤ b.number.num) (pos a.number.den *ℤ pos b.number.den) a b

-- (a/b) / (c/d) = (a*d) / (c*b), whose denominator is 0 exactly where c is
abbrev pub quotient_of : Quantity → Quantity → Result Quantity ExprFault
quotient_of a b = ratio_of (a.number.num *ℤ pos b.number.den) (b.number.num *ℤ pos a.number.den) a b

-- the opposite, which is never too wide
abbrev pub opposite_of : Quantity → Quantity
opposite_of a = record { number = opposite a.number; length = a.length; angle = a.angle }

-- in lowest terms, with the numerator's magnitude and the denominator at most 2^62
pub record IsNarrow (f : Fraction) : Type 0 where
  pub lowest : IsLowest (unsigned_abs f.num) f.den
  pub num : unsigned_abs f.num ≤ 2 ^ 62
  pub den : f.den ≤ 2 ^ 62

-- a step of a grid is above 0
pub record IsGrid (f : Fraction) : Type 0 where
  pub narrow : IsNarrow f
  pub positive : pos 0 <ℤ f.num
