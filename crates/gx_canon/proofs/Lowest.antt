-- Values of words are in lowest terms, where those of parameters are.
use Rattle.std.proofs.Common.{◌≡◌, ℕ, zero, suc, ◌/◌, ◌<◌, ◌*◌, ◌^◌, ℤ, pos, negsuc, neg_ℤ, ◌+ℤ◌, ◌-ℤ◌, ◌*ℤ◌, unsigned_abs, Bool, true, false, List, [], ◌∷◌, length, Option, Some, None, Result, Ok, Err, refl, sym, subst, arith, inl, inr}
use Rattle.std.specs.Prelude.{int_lt, nat_lt, not, ◌==◌, ◌||◌, if◌then◌else◌}
use Rattle.std.specs.Int.{IsGcd}
use Rattle.std.specs.Ordering.{int_eq}
use Rattle.std.specs.Option.{option_map, unwrap_or}
use Rattle.std.specs.Str.{bytes_eq}
use Rattle.std.proofs.lemmas.Bool.{cases_Bool}
use Rattle.std.proofs.lemmas.Bool.Decides.{nat_tests}
use Rattle.std.proofs.lemmas.Int.{ints}
use Rattle.std.proofs.lemmas.List.Elements.{All-head, All-tail}
use Rattle.std.proofs.lemmas.Nat.Gcd.{IsGcd-swap}
use Rattle.gx_num.proofs.Divisors.{common_divisor-same, IsDivisor-two, unsigned_abs-int_div}
use Rattle.gx_num.specs.Number.{common_divisor}
use Rattle.gx_fraction.specs.Fraction.{Fraction, lowest}
use Rattle.gx_fraction.proofs.Gcd.{divisor, coprime, positive_gcd, positive_quotient}
use Rattle.gx_expr.specs.declared.fault.ExprFault.{ExprFault}
use Rattle.gx_expr.specs.declared.fault.ExprFault.TheVariants.{Syntax, UnknownParam, UnknownUnit, DivideByZero, TooWide}
use Rattle.gx_expr.specs.declared.operator.SumSign.{SumSign}
use Rattle.gx_expr.specs.declared.operator.SumSign.TheVariants.{Plus, Minus}
use Rattle.gx_expr.specs.declared.operator.ProductSign.{ProductSign}
use Rattle.gx_expr.specs.declared.operator.ProductSign.TheVariants.{Times, Over}
use Rattle.gx_expr.specs.declared.unit.Unit.{Unit as UnitEntry}
use Rattle.gx_expr.specs.Unit as units
use Rattle.gx_expr.specs.Eval.{value_of_word, value_of, value_of_tree, value_of_decimal, of_one, of_two, found, sum_operation, product_operation, shifted, if_short, front_of, trimmed, zeros_after}
use Rattle.gx_expr.specs.Param.{Param, value_of_name}
use Rattle.gx_expr.specs.Token.{Leaf, number, name, unit, Decimal, value_of_digits}
use Rattle.gx_expr.specs.Tree.{Tree, leaf, opposite, sum, product, tree_of}
use Rattle.gx_expr.specs.Quantity.{Quantity, ratio, ratio_of, reduced, if_narrow, is_wide, opposite_of}
use Rattle.gx_canon.specs.Printable.{IsLowestFraction, AreLowest}

-- ---- fractions

lowest-is : (z : ℤ) (d : ℕ) → 0 < d → IsLowestFraction (lowest z d)
lowest-is z d h =
    let g = divisor (unsigned_abs z) d in
    let p = positive_gcd (unsigned_abs z) d g.greatest h g.is in
    let e : common_divisor (d ∷ unsigned_abs z ∷ []) ≡ g.greatest = common_divisor-same (d ∷ unsigned_abs z ∷ []) g.greatest (IsDivisor-two d (unsigned_abs z) g.greatest (IsGcd-swap (unsigned_abs z) d g.greatest g.is)) in
    rw e (record {
      positive = positive_quotient (unsigned_abs z) d g.greatest h g.is;
      coprime = subst (λ (x : ℕ). IsGcd x (d / g.greatest) 1) (sym (unsigned_abs-int_div z g.greatest)) (coprime (unsigned_abs z) d g.greatest p g.is);
    })

reduced-lowest : (n d : ℤ) → int_eq d (pos 0) ≡ false → IsLowestFraction (reduced n d)
reduced-lowest n (pos zero) e = absurd cc
reduced-lowest n (pos (suc d)) e = let above : int_lt (pos (suc d)) (pos 0) ≡ false = grind (arith, nat_tests) in rw above (lowest-is n (suc d) (omega arith))
reduced-lowest n (negsuc d) e = lowest-is (neg_ℤ n) (suc d) (omega arith)

-- ---- values

-- in lowest terms, where it is a value
abbrev IsGood : Result Quantity ExprFault → Type 0
IsGood (Ok v) = IsLowestFraction v.number
IsGood (Err fault) = Unit {0}

record Good (r : Result Quantity ExprFault) : Type 0 where
  is : IsGood r

fault_good : (f : ExprFault) → Good (Err f)
fault_good f = record { is = tt }

choice_good : (c : Bool) (x y : Result Quantity ExprFault) → Good x → (c ≡ false → Good y) → Good (if c then x else y)
choice_good true x y h k = h
choice_good false x y h k = k refl

narrow_good : (l a : Bool) (f : Fraction) → IsLowestFraction f → Good (if_narrow l a f)
narrow_good l a f h = choice_good (is_wide f) (Err TooWide) _ (fault_good TooWide) (λ e. record { is = h })

ratio_good : (n d : ℤ) (l a : Bool) → Good (ratio n d l a)
ratio_good n d l a = choice_good (int_eq d (pos 0)) (Err DivideByZero) _ (fault_good DivideByZero) (λ e. narrow_good l a (reduced n d) (reduced-lowest n d e))

shifted_good : (n : ℕ) (k : ℤ) → Good (shifted n k)
shifted_good n (pos k) = ratio_good (pos (n * 10 ^ k)) (pos 1) false false
shifted_good n (negsuc k) = ratio_good (pos n) (pos (10 ^ suc k)) false false

short_good : (digits : List ℕ) (k : ℤ) → Good (if_short digits k)
short_good digits k =
    choice_good (nat_lt 18 (length digits) || nat_lt 18 (unsigned_abs k)) (Err TooWide) (shifted (value_of_digits digits) k) (fault_good TooWide) (λ e. shifted_good (value_of_digits digits) k)

decimal_good : (d : Decimal) → Good (value_of_decimal d)
decimal_good d =
    let inner = front_of (trimmed d.digits) in
    let k = d.scale +ℤ pos (zeros_after (trimmed d.digits)) in
    choice_good (length inner == 0) (ratio (pos 0) (pos 1) false false) (if_short inner k) (ratio_good (pos 0) (pos 1) false false) (λ e. short_good inner k)

unit_good : (o : Option UnitEntry) → Good (unwrap_or (option_map units.value_of o) (Err UnknownUnit))
unit_good None = fault_good UnknownUnit
unit_good (Some u) = ratio_good (pos u.num) (pos u.den) (not u.angle) u.angle

name_good : (params : List Param) (n : List ℕ) → AreLowest params → Good (found UnknownParam (λ w. w) (value_of_name params n))
name_good [] n h = fault_good UnknownParam
name_good (p ∷ ps) n h = elim (cases_Bool (bytes_eq n p.name)) [
  | inl e ↦ rw e (record { is = All-head (λ p. IsLowestFraction p.value.number) p ps h })
  | inr e ↦ rw e (name_good ps n (All-tail (λ p. IsLowestFraction p.value.number) p ps h))
]

same_abs : (z : ℤ) → unsigned_abs (neg_ℤ z) ≡ unsigned_abs z
same_abs z = omega (arith, ints)

opposite_good : (r : Result Quantity ExprFault) → Good r → Good (of_one opposite_of r)
opposite_good (Err f) h = fault_good f
opposite_good (Ok v) h = record { is = record { positive = h.is.positive; coprime = subst (λ (x : ℕ). IsGcd x v.number.den 1) (sym (same_abs v.number.num)) h.is.coprime } }

two_good : (operation : Quantity → Quantity → Result Quantity ExprFault) → ((a b : Quantity) → Good (operation a b)) → (x y : Result Quantity ExprFault) → Good (of_two operation x y)
two_good operation h (Err f) y = fault_good f
two_good operation h (Ok a) (Err f) = fault_good f
two_good operation h (Ok a) (Ok b) = h a b

combined_good : (n d : ℤ) (a b : Quantity) → Good (ratio_of n d a b)
combined_good n d a b = ratio_good n d (a.length || b.length) (a.angle || b.angle)

sum_good : (sign : SumSign) (a b : Quantity) → Good (sum_operation sign a b)
sum_good Plus a b = combined_good ((a.number.num *ℤ pos b.number.den) +ℤ (b.number.num *ℤ pos a.number.den)) (pos a.number.den *ℤ pos b.number.den) a b
sum_good Minus a b = combined_good ((a.number.num *ℤ pos b.number.den) -ℤ (b.number.num *ℤ pos a.number.den)) (pos a.number.den *ℤ pos b.number.den) a b

product_good : (sign : ProductSign) (a b : Quantity) → Good (product_operation sign a b)
product_good Times a b = combined_good (a.number.num *ℤ b.number.num) (pos a.number.den *ℤ pos b.number.den) a b
product_good Over a b = combined_good (a.number.num *ℤ pos b.number.den) (b.number.num *ℤ pos a.number.den) a b

module _ (params : List Param) (are : AreLowest params) where
  leaf_good : (l : Leaf) → Good (value_of params (leaf l))
  leaf_good (number d) = decimal_good d
  leaf_good (name n) = name_good params n are
  leaf_good (unit u) = unit_good (units.unit_in units.units u)

  tree_good : (t : Tree) → Good (value_of params t)
  tree_good (leaf l) = leaf_good l
  tree_good (opposite a) = opposite_good (value_of params a) (tree_good a)
  tree_good (sum sign a b) = two_good (sum_operation sign) (sum_good sign) (value_of params a) (value_of params b)
  tree_good (product sign a b) = two_good (product_operation sign) (product_good sign) (value_of params a) (value_of params b)

  any_good : (t : Option Tree) → Good (value_of_tree params t)
  any_good None = fault_good Syntax
  any_good (Some t) = tree_good t

  word_good : (w : List ℕ) → Good (value_of_word params w)
  unfolding value_of_word
  word_good w = any_good (tree_of w)

  pub value_lowest : (w : List ℕ) (v : Quantity) → value_of_word params w ≡ Ok v → IsLowestFraction v.number
  value_lowest w v e = (subst Good e (word_good w)).is
