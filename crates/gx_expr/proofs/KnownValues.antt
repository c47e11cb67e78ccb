-- Values worked out by hand: the definitions give them.
use Rattle.std.proofs.Common.{◌≡◌, ℤ, pos, neg_ℤ, Bool, true, false, codes, [], ◌∷◌, map, Result, Ok, Err, refl}
use Rattle.gx_expr.specs.declared.fault.ExprFault.{ExprFault}
use Rattle.gx_expr.specs.declared.fault.ExprFault.TheVariants.{Syntax, UnknownParam, UnknownUnit, DivideByZero, TooWide}
use Rattle.gx_num.specs.Number.{common_divisor}
use Rattle.gx_expr.specs.Eval.{value_of_word}
use Rattle.gx_expr.specs.Quantity.{Quantity}

abbrev whole : ℤ → Bool → Result Quantity ExprFault
whole n length = Ok (record { number = record { num = n; den = 1 }; length = length; angle = false })

values : map (value_of_word []) (codes "370.*cm" ∷ codes "1.5e-1*m" ∷ codes "2*(3-5)/4" ∷ codes "-.5e1--+2*CM" ∷ []) ≡ whole (pos 3700) true ∷ whole (pos 150) true ∷ whole (neg_ℤ (pos 1)) false ∷ whole (pos 15) true ∷ []
unfolding common_divisor value_of_word
values = refl

faults : map (value_of_word []) (codes "1/0" ∷ codes "3*rad" ∷ codes "$q" ∷ codes "$q+1/0" ∷ codes "1e19" ∷ []) ≡ Err DivideByZero ∷ Err UnknownUnit ∷ Err UnknownParam ∷ Err UnknownParam ∷ Err TooWide ∷ []
unfolding common_divisor value_of_word
faults = refl

no_trees : map (value_of_word []) (codes "5mm" ∷ codes "1/0+)" ∷ codes "$q+1/0*-.5e" ∷ []) ≡ Err Syntax ∷ Err Syntax ∷ Err Syntax ∷ []
unfolding common_divisor value_of_word
no_trees = refl
