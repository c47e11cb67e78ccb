-- Units: the documentation of Geant4's ASCII text geometry format; which ones is this project's own.
use Rattle.std.specs.Prelude.{ℕ, pos, true, false, not, codes, List, [], ◌∷◌, find, Option, Result, Err}
use Rattle.std.specs.Option.{option_map, unwrap_or}
use Rattle.std.specs.Str.{str_eq_ignore_ascii_case}
use Rattle.gx_expr.specs.declared.unit.Unit.{Unit}
use Rattle.gx_expr.specs.declared.fault.ExprFault.{ExprFault}
use Rattle.gx_expr.specs.declared.fault.ExprFault.TheVariants.{UnknownUnit}
use Rattle.gx_expr.specs.Quantity.{Quantity, ratio}

-- a length of num/den millimetres
abbrev pub length_of : List ℕ → ℕ → ℕ → Unit
length_of name num den = record { name = record { text = name; number = 0 }; num = num; den = den; angle = false }

-- a degree
abbrev pub degree : List ℕ → Unit
degree name = record { name = record { text = name; number = 0 }; num = 1; den = 1; angle = true }

-- a name and its value, row by row
abbrev pub units : List Unit
units =
    length_of (codes "mm") 1 1 ∷ length_of (codes "millimeter") 1 1 ∷ length_of (codes "cm") 10 1 ∷ length_of (codes "centimeter") 10 1
    ∷ length_of (codes "m") 1000 1 ∷ length_of (codes "meter") 1000 1 ∷ length_of (codes "km") 1000000 1 ∷ length_of (codes "kilometer") 1000000 1
    ∷ length_of (codes "um") 1 1000 ∷ length_of (codes "micrometer") 1 1000 ∷ length_of (codes "nm") 1 1000000 ∷ length_of (codes "nanometer") 1 1000000
    ∷ length_of (codes "angstrom") 1 10000000 ∷ degree (codes "deg") ∷ degree (codes "degree") ∷ []

-- a unit's value, with its mark
abbrev pub value_of : Unit → Result Quantity ExprFault
value_of unit = ratio (pos unit.num) (pos unit.den) (not unit.angle) unit.angle

-- the unit of this name, in any case of its letters
abbrev pub unit_in : List Unit → List ℕ → Option Unit
unit_in among word = find (λ unit. str_eq_ignore_ascii_case unit.name.text word) among

-- the value of a word's unit
abbrev pub value_of_unit : List ℕ → Result Quantity ExprFault
value_of_unit word = unwrap_or (option_map value_of (unit_in units word)) (Err UnknownUnit)
