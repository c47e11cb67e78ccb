-- Parameters: names with values, in the order of their definition.
use Rattle.std.specs.Prelude.{◌≡◌, ℕ, List, [], ◌∷◌, ◌++◌, Option, None, Some, Result, Ok, Err, if◌then◌else◌}
use Rattle.std.specs.Str.{bytes_eq}
use Rattle.gx_expr.specs.declared.fault.ParamFault.{ParamFault}
use Rattle.gx_expr.specs.declared.fault.ParamFault.TheVariants.{Twice, NoMemory}
use Rattle.gx_expr.specs.Quantity.{Quantity, is_same_quantity}

-- a name with its value
pub record Param : Type 0 where
  pub name : List ℕ
  pub value : Quantity

-- names with their values, as far as both reach
abbrev pub params_of : List (List ℕ) → List Quantity → List Param
params_of (name ∷ names) (value ∷ values) = record { name = name; value = value } ∷ params_of names values
params_of _ _ = []

-- the value that a name has
abbrev pub value_of_name : List Param → List ℕ → Option Quantity
value_of_name [] name = None
value_of_name (p ∷ ps) name = if bytes_eq name p.name then Some p.value else value_of_name ps name

-- a new name goes last, and all stays where it has this value; None where it has another one
abbrev pub given : List Param → List ℕ → Quantity → Option Quantity → Option (List Param)
given params name value None = Some (params ++ record { name = name; value = value } ∷ [])
given params name value (Some before) = if is_same_quantity before value then Some params else None

-- the parameters once a name is given a value; None where it has another one
abbrev pub with_param : List Param → List ℕ → Quantity → Option (List Param)
with_param params name value = given params name value (value_of_name params name)

-- what `old` becomes where a name is given a value
abbrev pub Defines : List Param → List ℕ → Quantity → List Param → {T : Type 0} → Result T ParamFault → Type 0
Defines old name value new (Ok done) = with_param old name value ≡ Some new
Defines old name value new (Err Twice) = (new ≡ old) × (with_param old name value ≡ None)
Defines old name value new (Err NoMemory) = (new ≡ old) × (value_of_name old name ≡ None)
