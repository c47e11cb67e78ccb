-- Why a figure or some values make no solid.
use Rattle.std.specs.Prelude.{◌≡◌, Result, Err}
use Rattle.gx_shapes.specs.declared.figure.Figure.{Figure}
use Rattle.gx_shapes.specs.declared.fault.SolidFault.{SolidFault}
use Rattle.gx_shapes.specs.declared.fault.SolidFault.TheVariants.{At, Whole, NoMemory}

-- the cause of a refusal; want of memory has none
abbrev pub IsSolidCause : Result Figure SolidFault → SolidFault → Type 0
IsSolidCause solid (At place name) = solid ≡ Err (At place name)
IsSolidCause solid (Whole name) = solid ≡ Err (Whole name)
IsSolidCause solid NoMemory = Unit {0}
