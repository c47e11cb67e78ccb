-- The figure of a kind and a list of values, or the first fault.
use Rattle.std.specs.Prelude.{◌≡◌, ℕ, ◌-◌, ℤ, List, Option, None, Some, Result, Ok, Err}
use Rattle.gx_table.specs.declared.fault.FaultName.{FaultName}
use Rattle.gx_table.specs.declared.fault.FaultName.TheVariants.{Words}
use Rattle.gx_form.specs.Form.{Outcome, Form, ◌>>=◌, ◌>>◌, pure}
use Rattle.gx_shapes.specs.declared.figure.Figure.{Figure}
use Rattle.gx_shapes.specs.declared.kind.SolidKind.{SolidKind}
use Rattle.gx_shapes.specs.declared.fault.SolidFault.{SolidFault}
use Rattle.gx_shapes.specs.declared.fault.SolidFault.TheVariants.{At, Whole}
use Rattle.gx_shapes.specs.Figure.{figure_in}
use Rattle.gx_shapes.specs.Numbers.{Numbers, start, numbers, end}
use Rattle.gx_shapes.specs.Solid.{kind_of, whole_fault}

-- the kind's values and nothing after them
abbrev pub all_of : SolidKind → Form Numbers Figure
all_of kind = do
  figure ← figure_in numbers kind
  end
  pure figure

abbrev pub unless_whole : Figure → Option FaultName → Result Figure SolidFault
unless_whole figure None = Ok figure
unless_whole figure (Some name) = Err (Whole name)

-- a figure without a fault of the whole
abbrev pub sealed : Figure → Result Figure SolidFault
sealed figure = unless_whole figure (whole_fault figure)

-- places of values count from 0
abbrev pub accepted_from : Outcome Numbers Figure → Result Figure SolidFault
accepted_from (Ok p) = sealed p.0
accepted_from (Err fault) = Err (At (fault.place - 1) fault.name)

-- the figure of this kind with these values; or the first fault at a value, and else the fault of the whole solid
abbrev pub accepted : SolidKind → List ℤ → Result Figure SolidFault
accepted kind values = accepted_from (all_of kind (start values))

-- some values give the figure
pub record IsFigure (figure : Figure) : Type 0 where
  pub values : List ℤ
  pub left : Numbers
  pub given : all_of (kind_of figure) (start values) ≡ Ok (figure, left)

-- some values make a solid of the figure
pub record IsSolid (figure : Figure) : Type 0 where
  pub values : IsFigure figure
  pub whole : whole_fault figure ≡ None

-- ---- at the values given so far

-- a value's place, from 0, and its fault
pub record ValueFault : Type 0 where
  pub place : ℕ
  pub name : FaultName

-- a value that is missing is no fault of those that were given
abbrev pub fault_at : ℕ → FaultName → Option ValueFault
fault_at place Words = None
fault_at place name = Some (record { place = place - 1; name = name })

abbrev pub fault_in : {A : Type 0} → Outcome Numbers A → Option ValueFault
fault_in (Ok p) = None
fault_in (Err fault) = fault_at fault.place fault.name

-- the first fault at one of the values given so far
abbrev pub first_fault : SolidKind → List ℤ → Option ValueFault
first_fault kind values = fault_in (figure_in numbers kind (start values))
