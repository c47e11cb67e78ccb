-- What the lines of a text declare together: each line after those before it.
use Rattle.std.specs.Prelude.{ℕ, ◌+◌, List, [], ◌∷◌, ◌++◌, length, nat_le, Option, None, Some, Result, Ok, Err, if◌then◌else◌}
use Rattle.gx_num.specs.declared.ray.Ray.{Ray}
use Rattle.gx_fraction.specs.Fraction.{Fraction}
use Rattle.gx_table.specs.declared.fault.FaultName.{FaultName}
use Rattle.gx_table.specs.declared.fault.FaultName.TheVariants.{Twice, TooMany, TooManyRays}
use Rattle.gx_form.specs.declared.fault.Fault.{Fault}
use Rattle.gx_form.specs.First.{◌>>=◌}
use Rattle.gx_text.specs.TextLine.{TextLine}
use Rattle.gx_expr.specs.Param.{Param, with_param}
use Rattle.gx_shapes.specs.declared.figure.Figure.{Figure}
use Rattle.gx_rotation.specs.Matrix.{Matrix}
use Rattle.gx_decl.specs.declared.declaration.Declaration.{Declaration}
use Rattle.gx_decl.specs.declared.declaration.Declaration.TheVariants as line
use Rattle.gx_decl.specs.Decl.{declared_of}
use Rattle.gx_gather.specs.declared.fault.TextFault.{TextFault}
use Rattle.gx_gather.specs.declared.item.Item.{Item}
use Rattle.gx_gather.specs.declared.item.Item.TheVariants.{Volume, Place}
use Rattle.gx_gather.specs.declared.item.Shape.{Shape}
use Rattle.gx_gather.specs.declared.item.Shape.TheVariants.{Own, Named}
use Rattle.gx_gather.specs.declared.gathered.TheConstants.{MAX_PARAMS, MAX_SOLIDS, MAX_TURNS, MAX_VOLUMES, MAX_PLACEMENTS}
use Rattle.gx_gather.specs.declared.rays.TheConstants.{MAX_RAYS}
use Rattle.gx_gather.specs.Faults.{on_line}
use Rattle.gx_gather.specs.Items.{volume_names, placement_count}
use Rattle.gx_gather.specs.Table.{Table, empty, name_fault, unless, entered}

-- parameters, how many lines declared them, solids, rotations, the lines of volumes and placements, and rays
pub record Declarations : Type 0 where
  pub params : List Param
  pub param_lines : ℕ
  pub solids : Table Figure
  pub turns : Table Matrix
  pub items : List Item
  pub rays : List Ray

abbrev pub nothing_declared : Declarations
nothing_declared = record { params = []; param_lines = 0; solids = empty; turns = empty; items = []; rays = [] }

abbrev pub fault_at : {A : Type 0} → ℕ → FaultName → Result A Fault
fault_at word name = Err (record { place = word; name = name })

-- with these parameters; `Twice` where the name has another value
abbrev pub with_params : Declarations → Option (List Param) → Result Declarations Fault
with_params d None = fault_at 2 Twice
with_params d (Some params) =
    if nat_le MAX_PARAMS d.param_lines then fault_at 1 TooMany else Ok (record d { params = params; param_lines = d.param_lines + 1 })

abbrev pub with_volume : Declarations → ℕ → List ℕ → Shape → List ℕ → Result Declarations Fault
with_volume d number name shape material =
    unless (name_fault MAX_VOLUMES (volume_names d.items) name) (record d { items = d.items ++ Volume number name shape material ∷ [] })

abbrev pub with_placement : Declarations → Item → Result Declarations Fault
with_placement d item =
    if nat_le MAX_PLACEMENTS (placement_count d.items) then fault_at 1 TooMany else Ok (record d { items = d.items ++ item ∷ [] })

abbrev pub with_ray : Declarations → Ray → Result Declarations Fault
with_ray d ray = if nat_le MAX_RAYS (length d.rays) then fault_at 1 TooManyRays else Ok (record d { rays = d.rays ++ ray ∷ [] })

-- what is declared with one more declaration, or what it can't stand beside
abbrev pub with_declaration : Declarations → ℕ → Declaration → Result Declarations Fault
with_declaration d number (line.Param name value) = with_params d (with_param d.params name value)
with_declaration d number (line.Solid name figure) = entered MAX_SOLIDS d.solids name figure >>= (λ solids. Ok (record d { solids = solids }))
with_declaration d number (line.Volume name figure material) = with_volume d number name (Own figure) material
with_declaration d number (line.Named name solid material) = with_volume d number name (Named solid) material
with_declaration d number (line.Place volume mother rotation form) = with_placement d (Place number volume mother rotation form)
with_declaration d number (line.Turn name matrix) = entered MAX_TURNS d.turns name matrix >>= (λ turns. Ok (record d { turns = turns }))
with_declaration d number (line.Trace ray) = with_ray d ray
with_declaration d number line.Passed = Ok d

-- what is declared with one more line, or its first fault
abbrev pub declared_by : Fraction → Declarations → TextLine → Result Declarations Fault
declared_by grid d line = declared_of d.params grid line.words >>= with_declaration d line.number

abbrev pub declare : Fraction → Declarations → TextLine → Result Declarations TextFault
declare grid d line = on_line line.number (declared_by grid d line)
