-- The lines of parameters and of rays: `:P` and `:RAY`.
-- `:P` is after the documentation of Geant4's ASCII text geometry format; `:RAY` is this project's own.
use Rattle.std.specs.Prelude.{pos, Bool, ◌&&◌, if◌then◌else◌}
use Rattle.std.specs.Ordering.{int_eq}
use Rattle.gx_num.specs.declared.vector.V3.{V3}
use Rattle.gx_table.specs.declared.fault.FaultName.TheVariants.{Direction}
use Rattle.gx_form.specs.Form.{◌>>=◌, ◌>>◌, pure}
use Rattle.gx_decl.specs.declared.declaration.Declaration.{Declaration}
use Rattle.gx_decl.specs.declared.declaration.Declaration.TheVariants.{Param, Trace}
use Rattle.gx_decl.specs.Words.{Reader, refuse_at, param_name, expression, steps, end}

-- `:P` NAME EXPR
abbrev pub param : Reader Declaration
param = do
  name ← param_name
  value ← expression
  end
  pure (Param name value)

abbrev pub vector : Reader V3
vector = do
  x ← steps
  y ← steps
  z ← steps
  pure (record { x = x; y = y; z = z })

abbrev pub is_zero : V3 → Bool
is_zero v = int_eq v.x (pos 0) && int_eq v.y (pos 0) && int_eq v.z (pos 0)

-- `:RAY` X Y Z DX DY DZ; a direction of zeros is a fault at its first word
abbrev pub ray : Reader Declaration
ray = do
  o ← vector
  d ← vector
  end
  if is_zero d then refuse_at 5 Direction else pure (Trace (record { o = o; d = d }))
