-- The lines of rotations: `:ROTM`.
-- After the documentation of Geant4's ASCII text geometry format; what the values mean is this project's own.
use Rattle.std.specs.Prelude.{◌+◌, ℤ, pos, negsuc, nat_le, [], ◌∷◌, Option, None, Some, Result, Ok, Err, if◌then◌else◌}
use Rattle.gx_table.specs.declared.fault.FaultName.TheVariants.{NotAxis as NotAxisName, Mirror as MirrorName, UnitKind}
use Rattle.gx_expr.specs.declared.fault.WholeFault.{WholeFault}
use Rattle.gx_expr.specs.declared.fault.WholeFault.TheVariants.{UnitKind as Marked, Range}
use Rattle.gx_expr.specs.Convert.{count}
use Rattle.gx_rotation.specs.declared.fault.RotationFault.{RotationFault}
use Rattle.gx_rotation.specs.declared.fault.RotationFault.TheVariants.{NotAxis, Mirror}
use Rattle.gx_rotation.specs.Matrix.{Matrix}
use Rattle.gx_rotation.specs.Given.{by_angles3, by_angles6, by_matrix9}
use Rattle.gx_form.specs.Form.{◌>>=◌, ◌>>◌, pure}
use Rattle.gx_decl.specs.declared.declaration.Declaration.{Declaration}
use Rattle.gx_decl.specs.declared.declaration.Declaration.TheVariants.{Turn}
use Rattle.gx_decl.specs.Words.{Reader, refuse, refuse_at, left, end, name, expression, quarters}

-- a fault of the values stands at the value's word, of which the first is word 3; a mirror at word 3
abbrev pub turned : Result Matrix RotationFault → Reader Matrix
turned (Ok m) = pure m
turned (Err (NotAxis i)) = refuse_at (i + 3) NotAxisName
turned (Err Mirror) = refuse_at 3 MirrorName

abbrev pub angles3 : Reader Matrix
angles3 = do
  x ← quarters
  y ← quarters
  z ← quarters
  end
  turned (by_angles3 (x ∷ y ∷ z ∷ []))

abbrev pub angles6 : Reader Matrix
angles6 = do
  a ← quarters
  b ← quarters
  c ← quarters
  d ← quarters
  e ← quarters
  f ← quarters
  end
  turned (by_angles6 (a ∷ b ∷ c ∷ d ∷ e ∷ f ∷ []))

-- None where a number is no entry of such a matrix
abbrev pub entry_of : Result ℤ WholeFault → Reader (Option ℤ)
entry_of (Ok n) = pure (Some n)
entry_of (Err Marked) = refuse UnitKind
entry_of (Err Range) = pure None

-- an entry of a matrix, where it is -1, 0 or 1
abbrev pub entry : Reader (Option ℤ)
entry = do
  value ← expression
  entry_of (count value (negsuc 0) (pos 1))

abbrev pub matrix9 : Reader Matrix
matrix9 = do
  a ← entry
  b ← entry
  c ← entry
  d ← entry
  e ← entry
  f ← entry
  g ← entry
  h ← entry
  i ← entry
  end
  turned (by_matrix9 (a ∷ b ∷ c ∷ d ∷ e ∷ f ∷ g ∷ h ∷ i ∷ []))

-- by the number of words that are left: at most 3, at most 6, or more
abbrev pub values : Reader Matrix
values = do
  n ← left
  if nat_le n 3 then angles3 else if nat_le n 6 then angles6 else matrix9

-- `:ROTM` NAME and 3, 6 or 9 values
abbrev pub rotm : Reader Declaration
rotm = do
  n ← name
  m ← values
  pure (Turn n m)
