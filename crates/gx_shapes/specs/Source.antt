-- What the values of a solid are read from: the words of a line, or a list of values.
use Rattle.std.specs.Prelude.{ℕ, ℤ, Err}
use Rattle.gx_table.specs.declared.fault.FaultName.{FaultName}
use Rattle.gx_form.specs.Form.{Form}
use Rattle.gx_shapes.specs.declared.section.Scale.{Scale}

-- how the next value is read, and where the value stands that was read last
pub record Source (S : Type 0) : Type 0 where
  -- a length, at most M in magnitude
  pub length : Form S ℤ
  -- a whole number between two; another number has the given fault
  pub whole : ℤ → ℤ → FaultName → Form S ℤ
  pub scale : Form S Scale
  pub place : S → ℕ

-- the value that was read last has this fault
abbrev pub refuse : {S A : Type 0} → Source S → FaultName → Form S A
refuse source name = λ s. Err (record { place = source.place s; name = name })
