-- The values of a solid in a list: a scale is two of them, but one place.
use Rattle.std.specs.Prelude.{ℕ, ◌+◌, ◌^◌, ℤ, pos, ◌&&◌, int_le, int_lt, nat_le, unsigned_abs, List, [], ◌∷◌, length as size, ◌==◌, Ok, Err, if◌then◌else◌}
use Rattle.gx_num.specs.declared.vector.TheConstants.{M}
use Rattle.gx_table.specs.declared.fault.FaultName.{FaultName}
use Rattle.gx_table.specs.declared.fault.FaultName.TheVariants.{Words, TooFar, Scale as ScaleName}
use Rattle.gx_form.specs.Form.{Form, ◌>>=◌, pure}
use Rattle.gx_shapes.specs.declared.section.Scale.{Scale}
use Rattle.gx_shapes.specs.Source.{Source}

-- the number of the value read last, from 1, and the numbers that are left
pub record Numbers : Type 0 where
  pub count : ℕ
  pub left : List ℤ

abbrev pub start : List ℤ → Numbers
start numbers = record { count = 0; left = numbers }

-- the value read last has this fault
abbrev pub here : {A : Type 0} → FaultName → Form Numbers A
here name = λ s. Err (record { place = s.count; name = name })

-- the value to come is missing, or there is one too many
abbrev pub next : {A : Type 0} → FaultName → Form Numbers A
next name = λ s. Err (record { place = s.count + 1; name = name })

abbrev pub number_from : List ℤ → Form Numbers ℤ
number_from [] = next Words
number_from (n ∷ left) = λ s. Ok (n, record { count = s.count + 1; left = left })

abbrev pub number : Form Numbers ℤ
number = λ s. number_from s.left s

-- no number is left
abbrev pub end : Form Numbers (Unit {0})
end = λ s. if size s.left == 0 then Ok (tt, s) else next Words s

abbrev pub length : Form Numbers ℤ
length = do
  n ← number
  if nat_le (unsigned_abs n) (unsigned_abs M) then pure n else here TooFar

abbrev pub whole : ℤ → ℤ → FaultName → Form Numbers ℤ
whole low high range = do
  n ← number
  if int_le low n && int_le n high then pure n else here range

abbrev pub pair_from : List ℤ → Form Numbers Scale
pair_from [] = next Words
pair_from (n ∷ []) = next Words
pair_from (n ∷ d ∷ left) = λ s. Ok (record { num = n; den = d }, record { count = s.count + 1; left = left })

abbrev pub pair : Form Numbers Scale
pair = λ s. pair_from s.left s

-- two numbers at one place, the second above 0, neither above 2^62 in magnitude
abbrev pub scale : Form Numbers Scale
scale = do
  s ← pair
  if nat_le (unsigned_abs s.num) (2 ^ 62) && int_lt (pos 0) s.den && nat_le (unsigned_abs s.den) (2 ^ 62) then pure s else here ScaleName

abbrev pub numbers : Source Numbers
numbers = record { length = length; whole = whole; scale = scale; place = λ s. s.count }
