-- The words of a line, read from the left, and what one word is read as.
use Rattle.std.specs.Prelude.{ℕ, ◌+◌, ℤ, Bool, ◌&&◌, ◌==◌, not, nat_le, Option, None, Some, List, [], ◌∷◌, length, Result, Ok, Err, if◌then◌else◌}
use Rattle.std.specs.List.{list_all}
use denote.Ref.{Bor}
use Rattle.gx_table.specs.declared.fault.FaultName.{FaultName}
use Rattle.gx_table.specs.declared.fault.FaultName.TheVariants.{Words as WordsName, Name, Syntax as SyntaxName, UnknownParam as UnknownParamName, UnknownUnit as UnknownUnitName, DivideByZero as DivideByZeroName, TooWide as TooWideName, UnitKind as UnitKindName, OffGrid as OffGridName, TooFar as TooFarName}
use Rattle.gx_table.specs.Table.{TableEntry, number_in}
use Rattle.gx_fraction.specs.Fraction.{Fraction}
use Rattle.gx_text.specs.Names.{is_name_of}
use Rattle.gx_expr.specs.declared.fault.ExprFault.{ExprFault}
use Rattle.gx_expr.specs.declared.fault.ExprFault.TheVariants.{Syntax, UnknownParam, UnknownUnit, DivideByZero, TooWide}
use Rattle.gx_expr.specs.declared.fault.StepFault.{StepFault}
use Rattle.gx_expr.specs.declared.fault.StepFault.TheVariants.{UnitKind, OffGrid, TooFar}
use Rattle.gx_expr.specs.declared.fault.WholeFault.{WholeFault}
use Rattle.gx_expr.specs.declared.fault.WholeFault.TheVariants.{UnitKind as MarkedCount, Range}
use Rattle.gx_expr.specs.declared.fault.UnitKind.{UnitKind as MarkedTurn}
use Rattle.gx_expr.specs.Param.{Param}
use Rattle.gx_expr.specs.Quantity.{Quantity}
use Rattle.gx_expr.specs.Token.{is_name_byte}
use Rattle.gx_expr.specs.Eval.{value_of_word}
use Rattle.gx_expr.specs.Convert as convert
use Rattle.gx_form.specs.Form.{Outcome, Form, ◌>>=◌, pure}

-- the words that are left, the number of the word read last, and what expressions and lengths are read by
pub record Words : Type 0 where
  pub params : List Param
  pub grid : Fraction
  pub count : ℕ
  pub rest : List (List ℕ)

abbrev pub Reader : Type 0 → Type 0
Reader A = Form Words A

-- ---- faults

-- a fault at word i
abbrev pub refuse_at : {A : Type 0} → ℕ → FaultName → Reader A
refuse_at i name = λ w. Err (record { place = i; name = name })

-- a fault at the word that was read last
abbrev pub refuse : {A : Type 0} → FaultName → Reader A
refuse name = λ w. Err (record { place = w.count; name = name })

-- what the word that was read last is, or its fault
abbrev pub judged : {A : Type 0} → Result A FaultName → Reader A
judged (Ok a) = pure a
judged (Err name) = refuse name

-- ---- words

abbrev pub word_from : Words → List (List ℕ) → Outcome Words (List ℕ)
word_from w [] = Err (record { place = w.count + 1; name = WordsName })
word_from w (word ∷ rest) = Ok (word, record w { count = w.count + 1; rest = rest })

-- the next word; a missing one is at fault at its place
abbrev pub word : Reader (List ℕ)
word = λ w. word_from w w.rest

-- no word is left; a further one is at fault
abbrev pub end : Reader (Unit {0})
end = λ w. if length w.rest == 0 then Ok (tt, w) else Err (record { place = w.count + 1; name = WordsName })

-- how many words are left
abbrev pub left : Reader ℕ
left = λ w. Ok (length w.rest, w)

-- an answer that lends, with what it lends
abbrev pub copied : {A E : Type 0} → Result (Bor A) E → Result A E
copied (Ok a) = Ok a.now
copied (Err e) = Err e

-- ---- names of faults

abbrev pub name_of_expr : ExprFault → FaultName
name_of_expr Syntax = SyntaxName
name_of_expr UnknownParam = UnknownParamName
name_of_expr UnknownUnit = UnknownUnitName
name_of_expr DivideByZero = DivideByZeroName
name_of_expr TooWide = TooWideName

abbrev pub name_of_step : StepFault → FaultName
name_of_step UnitKind = UnitKindName
name_of_step OffGrid = OffGridName
name_of_step TooFar = TooFarName

-- `range` is the fault of a number that isn't whole or isn't in its range
abbrev pub name_of_whole : FaultName → WholeFault → FaultName
name_of_whole range MarkedCount = UnitKindName
name_of_whole range Range = range

abbrev pub name_of_turn : MarkedTurn → FaultName
name_of_turn _ = UnitKindName

abbrev pub named : {A E : Type 0} → (E → FaultName) → Result A E → Result A FaultName
named name (Ok a) = Ok a
named name (Err e) = Err (name e)

-- ---- what a word is read as

-- a name of a solid, a volume, a rotation or a material
abbrev pub name : Reader (List ℕ)
name = do
  w ← word
  if is_name_of w then pure w else refuse Name

-- 1 to 255 letters, digits and `_`
abbrev pub is_param_name : List ℕ → Bool
is_param_name w = not (length w == 0) && nat_le (length w) 255 && list_all is_name_byte w

abbrev pub param_name : Reader (List ℕ)
param_name = do
  w ← word
  if is_param_name w then pure w else refuse Name

abbrev pub value_of : List ℕ → Reader Quantity
value_of w = λ s. judged (named name_of_expr (value_of_word s.params w)) s

-- an expression
abbrev pub expression : Reader Quantity
expression = word >>= value_of

abbrev pub steps_of : Quantity → Reader ℤ
steps_of value = λ s. judged (named name_of_step (convert.steps value s.grid)) s

-- a length, in steps of the grid
abbrev pub steps : Reader ℤ
steps = expression >>= steps_of

-- a whole number from low to high
abbrev pub whole : ℤ → ℤ → FaultName → Reader ℤ
whole low high range = do
  value ← expression
  judged (named (name_of_whole range) (convert.count value low high))

-- an angle, in quarter turns where it is some
abbrev pub quarters : Reader (Option ℕ)
quarters = do
  value ← expression
  judged (named name_of_turn (convert.quarters value))

abbrev pub known : FaultName → Option ℕ → Reader ℕ
known unknown None = refuse unknown
known unknown (Some number) = pure number

-- the number of a word in a table
abbrev pub row_of : List TableEntry → FaultName → Reader ℕ
row_of table unknown = do
  w ← word
  known unknown (number_in table w)

-- a row of a table
abbrev pub row : List ℕ → ℕ → TableEntry
row text number = record { text = text; number = number }
