-- The lines that place volumes: `:PLACE`, `:REPL` and `:PLACE_PARAM`.
-- After the documentation of Geant4's ASCII text geometry format; the order of words of `:REPL` and `:PLACE_PARAM` is this project's own.
use Rattle.std.specs.Prelude.{ℕ, ◌-◌, ◌*◌, ℤ, pos, negsuc, unsigned_abs, Bool, ◌==◌, ◌&&◌, nat_le, nat_lt, List, [], ◌∷◌, codes, None, Some, if◌then◌else◌}
use Rattle.std.specs.Ordering.{int_eq}
use Rattle.gx_num.specs.declared.vector.TheConstants.{M}
use Rattle.gx_table.specs.declared.fault.FaultName.TheVariants.{Axis, Copies, TooFar}
use Rattle.gx_table.specs.Table.{TableEntry}
use Rattle.gx_param.specs.Param.{place as place_of}
use Rattle.gx_form.specs.Form.{◌>>=◌, ◌>>◌, pure}
use Rattle.gx_decl.specs.declared.declaration.Declaration.{Declaration}
use Rattle.gx_decl.specs.declared.declaration.Declaration.TheVariants.{Place}
use Rattle.gx_decl.specs.declared.declaration.Form.{Form}
use Rattle.gx_decl.specs.declared.declaration.Form.TheVariants.{Single, Replica, Linear, Square}
use Rattle.gx_decl.specs.declared.placements.Row.{Row}
use Rattle.gx_decl.specs.Words.{Reader, refuse, refuse_at, left, end, name, steps, whole, row_of, row}
use Rattle.gx_decl.specs.Lines.{vector}

abbrev pub axes : List TableEntry
axes = row (codes "X") 0 ∷ row (codes "Y") 1 ∷ row (codes "Z") 2 ∷ []

-- rows along the axes, and then squares in the planes
abbrev pub row_kinds : List TableEntry
row_kinds =
    row (codes "LINEAR_X") 0 ∷ row (codes "LINEAR_Y") 1 ∷ row (codes "LINEAR_Z") 2
    ∷ row (codes "SQUARE_XY") 3 ∷ row (codes "SQUARE_XZ") 4 ∷ row (codes "SQUARE_YZ") 5 ∷ []

abbrev pub axis : Reader ℕ
axis = row_of axes Axis

abbrev pub row_kind : Reader ℕ
row_kind = row_of row_kinds Axis

-- the copy number of a placement, of 32 bits
abbrev pub copy_number : Reader ℤ
copy_number = whole (negsuc 2147483647) (pos 2147483647) Copies

-- how many copies
abbrev pub copies : Reader ℕ
copies = do
  n ← whole (pos 1) (pos 4096) Copies
  pure (unsigned_abs n)

-- how many rows of so many copies: at most 4096 copies in all
abbrev pub rows_of : ℕ → Reader ℕ
rows_of first_count = do
  second_count ← copies
  if nat_le (first_count * second_count) 4096 then pure second_count else refuse Copies

-- `:PLACE` VOL COPY MOTHER ROT X Y Z
abbrev pub place : Reader Declaration
place = do
  volume ← name
  copy ← copy_number
  mother ← name
  rotation ← name
  offset ← vector
  end
  pure (Place volume mother (Some rotation) (Single copy offset))

-- an offset of replicas is 0
abbrev pub zero_offset : Reader (Unit {0})
zero_offset = do
  offset ← steps
  if int_eq offset (pos 0) then pure tt else refuse Copies

-- OFFSET, where a word is left
abbrev pub offset_if_any : Reader (Unit {0})
offset_if_any = do
  n ← left
  if n == 0 then pure tt else zero_offset

-- `:REPL` VOL MOTHER AXIS N WIDTH [OFFSET]
abbrev pub repl : Reader Declaration
repl = do
  volume ← name
  mother ← name
  along ← axis
  count ← copies
  width ← steps
  offset_if_any
  end
  pure (Place volume mother None (Replica along count width))

-- the first and the last copy of a row are at most M away
abbrev pub does_reach : ℕ → ℤ → ℤ → Bool
does_reach count step offset =
    nat_le (unsigned_abs (place_of offset step 0)) (unsigned_abs M) && nat_le (unsigned_abs (place_of offset step (count - 1))) (unsigned_abs M)

-- a row that doesn't reach is a fault at the word of its step
abbrev pub reaches_at : ℕ → Row → Reader (Unit {0})
reaches_at i r = if does_reach r.count r.step r.offset then pure tt else refuse_at i TooFar

-- N STEP OFFSET
abbrev pub one_row : Reader Row
one_row = do
  count ← copies
  step ← steps
  offset ← steps
  pure (record { count = count; step = step; offset = offset })

abbrev pub linear : ℕ → Reader Form
linear axis = do
  r ← one_row
  end
  reaches_at 8 r
  pure (Linear axis r.count r.step r.offset)

-- N1 N2 STEP1 STEP2 OFFSET1 OFFSET2
abbrev pub two_rows : Reader (Row × Row)
two_rows = do
  first_count ← copies
  second_count ← rows_of first_count
  first_step ← steps
  second_step ← steps
  first_offset ← steps
  second_offset ← steps
  pure (record { count = first_count; step = first_step; offset = first_offset }, record { count = second_count; step = second_step; offset = second_offset })

abbrev pub square : ℕ → Reader Form
square plane = do
  rs ← two_rows
  end
  reaches_at 9 rs.0
  reaches_at 10 rs.1
  pure (Square plane rs.0.count rs.1.count rs.0.step rs.1.step rs.0.offset rs.1.offset)

-- by the number of a kind of rows
abbrev pub rows : ℕ → Reader Form
rows kind = if nat_lt kind 3 then linear kind else square (kind - 3)

-- `:PLACE_PARAM` VOL COPY MOTHER, a kind of rows, ROT and what the kind wants; the copy number has no effect
abbrev pub place_param : Reader Declaration
place_param = do
  volume ← name
  copy ← copy_number
  mother ← name
  kind ← row_kind
  rotation ← name
  form ← rows kind
  pure (Place volume mother (Some rotation) form)
