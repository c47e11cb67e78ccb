-- What a line declares, or its first fault: the words are judged from the left, and after them the line as a whole.
use Rattle.std.specs.Prelude.{◌≡◌, ℕ, ◌==◌, List, [], ◌∷◌, codes, Result, Ok, Err, if◌then◌else◌}
use Rattle.gx_fraction.specs.Fraction.{Fraction}
use Rattle.gx_table.specs.declared.fault.FaultName.TheVariants.{Tag as TagName}
use Rattle.gx_table.specs.Table.{TableEntry}
use Rattle.gx_expr.specs.Param.{Param}
use Rattle.gx_form.specs.declared.fault.Fault.{Fault}
use Rattle.gx_form.specs.declared.refusal.Refusal.{Refusal}
use Rattle.gx_form.specs.declared.refusal.Refusal.TheVariants.{At, NoMemory}
use Rattle.gx_form.specs.Form.{Outcome, ◌>>=◌, pure}
use Rattle.gx_decl.specs.declared.tag.Tag.{Tag}
use Rattle.gx_decl.specs.declared.tag.Tag.TheVariants as of_tag
use Rattle.gx_decl.specs.declared.declaration.Declaration.{Declaration}
use Rattle.gx_decl.specs.declared.declaration.Declaration.TheVariants.{Passed}
use Rattle.gx_decl.specs.Words.{Words, Reader, row_of, row}
use Rattle.gx_decl.specs.Lines.{param, ray}
use Rattle.gx_decl.specs.Solids.{solid, volume}
use Rattle.gx_decl.specs.Placements.{place, repl, place_param}
use Rattle.gx_decl.specs.Turns.{rotm}

-- 8 stands for each tag whose line is passed over unread
abbrev pub tags : List TableEntry
tags =
    row (codes ":P") 0 ∷ row (codes ":SOLID") 1 ∷ row (codes ":VOLU") 2 ∷ row (codes ":PLACE") 3 ∷ row (codes ":REPL") 4
    ∷ row (codes ":PLACE_PARAM") 5 ∷ row (codes ":ROTM") 6 ∷ row (codes ":RAY") 7
    ∷ row (codes ":ISOT") 8 ∷ row (codes ":ELEM") 8 ∷ row (codes ":ELEM_FROM_ISOT") 8 ∷ row (codes ":MATE") 8 ∷ row (codes ":MIXT") 8
    ∷ row (codes ":MIXT_BY_WEIGHT") 8 ∷ row (codes ":MIXT_BY_NATOMS") 8 ∷ row (codes ":MIXT_BY_VOLUME") 8
    ∷ row (codes ":VIS") 8 ∷ row (codes ":COLOUR") 8 ∷ row (codes ":COLOR") 8 ∷ row (codes ":CHECK_OVERLAPS") 8 ∷ []

abbrev pub tag_of : ℕ → Tag
tag_of n =
    if n == 0 then of_tag.Param else if n == 1 then of_tag.Solid else if n == 2 then of_tag.Volume else if n == 3 then of_tag.Place
    else if n == 4 then of_tag.Replica else if n == 5 then of_tag.Row else if n == 6 then of_tag.Turn else if n == 7 then of_tag.Ray else of_tag.Passed

-- what the words after a tag declare
abbrev pub after_tag : Tag → Reader Declaration
after_tag of_tag.Param = param
after_tag of_tag.Solid = solid
after_tag of_tag.Volume = volume
after_tag of_tag.Place = place
after_tag of_tag.Replica = repl
after_tag of_tag.Row = place_param
after_tag of_tag.Turn = rotm
after_tag of_tag.Ray = ray
after_tag of_tag.Passed = pure Passed

abbrev pub tag : Reader Tag
tag = do
  n ← row_of tags TagName
  pure (tag_of n)

abbrev pub line : Reader Declaration
line = tag >>= after_tag

-- the words of a line before any is read
abbrev pub unread : List Param → Fraction → List (List ℕ) → Words
unread params grid words = record { params = params; grid = grid; count = 0; rest = words }

-- what is read, or the fault
abbrev pub answer_of : {S A : Type 0} → Outcome S A → Result A Fault
answer_of (Ok p) = Ok p.0
answer_of (Err fault) = Err fault

-- what a line of these words declares, or its first fault
abbrev pub declared_of : List Param → Fraction → List (List ℕ) → Result Declaration Fault
declared_of params grid words = answer_of (line (unread params grid words))

-- an answer, or want of memory in place of any
abbrev pub Answers : {A : Type 0} → Result A Fault → Result A Refusal → Type 0
Answers answer (Ok a) = answer ≡ Ok a
Answers answer (Err (At fault)) = answer ≡ Err fault
Answers answer (Err NoMemory) = Unit {0}
