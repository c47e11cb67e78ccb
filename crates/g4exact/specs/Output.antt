-- What the program writes, and with which status it ends.
use Rattle.std.specs.Prelude.{◌≡◌, ℕ, ◌+◌, ◌-◌, ◌^◌, min, length, List, [], ◌∷◌, ◌++◌, Option, None, Some, Result, Ok, Err, find, if◌then◌else◌}
use Rattle.std.specs.List.{flat_map, list_any}
use Rattle.gx_num.specs.declared.ray.Ray.{Ray}
use Rattle.gx_path.specs.Report.{Row, IsReport}
use Rattle.gx_tree.specs.Hierarchy.{Hierarchy}
use Rattle.gx_tree.specs.Deepest.{path_along}
use Rattle.gx_check.specs.declared.selection.Selection.{Selection}
use Rattle.gx_check.specs.declared.verdict.Verdict.{Verdict}
use Rattle.gx_check.specs.Verdicts.{verdicts, refutes, chosen, counts_of}
use Rattle.gx_gather.specs.declared.fault.TextFault.{TextFault}
use Rattle.gx_link.specs.declared.input.Input.{Input}
use Rattle.gx_reader.specs.Reading.{reading}
use Rattle.gx_canon.specs.Canonical.{canonical, millimetre}
use Rattle.gx_sample.specs.Text.{sample_text}
use Rattle.gx_sample_clean.specs.Sample.{instances_of_all}
use Rattle.gx_print.specs.Texts.{usage_line, ray_head, row_text, fault_line, verdict_line, counts_line, summary_line}
use Rattle.g4exact.specs.declared.command.Command.{Command}
use Rattle.g4exact.specs.declared.command.Command.TheVariants.{Reading, Sample}
use Rattle.g4exact.specs.declared.command.Verb.{Verb}
use Rattle.g4exact.specs.declared.command.Verb.TheVariants.{Trace, Check, List as Listed}
use Rattle.g4exact.specs.declared.command.Telling.{Telling}
use Rattle.g4exact.specs.declared.command.Telling.TheVariants.{Rows, Summary}
use Rattle.g4exact.specs.declared.outcome.Status.{Status}
use Rattle.g4exact.specs.declared.outcome.Status.TheVariants.{Clean, Refuted, TextFault as Faulty, WordsFault}

-- a ray's head, and its rows
abbrev pub ray_text : Hierarchy → ℕ → List Row → List ℕ
ray_text h number rows = ray_head number ++ flat_map (row_text h) rows

-- for each ray, numbered from here on, its head and the rows of its report
abbrev pub IsTrace : Hierarchy → ℕ → List Ray → List ℕ → Type 0
IsTrace h number [] bytes = bytes ≡ []
IsTrace h number (ray ∷ rays) bytes =
    (rows : List Row) × (rest : List ℕ) × IsReport (path_along h ray) rows × IsTrace h (number + 1) rays rest × (bytes ≡ ray_text h number rows ++ rest)

-- the line of a text's fault
abbrev pub IsFault : TextFault → List ℕ → Status → Type 0
IsFault fault bytes status = (bytes ≡ fault_line fault) × (status ≡ Faulty)

-- so many rows have the reports of rays
abbrev pub AreRows : Hierarchy → List Ray → ℕ → Type 0
AreRows h [] n = n ≡ 0
AreRows h (ray ∷ rays) n = (rows : List Row) × (rest : ℕ) × IsReport (path_along h ray) rows × AreRows h rays rest × (n ≡ length rows + rest)

-- the line of a sample; a count of rows stands still at the end of its type
abbrev pub IsSummary : ℕ → Hierarchy → List Ray → List ℕ → Type 0
IsSummary number h rays bytes =
    (n : ℕ) × AreRows h rays n
    × (bytes ≡ summary_line (record { number = number; instances = instances_of_all h; rays = length rays; rows = min n (2 ^ 64 - 1) }))

-- what is told of reports
abbrev pub IsTelling : Telling → Hierarchy → List Ray → List ℕ → Type 0
IsTelling Rows h rays bytes = IsTrace h 1 rays bytes
IsTelling (Summary number) h rays bytes = IsSummary number h rays bytes

abbrev pub IsReported : Telling → Hierarchy → List Ray → List ℕ → Status → Type 0
IsReported telling h rays bytes status = IsTelling telling h rays bytes × (status ≡ Clean)

-- a verdict that refutes the hierarchy
abbrev pub IsRefuted : Hierarchy → Verdict → List ℕ → Status → Type 0
IsRefuted h verdict bytes status = (bytes ≡ verdict_line h verdict) × (status ≡ Refuted)

-- the first verdict that refutes the hierarchy; or where there is none, what is told of the reports
abbrev pub IsTraced : Telling → Option Verdict → Input → List ℕ → Status → Type 0
IsTraced telling (Some verdict) input bytes status = IsRefuted input.tree verdict bytes status
IsTraced telling None input bytes status = IsReported telling input.tree input.rays bytes status

-- the lines of the selected verdicts on a hierarchy
abbrev pub verdict_lines : Selection → Hierarchy → List ℕ
verdict_lines selection h = flat_map (verdict_line h) (chosen selection (verdicts h))

-- these, and the counts of all
abbrev pub check_text : Selection → Hierarchy → List ℕ
check_text selection h = verdict_lines selection h ++ counts_line (counts_of (verdicts h))

-- some verdict refutes it, or none does
abbrev pub checked_status : Hierarchy → Status
checked_status h = if list_any refutes (verdicts h) then Refuted else Clean

abbrev pub IsCheck : Selection → Hierarchy → List ℕ → Status → Type 0
IsCheck selection h bytes status = (bytes ≡ check_text selection h) × (status ≡ checked_status h)

abbrev pub IsList : Input → List ℕ → Status → Type 0
IsList input bytes status = (bytes ≡ canonical input.tree input.rays) × (status ≡ Clean)

-- what a verb writes of an input
abbrev pub IsWritten : Verb → Input → List ℕ → Status → Type 0
IsWritten (Check selection) input bytes status = IsCheck selection input.tree bytes status
IsWritten Listed input bytes status = IsList input bytes status
IsWritten (Trace telling) input bytes status = IsTraced telling (find refutes (verdicts input.tree)) input bytes status

-- the line of the text's fault; or where there is none, what the verb writes
abbrev pub IsAnswer : Verb → Result Input TextFault → List ℕ → Status → Type 0
IsAnswer verb (Err fault) bytes status = IsFault fault bytes status
IsAnswer verb (Ok input) bytes status = IsWritten verb input bytes status

-- the output of a command for a text; words that are no command have the usage line
abbrev pub IsOutput : Option Command → List ℕ → List ℕ → Status → Type 0
IsOutput None text bytes status = (bytes ≡ usage_line) × (status ≡ WordsFault)
IsOutput (Some (Reading verb grid)) text bytes status = IsAnswer verb (reading grid text) bytes status
IsOutput (Some (Sample number)) text bytes status = IsAnswer (Trace (Summary number)) (reading millimetre (sample_text number)) bytes status
