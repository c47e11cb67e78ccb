-- The words after the program's name, and the commands that they are.
use Rattle.std.specs.Prelude.{◌≡◌, ℕ, pos, Bool, true, false, List, [], ◌∷◌, take, drop, Option, None, Some, Result, Ok, Err, if◌then◌else◌, codes, decimal, zero, suc}
use Rattle.std.specs.Option.{option_and_then, option_map}
use Rattle.std.specs.Str.{bytes_eq}
use Rattle.gx_fraction.specs.Fraction.{Fraction}
use Rattle.gx_expr.specs.declared.fault.ExprFault.{ExprFault}
use Rattle.gx_expr.specs.Quantity.{Quantity}
use Rattle.gx_expr.specs.Convert.{is_grid}
use Rattle.gx_expr.specs.Eval.{value_of_word}
use Rattle.gx_check.specs.declared.selection.Selection.TheVariants.{All, Refuting}
use Rattle.g4exact.specs.declared.command.Options.{Options}
use Rattle.g4exact.specs.declared.command.Command.{Command}
use Rattle.g4exact.specs.declared.command.Command.TheVariants.{Reading, Sample}
use Rattle.g4exact.specs.declared.command.Verb.{Verb}
use Rattle.g4exact.specs.declared.command.Verb.TheVariants.{Trace, Check, List as Listed}
use Rattle.g4exact.specs.declared.command.Telling.TheVariants.{Rows}

-- the words after the program's name, of the arguments that were given; none where these are no texts
abbrev pub AreWords : {A E X : Type 0} → (A → List X) → Result A E → List X → Type 0
AreWords items (Ok given) words = words ≡ drop 1 (items given)
AreWords items (Err error) words = words ≡ []

-- the step of a grid that an expression gives: above 0, and no angle
abbrev pub step_of : Result Quantity ExprFault → Option Fraction
step_of (Err fault) = None
step_of (Ok worth) = if is_grid worth then Some worth.number else None

-- `--grid=EXPR`, where EXPR has no parameters
abbrev pub grid_of : List ℕ → Option Fraction
grid_of word = if bytes_eq (take 7 word) (codes "--grid=") then step_of (value_of_word [] (drop 7 word)) else None

-- no option so far
abbrev pub no_options : Options
no_options = record { brief = false; grid = None }

-- `--brief` belongs to `check`
abbrev pub takes_brief : Verb → Bool
takes_brief (Check selection) = true
takes_brief verb = false

-- each option at most once
abbrev pub with_brief : Verb → Options → Option Options
with_brief verb options = if options.brief then None else if takes_brief verb then Some (record options { brief = true }) else None

abbrev pub with_grid : Options → Option Fraction → Option Options
with_grid options None = None
with_grid options (Some grid) = elim options.grid [
  | None ↦ Some (record options { grid = Some grid })
  | Some before ↦ None
]

abbrev pub with_option : Verb → Options → List ℕ → Option Options
with_option verb options word = if bytes_eq word (codes "--brief") then with_brief verb options else with_grid options (grid_of word)

-- the options that words are, in any order
abbrev pub options_from : Verb → Options → List (List ℕ) → Option Options
options_from verb options [] = Some options
options_from verb options (word ∷ words) = option_and_then (λ next. options_from verb next words) (with_option verb options word)

-- a tenth of a millimetre
abbrev pub default_grid : Fraction
default_grid = record { num = pos 1; den = 10 }

abbrev pub grid_or : Option Fraction → Fraction
grid_or None = default_grid
grid_or (Some grid) = grid

-- what is done with a text
abbrev pub verb_of : List ℕ → Option Verb
verb_of word =
    if bytes_eq word (codes "trace") then Some (Trace Rows)
    else if bytes_eq word (codes "check") then Some (Check All)
    else if bytes_eq word (codes "list") then Some Listed
    else None

-- with `--brief` only the verdicts that refute are written
abbrev pub verb_with : Bool → Verb → Verb
verb_with true (Check selection) = Check Refuting
verb_with brief verb = verb

abbrev pub reading_with : Verb → Options → Command
reading_with verb options = Reading (verb_with options.brief verb) (grid_or options.grid)

-- a verb, and then its options: `trace [--grid=EXPR]`, `check [--brief] [--grid=EXPR]`, `list [--grid=EXPR]`
abbrev pub reading_of : List ℕ → List (List ℕ) → Option Command
reading_of first words = option_and_then (λ verb. option_map (reading_with verb) (options_from verb no_options words)) (verb_of first)

-- the number from 1 up to another that is written so in decimal
unfoldable pub number_up_to : ℕ → List ℕ → Option ℕ
number_up_to zero word = None
number_up_to (suc n) word = if bytes_eq (decimal (suc n)) word then Some (suc n) else number_up_to n word

abbrev pub greatest_sample : ℕ
greatest_sample = 64

-- one number: `sample N`
abbrev pub sample_of : List (List ℕ) → Option Command
sample_of (word ∷ []) = option_map Sample (number_up_to greatest_sample word)
sample_of words = None

abbrev pub command_of : List (List ℕ) → Option Command
command_of [] = None
command_of (first ∷ words) = if bytes_eq first (codes "sample") then sample_of words else reading_of first words
