-- Tables: names with what they name, in the order in which they came.
use Rattle.std.specs.Prelude.{◌≡◌, refl, ℕ, List, [], ◌∷◌, ◌++◌, length, slice_get, nat_le, is_some, Option, None, Some, Result, Ok, Err, if◌then◌else◌}
use Rattle.std.specs.Option.{option_and_then}
use Rattle.std.specs.Coded.{Coded, code_by, coded×, coded_ℕ, coded_list}
use Rattle.gx_table.specs.declared.fault.FaultName.TheVariants.{Twice, TooMany}
use Rattle.gx_form.specs.declared.fault.Fault.{Fault}
use Rattle.gx_form.specs.declared.refusal.Refusal.{Refusal}
use Rattle.gx_form.specs.declared.refusal.Refusal.TheVariants.{At, NoMemory}
use Rattle.gx_names.specs.Names.{number_of}

pub record Table (A : Type 0) : Type 0 where
  pub names : List (List ℕ)
  pub values : List A

abbrev pub table_code : {A : Type 0} → Coded A → Coded (Table A)
table_code {A} code =
    code_by (List (List ℕ) × List A) (coded× (coded_list (coded_list coded_ℕ)) (coded_list code)) (λ t. (t.names, t.values)) (λ p. record { names = p.0; values = p.1 }) (λ _. refl)

abbrev pub empty : {A : Type 0} → Table A
empty = record { names = []; values = [] }

-- what a name stands for
abbrev pub value_of : {A : Type 0} → Table A → List ℕ → Option A
value_of t name = option_and_then (slice_get t.values) (number_of t.names name)

-- A name that is there is at fault at word 2 of its line; one more than the most at word 1.
abbrev pub name_fault : ℕ → List (List ℕ) → List ℕ → Option Fault
name_fault most names name =
    if is_some (number_of names name) then Some (record { place = 2; name = Twice })
    else if nat_le most (length names) then Some (record { place = 1; name = TooMany })
    else None

-- a fault, or else this
abbrev pub unless : {A : Type 0} → Option Fault → A → Result A Fault
unless None a = Ok a
unless (Some fault) a = Err fault

-- a new name goes last
abbrev pub entered : {A : Type 0} → ℕ → Table A → List ℕ → A → Result (Table A) Fault
entered most t name value = unless (name_fault most t.names name) (record { names = t.names ++ name ∷ []; values = t.values ++ value ∷ [] })

-- a new name gets the next number, or has its fault, or memory is wanting
abbrev pub Defines : ℕ → List (List ℕ) → List ℕ → List (List ℕ) → Result (Unit {0}) Refusal → Type 0
Defines most old name new (Ok done) = (name_fault most old name ≡ None) × (new ≡ old ++ name ∷ [])
Defines most old name new (Err (At fault)) = (name_fault most old name ≡ Some fault) × (new ≡ old)
Defines most old name new (Err NoMemory) = new ≡ old
