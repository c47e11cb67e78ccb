-- Forms: what is read from the left, each step taking what is still to come and giving what it reads with what is to come then, or
-- the first fault.
use Rattle.std.specs.Prelude.{◌≡◌, ℕ, zero, suc, List, [], ◌∷◌, ◌++◌, Result, Ok, Err}
use Rattle.gx_form.specs.declared.fault.Fault.{Fault}
use Rattle.gx_form.specs.declared.refusal.Refusal.{Refusal}
use Rattle.gx_form.specs.declared.refusal.Refusal.TheVariants.{At, NoMemory}

-- what is read and what is left then, or the first fault
abbrev pub Outcome : Type 0 → Type 0 → Type 0
Outcome S A = Result (A × S) Fault

abbrev pub Form : Type 0 → Type 0 → Type 0
Form S A = S → Outcome S A

-- the first fault, else what comes next
abbrev pub and_then : {S A B : Type 0} → Outcome S A → (A → Form S B) → Outcome S B
and_then (Ok p) f = f p.0 p.1
and_then (Err e) f = Err e

infixl 10 ◌>>=◌
abbrev pub ◌>>=◌ : {S A B : Type 0} → Form S A → (A → Form S B) → Form S B
p >>= f = λ s. and_then (p s) f

infixl 10 ◌>>◌
abbrev pub ◌>>◌ : {S A B : Type 0} → Form S A → Form S B → Form S B
p >> q = p >>= (λ _. q)

abbrev pub pure : {S A : Type 0} → A → Form S A
pure a = λ s. Ok (a, s)

-- so many in a row, after those that were found
unfoldable pub collect_from : {S A : Type 0} → Form S A → ℕ → List A → Form S (List A)
collect_from item zero found = pure found
collect_from item (suc n) found = do
  x ← item
  collect_from item n (found ++ x ∷ [])

abbrev pub collect : {S A : Type 0} → ℕ → Form S A → Form S (List A)
collect n item = collect_from item n []

-- what is left, without what was read
abbrev pub forget : {S A : Type 0} → Outcome S A → Outcome S (Unit {0})
forget (Ok p) = Ok (tt, p.1)
forget (Err e) = Err e

-- what a function that reads and takes no memory answers: the form's outcome
abbrev pub Exactly : {S A : Type 0} → Outcome S A → Result A Fault → S → Type 0
Exactly outcome (Ok a) new = outcome ≡ Ok (a, new)
Exactly outcome (Err fault) new = outcome ≡ Err fault

-- what a function that reads answers: the form's outcome, or want of memory
abbrev pub Reads : {S A : Type 0} → Outcome S A → Result A Refusal → S → Type 0
Reads outcome (Ok a) new = outcome ≡ Ok (a, new)
Reads outcome (Err (At fault)) new = outcome ≡ Err fault
Reads outcome (Err NoMemory) new = Unit {0}
