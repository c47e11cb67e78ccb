-- What bytes without a LF make of a line, and what a LF after them does.
use Rattle.std.proofs.Common.{◌≡◌, ◌≢◌, ℕ, suc, ◌+◌, ◌<◌, Bool, true, false, cond, List, [], ◌∷◌, ◌++◌, length, take, drop, Option, None, Some, Result, Ok, Err, refl, sym, ap, ◌∙◌, arith, append_assoc, append-nil}
use Rattle.std.specs.Prelude.{◌==◌, All, position}
use Rattle.std.specs.List.{fold}
use Rattle.std.specs.Option.{option_map}
use Rattle.std.specs.Io.BufRead.{take_through}
use Rattle.std.proofs.lemmas.Bool.Decides.{nat_tests}
use Rattle.std.proofs.lemmas.List.Elements.{All-cons, All-head, All-tail}
use Rattle.std.proofs.lemmas.List.Folds.{fold_stays}
use Rattle.std.proofs.lemmas.List.Sums.{fold-append}
use Rattle.gx_text.specs.declared.lines.LineFault.{LineFault}
use Rattle.gx_text.specs.declared.lines.LineError.{LineError}
use Rattle.gx_text.specs.declared.lines.LineError.TheVariants.{Fault, NoMemory}
use Rattle.gx_text.specs.TextLine.{TextLine}
use Rattle.gx_text.specs.Lines.{IsCause, ended, ended_with, fault_of}
use Rattle.gx_text.specs.ScannerState.{ScannerState, Step, state_of, error_in, failing, going_on, ending, next_line, after_byte, after_bytes, IsTaken, Answers}
use Rattle.gx_text.specs.ScannerState.ScannerState.{Scanning, Failed}
use Rattle.gx_text.proofs.FaultLemmas.{fault_stays, position_cons, one_back, none_back, none_some}

abbrev pub HasNoLf : List ℕ → Type 0
HasNoLf part = All (λ b. (b == 10) ≡ false) part

abbrev next : Step → ℕ → Step
next step b = after_byte step.state b

after_error : (error : LineError) (bytes : List ℕ) → fold next (failing error) bytes ≡ failing error
after_error error bytes = fold_stays next (failing error) (λ b. refl) bytes

-- what the bytes after one make of a line, by the fault that the one decides
rest_of : (number : ℕ) (line : List ℕ) (b : ℕ) (rest : List ℕ) (o : Option LineFault) → fault_of number (line ++ b ∷ []) ≡ o
    → (o ≡ None → fold next (going_on number (line ++ b ∷ []) None) rest ≡ going_on number ((line ++ b ∷ []) ++ rest) (fault_of number ((line ++ b ∷ []) ++ rest)))
    → fold next (going_on number (line ++ b ∷ []) o) rest ≡ going_on number (line ++ b ∷ rest) (fault_of number (line ++ b ∷ rest))
rest_of number line b rest None e ih = ih refl ∙ ap (λ whole. going_on number whole (fault_of number whole)) (append_assoc line (b ∷ []) rest)
rest_of number line b rest (Some fault) e ih =
    after_error (Fault fault) rest
    ∙ sym (ap (going_on number (line ++ b ∷ rest)) (ap (fault_of number) (sym (append_assoc line (b ∷ []) rest)) ∙ fault_stays number (line ++ b ∷ []) rest fault e))

-- bytes of a line decide its fault, or leave it without one
pub after_part : (number : ℕ) (line part : List ℕ) → (part ≡ [] → fault_of number line ≡ None) → HasNoLf part
    → after_bytes (Scanning number line) part ≡ going_on number (line ++ part) (fault_of number (line ++ part))
after_part number line [] h n = rw (append-nil line, h refl) refl
after_part number line (b ∷ rest) h n =
    ap (λ t. fold next (cond t (ending number (ended number line)) (going_on number (line ++ b ∷ []) (fault_of number (line ++ b ∷ [])))) rest) (All-head (λ b. (b == 10) ≡ false) b rest n)
    ∙ rest_of number line b rest _ refl (λ e. after_part number (line ++ b ∷ []) rest (λ _. e) (All-tail (λ b. (b == 10) ≡ false) b rest n))

lf_after : (number : ℕ) (line : List ℕ) (o : Option LineFault) → fault_of number line ≡ o → next (going_on number line o) 10 ≡ ending number (ended_with number line o)
lf_after number line None e = ap (λ o. ending number (ended_with number line o)) e
lf_after number line (Some fault) e = refl

-- a LF after them ends the line
pub after_line : (number : ℕ) (line part : List ℕ) → HasNoLf part → after_bytes (Scanning number line) (part ++ 10 ∷ []) ≡ ending number (ended number (line ++ part))
after_line number line [] n = ap (λ whole. ending number (ended number whole)) (sym (append-nil line))
after_line number line (b ∷ rest) n =
    fold-append next (going_on number line None) (b ∷ rest) (10 ∷ [])
    ∙ ap (λ step. next step 10) (after_part number line (b ∷ rest) (λ e. absurd cc) n)
    ∙ lf_after number (line ++ b ∷ rest) _ refl

abbrev Answer : Type 0
Answer = Result (Option TextLine) LineError

-- what is answered from a line that isn't ended
goes : (step : Step) (new : ScannerState) (o : Option TextLine) → step ≡ record { answer = Ok o; state = new } → IsTaken step new (Ok o)
goes step new o e = record { ok = (ap (λ step. step.answer) e, sym (ap (λ step. step.state) e)); err = tt; cause = tt }

fails : (step : Step) (error : LineError) → (error ≢ NoMemory → step ≡ failing error) → IsTaken step (Failed error) (Err error)
fails step error e = record { ok = tt; err = refl; cause = λ other. ap (λ step. step.answer) (e other) }

going_fails : (number : ℕ) (line : List ℕ) (error : LineError) → error ≢ NoMemory → IsCause (fault_of number line) error → going_on number line (fault_of number line) ≡ failing error
going_fails number line (Fault fault) other e = ap (going_on number line) e
going_fails number line NoMemory other e = absurd (other refl)

ending_fails : (number : ℕ) (line : List ℕ) (error : LineError) → error ≢ NoMemory → IsCause (fault_of number line) error → ending number (ended number line) ≡ failing error
ending_fails number line (Fault fault) other e = ap (λ found. ending number (ended_with number line found)) e
ending_fails number line NoMemory other e = absurd (other refl)

module _ (s : ScannerState) (number : ℕ) (line part : List ℕ) (is : s ≡ Scanning number line) (n : HasNoLf part) where
  pub part_goes : fault_of number line ≡ None → fault_of number (line ++ part) ≡ None → Answers s (after_bytes s part) (Scanning number (line ++ part)) (Ok None)
  part_goes h e = rw is (goes _ _ None (after_part number line part (λ _. h) n ∙ ap (going_on number (line ++ part)) e))

  pub part_fails : fault_of number line ≡ None → (error : LineError) → IsCause (fault_of number (line ++ part)) error → Answers s (after_bytes s part) (Failed error) (Err error)
  part_fails h error e = rw is (fails _ error (λ other. after_part number line part (λ _. h) n ∙ going_fails number (line ++ part) error other e))

  pub line_goes : (o : Option TextLine) → ended number (line ++ part) ≡ Ok o → Answers s (after_bytes s (part ++ 10 ∷ [])) (next_line s) (Ok o)
  line_goes o e = rw is (goes _ _ o (after_line number line part n ∙ ap (ending number) e))

  pub line_fails : (error : LineError) → IsCause (fault_of number (line ++ part)) error → Answers s (after_bytes s (part ++ 10 ∷ [])) (Failed error) (Err error)
  line_fails error e = rw is (fails _ error (λ other. after_line number line part n ∙ ending_fails number (line ++ part) error other e))

  -- the LF's answer is the line's
  pub line_ends : (later new : ScannerState) (answer : Answer) → later ≡ Scanning number (line ++ part) → Answers later (after_byte later 10) new answer
      → Answers s (after_bytes s (part ++ 10 ∷ [])) new answer
  line_ends later new answer is_later taken =
      let from : Answers (Scanning number (line ++ part)) (after_byte (Scanning number (line ++ part)) 10) new answer = rw is_later at taken in
      rw (is, after_line number line part n) from

-- a LF that ends a line with a fault
pub end_fails : (s : ScannerState) (number : ℕ) (line : List ℕ) → s ≡ Scanning number line → (error : LineError) → IsCause (fault_of number line) error → Answers s (after_byte s 10) (Failed error) (Err error)
end_fails s number line is error e = rw is (fails _ error (λ other. ending_fails number line error other e))

pub no_bytes : (line : List ℕ) → (length line == 0) ≡ true → line ≡ []
no_bytes [] e = refl
no_bytes (b ∷ line) e = absurd (grind (arith, nat_tests, e))

abbrev pub is_lf : ℕ → Bool
is_lf b = b == 10

-- where the first LF of a text stands
pub record FirstLf (text : List ℕ) (end : ℕ) : Type 0 where
  pub within : end < length text
  pub whole : text ≡ take end text ++ 10 ∷ drop (end + 1) text
  pub before : HasNoLf (take end text)
  pub through : take_through 10 text ≡ take end text ++ 10 ∷ []

drop_next : (n b : ℕ) (rest : List ℕ) → drop (suc n + 1) (b ∷ rest) ≡ drop (n + 1) rest
drop_next n b rest = let next : suc n + 1 ≡ suc (n + 1) = omega arith in rw next refl

first_lf_by : (b : ℕ) (rest : List ℕ) (end : ℕ) (t : Bool) → is_lf b ≡ t → cond t (Some 0) (option_map (λ n. 1 + n) (position is_lf rest)) ≡ Some end
    → ((p : ℕ) → position is_lf rest ≡ Some p → FirstLf rest p) → FirstLf (b ∷ rest) end
first_lf_by b rest end true t e ih =
    let zero : end ≡ 0 = cc in
    let lf : b ≡ 10 = grind (arith, nat_tests, t) in
    rw zero (record { within = omega arith; whole = ap (λ b. b ∷ rest) lf; before = λ k d h. absurd (omega arith); through = rw t (ap (λ b. b ∷ []) lf) })
first_lf_by b rest end false t e ih =
    let back = one_back (position is_lf rest) end e in
    let first = ih back.0 back.1 in
    let next : end ≡ suc back.0 = omega (arith, back.2) in
    rw next (record {
      within = omega (arith, first.within);
      whole = rw (drop_next back.0 b rest) (ap (λ text. b ∷ text) first.whole);
      before = All-cons (λ b. (b == 10) ≡ false) b (take back.0 rest) t first.before;
      through = rw t (ap (λ text. b ∷ text) first.through);
    })

pub first_lf : (text : List ℕ) (end : ℕ) → position is_lf text ≡ Some end → FirstLf text end
first_lf [] end e = absurd (none_some end e)
first_lf (b ∷ rest) end e = first_lf_by b rest end _ refl (sym (position_cons is_lf b rest) ∙ e) (first_lf rest)

-- a text without one
pub record NoLf (text : List ℕ) : Type 0 where
  pub all : HasNoLf text
  pub through : take_through 10 text ≡ text

no_lf_by : (b : ℕ) (rest : List ℕ) (t : Bool) → is_lf b ≡ t → cond t (Some 0) (option_map (λ n. 1 + n) (position is_lf rest)) ≡ None
    → (position is_lf rest ≡ None → NoLf rest) → NoLf (b ∷ rest)
no_lf_by b rest true t e ih = absurd cc
no_lf_by b rest false t e ih =
    let later = ih (none_back (position is_lf rest) e) in
    record {
      all = All-cons (λ b. (b == 10) ≡ false) b rest t later.all;
      through = rw t (ap (λ text. b ∷ text) later.through);
    }

pub no_lf : (text : List ℕ) → position is_lf text ≡ None → NoLf text
no_lf [] e = record { all = λ k d h. absurd (omega arith); through = refl }
no_lf (b ∷ rest) e = no_lf_by b rest _ refl (sym (position_cons is_lf b rest) ∙ e) (no_lf rest)

-- the state of fields that keep no fault
pub no_error : (error : Option LineError) (number : ℕ) (line : List ℕ) (s : ScannerState) → state_of error number line ≡ s → error_in s ≡ None → error ≡ None
no_error None number line s is none = refl
no_error (Some error) number line s is none = absurd (none_some error (sym (rw (sym is) at none)))

pub scanning : (error : Option LineError) (number : ℕ) (line : List ℕ) (s : ScannerState) → state_of error number line ≡ s → error ≡ None → s ≡ Scanning number line
scanning error number line s is none = sym is ∙ ap (λ error. state_of error number line) none
