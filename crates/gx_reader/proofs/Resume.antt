-- Reading line by line: what is left of the text makes of what was declared so far what the whole text declares.
use Rattle.std.proofs.Common.{◌≡◌, ℕ, ◌+◌, ◌<◌, ◌≤◌, true, false, cond, List, [], ◌∷◌, ◌++◌, length, drop, take, Option, None, Some, Result, Ok, Err, refl, sym, ap, ◌∙◌, subst, arith, append_assoc, append-nil, length-append, length-take}
use Rattle.std.specs.Prelude.{◌==◌, position, IfOk, IfErr}
use Rattle.std.specs.Io.BufRead.{take_through}
use Rattle.std.proofs.Math.Seq.{drop-length}
use Rattle.std.proofs.lemmas.List.Elements.{All-append}
use Rattle.std.proofs.lemmas.List.Splits.{slice_split_at, slice_split_none}
use Rattle.gx_fraction.specs.Fraction.{Fraction}
use Rattle.gx_text.specs.declared.lines.LineFault.{LineFault}
use Rattle.gx_text.specs.declared.lines.LineError.{LineError}
use Rattle.gx_text.specs.declared.lines.LineError.TheVariants.{Fault, NoMemory}
use Rattle.gx_text.specs.TextLine.{TextLine}
use Rattle.gx_text.specs.Lines.{cut, ended, ended_with, fault_of}
use Rattle.gx_text.specs.ScannerState.{ScannerState, Step, ending, going_on, number_after, after_bytes, Answers, AnswersEnd}
use Rattle.gx_text.specs.ScannerState.ScannerState.{Scanning, Failed}
use Rattle.gx_text.proofs.FaultLemmas.{fault_stays}
use Rattle.gx_text.proofs.StepLemmas.{HasNoLf, first_lf, no_lf, is_lf, after_part, after_line}
use Rattle.gx_gather.specs.declared.fault.TextFault.{TextFault}
use Rattle.gx_gather.specs.declared.fault.ReadError.{ReadError}
use Rattle.gx_gather.specs.declared.fault.ReadError.TheVariants.{Text, NoMemory as NoReadMemory}
use Rattle.gx_gather.specs.Declarations.{Declarations}
use Rattle.gx_form.specs.First.{◌>>=◌}
use Rattle.gx_gather.specs.Faults.{line_fault, error_of, IsCause}
use Rattle.gx_reader.specs.Reading.{with_line, read_lines, input_from}
use Rattle.gx_reader.specs.declared.line_reader.LineReader.TheVariants.{Stopped}
use Rattle.gx_link.specs.declared.input.Input.{Input}
use Rattle.gx_reader.specs.Resumed.{resumed, IsOpen, input_as, answered, is_out_of_memory, Tells}

ok_same : {A E : Type 0} (a b : A) → ◌≡◌ {A = Result A E} (Ok a) (Ok b) → a ≡ b
ok_same a b e = cc

pub ok_err : {A E : Type 0} (a : A) (e : E) → Ok a ≡ Err e → ⊥
ok_err a e q = cc

fault_same : {A : Type 0} (a b : LineFault) → ◌≡◌ {A = Result A LineError} (Err (Fault a)) (Err (Fault b)) → a ≡ b
fault_same a b e = cc

pub through_le : (text : List ℕ) → length (take_through 10 text) ≤ length text
through_le [] = omega arith
through_le (b ∷ text) = elim (b == 10) as (λ t. length (cond t (b ∷ []) (b ∷ take_through 10 text)) ≤ length (b ∷ text)) [
  | true ↦ omega arith
  | false ↦ omega (arith, through_le text)
]

-- nothing more is to come
pub no_more : (r : Result Declarations TextFault) → (r >>= (λ d. Ok d)) ≡ r
no_more (Err fault) = refl
no_more (Ok d) = refl

module _ (grid : Fraction) (d : Declarations) where
  -- what a line that was answered makes of the text: it is declared, and then what is left, whatever comes later
  pub record Goes (s : ScannerState) (text : List ℕ) (o : Option TextLine) (new : ScannerState) (rest : List ℕ) : Type 0 where
    pub same : (later : List ℕ) → resumed grid d s (text ++ later) ≡ (with_line grid d (Ok o) >>= (λ next. resumed grid next new (rest ++ later)))
    pub kept : (more : ℕ) → IsOpen (length text + more) s → IsOpen (length rest + more) new
    pub shorter : length rest < length text

  -- a step of a text: its answer is a line, or the text's fault
  record Steps (s : ScannerState) (text : List ℕ) (step : Step) (rest : List ℕ) : Type 0 where
    goes : (o : Option TextLine) → step.answer ≡ Ok o → Goes s text o step.state rest
    stops : (fault : LineFault) → step.answer ≡ Err (Fault fault) → (later : List ℕ) → resumed grid d s (text ++ later) ≡ Err (line_fault fault)

  -- a line that has a fault so far has it however the text goes on
  module _ (number : ℕ) (line : List ℕ) (fault : LineFault) (clear : HasNoLf line) (wrong : fault_of number line ≡ Some fault) where
    wrong_line : (part : List ℕ) (lines : List (List ℕ)) → read_lines grid d number ((line ++ part) ∷ lines) ≡ Err (line_fault fault)
    wrong_line part lines =
        ap (λ o. (with_line grid d (ended_with number (line ++ part) o) >>= (λ next. read_lines grid next (number + 1) lines))) (fault_stays number line part fault wrong)

    faulty_by : (later : List ℕ) (place : Option ℕ) → position is_lf later ≡ place → read_lines grid d number (cut (line ++ later)) ≡ Err (line_fault fault)
    faulty_by later (Some end) e =
        let first = first_lf later end e in
        let part = take end later in
        ap (λ bytes. read_lines grid d number (cut bytes)) (ap (λ bytes. line ++ bytes) first.whole ∙ sym (append_assoc line part (10 ∷ drop (end + 1) later)))
        ∙ ap (read_lines grid d number) (slice_split_at is_lf (line ++ part) 10 (drop (end + 1) later) (All-append (λ b. (b == 10) ≡ false) line part clear first.before) refl)
        ∙ wrong_line part (cut (drop (end + 1) later))
    faulty_by later None e =
        let none = no_lf later e in
        ap (read_lines grid d number) (slice_split_none is_lf (line ++ later) (All-append (λ b. (b == 10) ≡ false) line later clear none.all))
        ∙ wrong_line later []

  module _ (number : ℕ) (line : List ℕ) (text : List ℕ) (kept : IsOpen (length text) (Scanning number line)) (some : 0 < length text) where
    -- a line that is ended by a LF
    module _ (part rest : List ℕ) (clear : HasNoLf part) (whole : text ≡ part ++ 10 ∷ rest) where
      bytes_are : (later : List ℕ) → line ++ (text ++ later) ≡ (line ++ part) ++ 10 ∷ (rest ++ later)
      bytes_are later =
          ap (λ bytes. line ++ (bytes ++ later)) whole ∙ ap (λ bytes. line ++ bytes) (append_assoc part (10 ∷ rest) later) ∙ sym (append_assoc line part (10 ∷ (rest ++ later)))

      lines_are : (later : List ℕ) → resumed grid d (Scanning number line) (text ++ later) ≡ (with_line grid d (ended number (line ++ part)) >>= (λ next. read_lines grid next (number + 1) (cut (rest ++ later))))
      lines_are later =
          ap (λ bytes. read_lines grid d number (cut bytes)) (bytes_are later)
          ∙ ap (read_lines grid d number) (slice_split_at is_lf (line ++ part) 10 (rest ++ later) (All-append (λ b. (b == 10) ≡ false) line part kept.0 clear) refl)

      size : length part + length rest + 1 ≡ length text
      size = omega (arith, ap length whole, length-append part (10 ∷ rest))

      count : number_after number ≡ number + 1
      count = omega (arith, kept.1, size)

      ended_by : (r : Result (Option TextLine) LineFault) → ended number (line ++ part) ≡ r → Steps (Scanning number line) text (ending number r) rest
      ended_by (Ok o) e = record {
        goes = λ other is. record {
          same = λ later. lines_are later ∙ ap (λ r. (with_line grid d r >>= (λ next. read_lines grid next (number + 1) (cut (rest ++ later))))) (e ∙ ap Ok (ok_same o other is))
              ∙ ap (λ n. (with_line grid d (Ok other) >>= (λ next. read_lines grid next n (cut (rest ++ later))))) (sym count);
          kept = λ more h. (λ k d i. absurd (omega arith), omega (arith, h.1, count, size));
          shorter = omega (arith, size);
        };
        stops = λ fault is. absurd (ok_err o (Fault fault) is);
      }
      ended_by (Err fault) e = record {
        goes = λ o is. absurd (ok_err o (Fault fault) (sym is));
        stops = λ other is later. lines_are later ∙ ap (λ r. (with_line grid d r >>= (λ next. read_lines grid next (number + 1) (cut (rest ++ later))))) (e ∙ ap Err (fault_same fault other is));
      }

    -- the bytes before the text's end
    module _ (clear : HasNoLf text) where
      clear_line : HasNoLf (line ++ text)
      clear_line = All-append (λ b. (b == 10) ≡ false) line text kept.0 clear

      further : (later : List ℕ) → resumed grid d (Scanning number line) (text ++ later) ≡ resumed grid d (Scanning number (line ++ text)) later
      further later = ap (λ bytes. read_lines grid d number (cut bytes)) (sym (append_assoc line text later))

      going : Goes (Scanning number line) text None (Scanning number (line ++ text)) []
      going = record { same = further; kept = λ more h. (clear_line, omega (arith, h.1)); shorter = some }

      last_by : (o : Option LineFault) → fault_of number (line ++ text) ≡ o → Steps (Scanning number line) text (going_on number (line ++ text) o) []
      last_by None e = record {
        goes = λ o is. subst (λ o. Goes (Scanning number line) text o (Scanning number (line ++ text)) []) (ok_same None o is) going;
        stops = λ fault is. absurd (ok_err None (Fault fault) is);
      }
      last_by (Some fault) e = record {
        goes = λ o is. absurd (ok_err o (Fault fault) (sym is));
        stops = λ other is later. further later ∙ faulty_by number (line ++ text) other clear_line (e ∙ ap Some (fault_same fault other is)) later _ refl;
      }

    resumes_by : (place : Option ℕ) → position is_lf text ≡ place
        → Steps (Scanning number line) text (after_bytes (Scanning number line) (take_through 10 text)) (drop (length (take_through 10 text)) text)
    resumes_by (Some end) e =
        let first = first_lf text end e in
        let part = take end text in
        let count : length (part ++ 10 ∷ []) ≡ end + 1 = omega (arith, length-append part (10 ∷ []), length-take end text, first.within) in
        rw (first.through, after_line number line part first.before, count) (ended_by part (drop (end + 1) text) first.before first.whole _ refl)
    resumes_by None e =
        let none = no_lf text e in
        let part = after_part number line text (λ empty. absurd (omega (arith, ap length empty))) none.all in
        rw (none.through, part, drop-length text) (last_by none.all _ refl)

  resumes : (s : ScannerState) (text : List ℕ) → IsOpen (length text) s → 0 < length text
      → Steps s text (after_bytes s (take_through 10 text)) (drop (length (take_through 10 text)) text)
  resumes (Failed fault) text kept some = absurd kept
  resumes (Scanning number line) text kept some = resumes_by number line text kept some _ refl

  -- an answered line is declared, and then what is left
  pub take_goes : (s : ScannerState) (text : List ℕ) (o : Option TextLine) (new : ScannerState) → IsOpen (length text) s → 0 < length text
      → Answers s (after_bytes s (take_through 10 text)) new (Ok o) → Goes s text o new (drop (length (take_through 10 text)) text)
  take_goes (Failed fault) text o new kept some answer = absurd kept
  take_goes (Scanning number line) text o new kept some answer = rw answer.ok.1 ((resumes (Scanning number line) text kept some).goes o answer.ok.0)

  pub take_stops : (s : ScannerState) (text : List ℕ) (error : LineError) (new : ScannerState) → IsOpen (length text) s → 0 < length text
      → Answers s (after_bytes s (take_through 10 text)) new (Err error) → (later : List ℕ) → IsCause (resumed grid d s (text ++ later)) (error_of error)
  take_stops (Failed first) text error new kept some answer later = absurd kept
  take_stops (Scanning number line) text (Fault fault) new kept some answer later = (resumes (Scanning number line) text kept some).stops fault (answer.cause (λ e. cc)) later
  take_stops (Scanning number line) text NoMemory new kept some answer later = tt

  end_is : (number : ℕ) (line : List ℕ) → HasNoLf line → resumed grid d (Scanning number line) [] ≡ with_line grid d (ended number line)
  end_is number line clear =
      ap (λ bytes. read_lines grid d number (cut bytes)) (append-nil line) ∙ ap (read_lines grid d number) (slice_split_none is_lf line clear)
      ∙ no_more (with_line grid d (ended number line))

  -- the text's end
  pub ends : (s : ScannerState) (o : Option TextLine) → IsOpen 0 s → AnswersEnd s (Ok o) → resumed grid d s [] ≡ with_line grid d (Ok o)
  ends (Failed fault) o kept answer = absurd kept
  ends (Scanning number line) o kept answer = end_is number line kept.0 ∙ ap (with_line grid d) answer.0

  pub end_stops : (s : ScannerState) (error : LineError) → IsOpen 0 s → AnswersEnd s (Err error) → IsCause (resumed grid d s []) (error_of error)
  end_stops (Failed first) error kept answer = absurd kept
  end_stops (Scanning number line) (Fault fault) kept answer = end_is number line kept.0 ∙ ap (λ found. with_line grid d (ended_with number line found)) answer.1
  end_stops (Scanning number line) NoMemory kept answer = tt

-- a fault of what comes first is the whole's
pub cause_then : {A B : Type 0} (e : ReadError) (first : Result A TextFault) (next : A → Result B TextFault) → IsCause first e → IsCause ((first >>= next)) e
cause_then (Text fault) first next h = ap (λ r. (r >>= next)) h
cause_then NoReadMemory first next h = tt

pub cause_same : {A : Type 0} (e : ReadError) (a b : Result A TextFault) → a ≡ b → IsCause b e → IsCause a e
cause_same (Text fault) a b is h = is ∙ h
cause_same NoReadMemory a b is h = tt

-- an open state has room for fewer lines too
pub open_for_less : (s : ScannerState) (more less : ℕ) → less ≤ more → IsOpen more s → IsOpen less s
open_for_less (Failed error) more less h o = o
open_for_less (Scanning number line) more less h o = (o.0, omega (arith, o.1, h))

-- an error that isn't want of memory is the text's fault
pub stopped_as : {A : Type 0} (r : Result A TextFault) (error : ReadError) → is_out_of_memory (Stopped error) ≡ false → IsCause r error → Err error ≡ answered r
stopped_as r (Text fault) memory h = ap answered (sym h)
stopped_as r NoReadMemory memory h = absurd cc

-- the input of what was read, as a reader's answer
input_same : (read : Result Declarations TextFault) → (answered read >>= input_as) ≡ answered (input_from read)
input_same (Ok d) = refl
input_same (Err fault) = refl

tells : {A : Type 0} (r : Result A TextFault) (result : Result A ReadError) → IfOk result (λ a. r ≡ Ok a) → IfErr result (IsCause r) → Tells (answered r) result
tells r (Ok a) ok err = ap answered ok
tells r (Err (Text fault)) ok err = ap answered err
tells r (Err NoReadMemory) ok err = tt

pub told_input : (read : Result Declarations TextFault) (result : Result Input ReadError) → IfOk result (λ input. input_from read ≡ Ok input) → IfErr result (IsCause (input_from read)) → Tells (answered read >>= input_as) result
told_input read result ok err = subst (λ r. Tells r result) (sym (input_same read)) (tells (input_from read) result ok err)
