-- A reader that is fed from a source: what holds between two reads, and what was read in the end.
use Rattle.std.proofs.Common.{◌≡◌, ℕ, ◌+◌, ◌<◌, ◌≤◌, List, [], ◌++◌, length, Option, Result, Ok, Err, IfOk, refl, sym, ap, ◌∙◌, arith, append_assoc, append-nil, length-append}
use Rattle.std.specs.Io.KnownBytes.{IsAtEnd}
use Rattle.gx_io.specs.Bytes.{with_before}
use Rattle.gx_num.specs.declared.memory.NoMemory.{NoMemory}
use Rattle.gx_io.proofs.Joined.{with_before-twice, with_before-nothing}
use Rattle.gx_fraction.specs.Fraction.{Fraction}
use Rattle.gx_gather.specs.declared.fault.TextFault.{TextFault}
use Rattle.gx_link.specs.declared.input.Input.{Input}
use Rattle.gx_reader.specs.Reader.{ReaderState, Begins, read_as}
use Rattle.gx_reader.specs.Reading.{reading}
use Rattle.gx_reader.specs.Resumed.{answered}
use Rattle.g4exact.specs.Ends.{IsReadFrom, IsReadWhole, most_read}

-- so many bytes were taken, and the reader makes of what comes later what it made at first of them and this
pub record Fed (old new : Option (List ℕ)) (first reader : ReaderState) (count : ℕ) : Type 0 where
  pub taken : List ℕ
  pub gone : old ≡ with_before taken new
  pub size : length taken ≡ count
  pub most : count ≤ most_read
  pub reads : (later : List ℕ) → read_as reader later ≡ read_as first (taken ++ later)

pub fed_nothing : (left : Option (List ℕ)) (reader : ReaderState) → Fed left left reader reader 0
fed_nothing left reader = record { taken = []; gone = sym (with_before-nothing left); size = refl; most = omega arith; reads = λ later. refl }

module _ (old mid : Option (List ℕ)) (first reader : ReaderState) (count : ℕ) (fed : Fed old mid first reader count) where
  -- another piece is taken, of so many bytes
  pub fed_more : (new : Option (List ℕ)) (next : ReaderState) (piece : List ℕ) (n : ℕ) → mid ≡ with_before piece new → length piece ≡ n → count + n ≤ most_read
      → ((later : List ℕ) → read_as next later ≡ read_as reader (piece ++ later)) → Fed old new first next (count + n)
  fed_more new next piece n is size most goes = record {
    taken = fed.taken ++ piece;
    gone = fed.gone ∙ ap (with_before fed.taken) is ∙ with_before-twice new fed.taken piece;
    size = omega (arith, length-append fed.taken piece, fed.size, size);
    most = most;
    reads = λ later. goes later ∙ fed.reads (piece ++ later) ∙ ap (read_as first) (sym (append_assoc fed.taken piece later));
  }

  -- no more is taken
  pub fed_whole : (count < most_read → IsAtEnd mid) → (text : List ℕ) × IsReadWhole old mid text × ((later : List ℕ) → read_as reader later ≡ read_as first (text ++ later))
  fed_whole end =
      (fed.taken, record { taken = fed.gone; most = omega (arith, fed.size, fed.most); all = λ short. end (omega (arith, short, fed.size)) }, fed.reads)

-- some was taken, and then a piece of so many bytes, or nothing
pub fed_from : (old mid new : Option (List ℕ)) (first reader : ReaderState) (count : ℕ) (piece : List ℕ) (n : ℕ) → Fed old mid first reader count
    → mid ≡ with_before piece new → length piece ≡ n → count + n ≤ most_read → IsReadFrom old new
fed_from old mid new first reader count piece n fed is size most =
    (fed.taken ++ piece, omega (arith, length-append fed.taken piece, fed.size, size, most), fed.gone ∙ ap (with_before fed.taken) is ∙ with_before-twice new fed.taken piece)

-- a reader that began at a grid, was fed a text and then finished has read just that
pub read_whole : (grid : Fraction) (first reader : ReaderState) (text : List ℕ) (read : Result Input TextFault) → Begins grid first
    → ((later : List ℕ) → read_as reader later ≡ read_as first (text ++ later)) → read_as reader [] ≡ answered read → reading grid text ≡ read
read_whole grid first reader text read begins reads is =
    same_answer (reading grid text) read (ap (λ bytes. answered (reading grid bytes)) (sym (append-nil text)) ∙ sym (begins (text ++ [])) ∙ sym (reads []) ∙ is)
  where
    same_answer : (a b : Result Input TextFault) → answered a ≡ answered b → a ≡ b
    same_answer (Ok a) (Ok b) e = cc
    same_answer (Ok a) (Err b) e = absurd cc
    same_answer (Err a) (Ok b) e = absurd cc
    same_answer (Err a) (Err b) e = cc

-- nothing was taken
pub from_nothing : (left : Option (List ℕ)) → IsReadFrom left left
from_nothing left = ([], omega arith, sym (with_before-nothing left))

-- what a fed reader gives at the end
module _ (old new : Option (List ℕ)) (first reader : ReaderState)
    (fed : (text : List ℕ) × IsReadWhole old new text × ((later : List ℕ) → read_as reader later ≡ read_as first (text ++ later))) where
  pub finished : (grid : Fraction) (read : Result Input TextFault) → Begins grid first → read_as reader [] ≡ answered read
      → (text : List ℕ) × IsReadWhole old new text × (reading grid text ≡ read)
  finished grid read begins is = (fed.0, fed.1, read_whole grid first reader fed.0 read begins fed.2 is)

  pub finished_from : IsReadFrom old new
  finished_from = (fed.0, fed.1.most, fed.1.taken)

-- a text that was fed at once is what was read
pub finished_text : (grid : Fraction) (first reader : ReaderState) (text : List ℕ) (result : Result (Result Input TextFault) NoMemory) → Begins grid first
    → ((later : List ℕ) → read_as reader later ≡ read_as first (text ++ later)) → IfOk result (λ read. read_as reader [] ≡ answered read) → IfOk result (λ read. reading grid text ≡ read)
finished_text grid first reader text (Ok read) begins reads is = read_whole grid first reader text read begins reads is
finished_text grid first reader text (Err error) begins reads is = tt

pub err_same : {T E : Type 0} (a b : E) → ◌≡◌ {A = Result T E} (Err a) (Err b) → a ≡ b
err_same a b e = cc
