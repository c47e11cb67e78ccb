-- The loops of the calls here: a write from a place on, and a read from a place on.
use Rattle.std.proofs.Common.{◌≡◌, ℕ, ◌+◌, List, ◌++◌, length, take, drop, Option, Result, Ok, Err, OnOk, sym, ap, ◌∙◌, take-append-drop}
use Rattle.std.proofs.Math.Seq.{take-add, take-length}
use Rattle.std.proofs.lemmas.List.{take_at, drop-drop}
use Rattle.gx_io.specs.Bytes.{with_after, AppendsBut, AppendsFront, Writes}
use Rattle.gx_io.proofs.Joined.{with_after-twice}

-- a write from a place on
pub with_after-take : (told : Option (List ℕ)) (whole : List ℕ) (at n : ℕ)
    → with_after (with_after told (take at whole)) (take n (drop at whole)) ≡ with_after told (take (at + n) whole)
with_after-take told whole at n = with_after-twice told (take at whole) (take n (drop at whole)) ∙ ap (with_after told) (sym (take-add at n whole))

-- a front that is told by its length
pub but-take : (old new : Option (List ℕ)) (whole : List ℕ) (at : ℕ) → new ≡ with_after old (take at whole) → AppendsBut old new whole (drop at whole)
unfolding AppendsBut
but-take old new whole at is = (take at whole, sym (take-append-drop at whole), is)

-- a read gave a front of what stands from a place on
pub read-from : (bytes given rest : List ℕ) (at n : ℕ) → given ≡ take n (drop at bytes) → length given ≡ n
    → drop at bytes ≡ take n (given ++ rest) ++ drop (at + n) bytes
read-from bytes given rest at n is size =
    sym (take-append-drop n (drop at bytes))
    ∙ ap (λ l. l ++ drop n (drop at bytes)) (sym is ∙ sym (take_at given rest n size))
    ∙ ap (λ l. take n (given ++ rest) ++ l) (drop-drop n at bytes)

-- a front was written, and at Ok it is the whole
pub writes-front : {T E : Type 0} (old new : Option (List ℕ)) (whole : List ℕ) (count : ℕ) (result : Result T E)
    → OnOk result (count ≡ length whole) → new ≡ with_after old (take count whole) → Writes old new whole result
unfolding AppendsFront
writes-front old new whole count (Ok x) all is = record { all = is ∙ ap (λ n. with_after old (take n whole)) all ∙ ap (with_after old) (take-length whole); front = tt }
writes-front old new whole count (Err e) all is = record { all = tt; front = (drop count whole, but-take old new whole count is) }
