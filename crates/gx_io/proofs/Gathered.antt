-- A buffer before a sink: what is pending, and what the sink has.
use Rattle.std.proofs.Common.{◌≡◌, ℕ, List, [], ◌++◌, length, take, drop, Option, None, Some, Result, Ok, Err, IfOk, OnOk, OnErr, refl, sym, ap, ◌∙◌, subst, arith, append_assoc, take-append-drop, length-take}
use Rattle.std.proofs.Math.Seq.{drop-append_seam}
use Rattle.std.proofs.lemmas.List.{take-append-le}
use Rattle.gx_io.specs.Bytes.{with_after, AppendsBut, AppendsFront, Grows}
use Rattle.gx_io.proofs.Joined.{with_after-twice, with_after-nothing}

-- all is pending
pub but-all : (told : Option (List ℕ)) (whole : List ℕ) → AppendsBut told told whole whole
unfolding AppendsBut
but-all told whole = ([], refl, sym (with_after-nothing told))

-- more is pending
pub but-more : (old new : Option (List ℕ)) (whole pending more : List ℕ) → AppendsBut old new whole pending → AppendsBut old new (whole ++ more) (pending ++ more)
unfolding AppendsBut
but-more old new whole pending more (front, parts, is) = (front, ap (λ l. l ++ more) parts ∙ append_assoc front pending more, is)

-- nothing is lost
pub but-whole : (old new : Option (List ℕ)) (whole pending : List ℕ) → AppendsBut old new whole pending → with_after new pending ≡ with_after old whole
unfolding AppendsBut
but-whole old new whole pending (front, parts, is) =
    ap (λ t. with_after t pending) is ∙ with_after-twice old front pending ∙ ap (with_after old) (sym parts)

-- what is told grows by what is appended
pub grows-after : (old mid : Option (List ℕ)) (bytes : List ℕ) → Grows old mid → Grows old (with_after mid bytes)
unfolding with_after
grows-after None None bytes grows = refl
grows-after None (Some ys) bytes grows = absurd cc
grows-after (Some xs) None bytes grows = absurd cc
grows-after (Some xs) (Some ys) bytes grows =
    let front : take (length xs) ys ≡ xs = cc in
    ap Some (take-append-le (length xs) ys bytes (omega (arith, ap length front, length-take (length xs) ys)) ∙ front)

-- and by a write
pub grows-write : {E : Type 0} (start old new : Option (List ℕ)) (piece : List ℕ) (result : Result ℕ E)
    → Grows start old → IfOk result (λ n. new ≡ with_after old (take n piece)) → OnErr result (new ≡ old) → Grows start new
grows-write start old new piece (Ok n) grows ok err = subst (Grows start) (sym ok) (grows-after start old (take n piece) grows)
grows-write start old new piece (Err e) grows ok err = subst (Grows start) (sym err) grows

-- Of a front that was gathered, a front was handed on.
pub front-gathered : (old new : Option (List ℕ)) (pending whole : List ℕ) → Grows old new → AppendsFront old (with_after new pending) whole → AppendsFront old new whole
unfolding AppendsFront AppendsBut with_after
front-gathered None None pending whole grows stopped = (whole, ([], refl, refl))
front-gathered None (Some ys) pending whole grows stopped = absurd cc
front-gathered (Some xs) None pending whole grows stopped = absurd cc
front-gathered (Some xs) (Some ys) pending whole grows (rest, (front, parts, is)) =
    let begins : take (length xs) ys ≡ xs = cc in
    let handed = drop (length xs) ys in
    let all : ys ≡ xs ++ handed = sym (take-append-drop (length xs) ys) ∙ ap (λ l. l ++ handed) begins in
    let gathered : ys ++ pending ≡ xs ++ front = cc in
    let same : front ≡ handed ++ pending =
    sym (drop-append_seam xs front) ∙ ap (drop (length xs)) (sym gathered ∙ ap (λ l. l ++ pending) all ∙ append_assoc xs handed pending) ∙ drop-append_seam xs (handed ++ pending) in
    (pending ++ rest, (handed, parts ∙ ap (λ l. l ++ rest) same ∙ append_assoc handed pending rest, ap Some all))

-- nothing is pending
pub with_after-none : (told : Option (List ℕ)) (pending : List ℕ) → pending ≡ [] → with_after told pending ≡ told
with_after-none told pending none = ap (with_after told) none ∙ with_after-nothing told
