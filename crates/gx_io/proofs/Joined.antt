-- Calls one after the other: what the callers of reads and writes need.
use Rattle.std.proofs.Common.{◌≡◌, ℕ, List, [], ◌++◌, Option, None, Some, Result, Ok, Err, refl, sym, ap, ◌∙◌, append_assoc, append-nil}
use Rattle.gx_io.specs.Bytes.{with_after, with_before, AppendsBut, AppendsFront, Writes}

-- two appends in a row
pub with_after-twice : {A : Type 0} (told : Option (List A)) (a b : List A) → with_after (with_after told a) b ≡ with_after told (a ++ b)
unfolding with_after
with_after-twice None a b = refl
with_after-twice (Some xs) a b = ap Some (append_assoc xs a b)

-- nothing was appended
pub with_after-nothing : {A : Type 0} (told : Option (List A)) → with_after told [] ≡ told
unfolding with_after
with_after-nothing None = refl
with_after-nothing (Some xs) = ap Some (append-nil xs)

-- two reads in a row
pub with_before-twice : (told : Option (List ℕ)) (a b : List ℕ) → with_before a (with_before b told) ≡ with_before (a ++ b) told
unfolding with_before
with_before-twice None a b = refl
with_before-twice (Some xs) a b = ap Some (sym (append_assoc a b xs))

-- nothing was read
pub with_before-nothing : (told : Option (List ℕ)) → with_before [] told ≡ told
unfolding with_before
with_before-nothing None = refl
with_before-nothing (Some xs) = refl

-- the first write stopped
pub front-of_first : {A : Type 0} (old new : Option (List A)) (a b : List A) → AppendsFront old new a → AppendsFront old new (a ++ b)
unfolding AppendsFront AppendsBut
front-of_first old new a b (rest, (front, parts, is)) = (rest ++ b, (front, ap (λ l. l ++ b) parts ∙ append_assoc front rest b, is))

-- the first write ended, and the second stopped
pub front-of_second : {A : Type 0} (old new : Option (List A)) (a b : List A) → AppendsFront (with_after old a) new b → AppendsFront old new (a ++ b)
unfolding AppendsFront AppendsBut
front-of_second old new a b (rest, (front, parts, is)) =
    (rest, (a ++ front, ap (λ l. a ++ l) parts ∙ sym (append_assoc a front rest), is ∙ with_after-twice old a front))

-- nothing is a front
pub front-nothing : {A : Type 0} (old : Option (List A)) (a : List A) → AppendsFront old old a
unfolding AppendsFront AppendsBut
front-nothing old a = (a, ([], refl, sym (with_after-nothing old)))

-- the first write ended, and the second is the last
pub writes-second : {A T E : Type 0} (old new : Option (List A)) (a b : List A) (result : Result T E)
    → Writes (with_after old a) new b result → Writes old new (a ++ b) result
writes-second old new a b (Ok x) h = record { all = h.all ∙ with_after-twice old a b; front = tt }
writes-second old new a b (Err e) h = record { all = tt; front = front-of_second old new a b h.front }

-- what a function that writes in turn is proved with
pub ruleset joined = (with_after-twice, with_after-nothing, front-of_first, front-of_second, front-nothing, writes-second)
