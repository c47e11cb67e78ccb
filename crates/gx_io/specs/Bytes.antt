-- What the calls of a source or a sink do to its bytes, or to other items that it takes one after another, and to its count of faults.
use Rattle.std.specs.Prelude.{◌≡◌, ℕ, ◌+◌, ◌-◌, ◌^◌, min, List, ◌++◌, take, length, Option, None, Some, Result, OnOk, OnErr, MatchResult}
use Rattle.std.specs.Option.{option_map}
use Rattle.std.specs.Io.KnownBytes.{Appends}

-- the items that are told, and then these
unfoldable pub with_after : {A : Type 0} → Option (List A) → List A → Option (List A)
with_after None items = None
with_after (Some told) items = Some (told ++ items)

-- these bytes, and then those that are told
unfoldable pub with_before : List ℕ → Option (List ℕ) → Option (List ℕ)
with_before bytes None = None
with_before bytes (Some told) = Some (bytes ++ told)

-- of the whole all was appended but what is pending, its rest
unfoldable pub AppendsBut : {A : Type 0} → Option (List A) → Option (List A) → List A → List A → Type 0
AppendsBut {A} old new whole pending = (front : List A) × (whole ≡ front ++ pending) × (new ≡ with_after old front)

-- a front of the whole was appended
unfoldable pub AppendsFront : {A : Type 0} → Option (List A) → Option (List A) → List A → Type 0
AppendsFront {A} old new whole = (rest : List A) × AppendsBut old new whole rest

-- all of the whole was appended, or at an error a front of it
pub record Writes {A T E : Type 0} (old new : Option (List A)) (whole : List A) (result : Result T E) : Type 0 where
  pub all : OnOk result (new ≡ with_after old whole)
  pub front : OnErr result (AppendsFront old new whole)

-- how many bytes are told
abbrev pub told_length : Option (List ℕ) → ℕ
told_length None = 0
told_length (Some told) = length told

-- what was told stands at the front of what is
abbrev pub Grows : Option (List ℕ) → Option (List ℕ) → Type 0
Grows old new = option_map (take (told_length old)) new ≡ old

-- a writer of std holds what was taken of the piece; at an error, a front of it
abbrev pub PassesOn : {E : Type 0} → Option (List ℕ) → Option (List ℕ) → List ℕ → Result ℕ E → Type 0
PassesOn old new piece result = MatchResult result (λ n. Appends old new (take n piece)) (λ _. (n : ℕ) × Appends old new (take n piece))

-- the count with one fault more; it stands still at the end of its type
abbrev pub next_fault : ℕ → ℕ
next_fault faults = min (faults + 1) (2 ^ 64 - 1)

-- an error comes with exactly one fault more, and without an error there is none
pub record HasCause {T E : Type 0} (before now : ℕ) (result : Result T E) : Type 0 where
  pub kept : OnOk result (now ≡ before)
  pub rose : OnErr result (now ≡ next_fault before)
