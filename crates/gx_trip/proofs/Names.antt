-- Names in a list that are new where they come: the number of each is its place.
use Rattle.std.proofs.Common.{◌≡◌, ℕ, zero, suc, ◌+◌, ◌<◌, inl, inr, refl, sym, ◌∙◌, ap, subst, arith, true, false, List, [], ◌∷◌, ◌++◌, length, get_or, All, Some, None, append_assoc, append-nil}
use Rattle.std.specs.Prelude.{nat_lt, slice_get}
use Rattle.std.specs.List.{position_or_len}
use Rattle.std.specs.Option.{option_and_then}
use Rattle.std.specs.Str.{bytes_eq}
use Rattle.std.proofs.lemmas.Bool.{cases_Bool, ltb-false, lt-ltb, le-ltb}
use Rattle.std.proofs.lemmas.List.{length-append, get_or_at, get_or_append_left}
use Rattle.std.proofs.lemmas.List.Sums.{position_or_len_is, fails_before_first}
use Rattle.std.proofs.lemmas.Option.{slice_get-get_or}
use Rattle.std.proofs.lemmas.Slice.Eq.{bytes_eq-Decides}
use Rattle.gx_names.specs.Names.{number_of}
use Rattle.gx_gather.specs.Table.{Table, value_of}

-- each name is new after those before it
abbrev pub AreNew : List (List ℕ) → List (List ℕ) → Type 0
AreNew before [] = Unit {0}
AreNew before (name ∷ names) = (number_of before name ≡ None) × AreNew (before ++ name ∷ []) names

itself : (name : List ℕ) → bytes_eq name name ≡ true
itself name = (bytes_eq-Decides name name).1 refl

-- ---- the number of a new name

not_found : (names : List (List ℕ)) (name : List ℕ) → number_of names name ≡ None → (k : ℕ) (d : List ℕ) → k < length names → bytes_eq name (get_or names k d) ≡ false
not_found names name none k d less = elim (cases_Bool (nat_lt (position_or_len (bytes_eq name) names) (length names))) [
  | inl found ↦ let some = rw found at none in absurd (cc)
  | inr past ↦ fails_before_first (bytes_eq name) names k d (omega (arith, ltb-false (position_or_len (bytes_eq name) names) (length names) past, less))
]

at_end : (names after : List (List ℕ)) (name : List ℕ) → number_of names name ≡ None → number_of (names ++ name ∷ after) name ≡ Some (length names)
at_end names after name none =
    let all = names ++ name ∷ after in
    let long : length all ≡ length names + suc (length after) = length-append names (name ∷ after) in
    let place : position_or_len (bytes_eq name) all ≡ length names = position_or_len_is (bytes_eq name) all (length names) [] (omega arith) (λ k less. rw (get_or_append_left names (name ∷ after) [] k less) (not_found names name none k [] less)) (λ _. rw (get_or_at names name after [] (length names) refl) (itself name)) in
    let within : nat_lt (length names) (length all) ≡ true = lt-ltb (length names) (length all) (omega arith) in
    rw (place, within) refl

-- no name is this one
pub absent : (names : List (List ℕ)) (name : List ℕ) → All (λ n. bytes_eq name n ≡ false) names → number_of names name ≡ None
absent names name all =
    let place : position_or_len (bytes_eq name) names ≡ length names = position_or_len_is (bytes_eq name) names (length names) [] (omega arith) (λ k less. all k [] less) (λ less. absurd (omega arith)) in
    let beyond : nat_lt (length names) (length names) ≡ false = le-ltb (length names) (length names) (omega arith) in
    rw (place, beyond) refl

pub number_at : (before names : List (List ℕ)) → AreNew before names → (v : ℕ) (d : List ℕ) → v < length names → number_of (before ++ names) (get_or names v d) ≡ Some (length before + v)
number_at before [] new v d less = absurd (omega arith)
number_at before (n ∷ ns) new zero d less = at_end before ns n new.0 ∙ ap (λ (k : ℕ). Some k) (omega arith)
number_at before (n ∷ ns) new (suc v) d less =
    ap (λ (all : List (List ℕ)). number_of all (get_or ns v d)) (sym (append_assoc before (n ∷ []) ns))
    ∙ number_at (before ++ n ∷ []) ns new.1 v d (omega arith)
    ∙ ap (λ (k : ℕ). Some k) (omega (arith, length-append before (n ∷ [])))

-- ---- one more

pub new_push : (before names : List (List ℕ)) (name : List ℕ) → AreNew before names → number_of (before ++ names) name ≡ None → AreNew before (names ++ name ∷ [])
new_push before [] name new none = (subst (λ (all : List (List ℕ)). number_of all name ≡ None) (append-nil before) none, tt)
new_push before (n ∷ ns) name new none =
    (new.0, new_push (before ++ n ∷ []) ns name new.1 (subst (λ (all : List (List ℕ)). number_of all name ≡ None) (sym (append_assoc before (n ∷ []) ns)) none))

-- ---- tables

pub value_at : {A : Type 0} (t : Table A) → AreNew [] t.names → length t.names ≡ length t.values → (i : ℕ) (d : List ℕ) (e : A) → i < length t.names → value_of t (get_or t.names i d) ≡ Some (get_or t.values i e)
value_at t new long i d e less =
    ap (option_and_then (slice_get t.values)) (number_at [] t.names new i d less ∙ ap (λ (k : ℕ). Some k) (omega arith)) ∙ slice_get-get_or t.values i e (omega arith)
