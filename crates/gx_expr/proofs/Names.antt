-- Names with their values, as a list of parameters.
use Rattle.std.proofs.Common.{◌≡◌, ℕ, suc, ◌+◌, Bool, true, false, not, nat_lt, List, [], ◌∷◌, ◌++◌, length, cond, Option, Some, None, is_some, inl, inr, refl, sym, ap, ◌∙◌, true≢false, arith, Bor}
use Rattle.std.specs.Slice.{IsItemAt}
use Rattle.std.specs.Prelude.{slice_get}
use Rattle.std.specs.List.{position_or_len}
use Rattle.std.specs.Option.{option_and_then, option_copied}
use Rattle.std.specs.Str.{bytes_eq}
use Rattle.std.proofs.lemmas.List.Quantifiers.{position-Some}
use Rattle.std.proofs.lemmas.Bool.{lt-ltb}
use Rattle.std.proofs.lemmas.Option.{slice_get_cases, slice_get_past, slice_get-get_or}
use Prim.Native.Nat.compare
use lib.Dec.{is_le}
use Rattle.gx_names.specs.Names.{number_of}
use Rattle.gx_expr.specs.Quantity.{Quantity}
use Rattle.gx_expr.specs.Param.{params_of, value_of_name}

-- what stands at a place, past the first
later : (p l : ℕ) (value : Quantity) (values : List Quantity) → option_and_then (slice_get (value ∷ values)) (cond (nat_lt (1 + p) (suc l)) (Some (1 + p)) None) ≡ option_and_then (slice_get values) (cond (nat_lt p l) (Some p) None)
later p l value values =
    let one : 1 + p ≡ suc p = omega arith in
    let less : nat_lt (suc p) (suc l) ≡ nat_lt p l = ap is_le (compare.suc-suc (suc p) l) in
    ap (λ k. option_and_then (slice_get (value ∷ values)) (cond (nat_lt k (suc l)) (Some k) None)) one ∙ ap (λ b. option_and_then (slice_get (value ∷ values)) (cond b (Some (suc p)) None)) less ∙ both (nat_lt p l)
  where
    both : (b : Bool) → option_and_then (slice_get (value ∷ values)) (cond b (Some (suc p)) None) ≡ option_and_then (slice_get values) (cond b (Some p) None)
    both true = refl
    both false = refl

pub value_at_number : (names : List (List ℕ)) (values : List Quantity) (name : List ℕ) → length names ≡ length values → value_of_name (params_of names values) name ≡ option_and_then (slice_get values) (number_of names name)
value_at_number [] values name long = refl
value_at_number (n ∷ names) [] name long = absurd (omega (arith, long))
value_at_number (n ∷ names) (value ∷ values) name long = by (bytes_eq name n) (value_at_number names values name (omega (arith, long)))
  where
    place : ℕ
    place = position_or_len (bytes_eq name) names

    by : (b : Bool) → value_of_name (params_of names values) name ≡ option_and_then (slice_get values) (number_of names name)
        → cond b (Some value) (value_of_name (params_of names values) name) ≡ option_and_then (slice_get (value ∷ values)) (cond (nat_lt (cond (not b) (1 + place) 0) (suc (length names))) (Some (cond (not b) (1 + place) 0)) None)
    by true rest = ap (λ b. option_and_then (slice_get (value ∷ values)) (cond b (Some 0) None)) (sym (lt-ltb 0 (suc (length names)) (omega arith)))
    by false rest = rest ∙ sym (later place (length names) value values)

-- a name without a value has no number
pub no_number : (names : List (List ℕ)) (values : List Quantity) (name : List ℕ) → length names ≡ length values → value_of_name (params_of names values) name ≡ None → number_of names name ≡ None
no_number names values name long none = by (number_of names name) refl
  where
    by : (o : Option ℕ) → number_of names name ≡ o → o ≡ None
    by None e = refl
    by (Some i) e = elim (slice_get_cases values i).1 [
      | inl (value, less, some, is) ↦ absurd (true≢false (ap is_some (sym some ∙ sym (ap (option_and_then (slice_get values)) e) ∙ sym (value_at_number names values name long) ∙ none)))
      | inr (past, missing) ↦ absurd (omega (arith, (position-Some (bytes_eq name) names i [] e).0, past, long))
    ]

pub params_of-push : (names : List (List ℕ)) (values : List Quantity) (name : List ℕ) (value : Quantity) → length names ≡ length values → params_of (names ++ name ∷ []) (values ++ value ∷ []) ≡ params_of names values ++ record { name = name; value = value } ∷ []
params_of-push [] [] name value long = refl
params_of-push [] (v ∷ values) name value long = absurd (omega (arith, long))
params_of-push (n ∷ names) [] name value long = absurd (omega (arith, long))
params_of-push (n ∷ names) (v ∷ values) name value long = ap (λ ps. record { name = n; value = v } ∷ ps) (params_of-push names values name value (omega (arith, long)))

-- what a reference that was got reads
pub got : {X : Type 0} (xs : List X) (i : ℕ) (item : Option (Bor X)) → IsItemAt xs i item → option_copied item ≡ slice_get xs i
got xs i None is = sym (slice_get_past xs i is.3)
got xs i (Some item) is = ap Some is.1 ∙ sym (slice_get-get_or xs i item.now is.3.0)
