-- Tests on the numbers below a bound.
use Rattle.std.proofs.Common.{◌≡◌, ℕ, zero, suc, ◌+◌, ◌<◌, ◌≤◌, inl, inr, refl, sym, ◌∙◌, ap, arith, Bool, true, false, cond, List, [], ◌∷◌, find, None, Some, zero-add}
use Rattle.std.specs.List.{list_any, range_with_len}
use Rattle.std.proofs.lemmas.Bool.{cases_Bool, cases_lt, cond-true, cond-false}
use Rattle.std.proofs.lemmas.List.Folds.{Any-from_list_any, list_any_at}
use Rattle.std.proofs.lemmas.List.FromFn.{length-range_with_len, get_or-range_with_len}

-- a number below that passes
pub record Passes (test : ℕ → Bool) (n : ℕ) : Type 0 where
  pub number : ℕ
  pub below : number < n
  pub passes : test number ≡ true

pub some_number : (test : ℕ → Bool) (n : ℕ) → list_any test (range_with_len 0 n) ≡ true → Passes test n
some_number test n e =
    let (k, v, less, at, passes) = Any-from_list_any test (range_with_len 0 n) e in
    let below : k < n = omega (arith, length-range_with_len 0 n) in
    let same : v ≡ k = sym at ∙ get_or-range_with_len 0 n k v below ∙ zero-add k in
    record { number = k; below = below; passes = ap test (sym same) ∙ passes }

pub number_passes : (test : ℕ → Bool) (n v : ℕ) → v < n → test v ≡ true → list_any test (range_with_len 0 n) ≡ true
number_passes test n v less passes =
    list_any_at test (range_with_len 0 n) v 0 (omega (arith, length-range_with_len 0 n)) (ap test (get_or-range_with_len 0 n v 0 less ∙ zero-add v) ∙ passes)

find-from : (test : ℕ → Bool) (a n v : ℕ) → a ≤ v → v < a + n → test v ≡ true → ((k : ℕ) → a ≤ k → k < v → test k ≡ false) → find test (range_with_len a n) ≡ Some v
find-from test a zero v from below passes none = absurd (omega arith)
find-from test a (suc n) v from below passes none = elim (cases_lt a v) [
  | inl less ↦ rw (none a (omega arith) less) (find-from test (a + 1) n v (omega arith) (omega arith) passes (λ k after less. none k (omega arith) less))
  | inr more ↦ let same : v ≡ a = omega arith in rw (ap test (sym same) ∙ passes) (ap (λ (k : ℕ). Some k) (sym same))
]

none-from : (test : ℕ → Bool) (a n : ℕ) → ((k : ℕ) → a ≤ k → k < a + n → test k ≡ false) → find test (range_with_len a n) ≡ None
none-from test a zero none = refl
none-from test a (suc n) none = rw (none a (omega arith) (omega arith)) (none-from test (a + 1) n (λ k from below. none k (omega arith) (omega arith)))

-- the first that passes
pub first_number : (test : ℕ → Bool) (n v : ℕ) → v < n → test v ≡ true → ((k : ℕ) → k < v → test k ≡ false) → find test (range_with_len 0 n) ≡ Some v
first_number test n v below passes none = find-from test 0 n v (omega arith) (omega arith) passes (λ k from less. none k less)

pub no_number : (test : ℕ → Bool) (n : ℕ) → ((k : ℕ) → k < n → test k ≡ false) → find test (range_with_len 0 n) ≡ None
no_number test n none = none-from test 0 n (λ k from below. none k (omega arith))

none_in : (test : ℕ → Bool) (a n : ℕ) → find test (range_with_len a n) ≡ None → (k : ℕ) → a ≤ k → k < a + n → test k ≡ false
none_in test a zero e k from below = absurd (omega arith)
none_in test a (suc n) e k from below = elim (cases_Bool (test a)) [
  | inl passes ↦ let found : Some a ≡ None = sym (cond-true (test a) (Some a) (find test (range_with_len (a + 1) n)) passes) ∙ e in absurd (cc)
  | inr fails ↦ elim (cases_lt a k) [
    | inl less ↦ none_in test (a + 1) n (sym (cond-false (test a) (Some a) (find test (range_with_len (a + 1) n)) fails) ∙ e) k (omega arith) (omega arith)
    | inr more ↦ let same : k ≡ a = omega arith in ap test same ∙ fails
  ]
]

-- where none is found, none passes
pub none_found : (test : ℕ → Bool) (n : ℕ) → find test (range_with_len 0 n) ≡ None → (k : ℕ) → k < n → test k ≡ false
none_found test n e k below = none_in test 0 n e k (omega arith) (omega arith)

-- the same test
pub find-same : (test other : ℕ → Bool) (ks : List ℕ) → ((k : ℕ) → test k ≡ other k) → find test ks ≡ find other ks
find-same test other [] same = refl
find-same test other (k ∷ ks) same = λ i. cond (same k i) (Some k) (find-same test other ks same i)
