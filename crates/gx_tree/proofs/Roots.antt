-- The volumes that are placed nowhere, found one after another.
use Rattle.std.proofs.Common.{◌≡◌, ℕ, zero, suc, ◌+◌, ◌-◌, ◌<◌, refl, sym, ◌∙◌, ap, arith, Bool, true, false, cond, List, [], ◌∷◌, ◌++◌, filter, Option, None, Some, is_some, Err, append-nil, true≢false}
use Rattle.std.specs.List.{range_with_len}
use Rattle.std.specs.Option.{option_to_list}
use Rattle.std.proofs.lemmas.List.Elements.{filter-append}
use Rattle.gx_tree.specs.declared.fault.TreeFault.TheVariants.{TwoWorlds}
use Rattle.gx_tree.specs.Fault.{world_from}

range-append : (a m n : ℕ) → range_with_len a (m + n) ≡ range_with_len a m ++ range_with_len (a + m) n
range-append a zero n = let k : 0 + n ≡ n = omega arith in let b : a + 0 ≡ a = omega arith in rw (k, b) refl
range-append a (suc m) n =
    let k : suc m + n ≡ suc (m + n) = omega arith in
    let b : a + suc m ≡ a + 1 + m = omega arith in
    rw (k, b) (ap (λ l. a ∷ l) (range-append (a + 1) m n))

-- one number more
roots_more : (test : ℕ → Bool) (i : ℕ) → filter test (range_with_len 0 (i + 1)) ≡ filter test (range_with_len 0 i) ++ cond (test i) (i ∷ []) []
roots_more test i =
    let b : 0 + i ≡ i = omega arith in
    ap (filter test) (range-append 0 i 1) ∙ filter-append test (range_with_len 0 i) (range_with_len (0 + i) 1) ∙ ap (λ k. filter test (range_with_len 0 i) ++ cond (test k) (k ∷ []) []) b

pub root_found : (test : ℕ → Bool) (i : ℕ) (o : Option ℕ) → test i ≡ true → is_some o ≡ false → option_to_list o ≡ filter test (range_with_len 0 i) → i ∷ [] ≡ filter test (range_with_len 0 (i + 1))
root_found test i None passes none so_far = sym (rw (roots_more test i, passes) (ap (λ l. l ++ i ∷ []) (sym so_far)))
root_found test i (Some v) passes none so_far = absurd (true≢false none)

pub root_passed : (test : ℕ → Bool) (i : ℕ) (roots : List ℕ) → test i ≡ false → roots ≡ filter test (range_with_len 0 i) → roots ≡ filter test (range_with_len 0 (i + 1))
root_passed test i roots fails so_far = sym (rw (roots_more test i, fails) (append-nil (filter test (range_with_len 0 i)) ∙ sym so_far))

-- the second one
pub second_root : (test : ℕ → Bool) (n i : ℕ) (o : Option ℕ) → i < n → test i ≡ true → is_some o ≡ true → option_to_list o ≡ filter test (range_with_len 0 i)
    → world_from (filter test (range_with_len 0 n)) ≡ Err (TwoWorlds i)
second_root test n i None below passes some so_far = absurd (true≢false (sym some))
second_root test n i (Some v) below passes some so_far =
    let count : n ≡ i + suc (n - (i + 1)) = omega arith in
    let b : 0 + i ≡ i = omega arith in
    let later = range_with_len (i + 1) (n - (i + 1)) in
    let split : range_with_len 0 n ≡ range_with_len 0 i ++ (i ∷ later) =
    ap (range_with_len 0) count ∙ range-append 0 i (suc (n - (i + 1))) ∙ ap (λ k. range_with_len 0 i ++ range_with_len k (suc (n - (i + 1)))) b in
    let first : filter test (range_with_len 0 i) ≡ v ∷ [] = sym so_far in
    let roots : filter test (range_with_len 0 n) ≡ v ∷ i ∷ filter test later =
    ap (filter test) split ∙ filter-append test (range_with_len 0 i) (i ∷ later) ∙ (λ k. first k ++ cond (passes k) (i ∷ filter test later) (filter test later)) in
    ap world_from roots
