-- A recursion on a count of turns, beside a loop that counts up.
use Rattle.std.proofs.Common.{◌≡◌, ℕ, zero, suc, ◌+◌, ◌-◌, ◌<◌, ◌≤◌, List, [], ◌∷◌, ◌++◌, Ok, Err, ap, ◌∙◌, refl, arith}
use Rattle.gx_form.specs.declared.fault.Fault.{Fault}
use Rattle.gx_form.specs.Form.{Form, and_then, collect_from, forget}

turn : (n at : ℕ) → at < n → n - at ≡ suc (n - (at + 1))
turn n at below = omega arith

over : (n at : ℕ) → n ≤ at → n - at ≡ 0
over n at done = omega arith

more : {S A : Type 0} (item : Form S A) (n at : ℕ) (found : List A) (s : S) → at < n →
    collect_from item (n - at) found s ≡ and_then (item s) (λ x. collect_from item (n - (at + 1)) (found ++ x ∷ []))
unfolding collect_from
more item n at found s below = ap (λ k. collect_from item k found s) (turn n at below)

pub collect_ok : {S A : Type 0} (item : Form S A) (n at : ℕ) (found : List A) (s t : S) (x : A) → at < n → item s ≡ Ok (x, t) →
    collect_from item (n - at) found s ≡ collect_from item (n - (at + 1)) (found ++ x ∷ []) t
collect_ok item n at found s t x below e = more item n at found s below ∙ ap (λ o. and_then o (λ x. collect_from item (n - (at + 1)) (found ++ x ∷ []))) e

pub collect_err : {S A : Type 0} (item : Form S A) (n at : ℕ) (found : List A) (s : S) (e : Fault) → at < n → item s ≡ Err e →
    collect_from item (n - at) found s ≡ Err e
collect_err item n at found s e below is = more item n at found s below ∙ ap (λ o. and_then o (λ x. collect_from item (n - (at + 1)) (found ++ x ∷ []))) is

pub collect_done : {S A : Type 0} (item : Form S A) (n at : ℕ) (found : List A) (s : S) → n ≤ at → collect_from item (n - at) found s ≡ Ok (found, s)
unfolding collect_from
collect_done item n at found s done = ap (λ k. collect_from item k found s) (over n at done)

-- what was found before doesn't matter to what is left
forget_found : {S A : Type 0} (item : Form S A) (n : ℕ) (a b : List A) (s : S) → forget (collect_from item n a s) ≡ forget (collect_from item n b s)
unfolding collect_from
forget_found item zero a b s = refl
forget_found item (suc n) a b s =
    elim (item s) as (λ o. forget (and_then o (λ x. collect_from item n (a ++ x ∷ []))) ≡ forget (and_then o (λ x. collect_from item n (b ++ x ∷ [])))) [
      | Ok p ↦ forget_found item n (a ++ p.0 ∷ []) (b ++ p.0 ∷ []) p.1
      | Err e ↦ refl
    ]

pub forget_ok : {S A : Type 0} (item : Form S A) (n at : ℕ) (s t : S) (x : A) → at < n → item s ≡ Ok (x, t) →
    forget (collect_from item (n - at) [] s) ≡ forget (collect_from item (n - (at + 1)) [] t)
forget_ok item n at s t x below is = ap forget (collect_ok item n at [] s t x below is) ∙ forget_found item (n - (at + 1)) ([] ++ x ∷ []) [] t

pub forget_err : {S A : Type 0} (item : Form S A) (n at : ℕ) (s : S) (e : Fault) → at < n → item s ≡ Err e →
    forget (collect_from item (n - at) [] s) ≡ Err e
forget_err item n at s e below is = ap forget (collect_err item n at [] s e below is)

pub forget_done : {S A : Type 0} (item : Form S A) (n at : ℕ) (s : S) → n ≤ at → forget (collect_from item (n - at) [] s) ≡ Ok (tt, s)
forget_done item n at s done = ap forget (collect_done item n at [] s done)

pub ruleset turns = (collect_ok, collect_err, collect_done, forget_ok, forget_err, forget_done)
