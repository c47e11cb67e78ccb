-- Numbers of samples and the words for them.
use Rattle.std.proofs.Common.{◌≡◌, ℕ, zero, suc, ◌<◌, ◌-◌, true, false, cond, List, None, Some, refl, ap, ◌∙◌, arith}
use Rattle.std.specs.Prelude.{decimal}
use Rattle.std.specs.Str.{bytes_eq}
use Rattle.g4exact.specs.Commands.{number_up_to}

pub found_number : (n : ℕ) (word : List ℕ) → 0 < n → bytes_eq (decimal n) word ≡ true → number_up_to n word ≡ Some n
unfolding number_up_to
found_number zero word some e = absurd (omega (arith, some))
found_number (suc n) word some e = ap (λ b. cond b (Some (suc n)) (number_up_to n word)) e

pub other_number : (n : ℕ) (word : List ℕ) → 0 < n → bytes_eq (decimal n) word ≡ false → number_up_to n word ≡ number_up_to (n - 1) word
unfolding number_up_to
other_number zero word some e = absurd (omega (arith, some))
other_number (suc n) word some e = let same : n ≡ suc n - 1 = omega arith in ap (λ b. cond b (Some (suc n)) (number_up_to n word)) e ∙ ap (λ k. number_up_to k word) same

pub no_number : (n : ℕ) (word : List ℕ) → n ≡ 0 → number_up_to n word ≡ None
unfolding number_up_to
no_number zero word e = refl
no_number (suc n) word e = absurd (omega (arith, e))
