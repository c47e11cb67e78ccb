-- What is computed for each number below a bound holds of each number below it.
use Rattle.std.proofs.Common.{◌≡◌, ℕ, zero, suc, ◌<◌, ◌⊎◌, List, [], ◌∷◌, inl, inr, ap, sym, ◌∙◌, arith}

-- the values at n - 1, .., 0
abbrev pub values : {A : Type 0} → (ℕ → A) → ℕ → List A
values f zero = []
values f (suc n) = f n ∷ values f n

last_or_below : (k n : ℕ) → k < suc n → (k ≡ n) ⊎ (k < n)
last_or_below k n h = grind arith

pub each : {A : Type 0} (f g : ℕ → A) (n : ℕ) → values f n ≡ values g n → (k : ℕ) → k < n → f k ≡ g k
each f g zero e k h = absurd (omega arith)
each f g (suc n) e k h =
    let head : f n ≡ g n = cc in
    let tail : values f n ≡ values g n = cc in
    elim (last_or_below k n h) [
      | inl same ↦ ap f same ∙ head ∙ ap g (sym same)
      | inr below ↦ each f g n tail k below
    ]

pub each_pair : {A : Type 0} (f g : ℕ → ℕ → A) (m n : ℕ) → values (λ a. values (f a) n) m ≡ values (λ a. values (g a) n) m → (a b : ℕ) → a < m → b < n → f a b ≡ g a b
each_pair f g m n e a b ha hb = each (f a) (g a) n (each (λ a. values (f a) n) (λ a. values (g a) n) m e a ha) b hb

pub each_triple : {A : Type 0} (f g : ℕ → ℕ → ℕ → A) (n : ℕ) → values (λ a. values (λ b. values (f a b) n) n) n ≡ values (λ a. values (λ b. values (g a b) n) n) n → (a b c : ℕ) → a < n → b < n → c < n → f a b c ≡ g a b c
each_triple f g n e a b c ha hb hc =
    each (f a b) (g a b) n (each_pair (λ a b. values (f a b) n) (λ a b. values (g a b) n) n n e a b ha hb) c hc
