-- The tokens of a text, one after the other.
use Rattle.std.proofs.Common.{◌≡◌, ℕ, zero, suc, ◌-◌, ◌==◌, ◌<◌, Bool, true, false, List, [], ◌∷◌, length, take, drop, get_or, Option, None, Some, refl, ap, ◌∙◌, arith}
use Rattle.std.specs.List.{prefix_len}
use Rattle.std.proofs.lemmas.Bool.{eqb-true}
use Rattle.std.proofs.lemmas.List.{get_or-take}
use Rattle.std.proofs.lemmas.List.Folds.{length-prefix_len}
use Rattle.std.proofs.lemmas.List.Sums.{prefix_len_passes}
use Rattle.std.specs.Prelude.{if◌then◌else◌}
use Rattle.gx_expr.specs.Token.{Leaf, Token, operand, sum_sign, product_sign, opening, closing, Part, named, token_at, in_front, onto, tokens_from, tokens_of, name, unit, begins_decimal}
use Rattle.gx_expr.specs.Descent.{sum_byte, product_byte}

pub run_all : (test : ℕ → Bool) (s : List ℕ) (k : ℕ) → k < length (take (prefix_len test s) s) → test (get_or (take (prefix_len test s) s) k 0) ≡ true
run_all test s k h =
    let fewer : k < prefix_len test s = rw (length-prefix_len test s) at h in
    rw (get_or-take (prefix_len test s) s k 0 fewer) (prefix_len_passes test s k 0 fewer)

tokens_from-drop : (k : ℕ) (s : List ℕ) → tokens_from k s ≡ tokens_of (drop k s)
tokens_from-drop zero s = refl
tokens_from-drop (suc k) [] = refl
tokens_from-drop (suc k) (b ∷ s) = tokens_from-drop k s

-- a token and the tokens after it
pub tokens_of-step : (b : ℕ) (s : List ℕ) (k : ℕ) (what : Token) → token_at (b ∷ s) ≡ Some (record { what = what; size = suc k }) → tokens_of (b ∷ s) ≡ in_front what (tokens_of (drop k s))
tokens_of-step b s k what e =
    let back : suc k - 1 ≡ k = omega arith in
    ap (λ o. onto o (λ size. tokens_from (size - 1) s)) e ∙ ap (in_front what) (ap (λ n. tokens_from n s) back ∙ tokens_from-drop k s)

pub tokens_of-none : (b : ℕ) (s : List ℕ) → token_at (b ∷ s) ≡ None → tokens_of (b ∷ s) ≡ None
tokens_of-none b s e = ap (λ o. onto o (λ size. tokens_from (size - 1) s)) e

-- the byte that an operator or a parenthesis is
abbrev pub IsOf : ℕ → Token → Type 0
IsOf b (operand l) = Unit {0}
IsOf b (sum_sign sign) = b ≡ sum_byte sign
IsOf b (product_sign sign) = b ≡ product_byte sign
IsOf b opening = b ≡ 40
IsOf b closing = b ≡ 41

abbrev pub IsAt : ℕ → Option (Part Token) → Type 0
IsAt b None = Unit {0}
IsAt b (Some part) = IsOf b part.what

chosen : (c : Bool) (b : ℕ) (x y : Option (Part Token)) → (c ≡ true → IsAt b x) → IsAt b y → IsAt b (if c then x else y)
chosen true b x y h k = h refl
chosen false b x y h k = k

named-IsAt : (b : ℕ) (leaf_of : List ℕ → Leaf) (what : List ℕ) (size : ℕ) → IsAt b (named leaf_of what size)
named-IsAt b leaf_of what size = chosen (length what == 0) b None (Some (record { what = operand (leaf_of what); size = size })) (λ e. tt) tt

pub token_at-IsAt : (b : ℕ) (s : List ℕ) → IsAt b (token_at (b ∷ s))
token_at-IsAt b s =
    chosen (b == 43) b _ _ (eqb-true b 43)
    (chosen (b == 45) b _ _ (eqb-true b 45)
    (chosen (b == 42) b _ _ (eqb-true b 42)
    (chosen (b == 47) b _ _ (eqb-true b 47)
    (chosen (b == 40) b _ _ (eqb-true b 40)
    (chosen (b == 41) b _ _ (eqb-true b 41)
    (chosen (b == 36) b _ _ (λ e. named-IsAt b name _ _)
    (chosen (begins_decimal (b ∷ s)) b _ _ (λ e. tt) (named-IsAt b unit _ _))))))))
