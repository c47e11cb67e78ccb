-- The tree at a place, byte by byte.
use Rattle.std.proofs.Common.{◌≡◌, ◌≢◌, ℕ, ◌-◌, true, false, List, [], ◌∷◌, length, Option, None, Some, nat_lt, refl, sym, ap, ◌∙◌}
use Rattle.std.proofs.lemmas.Bool.{eqb-false}
use Rattle.gx_expr.specs.declared.operator.SumSign.{SumSign}
use Rattle.gx_expr.specs.declared.operator.SumSign.TheVariants.{Plus, Minus}
use Rattle.gx_expr.specs.declared.operator.ProductSign.{ProductSign}
use Rattle.gx_expr.specs.declared.operator.ProductSign.TheVariants.{Times, Over}
use Rattle.gx_expr.specs.Descent.{begins, sum_byte, product_byte, IsSumEnd, IsProductEnd, tree_after, tree_on, after}
use Rattle.gx_expr.specs.Token.{Leaf, Token, operand, sum_sign, product_sign, opening, closing, in_front, token_at, onto, tokens_from, tokens_of, Part}
use Rattle.gx_expr.specs.Tree.{Tree, leaf, Context, first, term_of, whole_of, next_term, next_factor, with_sign, signed_by, tree_from}
use Rattle.gx_expr.proofs.Tokens.{tokens_of-step, tokens_of-none, IsAt, IsOf, token_at-IsAt}

-- ---- one more token

-- where a token leads: the tree is that at another place
leads : (outer outer' : List Context) (here here' : Context) (t u : Option Tree) (token : Token) → ((ps : List Token) → tree_from outer here t (token ∷ ps) ≡ tree_from outer' here' u ps) → (o : Option (List Token)) → tree_after outer here t (in_front token o) ≡ tree_after outer' here' u o
leads outer outer' here here' t u token h None = refl
leads outer outer' here here' t u token h (Some ps) = h ps

sum_token : (sign : SumSign) (s : List ℕ) → tokens_of (sum_byte sign ∷ s) ≡ in_front (sum_sign sign) (tokens_of s)
sum_token Plus s = tokens_of-step 43 s 0 (sum_sign Plus) refl
sum_token Minus s = tokens_of-step 45 s 0 (sum_sign Minus) refl

product_token : (sign : ProductSign) (s : List ℕ) → tokens_of (product_byte sign ∷ s) ≡ in_front (product_sign sign) (tokens_of s)
product_token Times s = tokens_of-step 42 s 0 (product_sign Times) refl
product_token Over s = tokens_of-step 47 s 0 (product_sign Over) refl

-- a byte that is a token
module _ (outer : List Context) (here : Context) where
  pub on-token : (outer' : List Context) (here' : Context) (t u : Option Tree) (token : Token) (text rest : List ℕ) → tokens_of text ≡ in_front token (tokens_of rest) → ((ps : List Token) → tree_from outer here t (token ∷ ps) ≡ tree_from outer' here' u ps) → tree_on outer here t text ≡ tree_on outer' here' u rest
  unfolding tree_on
  on-token outer' here' t u token text rest e h = ap (tree_after outer here t) e ∙ leads outer outer' here here' t u token h (tokens_of rest)

  pub on-leaf : (l : Leaf) (text rest : List ℕ) → tokens_of text ≡ in_front (operand l) (tokens_of rest) → tree_on outer here None text ≡ tree_on outer here (Some (leaf l)) rest
  on-leaf l text rest e = on-token outer here None (Some (leaf l)) (operand l) text rest e (λ ps. refl)

  pub on-sign : (sign : SumSign) (s : List ℕ) → tree_on outer here None (sum_byte sign ∷ s) ≡ tree_on outer (signed_by (with_sign sign) here) None s
  on-sign sign s = on-token outer (signed_by (with_sign sign) here) None None (sum_sign sign) (sum_byte sign ∷ s) s (sum_token sign s) (λ ps. refl)

  pub on-sum_sign : (sign : SumSign) (t : Tree) (s : List ℕ) → tree_on outer here (Some t) (sum_byte sign ∷ s) ≡ tree_on outer (next_term sign here t) None s
  on-sum_sign sign t s = on-token outer (next_term sign here t) (Some t) None (sum_sign sign) (sum_byte sign ∷ s) s (sum_token sign s) (λ ps. refl)

  pub on-product_sign : (sign : ProductSign) (t : Tree) (s : List ℕ) → tree_on outer here (Some t) (product_byte sign ∷ s) ≡ tree_on outer (next_factor sign here t) None s
  on-product_sign sign t s = on-token outer (next_factor sign here t) (Some t) None (product_sign sign) (product_byte sign ∷ s) s (product_token sign s) (λ ps. refl)

  pub on-opening : (s : List ℕ) → nat_lt (length outer) 64 ≡ true → tree_on outer here None (40 ∷ s) ≡ tree_on (here ∷ outer) first None s
  on-opening s e = on-token (here ∷ outer) first None None opening (40 ∷ s) s (tokens_of-step 40 s 0 opening refl) (λ ps. rw e refl)

pub on-closing : (outer : List Context) (here inside : Context) (t : Tree) (s : List ℕ) → tree_on (here ∷ outer) inside (Some t) (41 ∷ s) ≡ tree_on outer here (Some (whole_of inside t)) s
on-closing outer here inside t s = on-token (here ∷ outer) inside outer here (Some t) (Some (whole_of inside t)) closing (41 ∷ s) s (tokens_of-step 41 s 0 closing refl) (λ ps. refl)

-- ---- no tree

-- a token that has no place here
never : (outer : List Context) (here : Context) (t : Option Tree) (token : Token) → ((ps : List Token) → tree_from outer here t (token ∷ ps) ≡ None) → (o : Option (List Token)) → tree_after outer here t (in_front token o) ≡ None
never outer here t token h None = refl
never outer here t token h (Some ps) = h ps

pub none-token : (outer : List Context) (here : Context) (t : Option Tree) (token : Token) (text rest : List ℕ) → tokens_of text ≡ in_front token (tokens_of rest) → ((ps : List Token) → tree_from outer here t (token ∷ ps) ≡ None) → tree_on outer here t text ≡ None
unfolding tree_on
none-token outer here t token text rest e h = ap (tree_after outer here t) e ∙ never outer here t token h (tokens_of rest)

pub none-opening : (outer : List Context) (here : Context) (s : List ℕ) → nat_lt (length outer) 64 ≡ false → tree_on outer here None (40 ∷ s) ≡ None
none-opening outer here s e = none-token outer here None opening (40 ∷ s) s (tokens_of-step 40 s 0 opening refl) (λ ps. rw e refl)

pub none-empty : (outer : List Context) (here : Context) → tree_on outer here None [] ≡ None
unfolding tree_on
none-empty outer here = refl

pub none-unread : (outer : List Context) (here : Context) (t : Option Tree) (b : ℕ) (s : List ℕ) → token_at (b ∷ s) ≡ None → tree_on outer here t (b ∷ s) ≡ None
unfolding tree_on
none-unread outer here t b s e = ap (tree_after outer here t) (tokens_of-none b s e)

sum_not : (b : ℕ) (s : List ℕ) → IsSumEnd (b ∷ s) → (sign : SumSign) → b ≢ sum_byte sign
sum_not b s end Plus = eqb-false b 43 end.plus
sum_not b s end Minus = eqb-false b 45 end.minus

product_not : (b : ℕ) (s : List ℕ) → IsProductEnd (b ∷ s) → (sign : ProductSign) → b ≢ product_byte sign
product_not b s end Times = eqb-false b 42 end.times
product_not b s end Over = eqb-false b 47 end.over

-- an expression has ended, and neither does its level nor the word
module _ (here : Context) (t : Tree) (f : ℕ → Option (List Token)) (b : ℕ) (s : List ℕ) (sums : IsSumEnd (b ∷ s)) (products : IsProductEnd (b ∷ s)) where
  never-ended : (outer : List Context) → ((ps : List Token) → b ≡ 41 → tree_from outer here (Some t) (closing ∷ ps) ≡ None) → (o : Option (Part Token)) → IsAt b o → tree_after outer here (Some t) (onto o f) ≡ None
  never-ended outer h None k = refl
  never-ended outer h (Some part) k = elim part.what as (λ p. IsOf b p → tree_after outer here (Some t) (in_front p (f part.size)) ≡ None) [
    | operand u ↦ λ k. never outer here (Some t) (operand u) (λ ps. refl) (f part.size)
    | sum_sign sign ↦ λ k. absurd (sum_not b s sums sign k)
    | product_sign sign ↦ λ k. absurd (product_not b s products sign k)
    | opening ↦ λ k. never outer here (Some t) opening (λ ps. refl) (f part.size)
    | closing ↦ λ k. never outer here (Some t) closing (λ ps. h ps k) (f part.size)
  ] k

pub none-after : (outer : List Context) (here : Context) (t : Tree) (b : ℕ) (s : List ℕ) → IsSumEnd (b ∷ s) → IsProductEnd (b ∷ s) → ((ps : List Token) → b ≡ 41 → tree_from outer here (Some t) (closing ∷ ps) ≡ None) → tree_on outer here (Some t) (b ∷ s) ≡ None
unfolding tree_on
none-after outer here t b s sums products h = never-ended here t (λ size. tokens_from (size - 1) s) b s sums products outer h (token_at (b ∷ s)) (token_at-IsAt b s)

-- where only leaves, parentheses and nothing may follow, no tree ends
pub none-inside : (outer : List Context) (here around : Context) (t : Tree) (s : List ℕ) → IsSumEnd s → IsProductEnd s → begins 41 s ≡ false → tree_on (around ∷ outer) here (Some t) s ≡ None
unfolding tree_on
none-inside outer here around t [] sums products closing_not = refl
none-inside outer here around t (b ∷ s) sums products closing_not = none-after (around ∷ outer) here t b s sums products (λ ps e. absurd (eqb-false b 41 closing_not e))

-- ---- places that are one

-- what follows a primary depends on the sum before it and on its term alone
pub one_term : (outer : List Context) (here : Context) (t : Tree) (ps : List Token) → tree_from outer here (Some t) ps ≡ tree_from outer (after here.sum) (Some (term_of here t)) ps
one_term [] here t [] = refl
one_term (around ∷ outer) here t [] = refl
one_term outer here t (operand u ∷ ps) = refl
one_term outer here t (sum_sign sign ∷ ps) = refl
one_term outer here t (product_sign sign ∷ ps) = refl
one_term outer here t (opening ∷ ps) = refl
one_term [] here t (closing ∷ ps) = refl
one_term (around ∷ outer) here t (closing ∷ ps) = refl

one_term_after : (outer : List Context) (here : Context) (t : Tree) (o : Option (List Token)) → tree_after outer here (Some t) o ≡ tree_after outer (after here.sum) (Some (term_of here t)) o
one_term_after outer here t None = refl
one_term_after outer here t (Some ps) = one_term outer here t ps

pub on-term : (outer : List Context) (here : Context) (t : Tree) (s : List ℕ) → tree_on outer here (Some t) s ≡ tree_on outer (after here.sum) (Some (term_of here t)) s
unfolding tree_on
on-term outer here t s = one_term_after outer here t (tokens_of s)

-- a factor with its signs
pub on-signed : (sign : Tree → Tree) (outer : List Context) (here : Context) (t : Tree) (s : List ℕ) → tree_on outer (signed_by sign here) (Some t) s ≡ tree_on outer here (Some (sign t)) s
on-signed sign outer here t s = on-term outer (signed_by sign here) t s ∙ sym (on-term outer here (sign t) s)

-- no `*` or `/` is next
abbrev pub EndsTerm : List Token → Type 0
EndsTerm [] = Unit {0}
EndsTerm (operand t ∷ ps) = Unit {0}
EndsTerm (sum_sign sign ∷ ps) = Unit {0}
EndsTerm (product_sign sign ∷ ps) = ⊥
EndsTerm (opening ∷ ps) = Unit {0}
EndsTerm (closing ∷ ps) = Unit {0}

-- a term that has ended is in the sum
pub one_sum : (outer : List Context) (before : Tree → Tree) (t : Tree) (ps : List Token) → EndsTerm ps → tree_from outer (after before) (Some t) ps ≡ tree_from outer first (Some (before t)) ps
one_sum [] before t [] h = refl
one_sum (around ∷ outer) before t [] h = refl
one_sum outer before t (operand u ∷ ps) h = refl
one_sum outer before t (sum_sign sign ∷ ps) h = refl
one_sum outer before t (product_sign sign ∷ ps) h = absurd h
one_sum outer before t (opening ∷ ps) h = refl
one_sum [] before t (closing ∷ ps) h = refl
one_sum (around ∷ outer) before t (closing ∷ ps) h = refl

module _ (b : ℕ) (s : List ℕ) (end : IsProductEnd (b ∷ s)) where
  ends_term : (p : Token) (ps : List Token) → IsOf b p → EndsTerm (p ∷ ps)
  ends_term (operand l) ps k = tt
  ends_term (sum_sign sign) ps k = tt
  ends_term (product_sign sign) ps k = product_not b s end sign k
  ends_term opening ps k = tt
  ends_term closing ps k = tt

  one_sum_after : (outer : List Context) (before : Tree → Tree) (t : Tree) (p : Token) (o : Option (List Token)) → IsOf b p → tree_after outer (after before) (Some t) (in_front p o) ≡ tree_after outer first (Some (before t)) (in_front p o)
  one_sum_after outer before t p None k = refl
  one_sum_after outer before t p (Some ps) k = one_sum outer before t (p ∷ ps) (ends_term p ps k)

  one_sum_read : (outer : List Context) (before : Tree → Tree) (t : Tree) (f : ℕ → Option (List Token)) (o : Option (Part Token)) → IsAt b o → tree_after outer (after before) (Some t) (onto o f) ≡ tree_after outer first (Some (before t)) (onto o f)
  one_sum_read outer before t f None k = refl
  one_sum_read outer before t f (Some part) k = one_sum_after outer before t part.what (f part.size) k

pub on-sum : (outer : List Context) (before : Tree → Tree) (t : Tree) (s : List ℕ) → IsProductEnd s → tree_on outer (after before) (Some t) s ≡ tree_on outer first (Some (before t)) s
unfolding tree_on
on-sum outer before t [] end = one_sum outer before t [] tt
on-sum outer before t (b ∷ s) end = one_sum_read b s end outer before t (λ size. tokens_from (size - 1) s) (token_at (b ∷ s)) (token_at-IsAt b s)

-- nothing follows
pub on-end : (t : Tree) → tree_on [] first (Some t) [] ≡ Some t
unfolding tree_on
on-end t = refl
