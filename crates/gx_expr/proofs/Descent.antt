-- What is read piece by piece, from the first byte on.
use Rattle.std.proofs.Common.{◌≡◌, ◌≢◌, ℕ, ◌+◌, ◌<◌, ◌≤◌, Bool, true, false, not, List, [], ◌∷◌, length, Option, None, Some, Result, Ok, Err, neg_ℤ, ℤ, refl, sym, ap, ◌∙◌, arith}
use Rattle.std.proofs.lemmas.Bool.{lt-ltb, le-ltb}
use Rattle.std.proofs.lemmas.Int.{ints}
use Rattle.gx_expr.specs.declared.fault.ExprFault.{ExprFault}
use Rattle.gx_expr.specs.declared.fault.ExprFault.TheVariants.{Syntax}
use Rattle.gx_expr.specs.declared.operator.SumSign.{SumSign}
use Rattle.gx_expr.specs.declared.operator.SumSign.TheVariants.{Plus, Minus}
use Rattle.gx_expr.specs.declared.operator.ProductSign.{ProductSign}
use Rattle.gx_expr.specs.Descent.{begins, IsSumEnd, IsProductEnd, IsSumSign, IsProductSign, flipped, tree_on, tree_after, anywhere, after, alone, signed, IsSigned, IsRead, HasNone}
use Rattle.gx_expr.specs.Eval.{of_one, of_two, sum_operation, product_operation, value_of, value_of_tree, value_of_word}
use Rattle.gx_expr.specs.Param.{Param}
use Rattle.gx_expr.specs.Token.{tokens_of, Token}
use Rattle.gx_expr.specs.Tree.{Tree, tree_of, tree_of_tokens, sum, product, with_sign, Context, same, first, signed_by, next_factor}
use Rattle.gx_expr.specs.Quantity.{Quantity, opposite_of}
use Rattle.gx_expr.proofs.Trees.{none-opening, none-inside, none-after, on-end, on-sign, on-sum_sign, on-product_sign, on-opening, on-closing, on-term, on-signed, on-sum}

-- ---- signs

pub signs_none : (s : List ℕ) → IsSigned s s false
signs_none s = record { tree = λ t. t; gives = λ params t. refl; longer = omega arith; front = λ outer here. refl }

twice_opposite : (r : Result Quantity ExprFault) → of_one opposite_of (of_one opposite_of r) ≡ r
twice_opposite (Err fault) = refl
twice_opposite (Ok a) = ap (λ (n : ℤ). let w : Quantity = record { number = record { num = n; den = a.number.den }; length = a.length; angle = a.angle } in Ok w) (let e : neg_ℤ (neg_ℤ a.number.num) ≡ a.number.num = omega (arith, ints) in e)

flip-signed : (negative : Bool) (r : Result Quantity ExprFault) → signed negative (of_one opposite_of r) ≡ signed (not negative) r
flip-signed true r = twice_opposite r
flip-signed false r = refl

one-signed : (params : List Param) (negative : Bool) (sign : SumSign) (t : Tree) → signed negative (value_of params (with_sign sign t)) ≡ signed (flipped sign negative) (value_of params t)
one-signed params negative Plus t = refl
one-signed params negative Minus t = flip-signed negative (value_of params t)

pub signs_more : (old mid new : List ℕ) (negative : Bool) (sign : SumSign) → IsSigned old mid negative → IsSumSign mid new (Some sign) → IsSigned old new (flipped sign negative)
signs_more old mid new negative sign r e = record {
  tree = λ t. r.tree (with_sign sign t);
  gives = λ params t. r.gives params (with_sign sign t) ∙ one-signed params negative sign t;
  longer = omega (arith, r.longer, ap length e);
  front = λ outer here. r.front outer here ∙ ap (tree_on outer (signed_by r.tree here) None) e ∙ on-sign outer (signed_by r.tree here) sign new;
}

-- ---- factors

-- a primary with its signs
pub factor_reads : (open_count : ℕ) (params : List Param) (old mid new : List ℕ) (negative : Bool) (value : Result Quantity ExprFault) → IsSigned old mid negative → IsRead anywhere open_count params mid value new → IsRead anywhere open_count params old (signed negative value) new
factor_reads open_count params old mid new negative value r p = record {
  tree = r.tree p.tree;
  gives = r.gives params p.tree ∙ ap (signed negative) p.gives;
  longer = omega (arith, r.longer, p.longer);
  front = λ outer here e. r.front outer here ∙ p.front outer (signed_by r.tree here) e ∙ on-signed r.tree outer here p.tree new;
}

pub factor_none : (open_count : ℕ) (old mid : List ℕ) (negative : Bool) → IsSigned old mid negative → HasNone anywhere open_count mid → HasNone anywhere open_count old
factor_none open_count old mid negative r none = record { front = λ outer here e. r.front outer here ∙ none.front outer (signed_by r.tree here) e }

-- ---- terms and expressions

module _ (depth : ℕ) (params : List Param) where
  pub term_first : (old new : List ℕ) (value : Result Quantity ExprFault) → IsRead anywhere depth params old value new → IsRead after depth params old value new
  term_first old new value r = record { tree = r.tree; gives = r.gives; longer = r.longer; front = λ outer before e. r.front outer (after before) e }

  pub term_more : (old mid next new : List ℕ) (sign : ProductSign) (v w : Result Quantity ExprFault) → IsRead after depth params old v mid → IsProductSign mid next (Some sign) → IsRead anywhere depth params next w new → IsRead after depth params old (of_two (product_operation sign) v w) new
  term_more old mid next new sign v w r e p = record {
    tree = product sign r.tree p.tree;
    gives = rw (r.gives, p.gives) refl;
    longer = omega (arith, r.longer, ap length e, p.longer);
    front = λ outer before same.
        let place = next_factor sign (after before) r.tree in
        r.front outer before same ∙ ap (tree_on outer (after before) (Some r.tree)) e ∙ on-product_sign outer (after before) sign r.tree next ∙ p.front outer place same ∙ on-term outer place p.tree new;
  }

  pub term_none : (old mid next : List ℕ) (sign : ProductSign) (v : Result Quantity ExprFault) → IsRead after depth params old v mid → IsProductSign mid next (Some sign) → HasNone anywhere depth next → HasNone after depth old
  term_none old mid next sign v r e none = record {
    front = λ outer before same.
        r.front outer before same ∙ ap (tree_on outer (after before) (Some r.tree)) e ∙ on-product_sign outer (after before) sign r.tree next ∙ none.front outer (next_factor sign (after before) r.tree) same;
  }

  pub expr_first : (old new : List ℕ) (value : Result Quantity ExprFault) → IsRead after depth params old value new → IsRead alone depth params old value new
  expr_first old new value r = record { tree = r.tree; gives = r.gives; longer = r.longer; front = λ outer x e. r.front outer same e }

  pub expr_more : (old mid next new : List ℕ) (sign : SumSign) (v w : Result Quantity ExprFault) → IsRead alone depth params old v mid → IsSumSign mid next (Some sign) → IsRead after depth params next w new → IsProductEnd new → IsRead alone depth params old (of_two (sum_operation sign) v w) new
  expr_more old mid next new sign v w r e p end = record {
    tree = sum sign r.tree p.tree;
    gives = rw (r.gives, p.gives) refl;
    longer = omega (arith, r.longer, ap length e, p.longer);
    front = λ outer x same.
        r.front outer x same ∙ ap (tree_on outer first (Some r.tree)) e ∙ on-sum_sign outer first sign r.tree next ∙ p.front outer (sum sign r.tree) same ∙ on-sum outer (sum sign r.tree) p.tree new end;
  }

  pub expr_none : (old mid next : List ℕ) (sign : SumSign) (v : Result Quantity ExprFault) → IsRead alone depth params old v mid → IsSumSign mid next (Some sign) → HasNone after depth next → HasNone alone depth old
  expr_none old mid next sign v r e none = record {
    front = λ outer x same. r.front outer x same ∙ ap (tree_on outer first (Some r.tree)) e ∙ on-sum_sign outer first sign r.tree next ∙ none.front outer (sum sign r.tree) same;
  }

  -- ---- parentheses

  deeper : (outer : List Context) (here : Context) → length outer ≡ depth → length (here ∷ outer) ≡ depth + 1
  deeper outer here e = omega (arith, e)

  inside : (mid : List ℕ) → depth < 64 → (outer : List Context) (here : Context) → length outer ≡ depth → tree_on outer here None (40 ∷ mid) ≡ tree_on (here ∷ outer) first None mid
  inside mid h outer here e = on-opening outer here mid (lt-ltb (length outer) 64 (omega (arith, e, h)))

  pub parentheses : (mid new : List ℕ) (value : Result Quantity ExprFault) → depth < 64 → IsRead alone (depth + 1) params mid value (41 ∷ new) → IsRead anywhere depth params (40 ∷ mid) value new
  parentheses mid new value h r = record {
    tree = r.tree;
    gives = r.gives;
    longer = omega (arith, r.longer);
    front = λ outer here e. inside mid h outer here e ∙ r.front (here ∷ outer) tt (deeper outer here e) ∙ on-closing outer here first r.tree new;
  }

  pub parentheses_none : (mid : List ℕ) → depth < 64 → HasNone alone (depth + 1) mid → HasNone anywhere depth (40 ∷ mid)
  parentheses_none mid h none = record { front = λ outer here e. inside mid h outer here e ∙ none.front (here ∷ outer) tt (deeper outer here e) }

  pub parentheses_open : (mid late : List ℕ) (value : Result Quantity ExprFault) → depth < 64 → IsRead alone (depth + 1) params mid value late → IsSumEnd late → IsProductEnd late → begins 41 late ≡ false → HasNone anywhere depth (40 ∷ mid)
  parentheses_open mid late value h r sums products closing_not = record {
    front = λ outer here e. inside mid h outer here e ∙ r.front (here ∷ outer) tt (deeper outer here e) ∙ none-inside outer first here r.tree late sums products closing_not;
  }

  pub parentheses_many : (mid : List ℕ) → 64 ≤ depth → HasNone anywhere depth (40 ∷ mid)
  parentheses_many mid h = record { front = λ outer here e. none-opening outer here mid (le-ltb (length outer) 64 (omega (arith, e, h))) }

-- ---- a word

on-word : (word : List ℕ) → tree_of word ≡ tree_on [] first None word
unfolding tree_on
on-word word = whole (tokens_of word)
  where
    whole : (o : Option (List Token)) → tree_of_tokens o ≡ tree_after [] first None o
    whole None = refl
    whole (Some ps) = refl

module _ (params : List Param) (word : List ℕ) where
  pub word_none : HasNone alone 0 word → Err Syntax ≡ value_of_word params word
  unfolding value_of_word
  word_none none = rw (on-word word, none.front [] tt refl) refl

  pub word_whole : (value : Result Quantity ExprFault) → IsRead alone 0 params word value [] → value ≡ value_of_word params word
  unfolding value_of_word
  word_whole value r = sym (ap (value_of_tree params) (on-word word ∙ r.front [] tt refl ∙ on-end r.tree) ∙ r.gives)

  pub word_more : (new : List ℕ) (value : Result Quantity ExprFault) → IsRead alone 0 params word value new → IsSumEnd new → IsProductEnd new → new ≢ [] → Err Syntax ≡ value_of_word params word
  unfolding value_of_word
  word_more [] value r sums products h = absurd (h refl)
  word_more (b ∷ s) value r sums products h = sym (ap (value_of_tree params) (on-word word ∙ r.front [] tt refl ∙ none-after [] first r.tree b s sums products (λ ps e. refl)))
