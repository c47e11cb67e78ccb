-- The tree of tokens is there exactly where the grammar derives it.
use Rattle.std.proofs.Common.{◌≡◌, ◌<◌, ℕ, suc, true, List, [], ◌∷◌, ◌++◌, length, Option, None, Some, nat_lt, refl, sym, ap, ◌∙◌, subst, arith, append_assoc, append-nil, inl, inr}
use Rattle.std.specs.Prelude.{◌↔◌}
use Rattle.std.proofs.lemmas.Bool.{cases_Bool, ltb-true, lt-ltb}
use Rattle.std.proofs.lemmas.Option.{none-some}
use Rattle.gx_expr.specs.declared.operator.SumSign.{SumSign}
use Rattle.gx_expr.specs.declared.operator.ProductSign.{ProductSign}
use Rattle.gx_expr.specs.Descent.{after}
use Rattle.gx_expr.specs.Tree.{IsExpr, term, more_terms, IsTerm, factor, more_factors, IsFactor, primary, more_signs, IsPrimary, alone, parentheses, Derives, Tree, leaf, sum, with_sign, max_open, Context, same, first, signed_by, term_of, whole_of, next_term, next_factor, tree_from, tree_of_tokens, tree_of}
use Rattle.gx_expr.specs.Token.{Token, operand, sum_sign, product_sign, opening, closing, tokens_of}
use Rattle.gx_expr.proofs.Trees.{one_term, EndsTerm, one_sum}

-- ---- what is derived is read

mutual
  expr-read : {n : ℕ} {ps : List Token} {t : Tree} → IsExpr n ps t → (outer : List Context) → length outer ≡ n → (rest : List Token) → EndsTerm rest → tree_from outer first None (ps ++ rest) ≡ tree_from outer first (Some t) rest
  expr-read (term d) outer e rest h = term-read d outer e same rest
  expr-read (more_terms {ps = ps} {qs = qs} {t = t} {u = u} sign d f) outer e rest h =
      rw (append_assoc ps (sum_sign sign ∷ qs) rest) (expr-read d outer e (sum_sign sign ∷ qs ++ rest) tt ∙ term-read f outer e (sum sign t) rest ∙ one_sum outer (sum sign t) u rest h)

  term-read : {n : ℕ} {ps : List Token} {t : Tree} → IsTerm n ps t → (outer : List Context) → length outer ≡ n → (before : Tree → Tree) (rest : List Token) → tree_from outer (after before) None (ps ++ rest) ≡ tree_from outer (after before) (Some t) rest
  term-read (factor d) outer e before rest = factor-read d outer e (after before) rest
  term-read (more_factors {ps = ps} {qs = qs} {t = t} {u = u} sign d f) outer e before rest =
      let place = next_factor sign (after before) t in
      rw (append_assoc ps (product_sign sign ∷ qs) rest) (term-read d outer e before (product_sign sign ∷ qs ++ rest) ∙ factor-read f outer e place rest ∙ one_term outer place u rest)

  factor-read : {n : ℕ} {ps : List Token} {t : Tree} → IsFactor n ps t → (outer : List Context) → length outer ≡ n → (here : Context) (rest : List Token) → tree_from outer here None (ps ++ rest) ≡ tree_from outer here (Some t) rest
  factor-read (primary d) outer e here rest = primary-read d outer e here rest
  factor-read (more_signs {t = t} sign d) outer e here rest =
      let place = signed_by (with_sign sign) here in
      factor-read d outer e place rest ∙ one_term outer place t rest ∙ sym (one_term outer here (with_sign sign t) rest)

  primary-read : {n : ℕ} {ps : List Token} {t : Tree} → IsPrimary n ps t → (outer : List Context) → length outer ≡ n → (here : Context) (rest : List Token) → tree_from outer here None (ps ++ rest) ≡ tree_from outer here (Some t) rest
  primary-read alone outer e here rest = refl
  primary-read (parentheses {n = n} {ps = ps} few d) outer e here rest =
      let room : nat_lt (length outer) max_open ≡ true = lt-ltb (length outer) max_open (omega (arith, few, e)) in
      rw (room, append_assoc ps (closing ∷ []) rest) (expr-read d (here ∷ outer) (omega (arith, e)) (closing ∷ rest) tt)

-- ---- what is read is derived

-- What a place stands for: the tokens before it, in its parentheses, are those of the sum so far, of the product so far
-- and of the signs.
record IsPlace (n : ℕ) (here : Context) (before : List Token) : Type 0 where
  sums : List Token
  products : List Token
  signs : List Token
  all : before ≡ sums ++ products ++ signs
  expr : (ps : List Token) (t : Tree) → IsTerm n ps t → IsExpr n (sums ++ ps) (here.sum t)
  term : (ps : List Token) (t : Tree) → IsFactor n ps t → IsTerm n (products ++ ps) (here.product t)
  factor : (ps : List Token) (t : Tree) → IsFactor n ps t → IsFactor n (signs ++ ps) (here.sign t)

place-first : (n : ℕ) → IsPlace n first []
place-first n = record { sums = []; products = []; signs = []; all = refl; expr = λ ps t d. term d; term = λ ps t d. factor d; factor = λ ps t d. d }

module _ {n : ℕ} {here : Context} {ps : List Token} (p : IsPlace n here ps) where
  place-signed : (sign : SumSign) → IsPlace n (signed_by (with_sign sign) here) (ps ++ sum_sign sign ∷ [])
  place-signed sign = record {
    sums = p.sums;
    products = p.products;
    signs = p.signs ++ sum_sign sign ∷ [];
    all = rw p.all (simp append_assoc);
    expr = p.expr;
    term = p.term;
    factor = λ qs t d. rw append_assoc (p.factor (sum_sign sign ∷ qs) (with_sign sign t) (more_signs sign d));
  }

  module _ {qs : List Token} {t : Tree} (d : IsPrimary n qs t) where
    place-term : IsTerm n (p.products ++ (p.signs ++ qs)) (term_of here t)
    place-term = p.term (p.signs ++ qs) (here.sign t) (p.factor qs t (primary d))

    place-whole : IsExpr n (ps ++ qs) (whole_of here t)
    place-whole = rw p.all (simp append_assoc (p.expr (p.products ++ (p.signs ++ qs)) (term_of here t) place-term))

    place-next_term : (sign : SumSign) → IsPlace n (next_term sign here t) (ps ++ qs ++ sum_sign sign ∷ [])
    place-next_term sign = record {
      sums = ps ++ qs ++ sum_sign sign ∷ [];
      products = [];
      signs = [];
      all = simp append-nil;
      expr = λ rs u f. let e : (ps ++ qs ++ sum_sign sign ∷ []) ++ rs ≡ (ps ++ qs) ++ sum_sign sign ∷ rs = simp append_assoc in rw e (more_terms sign place-whole f);
      term = λ rs u f. factor f;
      factor = λ rs u f. f;
    }

    place-next_factor : (sign : ProductSign) → IsPlace n (next_factor sign here t) (ps ++ qs ++ product_sign sign ∷ [])
    place-next_factor sign = record {
      sums = p.sums;
      products = p.products ++ (p.signs ++ (qs ++ product_sign sign ∷ []));
      signs = [];
      all = rw p.all (simp (append_assoc, append-nil));
      expr = p.expr;
      term = λ rs u f.
          let e : (p.products ++ (p.signs ++ (qs ++ product_sign sign ∷ []))) ++ rs ≡ (p.products ++ (p.signs ++ qs)) ++ product_sign sign ∷ rs = simp append_assoc in
          rw e (more_factors sign place-term f);
      factor = λ rs u f. f;
    }

-- the tokens before the innermost open parenthesis, with it
abbrev IsStack : List Context → List Token → Type 0
IsStack [] before = before ≡ []
IsStack (around ∷ outer) before =
    (bs : List Token) × (ps : List Token) × IsStack outer bs × IsPlace (length outer) around ps × (length outer < max_open) × (before ≡ bs ++ ps ++ opening ∷ [])

mutual
  from_none : (tokens : List Token) (outer : List Context) (here : Context) (bs ps whole : List Token) (t : Tree) → IsStack outer bs → IsPlace (length outer) here ps → whole ≡ bs ++ ps ++ tokens → tree_from outer here None tokens ≡ Some t → IsExpr 0 whole t
  from_none [] outer here bs ps whole t stack place w e = absurd (none-some t e)
  from_none (operand u ∷ tokens) outer here bs ps whole t stack place w e = from_some tokens outer here (leaf u) bs ps (operand u ∷ []) whole t stack place alone (w ∙ simp append_assoc) e
  from_none (sum_sign sign ∷ tokens) outer here bs ps whole t stack place w e = from_none tokens outer (signed_by (with_sign sign) here) bs (ps ++ sum_sign sign ∷ []) whole t stack (place-signed place sign) (w ∙ simp append_assoc) e
  from_none (product_sign sign ∷ tokens) outer here bs ps whole t stack place w e = absurd (none-some t e)
  from_none (opening ∷ tokens) outer here bs ps whole t stack place w e = elim (cases_Bool (nat_lt (length outer) max_open)) [
    | inl room ↦
        from_none tokens (here ∷ outer) first (bs ++ ps ++ opening ∷ []) [] whole t (bs, ps, stack, place, ltb-true (length outer) max_open room, refl) (place-first (suc (length outer))) (w ∙ simp append_assoc) (rw room at e)
    | inr full ↦ absurd (none-some t (rw full at e))
  ]
  from_none (closing ∷ tokens) outer here bs ps whole t stack place w e = absurd (none-some t e)

  from_some : (tokens : List Token) (outer : List Context) (here : Context) (u : Tree) (bs ps qs whole : List Token) (t : Tree) → IsStack outer bs → IsPlace (length outer) here ps → IsPrimary (length outer) qs u → whole ≡ bs ++ ps ++ qs ++ tokens → tree_from outer here (Some u) tokens ≡ Some t → IsExpr 0 whole t
  from_some [] [] here u bs ps qs whole t stack place d w e =
      let last : whole_of here u ≡ t = cc in
      let read : bs ++ ps ++ qs ++ [] ≡ ps ++ qs = rw stack (append-nil (ps ++ qs)) in
      rw (w, read, ← last) (place-whole place d)
  from_some [] (around ∷ outer) here u bs ps qs whole t stack place d w e = absurd (none-some t e)
  from_some (operand v ∷ tokens) outer here u bs ps qs whole t stack place d w e = absurd (none-some t e)
  from_some (sum_sign sign ∷ tokens) outer here u bs ps qs whole t stack place d w e =
      from_none tokens outer (next_term sign here u) bs (ps ++ qs ++ sum_sign sign ∷ []) whole t stack (place-next_term place d sign) (w ∙ simp append_assoc) e
  from_some (product_sign sign ∷ tokens) outer here u bs ps qs whole t stack place d w e =
      from_none tokens outer (next_factor sign here u) bs (ps ++ qs ++ product_sign sign ∷ []) whole t stack (place-next_factor place d sign) (w ∙ simp append_assoc) e
  from_some (opening ∷ tokens) outer here u bs ps qs whole t stack place d w e = absurd (none-some t e)
  from_some (closing ∷ tokens) [] here u bs ps qs whole t stack place d w e = absurd (none-some t e)
  from_some (closing ∷ tokens) (around ∷ outer) here u bs ps qs whole t stack place d w e =
      from_some tokens outer around (whole_of here u) stack.0 stack.1 (opening ∷ (ps ++ qs) ++ closing ∷ []) whole t stack.2 stack.3 (parentheses stack.4 (place-whole place d)) (w ∙ rw stack.5 (simp append_assoc)) e

-- ---- words

derived : (o : Option (List Token)) (t : Tree) → tree_of_tokens o ≡ Some t → (tokens : List Token) × (o ≡ Some tokens) × IsExpr 0 tokens t
derived None t e = absurd (none-some t e)
derived (Some tokens) t e = (tokens, refl, from_none tokens [] first [] [] tokens t refl (place-first 0) refl e)

read : (word : List ℕ) (t : Tree) (d : Derives word t) → tree_of word ≡ Some t
read word t d = ap tree_of_tokens d.1 ∙ subst (λ (ps : List Token). tree_from [] first None ps ≡ Some t) (append-nil d.0) (expr-read d.2 [] refl [] tt)

pub grammar : (word : List ℕ) (t : Tree) → (tree_of word ≡ Some t) ↔ Derives word t
grammar word t = (λ e. derived (tokens_of word) t e, λ d. read word t d)
