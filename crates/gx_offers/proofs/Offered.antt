-- What offering some numbers did, of any.
use Rattle.std.proofs.Common.{◌≡◌, ◌⊎◌, ℕ, ◌+◌, ◌≤◌, inl, inr, List, [], ◌∷◌, ◌++◌, length, refl, sym, subst, ◌∙◌, arith, Bool, true, false}
use Rattle.std.specs.Prelude.{nat_eq, if◌then◌else◌}
use Rattle.std.specs.List.{list_any}
use Rattle.gx_offers.specs.Offers.{IsOneOf, Offered, with_number, IsOffered}
use Rattle.gx_offers.proofs.Marked.{is-one}

-- one of two lists together
pub one-left : (k : ℕ) (ks ls : List ℕ) → IsOneOf k ks → IsOneOf k (ks ++ ls)
one-left k [] ls one = absurd one
one-left k (j ∷ ks) ls (inl e) = inl e
one-left k (j ∷ ks) ls (inr one) = inr (one-left k ks ls one)

pub one-right : (k : ℕ) (ks ls : List ℕ) → IsOneOf k ls → IsOneOf k (ks ++ ls)
one-right k [] ls one = one
one-right k (j ∷ ks) ls one = inr (one-right k ks ls one)

pub one-either : (k : ℕ) (ks ls : List ℕ) → IsOneOf k (ks ++ ls) → IsOneOf k ks ⊎ IsOneOf k ls
one-either k [] ls one = inr one
one-either k (j ∷ ks) ls (inl e) = inl (inl e)
one-either k (j ∷ ks) ls (inr one) = elim (one-either k ks ls one) [ inl a ↦ inl (inr a) | inr b ↦ inr b ]

length-both : (ks ls : List ℕ) → length (ks ++ ls) ≡ length ks + length ls
length-both [] ls = omega arith
length-both (k ∷ ks) ls = omega (arith, length-both ks ls)

module _ (due : ℕ → Type 0) where
  -- no numbers
  pub none : (o : Offered) → IsOffered due [] o o
  none o = record { room = refl; kept = λ k one. one; only = λ k one. inl one; whole = λ k one _. absurd one; few = omega arith }

  -- a number
  pub one : (o : Offered) (k : ℕ) → IsOffered due (k ∷ []) o (with_number o k)
  unfolding with_number
  one o k = go (list_any (nat_eq k) o.numbers) refl
    where
      go : (b : Bool) → list_any (nat_eq k) o.numbers ≡ b → IsOffered due (k ∷ []) o (if b then o else record o { numbers = o.numbers ++ k ∷ [] })
      go true e = record { room = refl; kept = λ j h. h; only = λ j h. inl h; whole = there; few = omega arith }
        where
          there : (j : ℕ) → IsOneOf j (k ∷ []) → due j → IsOneOf j o.numbers
          there j (inl same) d = subst (λ i. IsOneOf i o.numbers) (sym same) (is-one k o.numbers e)
          there j (inr h) d = absurd h
      go false e = record {
        room = refl;
        kept = λ j h. one-left j o.numbers (k ∷ []) h;
        only = λ j h. one-either j o.numbers (k ∷ []) h;
        whole = λ j h d. one-right j o.numbers (k ∷ []) h;
        few = omega (arith, length-both o.numbers (k ∷ []));
      }

  -- some, and then others
  pub both : (ks ls : List ℕ) (a b c : Offered) → IsOffered due ks a b → IsOffered due ls b c → IsOffered due (ks ++ ls) a c
  both ks ls a b c f g = record {
    room = g.room ∙ f.room;
    kept = λ k h. g.kept k (f.kept k h);
    only = λ k h. elim (g.only k h) [
      | inl old ↦ elim (f.only k old) [ inl older ↦ inl older | inr h ↦ inr (one-left k ks ls h) ]
      | inr h ↦ inr (one-right k ks ls h)
    ];
    whole = λ k h d. elim (one-either k ks ls h) [ inl h ↦ g.kept k (f.whole k h d) | inr h ↦ g.whole k h d ];
    few = omega (arith, f.few, g.few, length-both ks ls);
  }

  -- of numbers among which all are that are due
  pub wider : (also : ℕ → Type 0) (ks ls : List ℕ) (a b : Offered) → ((k : ℕ) → IsOneOf k ks → IsOneOf k ls) → length ks ≤ length ls → ((k : ℕ) → IsOneOf k ls → also k → IsOneOf k ks × due k) → IsOffered due ks a b → IsOffered also ls a b
  wider also ks ls a b within less each f = record {
    room = f.room;
    kept = f.kept;
    only = λ k h. elim (f.only k h) [ inl old ↦ inl old | inr one ↦ inr (within k one) ];
    whole = λ k h d. let e = each k h d in f.whole k e.0 e.1;
    few = omega (arith, f.few, less);
  }

  -- where fewer are due
  pub weaker : (also : ℕ → Type 0) (ks : List ℕ) (a b : Offered) → ((k : ℕ) → IsOneOf k ks → also k → due k) → IsOffered due ks a b → IsOffered also ks a b
  weaker also ks a b each f = wider also ks ks a b (λ k h. h) (omega arith) (λ k h d. (h, each k h d)) f
