-- Numbers, names and units at the front of a text.
use Rattle.std.proofs.Common.{◌≡◌, ◌≢◌, ℕ, ◌<◌, ◌≤◌, ◌==◌, Bool, true, false, List, [], ◌∷◌, length, drop, None, Some, Result, refl, sym, ◌∙◌, arith, length-drop, zero, suc, ◌&&◌, ◌⊎◌, inl, inr}
use Rattle.std.specs.Prelude.{nat_le}
use Rattle.std.specs.List.{prefix_len}
use Rattle.std.proofs.lemmas.Bool.{ne_eqb, eqb-true, leb-true, or_cases, and_parts, cases_Bool}
use Rattle.gx_expr.specs.declared.fault.ExprFault.{ExprFault}
use Rattle.gx_expr.specs.declared.fault.ExprFault.TheVariants.{UnknownParam}
use Rattle.gx_expr.specs.Unit.{value_of_unit}
use Rattle.gx_expr.specs.declared.operator.ProductSign.TheVariants.{Times, Over}
use Rattle.gx_expr.specs.Descent.{begins, IsSumEnd, IsProductEnd, tree_on, anywhere, IsRead, HasNone}
use Rattle.gx_expr.specs.Eval.{value_of_leaf, value_of_decimal, found}
use Rattle.gx_expr.specs.Param.{Param, value_of_name}
use Rattle.gx_expr.specs.Token.{is_name_byte, Leaf, number, name, unit, Token, operand, product_sign, closing, run_of, decimal_at, begins_decimal, named, token_at}
use Rattle.gx_expr.specs.Tree.{leaf, Context, tree_from}
use Rattle.std.specs.Char.{is_ascii_digit, is_ascii_alphabetic}
use Rattle.gx_expr.specs.Quantity.{Quantity}
use Rattle.gx_expr.proofs.Tokens.{tokens_of-step}
use Rattle.gx_expr.proofs.Trees.{on-leaf, none-token, none-empty, none-unread}

-- ---- any leaf

leaf-read : (open_count : ℕ) (params : List Param) (b : ℕ) (s : List ℕ) (size : ℕ) (l : Leaf) (value : Result Quantity ExprFault) → 0 < size → token_at (b ∷ s) ≡ Some (record { what = operand l; size = size }) → value_of_leaf params l ≡ value → IsRead anywhere open_count params (b ∷ s) value (drop size (b ∷ s))
leaf-read open_count params b s (suc k) l value some e gives = record {
  tree = leaf l;
  gives = gives;
  longer = omega (arith, length-drop k s);
  front = λ outer here same. on-leaf outer here l (b ∷ s) (drop k s) (tokens_of-step b s k (operand l) e);
}
leaf-read open_count params b s zero l value some e gives = absurd (omega (arith, some))

-- ---- numbers

number-byte : (b : ℕ) (s : List ℕ) → begins_decimal (b ∷ s) ≡ true → (b ≡ 46) ⊎ (is_ascii_digit b ≡ true)
number-byte b [] h = inr h
number-byte b (c ∷ s) h = elim (or_cases (is_ascii_digit b) (b == 46 && is_ascii_digit c) h) [ inl digit ↦ inr digit | inr point ↦ inl (eqb-true b 46 (and_parts (b == 46) (is_ascii_digit c) point).0) ]

-- a number takes a byte at least
numbered : (b : ℕ) (s : List ℕ) (digit : Bool) → is_ascii_digit b ≡ digit → (b ≡ 46) ⊎ (digit ≡ true) → 0 < (decimal_at (b ∷ s)).size
numbered b s true e p = rw e (omega arith)
numbered b s false e (inl point) = rw (e, point) (omega arith)
numbered b s false e (inr wrong) = cc

number-other : (b k : ℕ) → (b ≡ 46) ⊎ (is_ascii_digit b ≡ true) → k ≢ 46 → k < 48 → b == k ≡ false
number-other b k (inl e) h g = ne_eqb b k (λ same. h (sym same ∙ e))
number-other b k (inr e) h g = ne_eqb b k (λ same. let low = leb-true 48 b (and_parts (nat_le 48 b) (nat_le b 57) e).0 in absurd (omega arith))

number-leaf : (b : ℕ) (s : List ℕ) → begins_decimal (b ∷ s) ≡ true → token_at (b ∷ s) ≡ Some (record { what = operand (number (decimal_at (b ∷ s)).what); size = (decimal_at (b ∷ s)).size })
number-leaf b s h =
    let other = λ (k : ℕ) (g : k ≢ 46) (l : k < 48). number-other b k (number-byte b s h) g l in
    rw (other 43 (omega arith) (omega arith), other 45 (omega arith) (omega arith), other 42 (omega arith) (omega arith), other 47 (omega arith) (omega arith), other 40 (omega arith) (omega arith), other 41 (omega arith) (omega arith), other 36 (omega arith) (omega arith), h) refl

pub number_read : (open_count : ℕ) (params : List Param) (s new : List ℕ) (value : Result Quantity ExprFault) → begins_decimal s ≡ true → value ≡ value_of_decimal (decimal_at s).what → new ≡ drop (decimal_at s).size s → IsRead anywhere open_count params s value new
number_read open_count params [] new value h gives rest = cc
number_read open_count params (b ∷ s) new value h gives rest =
    rw rest (leaf-read open_count params b s (decimal_at (b ∷ s)).size (number (decimal_at (b ∷ s)).what) value (numbered b s (is_ascii_digit b) refl (number-byte b s h)) (number-leaf b s h) (sym gives))

-- ---- names and units

pub name_read : (open_count : ℕ) (params : List Param) (s mid what new : List ℕ) (value : Result Quantity ExprFault) → s ≡ 36 ∷ mid → what ≡ (run_of is_name_byte mid).what → new ≡ drop (prefix_len is_name_byte mid) mid → length what == 0 ≡ false → value ≡ found UnknownParam (λ w. w) (value_of_name params what) → IsRead anywhere open_count params s value new
name_read open_count params s mid what new value first e rest some gives =
    let run = run_of is_name_byte mid in
    let token : token_at (36 ∷ mid) ≡ Some (record { what = operand (name run.what); size = suc run.size }) = rw (rw e at some) refl in
    rw (first, rest) (leaf-read open_count params 36 mid (suc run.size) (name run.what) value (omega arith) token (sym (rw e at gives)))

pub name_none : (open_count : ℕ) (s mid what : List ℕ) → s ≡ 36 ∷ mid → what ≡ (run_of is_name_byte mid).what → length what == 0 ≡ true → HasNone anywhere open_count s
name_none open_count s mid what first e none =
    let token : token_at (36 ∷ mid) ≡ None = rw (rw e at none) refl in
    rw first (record { front = λ outer here same. none-unread outer here None 36 mid token })

-- where none of the other tokens begins, a unit may
unit-token : (b : ℕ) (s : List ℕ) → IsSumEnd (b ∷ s) → IsProductEnd (b ∷ s) → begins 40 (b ∷ s) ≡ false → begins 41 (b ∷ s) ≡ false → begins 36 (b ∷ s) ≡ false → begins_decimal (b ∷ s) ≡ false → token_at (b ∷ s) ≡ named unit (run_of is_ascii_alphabetic (b ∷ s)).what (run_of is_ascii_alphabetic (b ∷ s)).size
unit-token b s sums products opening_not closing_not dollar_not number_not = rw (sums.plus, sums.minus, products.times, products.over, opening_not, closing_not, dollar_not, number_not) refl

letter-above : (b : ℕ) → is_ascii_alphabetic b ≡ true → 65 ≤ b
letter-above b h = elim (or_cases (nat_le 65 b && nat_le b 90) (nat_le 97 b && nat_le b 122) h) [
  | inl upper ↦ leb-true 65 b (and_parts (nat_le 65 b) (nat_le b 90) upper).0
  | inr lower ↦ let low = leb-true 97 b (and_parts (nat_le 97 b) (nat_le b 122) lower).0 in omega arith
]

letter-token : (b : ℕ) (s : List ℕ) → is_ascii_alphabetic b ≡ true → IsSumEnd (b ∷ s) → begins 40 (b ∷ s) ≡ false → begins 36 (b ∷ s) ≡ false → begins_decimal (b ∷ s) ≡ false → token_at (b ∷ s) ≡ named unit (run_of is_ascii_alphabetic (b ∷ s)).what (run_of is_ascii_alphabetic (b ∷ s)).size
letter-token b s letter sums opening_not dollar_not number_not =
    let above = letter-above b letter in
    let other = λ (k : ℕ) (h : k < 65). ne_eqb b k (λ e. absurd (omega arith)) in
    unit-token b s sums (record { times = other 42 (omega arith); over = other 47 (omega arith) }) opening_not (other 41 (omega arith)) dollar_not number_not

pub unit_read : (open_count : ℕ) (params : List Param) (s what new : List ℕ) (value : Result Quantity ExprFault) → IsSumEnd s → begins 40 s ≡ false → begins 36 s ≡ false → begins_decimal s ≡ false → what ≡ (run_of is_ascii_alphabetic s).what → new ≡ drop (prefix_len is_ascii_alphabetic s) s → length what == 0 ≡ false → value ≡ value_of_unit what → IsRead anywhere open_count params s value new
unit_read open_count params [] what new value sums opening_not dollar_not number_not e rest some gives = let wrong = rw e at some in cc
unit_read open_count params (b ∷ s) what new value sums opening_not dollar_not number_not e rest some gives =
    let word = run_of is_ascii_alphabetic (b ∷ s) in
    elim (cases_Bool (is_ascii_alphabetic b)) [
      | inl letter ↦
          let token : token_at (b ∷ s) ≡ Some (record { what = operand (unit word.what); size = word.size }) = letter-token b s letter sums opening_not dollar_not number_not ∙ rw (rw e at some) refl in
          rw rest (leaf-read open_count params b s word.size (unit word.what) value (rw letter (omega arith)) token (sym (rw e at gives)))
      | inr letter_not ↦ let wrong = rw (e, letter_not) at some in cc
    ]

none-byte : (outer : List Context) (here : Context) (token : Token) (b byte : ℕ) (s : List ℕ) → b == byte ≡ true → token_at (byte ∷ s) ≡ Some (record { what = token; size = 1 }) → ((ps : List Token) → tree_from outer here None (token ∷ ps) ≡ None) → tree_on outer here None (b ∷ s) ≡ None
none-byte outer here token b byte s same e h = rw (eqb-true b byte same) (none-token outer here None token (byte ∷ s) s (tokens_of-step byte s 0 token e) h)

pub unit_none : (open_count : ℕ) (s what : List ℕ) → IsSumEnd s → begins 40 s ≡ false → begins 36 s ≡ false → begins_decimal s ≡ false → what ≡ (run_of is_ascii_alphabetic s).what → length what == 0 ≡ true → HasNone anywhere open_count s
unit_none open_count [] what sums opening_not dollar_not number_not e none = record { front = λ outer here same. none-empty outer here }
unit_none open_count (b ∷ s) what sums opening_not dollar_not number_not e none =
    record {
      front = λ outer here same. elim (cases_Bool (b == 42)) [
        | inl e ↦ none-byte outer here (product_sign Times) b 42 s e refl (λ ps. refl)
        | inr times_not ↦ elim (cases_Bool (b == 47)) [
          | inl e ↦ none-byte outer here (product_sign Over) b 47 s e refl (λ ps. refl)
          | inr over_not ↦ elim (cases_Bool (b == 41)) [
            | inl e ↦ none-byte outer here closing b 41 s e refl (λ ps. refl)
            | inr closing_not ↦
                none-unread outer here None b s (unit-token b s sums (record { times = times_not; over = over_not }) opening_not closing_not dollar_not number_not ∙ rw (rw e at none) refl)
          ]
        ]
      ];
    }
