-- Printed numbers are words of few bytes.
use Rattle.std.proofs.Common.{◌≡◌, ℕ, suc, ◌+◌, ◌*◌, ◌^◌, ◌<◌, ◌≤◌, ℤ, pos, negsuc, unsigned_abs, Bool, true, false, List, [], ◌∷◌, ◌++◌, length, All, refl, arith, length-append}
use Rattle.std.specs.Prelude.{not, ◌==◌, ◌&&◌}
use Rattle.std.specs.Fmt.{decimal, signed_decimal}
use Rattle.std.specs.Char.{is_ascii_digit}
use Rattle.std.specs.List.{AllPass}
use Rattle.std.proofs.lemmas.Bool.{and_parts, ne_eqb}
use Rattle.std.proofs.lemmas.Bool.Decides.{nat_tests}
use Rattle.std.proofs.lemmas.Fmt.{decimal_nonempty, length-decimal-le}
use Rattle.std.proofs.lemmas.List.Elements.{All-cons, All-head, All-tail, All-append, All-weaker}
use Rattle.std.proofs.lemmas.List.Sums.{AllPass-from_list_all}
use Rattle.gx_text.specs.PartialLine.{has_comment}
use Rattle.gx_canon.specs.Text.{joined, is_visible, IsWord}
use Rattle.gx_canon.proofs.Bytes.{before_bare}
use Rattle.gx_canon.proofs.Numbers.{decimal_digits}

-- a byte of a word that is no `/`
abbrev pub is_plain : ℕ → Bool
is_plain b = is_visible b && not (b == 47)

plain_visible : (b : ℕ) → is_plain b ≡ true → is_visible b ≡ true
plain_visible b h = (and_parts (is_visible b) (not (b == 47)) h).0

no_slash : (b : ℕ) → is_plain b ≡ true → b == 47 ≡ false
no_slash b h = grind (arith, nat_tests, h)

digit_plain : (b : ℕ) → is_ascii_digit b ≡ true → is_plain b ≡ true
digit_plain b h = grind (arith, nat_tests, h)

clear_more : (b : ℕ) (rest : List ℕ) → is_plain b ≡ true → has_comment rest ≡ false → has_comment (b ∷ rest) ≡ false
clear_more b [] e h = refl
clear_more b (c ∷ rest) e h = rw (no_slash b e) h

plain_clear : (w : List ℕ) → AllPass is_plain w → has_comment w ≡ false
plain_clear [] h = refl
plain_clear (b ∷ w) h = clear_more b w (All-head (λ b. is_plain b ≡ true) b w h) (plain_clear w (All-tail (λ b. is_plain b ≡ true) b w h))

-- one `/` is no comment
slash_clear : (w v : List ℕ) → AllPass is_plain w → AllPass is_plain v → has_comment (w ++ 47 ∷ v) ≡ false
slash_clear [] [] h k = refl
slash_clear [] (c ∷ v) h k = rw (no_slash c (All-head (λ b. is_plain b ≡ true) c v k)) (plain_clear (c ∷ v) k)
slash_clear (b ∷ w) v h k = clear_more b (w ++ 47 ∷ v) (All-head (λ b. is_plain b ≡ true) b w h) (slash_clear w v (All-tail (λ b. is_plain b ≡ true) b w h) k)

all_visible : (w : List ℕ) → AllPass is_plain w → AllPass is_visible w
all_visible w h = All-weaker (λ b. is_plain b ≡ true) (λ b. is_visible b ≡ true) plain_visible w h

some_byte : (w : List ℕ) → 0 < length w → length w == 0 ≡ false
some_byte w h = ne_eqb (length w) 0 (λ e. absurd (omega (arith, e, h)))

-- ---- numbers

pub decimal_plain : (n : ℕ) → n < 10 ^ 10 → AllPass is_plain (decimal n)
decimal_plain n h = All-weaker (λ b. is_ascii_digit b ≡ true) (λ b. is_plain b ≡ true) digit_plain (decimal n) (AllPass-from_list_all is_ascii_digit (decimal n) (decimal_digits n (omega arith)))

signed_plain : (z : ℤ) → unsigned_abs z < 10 ^ 10 → AllPass is_plain (signed_decimal z)
signed_plain (pos n) h = decimal_plain n h
signed_plain (negsuc n) h = All-cons (λ b. is_plain b ≡ true) 45 (decimal (suc n)) refl (decimal_plain (suc n) h)

length-decimal : (k n : ℕ) → 0 < k → n < 10 ^ k → n < 10 ^ 10 → length (decimal n) ≤ k
length-decimal k n some h few = length-decimal-le k n some h (omega (arith, few))

-- at most so many digits, and a sign
pub length-signed : (k : ℕ) (z : ℤ) → 0 < k → unsigned_abs z < 10 ^ k → unsigned_abs z < 10 ^ 10 → length (signed_decimal z) ≤ k + 1
length-signed k (pos n) some h few = omega (arith, length-decimal k n some h few)
length-signed k (negsuc n) some h few = omega (arith, length-decimal k (suc n) some h few)

signed_some : (z : ℤ) → unsigned_abs z < 10 ^ 10 → 0 < length (signed_decimal z)
signed_some (pos n) h = decimal_nonempty n (omega arith)
signed_some (negsuc n) h = omega arith

pub plain_word : (w : List ℕ) → 0 < length w → AllPass is_plain w → IsWord w
plain_word w some h = record { some = some_byte w some; visible = all_visible w h; bare = before_bare w (plain_clear w h) }

pub signed_word : (z : ℤ) → unsigned_abs z < 10 ^ 10 → IsWord (signed_decimal z)
signed_word z h = plain_word (signed_decimal z) (signed_some z h) (signed_plain z h)

pub over_word : (z : ℤ) (d : ℕ) → unsigned_abs z < 10 ^ 10 → d < 10 ^ 10 → IsWord (signed_decimal z ++ 47 ∷ decimal d)
over_word z d h k = record {
  some = some_byte (signed_decimal z ++ 47 ∷ decimal d) (omega (arith, length-append (signed_decimal z) (47 ∷ decimal d)));
  visible = All-append (λ b. is_visible b ≡ true) (signed_decimal z) (47 ∷ decimal d) (all_visible (signed_decimal z) (signed_plain z h)) (All-cons (λ b. is_visible b ≡ true) 47 (decimal d) refl (all_visible (decimal d) (decimal_plain d k)));
  bare = before_bare (signed_decimal z ++ 47 ∷ decimal d) (slash_clear (signed_decimal z) (decimal d) (signed_plain z h) (decimal_plain d k));
}

-- ---- words of few bytes

-- a word of at most so many bytes
pub record IsShortWord (most : ℕ) (w : List ℕ) : Type 0 where
  pub word : IsWord w
  pub short : length w ≤ most

-- a sign and 10 digits
pub signed_short : (most : ℕ) (z : ℤ) → 11 ≤ most → unsigned_abs z < 10 ^ 10 → IsShortWord most (signed_decimal z)
signed_short most z enough h = record { word = signed_word z h; short = omega (arith, enough, length-signed 10 z (omega arith) h h) }

-- the bytes of words, each with a blank
abbrev pub size : List (List ℕ) → ℕ
size [] = 0
size (w ∷ ws) = length w + 1 + size ws

pub joined_size : (ws : List (List ℕ)) → length (joined ws) ≤ size ws
joined_size [] = omega arith
joined_size (w ∷ []) = omega arith
joined_size (w ∷ v ∷ ws) = omega (arith, joined_size (v ∷ ws), length-append w (32 ∷ joined (v ∷ ws)))

pub size-append : (xs ys : List (List ℕ)) → size (xs ++ ys) ≡ size xs + size ys
size-append [] ys = omega arith
size-append (x ∷ xs) ys = omega (arith, size-append xs ys)

pub size-short : (most : ℕ) (ws : List (List ℕ)) → All (IsShortWord most) ws → size ws ≤ (most + 1) * length ws
size-short most [] h = omega arith
size-short most (w ∷ ws) h =
    let is = All-head (IsShortWord most) w ws h in
    let rest = size-short most ws (All-tail (IsShortWord most) w ws h) in
    let more : (most + 1) * length (w ∷ ws) ≡ (most + 1) + (most + 1) * length ws = omega arith in
    omega (arith, is.short, rest, more)
