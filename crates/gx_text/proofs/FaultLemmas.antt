-- A line's fault stays when the line goes on, and which bytes can bring one.
use Rattle.std.proofs.Common.{◌≡◌, ℕ, suc, ◌+◌, ◌-◌, ◌<◌, ◌≤◌, Bool, true, false, cond, List, [], ◌∷◌, ◌++◌, length, get_or, take, drop, Option, None, Some, refl, sym, ap, ◌∙◌, arith, append_assoc, append-nil, length-append}
use Rattle.std.specs.Prelude.{position, not, nat_lt, ◌==◌, ◌&&◌, ◌||◌, slice_index}
use Rattle.std.specs.List.{position_or_len}
use Rattle.std.specs.Option.{option_map}
use Rattle.std.specs.Str.Lines.{strip_carriage_return}
use Rattle.std.proofs.lemmas.Bool.Decides.{nat_tests}
use Rattle.std.proofs.lemmas.List.{take-append-drop, get_or_push, drop_more}
use Rattle.std.proofs.Math.ListN.{drop_of_length-le}
use Rattle.std.proofs.Math.Seq.{take-append_seam}
use Rattle.gx_text.specs.declared.lines.LineFault.{LineFault}
use Rattle.gx_text.specs.declared.lines.LineFault.TheVariants.{LongLine}
use Rattle.gx_text.specs.declared.lines.LineError.{LineError}
use Rattle.gx_text.specs.declared.lines.LineError.TheVariants.{Fault, NoMemory}
use Rattle.gx_text.specs.declared.lines.TheConstants.{MAX_LINE}
use Rattle.gx_text.specs.Lines.{IsCause, begins_comment, before_comment, visible_of, fault_at, fault_of, is_allowed}
use Rattle.gx_text.specs.PartialLine.{has_comment, ends, brings_nothing}

abbrev bad : ℕ → Bool
bad b = not (is_allowed b)

-- the place of the first byte before the comment that isn't allowed
abbrev scan : List ℕ → Option ℕ
scan [] = None
scan (b ∷ rest) = cond (begins_comment (b ∷ rest)) None (cond (bad b) (Some 0) (option_map (λ n. 1 + n) (scan rest)))

zero_lt : (b : ℕ) (rest : List ℕ) → nat_lt 0 (length (b ∷ rest)) ≡ true
zero_lt b rest = grind (arith, nat_tests)

suc_lt : (q b : ℕ) (rest : List ℕ) → nat_lt (1 + q) (length (b ∷ rest)) ≡ nat_lt q (length rest)
suc_lt q b rest = grind (arith, nat_tests)

later : (q b : ℕ) (rest : List ℕ) → cond (nat_lt (1 + q) (length (b ∷ rest))) (Some (1 + q)) None ≡ option_map (λ n. 1 + n) (cond (nat_lt q (length rest)) (Some q) None)
later q b rest = ap (λ t. cond t (Some (1 + q)) None) (suc_lt q b rest) ∙ elim (nat_lt q (length rest)) as (λ t. cond t (Some (1 + q)) None ≡ option_map (λ n. 1 + n) (cond t (Some q) None)) [
  | true ↦ refl
  | false ↦ refl
]

pub position_cons : (p : ℕ → Bool) (b : ℕ) (rest : List ℕ) → position p (b ∷ rest) ≡ cond (p b) (Some 0) (option_map (λ n. 1 + n) (position p rest))
position_cons p b rest =
    elim (p b) as (λ t. cond (nat_lt (cond (not t) (1 + position_or_len p rest) 0) (length (b ∷ rest))) (Some (cond (not t) (1 + position_or_len p rest) 0)) None
    ≡ cond t (Some 0) (option_map (λ n. 1 + n) (position p rest))) [
      | true ↦ ap (λ t. cond t (Some 0) None) (zero_lt b rest)
      | false ↦ later (position_or_len p rest) b rest
    ]

scan_is : (line : List ℕ) → position bad (before_comment line) ≡ scan line
scan_is [] = refl
scan_is (b ∷ rest) =
    elim (begins_comment (b ∷ rest)) as (λ t. position bad (cond t [] (b ∷ before_comment rest)) ≡ cond t None (cond (bad b) (Some 0) (option_map (λ n. 1 + n) (scan rest)))) [
      | true ↦ refl
      | false ↦ position_cons bad b (before_comment rest) ∙ ap (λ o. cond (bad b) (Some 0) (option_map (λ n. 1 + n) o)) (scan_is rest)
    ]

slash_allowed : (b : ℕ) → bad b ≡ true → (b == 47) ≡ false
slash_allowed b e = grind (arith, nat_tests)

no_comment : (b : ℕ) (rest : List ℕ) → bad b ≡ true → begins_comment (b ∷ rest) ≡ false
no_comment b [] e = refl
no_comment b (c ∷ rest) e = rw (slash_allowed b e) refl

-- a place is past 0, or there is none
pub one_back : (o : Option ℕ) (q : ℕ) → option_map (λ n. 1 + n) o ≡ Some q → (p : ℕ) × (o ≡ Some p) × (q ≡ 1 + p)
one_back None q e = absurd cc
one_back (Some p) q e = (p, refl, cc)

pub none_back : (o : Option ℕ) → option_map (λ n. 1 + n) o ≡ None → o ≡ None
none_back None e = refl
none_back (Some p) e = absurd cc

pub none_some : {A : Type 0} (a : A) → None ≡ Some a → ⊥
none_some a e = cc

-- the scan by its two tests
abbrev scanned : Bool → Bool → List ℕ → Option ℕ
scanned t u rest = cond t None (cond u (Some 0) (option_map (λ n. 1 + n) (scan rest)))

-- a byte that isn't allowed keeps its place when the line goes on
stays_by : (b : ℕ) (rest more : List ℕ) (q : ℕ) (t u : Bool) → begins_comment (b ∷ rest) ≡ t → bad b ≡ u
    → ((p : ℕ) → scan rest ≡ Some p → scan (rest ++ more) ≡ Some p) → scanned t u rest ≡ Some q → scan ((b ∷ rest) ++ more) ≡ Some q
stays_by b rest more q true u e f ih h = absurd (none_some q h)
stays_by b rest more q false true e f ih h = rw (no_comment b (rest ++ more) f, f) h
stays_by b [] more q false false e f ih h = absurd (none_some q h)
stays_by b (c ∷ rest) more q false false e f ih h =
    let r = one_back (scan (c ∷ rest)) q h in
    rw (e, f) (ap (option_map (λ n. 1 + n)) (ih r.0 r.1) ∙ ap Some (sym r.2))

stays : (line more : List ℕ) (q : ℕ) → scan line ≡ Some q → scan (line ++ more) ≡ Some q
stays [] more q h = absurd (none_some q h)
stays (b ∷ rest) more q h = stays_by b rest more q _ _ refl refl (stays rest more) h

past : (b : ℕ) (rest more : List ℕ) (q : ℕ) (t : Bool) → ((p : ℕ) → scan (rest ++ more) ≡ Some p → length rest ≤ p)
    → cond t None (option_map (λ n. 1 + n) (scan (rest ++ more))) ≡ Some q → length (b ∷ rest) ≤ q
past b rest more q true ih s = absurd (none_some q s)
past b rest more q false ih s = let r = one_back (scan (rest ++ more)) q s in omega (arith, r.2, ih r.0 r.1)

-- where the line has none, the first one is past its end
misses_by : (b : ℕ) (rest more : List ℕ) (q : ℕ) (t u : Bool) → begins_comment (b ∷ rest) ≡ t → bad b ≡ u
    → (scan rest ≡ None → (p : ℕ) → scan (rest ++ more) ≡ Some p → length rest ≤ p) → scanned t u rest ≡ None → scan ((b ∷ rest) ++ more) ≡ Some q → length (b ∷ rest) ≤ q
misses_by b [] more q true u e f ih h s = absurd cc
misses_by b (c ∷ rest) more q true u e f ih h s = absurd (none_some q (rw e at s))
misses_by b rest more q false true e f ih h s = absurd cc
misses_by b rest more q false false e f ih h s =
    past b rest more q (begins_comment (b ∷ (rest ++ more))) (ih (none_back (scan rest) h)) (rw f at s)

misses : (line more : List ℕ) (q : ℕ) → scan line ≡ None → scan (line ++ more) ≡ Some q → length line ≤ q
misses [] more q h s = omega arith
misses (b ∷ rest) more q h s = misses_by b rest more q _ _ refl refl (λ n p. misses rest more p n) h s

-- in a comment every byte is allowed
commented_by : (b : ℕ) (rest more : List ℕ) (t u : Bool) → begins_comment (b ∷ rest) ≡ t → bad b ≡ u
    → (scan rest ≡ None → has_comment rest ≡ true → scan (rest ++ more) ≡ None) → scanned t u rest ≡ None → (t || has_comment rest) ≡ true → scan ((b ∷ rest) ++ more) ≡ None
commented_by b [] more true u e f ih h c = absurd cc
commented_by b (d ∷ rest) more true u e f ih h c = rw e refl
commented_by b rest more false true e f ih h c = absurd cc
commented_by b [] more false false e f ih h c = absurd cc
commented_by b (d ∷ rest) more false false e f ih h c = rw (e, f) (ap (option_map (λ n. 1 + n)) (ih (none_back (scan (d ∷ rest)) h) c))

commented : (line more : List ℕ) → scan line ≡ None → has_comment line ≡ true → scan (line ++ more) ≡ None
commented [] more h c = absurd cc
commented (b ∷ rest) more h c = commented_by b rest more _ _ refl refl (commented rest more) h c

-- nor does a byte that is allowed bring one
allowed_by : (b a : ℕ) (rest : List ℕ) (t u v : Bool) → begins_comment (b ∷ rest) ≡ t → bad b ≡ u
    → (scan rest ≡ None → scan (rest ++ a ∷ []) ≡ None) → scanned t u rest ≡ None → begins_comment (b ∷ (rest ++ a ∷ [])) ≡ v → scan ((b ∷ rest) ++ a ∷ []) ≡ None
allowed_by b a rest t u true e f ih h k = rw k refl
allowed_by b a [] true u false e f ih h k = absurd cc
allowed_by b a (d ∷ rest) true u false e f ih h k = rw e refl
allowed_by b a rest false true false e f ih h k = absurd cc
allowed_by b a rest false false false e f ih h k = rw (k, f) (ap (option_map (λ n. 1 + n)) (ih (none_back (scan rest) h)))

allowed : (line : List ℕ) (a : ℕ) → scan line ≡ None → bad a ≡ false → scan (line ++ a ∷ []) ≡ None
allowed [] a h f = rw f refl
allowed (b ∷ rest) a h f = allowed_by b a rest _ _ _ refl refl (λ n. allowed rest a n f) h refl

next_place : (a c : ℕ) (rest : List ℕ) → length (a ∷ c ∷ rest) - 1 ≡ suc (length (c ∷ rest) - 1)
next_place a c rest = omega arith

some_bytes : (a : ℕ) (rest : List ℕ) → (length (a ∷ rest) == 0) ≡ false
some_bytes a rest = grind (arith, nat_tests)

ends_cons : (a c : ℕ) (rest : List ℕ) (b : ℕ) → ends (a ∷ c ∷ rest) b ≡ ends (c ∷ rest) b
ends_cons a c rest b =
    ap (λ t. not t && (slice_index (a ∷ c ∷ rest) (length (a ∷ c ∷ rest) - 1) == b)) (some_bytes a (c ∷ rest))
    ∙ ap (λ n. slice_index (a ∷ c ∷ rest) n == b) (next_place a c rest)
    ∙ sym (ap (λ t. not t && (slice_index (c ∷ rest) (length (c ∷ rest) - 1) == b)) (some_bytes c rest))

or_assoc : (a b c : Bool) → (a || (b || c)) ≡ ((a || b) || c)
or_assoc true b c = refl
or_assoc false b c = refl

or_false : (a : Bool) → (a || false) ≡ a
or_false true = refl
or_false false = refl

-- a comment begins where two bytes `/` follow each other
pub has_comment_more : (line : List ℕ) (b : ℕ) → has_comment (line ++ b ∷ []) ≡ (has_comment line || (ends line 47 && (b == 47)))
has_comment_more [] b = refl
has_comment_more (a ∷ []) b = or_false ((a == 47) && (b == 47))
has_comment_more (a ∷ c ∷ rest) b =
    ap (λ x. begins_comment (a ∷ c ∷ rest) || x) (has_comment_more (c ∷ rest) b)
    ∙ or_assoc (begins_comment (a ∷ c ∷ rest)) (has_comment (c ∷ rest)) (ends (c ∷ rest) 47 && (b == 47))
    ∙ ap (λ t. has_comment (a ∷ c ∷ rest) || (t && (b == 47))) (sym (ends_cons a c rest 47))

last_is : (line : List ℕ) (b : ℕ) → slice_index (line ++ b ∷ []) (length (line ++ b ∷ []) - 1) ≡ b
last_is line b = ap (λ n. slice_index (line ++ b ∷ []) n) (omega (arith, length-append line (b ∷ []))) ∙ get_or_push line b 0 (length line) refl

strip_more : (line : List ℕ) (b : ℕ) → strip_carriage_return (line ++ b ∷ []) ≡ cond (b == 13) line (line ++ b ∷ [])
strip_more line b =
    ap (λ x. cond (x == 13) (take (length (line ++ b ∷ []) - 1) (line ++ b ∷ [])) (line ++ b ∷ [])) (last_is line b)
    ∙ ap (λ x. cond (b == 13) x (line ++ b ∷ []))
    (ap (λ n. take n (line ++ b ∷ [])) (omega (arith, length-append line (b ∷ []))) ∙ take-append_seam line (b ∷ []))

-- a line and what its CR is
record Stripped (line : List ℕ) : Type 0 where
  rest : List ℕ
  is : line ≡ strip_carriage_return line ++ rest
  few : length rest ≤ 1
  comment : has_comment (strip_carriage_return line) ≡ has_comment line

-- what is stripped of a longer line begins with what is stripped of the line
goes_on_with : (line : List ℕ) (b : ℕ) → Stripped line → (more : List ℕ) × (strip_carriage_return (line ++ b ∷ []) ≡ strip_carriage_return line ++ more)
goes_on_with line b s = rw (strip_more line b) (elim (b == 13) as (λ t. (more : List ℕ) × (cond t line (line ++ b ∷ []) ≡ strip_carriage_return line ++ more)) [
  | true ↦ (s.rest, s.is)
  | false ↦ (s.rest ++ b ∷ [], ap (λ x. x ++ b ∷ []) s.is ∙ append_assoc (strip_carriage_return line) s.rest (b ∷ []))
])

and_false : (a : Bool) → (a && false) ≡ false
and_false true = refl
and_false false = refl

-- a CR doesn't bring a comment
comment_without : (front : List ℕ) → has_comment (front ++ 13 ∷ []) ≡ has_comment front
comment_without front = has_comment_more front 13 ∙ ap (λ t. has_comment front || t) (and_false (ends front 47)) ∙ or_false (has_comment front)

last_place : (line : List ℕ) → (slice_index line (length line - 1) == 13) ≡ true → length line - 1 < length line
last_place [] e = absurd cc
last_place (b ∷ line) e = omega arith

ends_in : (line : List ℕ) → (slice_index line (length line - 1) == 13) ≡ true → drop (length line - 1) line ≡ 13 ∷ []
ends_in line e =
    let at = last_place line e in
    drop_more line (length line - 1) 0 at
    ∙ ap (λ b. b ∷ drop (length line - 1 + 1) line) (grind (arith, nat_tests, e))
    ∙ ap (λ rest. 13 ∷ rest) (drop_of_length-le line (omega (arith, at)))

stripped_by : (line : List ℕ) (t : Bool) → (slice_index line (length line - 1) == 13) ≡ t → Stripped line
stripped_by line false e = record {
  rest = [];
  is = sym (append-nil (strip_carriage_return line) ∙ rw e refl);
  few = omega arith;
  comment = rw e refl;
}
stripped_by line true e =
    let front = take (length line - 1) line in
    let whole : front ++ 13 ∷ [] ≡ line = ap (λ x. front ++ x) (sym (ends_in line e)) ∙ take-append-drop (length line - 1) line in
    record {
      rest = 13 ∷ [];
      is = rw e (sym whole);
      few = omega arith;
      comment = rw e (sym (comment_without front) ∙ ap has_comment whole);
    }

stripped : (line : List ℕ) → Stripped line
stripped line = stripped_by line _ refl

fault_is : (number : ℕ) (line : List ℕ) → fault_of number line ≡ fault_at number line (scan (strip_carriage_return line))
fault_is number line = ap (fault_at number line) (scan_is (strip_carriage_return line))

stays_long : (number : ℕ) (line : List ℕ) (b : ℕ) (o : Option ℕ) → nat_lt MAX_LINE (length line) ≡ true
    → ((q : ℕ) → o ≡ Some q → length line ≤ q + 1) → fault_at number (line ++ b ∷ []) o ≡ Some (LongLine number)
stays_long number line b None e miss =
    let long : nat_lt MAX_LINE (length (line ++ b ∷ [])) ≡ true = grind (arith, nat_tests, e, length-append line (b ∷ [])) in rw long refl
stays_long number line b (Some q) e miss =
    let far : nat_lt q MAX_LINE ≡ false = grind (arith, nat_tests, e, miss q refl) in rw far refl

stays_none : (number : ℕ) (line : List ℕ) (b : ℕ) (fault : LineFault) (o : Option ℕ) (t : Bool) → nat_lt MAX_LINE (length line) ≡ t
    → ((q : ℕ) → o ≡ Some q → length line ≤ q + 1) → cond t (Some (LongLine number)) None ≡ Some fault → fault_at number (line ++ b ∷ []) o ≡ Some fault
stays_none number line b fault o false e miss h = absurd (none_some fault h)
stays_none number line b fault o true e miss h = stays_long number line b o e miss ∙ h

stays_from : (number : ℕ) (line : List ℕ) (b : ℕ) (fault : LineFault) (o p : Option ℕ) → ((q : ℕ) → o ≡ Some q → p ≡ Some q)
    → (o ≡ None → (q : ℕ) → p ≡ Some q → length line ≤ q + 1) → fault_at number line o ≡ Some fault → fault_at number (line ++ b ∷ []) p ≡ Some fault
stays_from number line b fault None p stay miss h = stays_none number line b fault p _ refl (miss refl) h
stays_from number line b fault (Some q) p stay miss h = rw (stay q refl) h

fault_stays_one : (number : ℕ) (line : List ℕ) (b : ℕ) (fault : LineFault) → fault_of number line ≡ Some fault → fault_of number (line ++ b ∷ []) ≡ Some fault
fault_stays_one number line b fault h =
    let s = stripped line in
    let on = goes_on_with line b s in
    let front = strip_carriage_return line in
    fault_is number (line ++ b ∷ []) ∙ ap (λ x. fault_at number (line ++ b ∷ []) (scan x)) on.1
    ∙ stays_from number line b fault (scan front) (scan (front ++ on.0)) (stays front on.0)
    (λ n q e. omega (arith, misses front on.0 q n e, ap length s.is, length-append front s.rest, s.few)) (sym (fault_is number line) ∙ h)

-- a line's fault is the same however the line goes on
pub fault_stays : (number : ℕ) (line rest : List ℕ) (fault : LineFault) → fault_of number line ≡ Some fault → fault_of number (line ++ rest) ≡ Some fault
fault_stays number line [] fault h = ap (fault_of number) (append-nil line) ∙ h
fault_stays number line (b ∷ rest) fault h =
    ap (fault_of number) (sym (append_assoc line (b ∷ []) rest)) ∙ fault_stays number (line ++ b ∷ []) rest fault (fault_stays_one number line b fault h)

-- a fault that one of more bytes decides
fault_within : (number : ℕ) (line bytes : List ℕ) (i : ℕ) (fault : LineFault) → i < length bytes → fault_of number ((line ++ take i bytes) ++ get_or bytes i 0 ∷ []) ≡ Some fault
    → fault_of number (line ++ bytes) ≡ Some fault
fault_within number line bytes i fault h found =
    let b = get_or bytes i 0 in
    let whole : ((line ++ take i bytes) ++ b ∷ []) ++ drop (i + 1) bytes ≡ line ++ bytes =
    append_assoc (line ++ take i bytes) (b ∷ []) (drop (i + 1) bytes) ∙ ap (λ rest. (line ++ take i bytes) ++ rest) (sym (drop_more bytes i 0 h))
    ∙ append_assoc line (take i bytes) (drop i bytes) ∙ ap (λ rest. line ++ rest) (take-append-drop i bytes) in
    ap (fault_of number) (sym whole) ∙ fault_stays number ((line ++ take i bytes) ++ b ∷ []) (drop (i + 1) bytes) fault found

pub cause_within : (number : ℕ) (line bytes : List ℕ) (i : ℕ) (error : LineError) → i < length bytes → IsCause (fault_of number ((line ++ take i bytes) ++ get_or bytes i 0 ∷ [])) error → IsCause (fault_of number (line ++ bytes)) error
cause_within number line bytes i (Fault fault) h found = fault_within number line bytes i fault h found
cause_within number line bytes i NoMemory h found = tt

no_place : (number : ℕ) (line : List ℕ) (o : Option ℕ) → fault_at number line o ≡ None → o ≡ None
no_place number line None e = refl
no_place number line (Some q) e = absurd (grind (arith, nat_tests, e))

-- the front of a test of two
both : (a b : Bool) → (a && not b) ≡ true → (a ≡ true) × (b ≡ false)
both true false e = (refl, refl)
both true true e = absurd cc
both false b e = absurd cc

not_ended : (line : List ℕ) → ends line 13 ≡ false → strip_carriage_return line ≡ line
not_ended [] e = refl
not_ended (b ∷ rest) e =
    let other : (slice_index (b ∷ rest) (length (b ∷ rest) - 1) == 13) ≡ false = rw (some_bytes b rest) at e in rw other refl

not_return : (b : ℕ) → is_allowed b ≡ true → (b == 13) ≡ false
not_return b e = grind (arith, nat_tests, e)

clear_plain : (line : List ℕ) (b : ℕ) → scan (strip_carriage_return line) ≡ None → (is_allowed b ≡ true) × (ends line 13 ≡ false) → scan (strip_carriage_return (line ++ b ∷ [])) ≡ None
clear_plain line b n h =
    let whole : strip_carriage_return (line ++ b ∷ []) ≡ line ++ b ∷ [] = strip_more line b ∙ ap (λ t. cond t line (line ++ b ∷ [])) (not_return b h.0) in
    ap scan whole ∙ allowed line b (ap scan (sym (not_ended line h.1)) ∙ n) (ap not h.0)

clear_comment : (line : List ℕ) (b : ℕ) → scan (strip_carriage_return line) ≡ None → has_comment line ≡ true → scan (strip_carriage_return (line ++ b ∷ [])) ≡ None
clear_comment line b n h =
    let s = stripped line in
    let on = goes_on_with line b s in
    ap scan on.1 ∙ commented (strip_carriage_return line) on.0 n (s.comment ∙ h)

clear_by : (line : List ℕ) (b : ℕ) (t : Bool) → scan (strip_carriage_return line) ≡ None → has_comment line ≡ t → (t || (is_allowed b && not (ends line 13))) ≡ true
    → scan (strip_carriage_return (line ++ b ∷ [])) ≡ None
clear_by line b true n h e = clear_comment line b n h
clear_by line b false n h e = clear_plain line b n (both (is_allowed b) (ends line 13) e)

-- a byte in a comment, or one that is allowed and doesn't follow a CR, brings no fault but a long line's
pub clear : (number : ℕ) (line : List ℕ) (b : ℕ) → fault_of number line ≡ None → length (line ++ b ∷ []) ≤ MAX_LINE
    → brings_nothing line b ≡ true → fault_of number (line ++ b ∷ []) ≡ None
clear number line b h few e =
    let n = no_place number line (scan (strip_carriage_return line)) (sym (fault_is number line) ∙ h) in
    let short : nat_lt MAX_LINE (length (line ++ b ∷ [])) ≡ false = grind (arith, nat_tests) in
    fault_is number (line ++ b ∷ []) ∙ ap (fault_at number (line ++ b ∷ [])) (clear_by line b _ n refl e) ∙ rw short refl

short_from : (number : ℕ) (line : List ℕ) (place : Option ℕ) → fault_at number line place ≡ None → length line ≤ MAX_LINE
short_from number line None e = grind (arith, nat_tests)
short_from number line (Some place) e = absurd (grind (arith, nat_tests))

pub short : (number : ℕ) (line : List ℕ) → fault_of number line ≡ None → length line ≤ MAX_LINE
short number line e = short_from number line (position bad (visible_of line)) e
