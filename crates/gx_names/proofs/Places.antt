-- What becomes of the names of a map where a new one is put at the next place.
use Rattle.std.proofs.Common.{◌≡◌, ℕ, zero, suc, ◌+◌, ◌<◌, ◌≤◌, Bool, true, false, not, List, [], ◌∷◌, ◌++◌, length, cond, Option, Some, None, is_some, nat_lt, inl, inr, refl, sym, ap, subst, ◌∙◌, true≢false, arith}
use Rattle.std.specs.Prelude.{if◌then◌else◌}
use Rattle.std.specs.Bool.{nat_eq}
use Rattle.std.specs.Ordering.{nat_cmp, is_eq, match_ordering}
use Rattle.std.specs.declared.cmp.Ordering.TheVariants.{Less, Equal, Greater}
use Rattle.std.specs.Cmp.Lexicographic.{slice_cmp}
use Rattle.std.specs.BTreeMap.{insert_entry}
use Rattle.std.specs.List.{AllByRecursion, IsDistinct, position_or_len}
use Rattle.std.specs.Map.{lookup}
use Rattle.std.specs.Str.{bytes_eq}
use Rattle.std.proofs.Math.Dec.{eqb}
use Rattle.std.proofs.lemmas.Bool.{cases_Bool, eq-eqb, lt-ltb, le-ltb, ltb-false}
use Rattle.std.proofs.lemmas.Bool.Decides.{nat_tests}
use Rattle.std.proofs.lemmas.List.{length-append}
use Rattle.std.proofs.lemmas.List.Folds.{position_or_len_push}
use Rattle.std.proofs.lemmas.List.Sums.{prefix_len-le-length}
use Rattle.std.proofs.lemmas.Map.Text.{is_eq-slice_cmp}
use Rattle.std.proofs.lemmas.Slice.Eq.{bytes_eq-Decides}
use Rattle.gx_names.specs.Names.{number_of, AreDistinct}
use Rattle.gx_names.specs.Places.{name_at, first_names, names_of, IsNumbered}

pub no_number : (number : Option ℕ) → is_some number ≡ false → number ≡ None
no_number None e = refl
no_number (Some n) e = absurd (true≢false e)

-- ---- names that are the same

same : (a b : List ℕ) → bytes_eq a b ≡ true → a ≡ b
same a b = (bytes_eq-Decides a b).0

apart : (a b n : List ℕ) → bytes_eq a b ≡ false → bytes_eq n b ≡ true → bytes_eq n a ≡ false
apart a b n differ alike = by (bytes_eq n a) refl
  where
    by : (r : Bool) → bytes_eq n a ≡ r → bytes_eq n a ≡ false
    by false e = e
    by true e = absurd (true≢false (sym ((bytes_eq-Decides a b).1 (sym (same n a e) ∙ same n b alike)) ∙ differ))

-- ---- a name at the end of a list

at_place : (p n q : ℕ) → p ≡ q → q < n → cond (nat_lt p n) (Some p) None ≡ Some q
at_place p n q is less = let within : nat_lt q n ≡ true = lt-ltb q n less in rw (is, within) refl

past_end : (p n : ℕ) → n ≤ p → cond (nat_lt p n) (Some p) None ≡ None
past_end p n beyond = let without : nat_lt p n ≡ false = le-ltb p n beyond in rw without refl

found_before : (p n p' n' : ℕ) (b : Bool) → p ≤ n → n' ≡ n + 1 → p' ≡ cond (eqb p n) (n + cond b 0 1) p
    → cond (nat_lt p' n') (Some p') None ≡ cond (nat_lt p n) (Some p) (cond b (Some n) None)
found_before p n p' n' b within long is = elim (cases_Bool (nat_lt p n)) [
  | inl less ↦ at_place p' n' p (grind (arith, nat_tests, is, less)) (grind (arith, nat_tests, long, less)) ∙ ap (λ r. cond r (Some p) (cond b (Some n) None)) (sym less)
  | inr past ↦ at_end b (is ∙ ap (λ r. cond r (n + cond b 0 1) p) (eq-eqb p n (omega (arith, ltb-false p n past, within)))) ∙ ap (λ r. cond r (Some p) (cond b (Some n) None)) (sym past)
]
  where
    at_end : (b : Bool) → p' ≡ n + cond b 0 1 → cond (nat_lt p' n') (Some p') None ≡ cond b (Some n) None
    at_end true e = at_place p' n' n (omega (arith, e)) (omega (arith, long))
    at_end false e = past_end p' n' (omega (arith, e, long))

either : (r b : Bool) (p n : ℕ) → (b ≡ true → cond r (Some p) None ≡ None) → cond b (Some n) (cond r (Some p) None) ≡ cond r (Some p) (cond b (Some n) None)
either true true p n not_both = absurd (true≢false (ap is_some (not_both refl)))
either true false p n not_both = refl
either false b p n not_both = refl

-- the number of a name, where a new one stands at the end
number_push : (names : List (List ℕ)) (last name : List ℕ) → number_of names last ≡ None → cond (bytes_eq name last) (Some (length names)) (number_of names name) ≡ number_of (names ++ last ∷ []) name
number_push names last name none =
    let place = position_or_len (bytes_eq name) names in
    either (nat_lt place (length names)) (bytes_eq name last) place (length names) (λ alike. ap (number_of names) (same name last alike) ∙ none)
    ∙ sym (found_before place (length names) _ _ (bytes_eq name last) (prefix_len-le-length _ names) (length-append names (last ∷ [])) (position_or_len_push (bytes_eq name) names last))

none_past : (p n : ℕ) → cond (nat_lt p n) (Some p) None ≡ None → n ≤ p
none_past p n none = elim (cases_Bool (nat_lt p n)) [
  | inl less ↦ absurd (true≢false (sym (ap is_some (ap (λ r. cond r (Some p) None) less)) ∙ ap is_some none))
  | inr past ↦ ltb-false p n past
]

differs : (names : List (List ℕ)) (name : List ℕ) → number_of names name ≡ None → AllByRecursion (λ n. bytes_eq n name ≡ false) names
differs [] name none = tt
differs (n ∷ names) name none = elim (cases_Bool (bytes_eq name n)) [
  | inl alike ↦
      let first = none_past _ _ none in
      absurd (omega (arith, first, ap (λ b. cond (not b) (1 + position_or_len (bytes_eq name) names) 0) alike))
  | inr differ ↦
      let first = none_past _ _ none in
      let rest : number_of names name ≡ None = past_end _ _ (omega (arith, first, ap (λ b. cond (not b) (1 + position_or_len (bytes_eq name) names) 0) differ)) in
      (turned n name differ, differs names name rest)
]
  where
    turned : (a b : List ℕ) → bytes_eq b a ≡ false → bytes_eq a b ≡ false
    turned a b differ = apart b a a differ ((bytes_eq-Decides a a).1 refl)

distinct_push : (names : List (List ℕ)) (name : List ℕ) → AreDistinct names → AllByRecursion (λ n. bytes_eq n name ≡ false) names → AreDistinct (names ++ name ∷ [])
unfolding IsDistinct
distinct_push [] name distinct all = (tt, tt)
distinct_push (n ∷ names) name distinct all = (each names distinct.0, distinct_push names name distinct.1 all.1)
  where
    each : (ns : List (List ℕ)) → AllByRecursion (λ y. bytes_eq n y ≡ false) ns → AllByRecursion (λ y. bytes_eq n y ≡ false) (ns ++ name ∷ [])
    each [] apart = (all.0, tt)
    each (y ∷ ns) apart = (apart.0, each ns apart.1)

-- ---- an entry that stands between others

in_turn : (first place : ℕ) (rest : Option ℕ) (b c : Bool) → (c ≡ true → b ≡ false) → cond c (Some first) (cond b (Some place) rest) ≡ cond b (Some place) (cond c (Some first) rest)
in_turn first place rest b true not_both = ap (λ b. cond b (Some place) (Some first)) (sym (not_both refl))
in_turn first place rest b false not_both = refl

module _ {K : Type 0} (items : K → List ℕ) (key : K) (place : ℕ) where
  abbrev is : List ℕ → K → Bool
  is name k = bytes_eq name (items k)

  other_name : (before after : List (K × ℕ)) (at : ℕ) → nat_eq place at ≡ false → name_at items (before ++ (key, place) ∷ after) at ≡ name_at items (before ++ after) at
  other_name [] after at differ = ap (λ b. if b then items key else name_at items after at) differ
  other_name (e ∷ before) after at differ = ap (λ name. if nat_eq e.1 at then items e.0 else name) (other_name before after at differ)

  last_name : (before after : List (K × ℕ)) → AllByRecursion (λ e. e.1 < place) (before ++ after) → name_at items (before ++ (key, place) ∷ after) place ≡ items key
  last_name [] after below = ap (λ b. if b then items key else name_at items after place) (eq-eqb place place refl)
  last_name (e ∷ before) after below =
      let differ : nat_eq e.1 place ≡ false = grind (arith, nat_tests, below.0) in
      ap (λ b. if b then items e.0 else name_at items (before ++ (key, place) ∷ after) place) differ ∙ last_name before after below.1

  found_between : (before after : List (K × ℕ)) (name : List ℕ) → lookup (is (items key)) (before ++ after) ≡ None
      → lookup (is name) (before ++ (key, place) ∷ after) ≡ cond (is name key) (Some place) (lookup (is name) (before ++ after))
  found_between [] after name none = refl
  found_between (e ∷ before) after name none = elim (cases_Bool (is (items key) e.0)) [
    | inl found ↦ let some = rw found at none in absurd (true≢false (ap is_some some))
    | inr differ ↦
        let rest : lookup (is (items key)) (before ++ after) ≡ None = sym (ap (λ b. cond b (Some e.1) (lookup (is (items key)) (before ++ after))) differ) ∙ none in
        ap (cond (is name e.0) (Some e.1)) (found_between before after name rest) ∙ in_turn e.1 place (lookup (is name) (before ++ after)) (is name key) (is name e.0) (apart (items key) (items e.0) name differ)
  ]

  lower : (before after : List (K × ℕ)) (n : ℕ) → AllByRecursion (λ e. e.1 < n) (before ++ after) → place < n + 1 → AllByRecursion (λ e. e.1 < n + 1) (before ++ (key, place) ∷ after)
  lower [] after n below less = (less, later after below)
    where
      later : (es : List (K × ℕ)) → AllByRecursion (λ e. e.1 < n) es → AllByRecursion (λ e. e.1 < n + 1) es
      later [] all = tt
      later (e ∷ es) all = (omega (arith, all.0), later es all.1)
  lower (e ∷ before) after n below less = (omega (arith, below.0), lower before after n below.1 less)

  -- an entry that is put into the order
  record IsPut (es new : List (K × ℕ)) : Type 0 where
    before : List (K × ℕ)
    after : List (K × ℕ)
    old_is : es ≡ before ++ after
    new_is : new ≡ before ++ (key, place) ∷ after

  put : (es : List (K × ℕ)) → lookup (is (items key)) es ≡ None → IsPut es (insert_entry (λ a b. slice_cmp nat_cmp (items a) (items b)) es key place)
  put [] none = record { before = []; after = []; old_is = refl; new_is = refl }
  put (e ∷ es) none =
      elim (slice_cmp nat_cmp (items key) (items e.0)) as (λ o. is_eq o ≡ is (items key) e.0 → IsPut (e ∷ es) (match_ordering o ((key, place) ∷ e ∷ es) ((e.0, place) ∷ es) (e ∷ insert_entry (λ a b. slice_cmp nat_cmp (items a) (items b)) es key place))) [
        | Less ↦ λ _. record { before = []; after = e ∷ es; old_is = refl; new_is = refl }
        | Equal ↦ λ alike. let some = rw (sym alike) at none in absurd (true≢false (ap is_some some))
        | Greater ↦ λ differ.
            let rest : lookup (is (items key)) es ≡ None = ap (λ b. cond b (Some e.1) (lookup (is (items key)) es)) differ ∙ none in
            let inner = put es rest in
            record { before = e ∷ inner.before; after = inner.after; old_is = ap (λ es. e ∷ es) inner.old_is; new_is = ap (λ es. e ∷ es) inner.new_is }
      ] (is_eq-slice_cmp (items key) (items e.0))

module _ {K : Type 0} (items : K → List ℕ) where
  same_before : (es new : List (K × ℕ)) (count : ℕ) → ((at : ℕ) → at < count → name_at items new at ≡ name_at items es at) → first_names items new count ≡ first_names items es count
  same_before es new zero alike = refl
  same_before es new (suc count) alike =
      ap (λ names. names ++ name_at items new count ∷ []) (same_before es new count (λ at less. alike at (omega (arith, less))))
      ∙ ap (λ name. first_names items es count ++ name ∷ []) (alike count (omega arith))

  length-first_names : (es : List (K × ℕ)) (count : ℕ) → length (first_names items es count) ≡ count
  length-first_names es zero = refl
  length-first_names es (suc count) = length-append (first_names items es count) (name_at items es count ∷ []) ∙ omega (arith, length-first_names es count)

  pub length-names_of : (es : List (K × ℕ)) → length (names_of items es) ≡ length es
  unfolding names_of
  length-names_of es = length-first_names es (length es)

  module _ (key : K) (before after : List (K × ℕ)) where
    abbrev old : List (K × ℕ)
    old = before ++ after

    abbrev new : List (K × ℕ)
    new = before ++ (key, length old) ∷ after

    longer : length new ≡ suc (length old)
    longer = length-append before ((key, length old) ∷ after) ∙ omega (arith, length-append before after)

    named : AllByRecursion (λ e. e.1 < length old) old → names_of items new ≡ names_of items old ++ items key ∷ []
    unfolding names_of
    named below =
        ap (first_names items new) longer
        ∙ ap (λ names. names ++ name_at items new (length old) ∷ []) (same_before old new (length old) (λ at less. other_name items key (length old) before after at (grind (arith, nat_tests, less))))
        ∙ ap (λ name. names_of items old ++ name ∷ []) (last_name items key (length old) before after below)

    numbered_push : IsNumbered items old → number_of (names_of items old) (items key) ≡ None → IsNumbered items new
    numbered_push n none =
        let absent : lookup (is items key (length old) (items key)) old ≡ None = n.found (items key) ∙ none in
        record {
          below = subst (λ l. AllByRecursion (λ e. e.1 < l) new) (omega (arith, longer)) (lower items key (length old) before after (length old) n.below (omega arith));
          found = λ name.
              found_between items key (length old) before after name absent
              ∙ ap (cond (bytes_eq name (items key)) (Some (length old))) (n.found name)
              ∙ ap (λ l. cond (bytes_eq name (items key)) (Some l) (number_of (names_of items old) name)) (sym (length-names_of old))
              ∙ number_push (names_of items old) (items key) name none
              ∙ ap (λ names. number_of names name) (sym (named n.below));
          distinct = subst AreDistinct (sym (named n.below)) (distinct_push (names_of items old) (items key) n.distinct (differs (names_of items old) (items key) none));
        }

  -- a new name that is put at the next place goes last
  pub numbered : (es new : List (K × ℕ)) (key : K) (place : ℕ) → IsNumbered items es → number_of (names_of items es) (items key) ≡ None → place ≡ length es
      → new ≡ insert_entry (λ a b. slice_cmp nat_cmp (items a) (items b)) es key place → (names_of items new ≡ names_of items es ++ items key ∷ []) × IsNumbered items new
  numbered es new key place n none next is =
      let p = put items key (length es) es (n.found (items key) ∙ none) in
      let start = subst (λ es. IsNumbered items es × (number_of (names_of items es) (items key) ≡ None)) p.old_is (n, none) in
      let at : new ≡ p.before ++ (key, length (p.before ++ p.after)) ∷ p.after =
      is ∙ ap (insert_entry (λ a b. slice_cmp nat_cmp (items a) (items b)) es key) next ∙ p.new_is ∙ ap (λ es. p.before ++ (key, length es) ∷ p.after) p.old_is in
      (ap (names_of items) at ∙ named key p.before p.after start.0.below ∙ ap (λ es. names_of items es ++ items key ∷ []) (sym p.old_is), subst (IsNumbered items) (sym at) (numbered_push key p.before p.after start.0 start.1))

  pub nothing : IsNumbered items []
  unfolding names_of IsDistinct
  nothing = record { below = tt; found = λ name. refl; distinct = tt }

  -- a search by the order of names finds what a search by their bytes does
  pub by_bytes : (name : List ℕ) (es : List (K × ℕ)) → lookup (λ k. is_eq (slice_cmp nat_cmp name (items k))) es ≡ lookup (λ k. bytes_eq name (items k)) es
  by_bytes name [] = refl
  by_bytes name (e ∷ es) = ap (λ b. cond b (Some e.1) (lookup (λ k. is_eq (slice_cmp nat_cmp name (items k))) es)) (is_eq-slice_cmp name (items e.0)) ∙ ap (cond (bytes_eq name (items e.0)) (Some e.1)) (by_bytes name es)
