-- Verdicts given one after another: what was given so far, and what is left.
use Rattle.std.proofs.Common.{◌≡◌, ℕ, ◌^◌, ◌≤◌, Bool, List, [], ◌∷◌, ◌++◌, length, Option, Ok, Err, All, IsTrue, refl, sym, ap, ◌∙◌, subst, arith, append_assoc, append-nil, length-append, cond, not}
use Rattle.std.specs.Prelude.{flat_map}
use Rattle.std.proofs.lemmas.List.Concat.{flat_map-append}
use Rattle.std.proofs.lemmas.List.Elements.{filter-append}
use Rattle.std.proofs.lemmas.List.Sums.{sum_by-append, count_by-le-length}
use Rattle.gx_algebra.proofs.Lists.{All-append_parts}
use Rattle.gx_io.specs.Bytes.{with_after, AppendsFront}
use Rattle.gx_io.proofs.Joined.{with_after-twice, with_after-nothing, front-of_first, front-of_second, front-nothing}
use Rattle.gx_check.specs.declared.counts.Counts.{Counts}
use Rattle.gx_check.specs.declared.error.CheckError.{CheckError}
use Rattle.gx_check.specs.declared.error.CheckError.TheVariants.{NoMemory}
use Rattle.gx_check.specs.declared.selection.Selection.{Selection}
use Rattle.gx_check.specs.declared.selection.Selection.TheVariants as selection
use Rattle.gx_check.specs.declared.verdict.Verdict.{Verdict}
use Rattle.gx_check.specs.Counting.{plus, IsFew}
use Rattle.gx_check.specs.Gives.{IsCheckCause, Gives}
use Rattle.gx_check.specs.Verdicts.{refutes, is_of_daughter, chosen, counts_of}

chosen-append : (s : Selection) (a b : List Verdict) → chosen s (a ++ b) ≡ chosen s a ++ chosen s b
chosen-append selection.All a b = refl
chosen-append selection.Refuting a b = filter-append refutes a b

pub counts_of-append : (a b : List Verdict) → counts_of (a ++ b) ≡ plus (counts_of a) (counts_of b)
counts_of-append a b =
    let daughters = sum_by-append (λ v. cond (is_of_daughter v) 1 0) a b in
    let pairs = sum_by-append (λ v. cond (not (is_of_daughter v)) 1 0) a b in
    let refuted = sum_by-append (λ v. cond (refutes v) 1 0) a b in
    λ i. record { daughters = daughters i; pairs = pairs i; refuted = refuted i }

pub few_counts : (a : List Verdict) → length a ≤ 2 ^ 62 → IsFew (counts_of a)
few_counts a few = record {
  daughters = omega (arith, count_by-le-length is_of_daughter a);
  pairs = omega (arith, count_by-le-length (λ v. not (is_of_daughter v)) a);
  refuted = omega (arith, count_by-le-length refutes a);
}

-- what stands for the selected ones
told : {A : Type 0} → (Verdict → List A) → Selection → List Verdict → List A
told items s xs = flat_map items (chosen s xs)

told-append : {A : Type 0} (items : Verdict → List A) (s : Selection) (a b : List Verdict) → told items s (a ++ b) ≡ told items s a ++ told items s b
unfolding told
told-append items s a b = ap (flat_map items) (chosen-append s a b) ∙ flat_map-append items (chosen s a) (chosen s b)

-- Of the whole all but the rest was given, and counted.
pub record Going {S A : Type 0} (held : S → Option (List A)) (items : S → Verdict → List A) (takes : S → Verdict → Bool) (faults : S → ℕ) (before now : S) (s : Selection) (whole rest : List Verdict) (counts : Counts) : Type 0 where
  pub done : List Verdict
  pub parts : done ++ rest ≡ whole
  pub appended : held now ≡ with_after (held before) (flat_map (items before) (chosen s done))
  pub same_items : items now ≡ items before
  pub same_takes : takes now ≡ takes before
  pub kept : faults now ≡ faults before
  pub counted : counts ≡ counts_of done

module _ {S A : Type 0} {held : S → Option (List A)} {items : S → Verdict → List A} {takes : S → Verdict → Bool} {faults : S → ℕ} where
  pub start : (s : Selection) (before : S) (whole rest : List Verdict) (counts : Counts) → rest ≡ whole → counts ≡ counts_of [] → Going held items takes faults before before s whole rest counts
  start s before whole rest counts e f = record {
    done = [];
    parts = e;
    appended = sym (with_after-nothing (held before)) ∙ ap (λ xs. with_after (held before) (flat_map (items before) xs)) (sym (nothing s));
    same_items = refl;
    same_takes = refl;
    kept = refl;
    counted = f;
  }
    where
      nothing : (s : Selection) → chosen s [] ≡ []
      nothing selection.All = refl
      nothing selection.Refuting = refl

  -- want of memory before the first
  pub given_nothing : {T : Type 0} (before : S) (given : List Verdict) → Gives {T = T} held items takes faults before before given (Err NoMemory)
  given_nothing before given = record {
    appended = record { all = tt; front = front-nothing (held before) (flat_map (items before) given) };
    same_items = refl;
    same_takes = refl;
    kept = tt;
    cause = refl;
  }

  module _ {before now : S} {s : Selection} {whole left : List Verdict} {counts : Counts} (going : Going held items takes faults before now s whole left counts) where
    few : length whole ≤ 2 ^ 62 → IsFew counts
    few le = subst IsFew (sym going.counted) (few_counts going.done (omega (arith, length-append going.done left, ap length going.parts)))

    pub ended : {T : Type 0} (t : T) → left ≡ [] → Gives held items takes faults before now (chosen s whole) (Ok t) × (counts ≡ counts_of whole)
    ended t none =
        let all : going.done ≡ whole = sym (append-nil going.done) ∙ ap (λ xs. going.done ++ xs) (sym none) ∙ going.parts in (
          record {
            appended = record { all = going.appended ∙ ap (λ xs. with_after (held before) (flat_map (items before) (chosen s xs))) all; front = tt };
            same_items = going.same_items;
            same_takes = going.same_takes;
            kept = going.kept;
            cause = tt;
          },
          going.counted ∙ ap counts_of all,
        )

    -- the next ones
    module _ (a rest : List Verdict) (split : left ≡ a ++ rest) where
      parts : (going.done ++ a) ++ rest ≡ whole
      parts = append_assoc going.done a rest ∙ ap (λ xs. going.done ++ xs) (sym split) ∙ going.parts

      pub few_more : (more : Counts) → more ≡ counts_of a → length whole ≤ 2 ^ 62 → IsFew counts × IsFew more
      few_more more e le = (few le, subst IsFew (sym e) (few_counts a (omega (arith, ap length parts, length-append (going.done ++ a) rest, length-append going.done a))))

      pub takes_more : All (λ v. IsTrue (takes before v)) whole → All (λ v. IsTrue (takes now v)) a
      takes_more all =
          subst (λ t. All (λ v. IsTrue (t v)) a) (sym going.same_takes)
          (All-append_parts (λ v. IsTrue (takes before v)) going.done a (All-append_parts (λ v. IsTrue (takes before v)) (going.done ++ a) rest (subst (All (λ v. IsTrue (takes before v))) (sym parts) all)).0).1

      whole_is : (told (items before) s going.done ++ told (items before) s a) ++ told (items before) s rest ≡ told (items before) s whole
      whole_is =
          ap (λ xs. xs ++ told (items before) s rest) (sym (told-append (items before) s going.done a))
          ∙ sym (told-append (items before) s (going.done ++ a) rest)
          ∙ ap (told (items before) s) parts

      pub more : {T : Type 0} {t : T} (next : S) (counts_more counts_next : Counts) → Gives held items takes faults now next (chosen s a) (Ok t) → counts_more ≡ counts_of a → counts_next ≡ plus counts counts_more → Going held items takes faults before next s whole rest counts_next
      unfolding told
      more next counts_more counts_next gives e f = record {
        done = going.done ++ a;
        parts = parts;
        appended =
            gives.appended.all
            ∙ (λ i. with_after (going.appended i) (flat_map (going.same_items i) (chosen s a)))
            ∙ with_after-twice (held before) (told (items before) s going.done) (told (items before) s a)
            ∙ ap (with_after (held before)) (sym (told-append (items before) s going.done a));
        same_items = gives.same_items ∙ going.same_items;
        same_takes = gives.same_takes ∙ going.same_takes;
        kept = gives.kept ∙ going.kept;
        counted = f ∙ (λ i. plus (going.counted i) (e i)) ∙ sym (counts_of-append going.done a);
      }

      front : (next : S) → AppendsFront (held now) (held next) (told (items now) s a) → AppendsFront (held before) (held next) (told (items before) s whole)
      unfolding told
      front next is =
          let done = told (items before) s going.done in
          let there = subst (λ o. AppendsFront o (held next) (told (items before) s a)) going.appended (subst (λ t. AppendsFront (held now) (held next) (told t s a)) going.same_items is) in
          let two = front-of_second (held before) (held next) done (told (items before) s a) there in
          let all = front-of_first (held before) (held next) (done ++ told (items before) s a) (told (items before) s rest) two in
          subst (AppendsFront (held before) (held next)) whole_is all

      pub stopped : {T R : Type 0} (next : S) (error : CheckError) → Gives {T = T} held items takes faults now next (chosen s a) (Err error) → Gives {T = R} held items takes faults before next (chosen s whole) (Err error)
      unfolding told
      stopped next error gives = record {
        appended = record { all = tt; front = front next gives.appended.front };
        same_items = gives.same_items ∙ going.same_items;
        same_takes = gives.same_takes ∙ going.same_takes;
        kept = tt;
        cause = subst (λ n. IsCheckCause n (faults next) error) going.kept gives.cause;
      }

  -- ---- one verdict
  module _ {T : Type 0} (t : T) (s : Selection) (v : Verdict) (before : S) where
    pub given_none : chosen s (v ∷ []) ≡ [] → Gives held items takes faults before before (chosen s (v ∷ [])) (Ok t)
    given_none none = record {
      appended = record { all = sym (with_after-nothing (held before)) ∙ ap (λ xs. with_after (held before) (flat_map (items before) xs)) (sym none); front = tt };
      same_items = refl;
      same_takes = refl;
      kept = refl;
      cause = tt;
    }

    pub given_one : (now : S) → chosen s (v ∷ []) ≡ v ∷ [] → held now ≡ with_after (held before) (items before v) → items now ≡ items before → takes now ≡ takes before → faults now ≡ faults before
        → Gives held items takes faults before now (chosen s (v ∷ [])) (Ok t)
    given_one now one appended same_items same_takes kept = record {
      appended = record { all = appended ∙ ap (with_after (held before)) (sym (append-nil (items before v))) ∙ ap (λ xs. with_after (held before) (flat_map (items before) xs)) (sym one); front = tt };
      same_items = same_items;
      same_takes = same_takes;
      kept = kept;
      cause = tt;
    }
