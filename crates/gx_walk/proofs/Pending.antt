-- What is still to be given of a volume's rows, one hit after another.
use Rattle.std.proofs.Common.{◌≡◌, ℕ, ◌+◌, ◌-◌, ◌<◌, ◌≤◌, List, [], ◌∷◌, ◌++◌, length, length-append, get_or, take, drop, map, Option, Result, IsErr, refl, sym, ap, ◌∙◌, subst, add-one, drop-cons, arith}
use Rattle.std.specs.Prelude.{sum_by}
use Rattle.std.proofs.Math.Seq.{take-append_seam}
use Rattle.std.proofs.lemmas.List.{length-map}
use Rattle.std.proofs.lemmas.List.Sums.{sum_by-cons}
use Rattle.std.proofs.lemmas.Grind.{common_steps}
use Rattle.gx_num.specs.Ray.{RayParameter}
use Rattle.gx_fraction.specs.Fraction.{parameter_of}
use Rattle.gx_io.specs.Bytes.{with_after, AppendsFront, Writes}
use Rattle.gx_io.specs.declared.fault.Failed.{Failed}
use Rattle.gx_path.specs.declared.row.Row.{Row as Given}
use Rattle.gx_path.specs.Report.{Row}
use Rattle.gx_partition.specs.Walk.{Hit}
use Rattle.gx_walk.specs.declared.met.Frame.{Frame}
use Rattle.gx_walk.specs.declared.met.Met.{Met}
use Rattle.gx_walk.specs.Hits.{Count, hit_of, cost_of}
use Rattle.gx_walk.specs.Giving.{between, within, rows_from, rows_of, items_below}
use Rattle.gx_walk.proofs.Items.{items-append, items-within, writes-front, writes-on}

-- what is written of the rest is written of the whole
pub record Owes {X : Type 0} (old mid : Option (List X)) (whole rest : List X) : Type 0 where
  pub each : (new : Option (List X)) (result : Result (Unit {0}) Failed) → Writes mid new rest result → Writes old new whole result

drop-next : (mets : List Met) (i : ℕ) (m : Met) → m ≡ get_or mets i m → i < length mets → drop i mets ≡ m ∷ drop (i + 1) mets
drop-next mets i m is h =
    let at : drop i mets ≡ get_or mets i m ∷ drop (i + 1) mets = rw (add-one, drop-cons mets i m) refl in
    at ∙ ap (λ x. x ∷ drop (i + 1) mets) (sym is)

drop-all : (mets : List Met) (i : ℕ) → length mets ≤ i → drop i mets ≡ []
drop-all mets i h = grind (arith, common_steps, h)

-- one ordinal more, and off again
pub popped : (path : List ℕ) (k : ℕ) → take (length (path ++ k ∷ []) - 1) (path ++ k ∷ []) ≡ path
popped path k =
    let n : length (path ++ k ∷ []) - 1 ≡ length path = simp length-append (omega arith) in
    rw n (take-append_seam path (k ∷ []))

module _ {X : Type 0} (items : Given → List X) (path : List ℕ) (rows : Hit Frame → List Row) (to : RayParameter) where
  abbrev pub pending : RayParameter → List Met → List X
  pending s mets = items_below items path (rows_from rows s to (map hit_of mets))

  abbrev gap_before : RayParameter → Met → List X
  gap_before s m = items_below items path (between s (parameter_of m.span.from))

  abbrev rows_in : Met → List X
  rows_in m = items_below items (path ++ m.ordinal ∷ []) (rows (hit_of m))

  pending-next : (s : RayParameter) (mets : List Met) (i : ℕ) (m : Met) → m ≡ get_or mets i m → i < length mets
      → pending s (drop i mets) ≡ gap_before s m ++ (rows_in m ++ pending (parameter_of m.span.to) (drop (i + 1) mets))
  pending-next s mets i m is h =
      let later = rows_from rows (parameter_of m.span.to) to (map hit_of (drop (i + 1) mets)) in
      let inner = rows (hit_of m) in
      ap (pending s) (drop-next mets i m is h)
      ∙ items-append items path (between s (parameter_of m.span.from)) (map (within m.ordinal) inner ++ later)
      ∙ ap (λ l. gap_before s m ++ l) (items-append items path (map (within m.ordinal) inner) later ∙ ap (λ l. l ++ items_below items path later) (items-within items path m.ordinal inner))

  module _ (old mid : Option (List X)) (whole : List X) (s : RayParameter) (mets : List Met) (i : ℕ) (owes : Owes old mid whole (pending s (drop i mets))) where
    -- no hit is left
    pub written-last : length mets ≤ i → (new : Option (List X)) (result : Result (Unit {0}) Failed) (given : List X) → given ≡ items_below items path (between s to) → Writes mid new given result → Writes old new whole result
    written-last h new result given e w = owes.each new result (subst (λ l. Writes mid new l result) (e ∙ ap (pending s) (sym (drop-all mets i h))) w)

    module _ (m : Met) (is : m ≡ get_or mets i m) (h : i < length mets) where
      parts : (new : Option (List X)) (result : Result (Unit {0}) Failed) → Writes mid new (gap_before s m ++ (rows_in m ++ pending (parameter_of m.span.to) (drop (i + 1) mets))) result → Writes old new whole result
      parts new result w = owes.each new result (subst (λ l. Writes mid new l result) (sym (pending-next s mets i m is h)) w)

      -- the row before the hit stopped
      pub stopped-before : (new : Option (List X)) (result : Result (Unit {0}) Failed) (given : List X) → IsErr result → given ≡ gap_before s m → AppendsFront mid new given → Writes old new whole result
      stopped-before new result given is_err e front =
          parts new result (writes-front mid new (gap_before s m) (rows_in m ++ pending (parameter_of m.span.to) (drop (i + 1) mets)) result is_err (subst (AppendsFront mid new) e front))

      module _ (one : Option (List X)) (given : List X) (e : given ≡ gap_before s m) (gap : one ≡ with_after mid given) where
        after_gap : (new : Option (List X)) (result : Result (Unit {0}) Failed) → Writes one new (rows_in m ++ pending (parameter_of m.span.to) (drop (i + 1) mets)) result → Writes old new whole result
        after_gap new result w =
            parts new result (writes-on mid one new (gap_before s m) (rows_in m ++ pending (parameter_of m.span.to) (drop (i + 1) mets)) result (gap ∙ ap (with_after mid) e) w)

        -- the rows in the daughter stopped
        pub stopped-within : (new : Option (List X)) (result : Result (Unit {0}) Failed) (inner : List X) → IsErr result → inner ≡ rows_in m → AppendsFront one new inner → Writes old new whole result
        stopped-within new result inner is_err f front =
            after_gap new result (writes-front one new (rows_in m) (pending (parameter_of m.span.to) (drop (i + 1) mets)) result is_err (subst (AppendsFront one new) f front))

        -- both were written
        pub owes-next : (two : Option (List X)) (inner : List X) → inner ≡ rows_in m → two ≡ with_after one inner → Owes old two whole (pending (parameter_of m.span.to) (drop (i + 1) mets))
        owes-next two inner f written = record {
          each = λ new result w. after_gap new result (writes-on one two new (rows_in m) (pending (parameter_of m.span.to) (drop (i + 1) mets)) result (written ∙ ap (with_after one) f) w);
        }

-- a volume of which all is still to be given, where a level is left to look into
module _ (hits : Frame → List (Hit Frame)) (k n : ℕ) (level : n + 1 ≡ k) (frame : Frame) (mets : List Met) (same : map hit_of mets ≡ hits frame) where
  pub owes-all : {X : Type 0} (items : Given → List X) (path : List ℕ) (from to : RayParameter) (old : Option (List X))
      → Owes old old (items_below items path (rows_of hits k from to frame)) (pending items path (λ h. rows_of hits n h.from h.to h.daughter) to from mets)
  owes-all items path from to old =
      let is : pending items path (λ h. rows_of hits n h.from h.to h.daughter) to from mets ≡ items_below items path (rows_of hits k from to frame) =
      ap (λ l. items_below items path (rows_from (λ h. rows_of hits n h.from h.to h.daughter) from to l)) same
      ∙ ap (λ j. items_below items path (rows_of hits j from to frame)) (sym (add-one n) ∙ level) in
      record { each = λ new result w. subst (λ l. Writes old new l result) is w }

  pub cost-all : (count : Count) (from to : RayParameter) → count frame from to + sum_by (λ h. cost_of count hits n h.from h.to h.daughter) (map hit_of mets) ≡ cost_of count hits k from to frame
  cost-all count from to = ap (λ l. count frame from to + sum_by (λ h. cost_of count hits n h.from h.to h.daughter) l) same ∙ ap (λ j. cost_of count hits j from to frame) (sym (add-one n) ∙ level)

  pub as-many : length mets ≡ length (hits frame)
  as-many = sym (length-map mets hit_of) ∙ ap length same

-- the cost of one hit more
pub sum-next : (f : Hit Frame → ℕ) (mets : List Met) (i : ℕ) (m : Met) → m ≡ get_or mets i m → i < length mets
    → sum_by f (map hit_of (drop i mets)) ≡ f (hit_of m) + sum_by f (map hit_of (drop (i + 1) mets))
sum-next f mets i m is h = ap (λ l. sum_by f (map hit_of l)) (drop-next mets i m is h) ∙ sum_by-cons f (hit_of m) (map hit_of (drop (i + 1) mets))
