-- Comments in words and lines.
use Rattle.std.proofs.Common.{◌≡◌, ℕ, Bool, true, false, cond, List, [], ◌∷◌, ◌++◌, refl, ap}
use Rattle.std.specs.Prelude.{◌==◌}
use Rattle.std.proofs.Math.Bool.{and-false}
use Rattle.std.proofs.lemmas.Bool.{or_parts}
use Rattle.gx_text.specs.Lines.{begins_comment, before_comment}
use Rattle.gx_text.specs.PartialLine.{has_comment}

pub before_bare : (line : List ℕ) → has_comment line ≡ false → before_comment line ≡ line
before_bare [] h = refl
before_bare (b ∷ rest) h =
    let parts = or_parts (begins_comment (b ∷ rest)) (has_comment rest) h in
    rw parts.0 (ap (λ (r : List ℕ). b ∷ r) (before_bare rest parts.1))

kept_front : (b : ℕ) (rest : List ℕ) → begins_comment (b ∷ rest) ≡ false → begins_comment (b ∷ before_comment rest) ≡ false
kept_front b [] h = refl
kept_front b (c ∷ rest) h = elim (begins_comment (c ∷ rest)) as (λ t. begins_comment (b ∷ cond t [] (c ∷ before_comment rest)) ≡ false) [ true ↦ refl | false ↦ h ]

clear_by : (b : ℕ) (rest : List ℕ) (t : Bool) → begins_comment (b ∷ rest) ≡ t → has_comment (before_comment rest) ≡ false → has_comment (cond t [] (b ∷ before_comment rest)) ≡ false
clear_by b rest true e h = refl
clear_by b rest false e h = rw (kept_front b rest e) h

-- before a comment there is none
pub before_clear : (line : List ℕ) → has_comment (before_comment line) ≡ false
before_clear [] = refl
before_clear (b ∷ rest) = clear_by b rest (begins_comment (b ∷ rest)) refl (before_clear rest)

blank_bare : (rest : List ℕ) → has_comment rest ≡ false → has_comment (32 ∷ rest) ≡ false
blank_bare [] e = refl
blank_bare (c ∷ rest) e = e

-- a blank doesn't begin one
pub bare_after : (w rest : List ℕ) → has_comment w ≡ false → has_comment rest ≡ false → has_comment (w ++ 32 ∷ rest) ≡ false
bare_after [] rest h e = blank_bare rest e
bare_after (a ∷ []) rest h e = rw (and-false (a == 47)) (blank_bare rest e)
bare_after (a ∷ c ∷ w) rest h e =
    let parts = or_parts (begins_comment (a ∷ c ∷ w)) (has_comment (c ∷ w)) h in
    rw parts.0 (bare_after (c ∷ w) rest parts.1 e)
