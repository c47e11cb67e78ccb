-- What the line of each tag declares is in its range and printable.
use Rattle.std.proofs.Common.{◌≡◌, ℕ, List, Option, Some, None, Ok, Err, refl, ap, if◌then◌else◌}
use Rattle.std.specs.Prelude.{◌==◌}
use Rattle.gx_table.specs.declared.fault.FaultName.{FaultName}
use Rattle.gx_table.specs.declared.fault.FaultName.TheVariants.{Tag as TagName}
use Rattle.gx_form.specs.Form.{Outcome, and_then, pure}
use Rattle.gx_shapes.specs.declared.figure.Figure.{Figure}
use Rattle.gx_shapes.specs.declared.kind.SolidKind.{SolidKind}
use Rattle.gx_shapes.specs.Accepted.{IsFigure, IsSolid}
use Rattle.gx_shapes.specs.Solid.{whole_fault}
use Rattle.gx_shapes.specs.Figure.{figure_in}
use Rattle.gx_shapes.proofs.Given.{Gives, pure_gives}
use Rattle.gx_decl.specs.declared.declaration.Declaration.{Declaration}
use Rattle.gx_decl.specs.declared.declaration.Declaration.TheVariants as declaration
use Rattle.gx_decl.specs.declared.tag.Tag.{Tag}
use Rattle.gx_decl.specs.declared.tag.Tag.TheVariants as of_tag
use Rattle.gx_decl.specs.Words as words
use Rattle.gx_decl.specs.Words.{Words, Reader}
use Rattle.gx_decl.specs.Decl.{tags, tag_of, tag, after_tag, unread, answer_of}
use Rattle.gx_decl.specs.Lines as lines
use Rattle.gx_decl.specs.Solids as solids
use Rattle.gx_decl.specs.Solids.{of_words}
use Rattle.gx_decl.specs.Placements as placements
use Rattle.gx_decl.specs.Turns as turns
use Rattle.gx_canon.specs.Printable.{IsNameWord, IsKept, IsLowestFraction, HasLowestScales}
use Rattle.gx_canon.specs.Laws.{Kept}
use Rattle.gx_canon.proofs.Forms.{Anything}
use Rattle.gx_canon.proofs.Ranged.{name_gives, param_name_gives, figure_gives, single_gives, repl_gives, place_param_gives, rotm_gives, ray_gives}
use Rattle.gx_canon.proofs.Kept.{IsReading, Keeps, then_keeps, pure_keeps, choice_keeps, name_keeps, param_name_keeps, row_keeps, end_keeps, left_keeps, expression_keeps, figure_keeps}

-- ---- parameters, solids and volumes

name_word_keeps : Keeps words.name IsNameWord
name_word_keeps = record { kept = λ s w t i e. let read = name_keeps.kept s w t i e in (record { named = name_gives.given s w t e; word = read.0 }, read.1) }

-- what is known by either way
both : {A : Type 0} (p : Reader A) (P Q : A → Type 0) → Keeps p P → Gives p Q → Keeps p (λ a. P a × Q a)
both p P Q h k = record { kept = λ s a t i e. let read = h.kept s a t i e in ((read.0, k.given s a t e), read.1) }

param_keeps : Keeps lines.param IsKept
param_keeps =
    then_keeps words.param_name _ _ IsKept (both words.param_name Anything _ param_name_keeps param_name_gives) (λ n hn.
    then_keeps words.expression _ (λ v. IsLowestFraction v.number) IsKept expression_keeps (λ v low.
    then_keeps words.end _ Anything IsKept end_keeps (λ _ _. pure_keeps (declaration.Param n v) IsKept (hn.1, low))))

kind_keeps : Keeps solids.kind Anything
kind_keeps = then_keeps _ _ Anything Anything (row_keeps solids.kinds _) (λ n _. pure_keeps (solids.kind_of n) Anything tt)

abbrev IsFigureKept : Figure → Type 0
IsFigureKept f = HasLowestScales f × IsFigure f

figure_word_keeps : (k : SolidKind) → Keeps (figure_in of_words k) IsFigureKept
figure_word_keeps k = both (figure_in of_words k) HasLowestScales IsFigure (figure_keeps k) (figure_gives k)

abbrev IsSolidKept : Figure → Type 0
IsSolidKept f = HasLowestScales f × IsSolid f

made_by : (f : Figure) (o : Option FaultName) → whole_fault f ≡ o → IsFigureKept f → Keeps (solids.unless_fault f o) IsSolidKept
made_by f None none is = pure_keeps f IsSolidKept (is.0, record { values = is.1; whole = none })
made_by f (Some fault) none is = record { kept = λ s a t i e. absurd cc }

solid_keeps : Keeps solids.solid IsKept
solid_keeps =
    then_keeps words.name _ IsNameWord IsKept name_word_keeps (λ n hn.
    then_keeps solids.kind _ Anything IsKept kind_keeps (λ k _.
    then_keeps (figure_in of_words k) _ IsFigureKept IsKept (figure_word_keeps k) (λ f hf.
    then_keeps words.end _ Anything IsKept end_keeps (λ _ _.
    then_keeps (solids.made f) _ IsSolidKept IsKept (made_by f (whole_fault f) refl hf) (λ s hs. pure_keeps (declaration.Solid n s) IsKept ((hn.named, hs.1), hs.0))))))

of_name_keeps : (n : List ℕ) → IsNameWord n → Keeps (solids.of_name n) IsKept
of_name_keeps n hn =
    then_keeps words.name _ IsNameWord IsKept name_word_keeps (λ s hs.
    then_keeps words.name _ IsNameWord IsKept name_word_keeps (λ m hm.
    then_keeps words.end _ Anything IsKept end_keeps (λ _ _. pure_keeps (declaration.Named n s m) IsKept ((hn.named, hs.named, hm.named), (hn.word, hm.word)))))

of_kind_keeps : (n : List ℕ) → IsNameWord n → Keeps (solids.of_kind n) IsKept
of_kind_keeps n hn =
    then_keeps solids.kind _ Anything IsKept kind_keeps (λ k _.
    then_keeps (figure_in of_words k) _ IsFigureKept IsKept (figure_word_keeps k) (λ f hf.
    then_keeps words.name _ IsNameWord IsKept name_word_keeps (λ m hm.
    then_keeps words.end _ Anything IsKept end_keeps (λ _ _.
    then_keeps (solids.made f) _ IsSolidKept IsKept (made_by f (whole_fault f) refl hf) (λ s hs.
    pure_keeps (declaration.Volume n s m) IsKept ((hn.named, hs.1, hm.named), (hn.word, hs.0, hm.word)))))))

volume_keeps : Keeps solids.volume IsKept
volume_keeps =
    then_keeps words.name _ IsNameWord IsKept name_word_keeps (λ n hn.
    then_keeps words.left (λ count. if count == 2 then solids.of_name n else solids.of_kind n) Anything IsKept left_keeps
    (λ count _. choice_keeps (count == 2) (solids.of_name n) (solids.of_kind n) IsKept (of_name_keeps n hn) (of_kind_keeps n hn)))

-- ---- any line

-- what the form declares has P
record Declares {A : Type 0} (p : Reader A) (P : A → Type 0) : Type 0 where
  declared : (s : Words) (a : A) (t : Words) → IsReading s → p s ≡ Ok (a, t) → P a

by_keeps : {A : Type 0} (p : Reader A) (P : A → Type 0) → Keeps p P → Declares p P
by_keeps p P h = record { declared = λ s a t i e. (h.kept s a t i e).0 }

by_gives : {A : Type 0} (p : Reader A) (P : A → Type 0) → Gives p P → Declares p P
by_gives p P h = record { declared = λ s a t i e. h.given s a t e }

after_tag_declares : (t : Tag) → Declares (after_tag t) IsKept
after_tag_declares of_tag.Param = by_keeps lines.param IsKept param_keeps
after_tag_declares of_tag.Solid = by_keeps solids.solid IsKept solid_keeps
after_tag_declares of_tag.Volume = by_keeps solids.volume IsKept volume_keeps
after_tag_declares of_tag.Place = by_gives placements.place IsKept single_gives
after_tag_declares of_tag.Replica = by_gives placements.repl IsKept repl_gives
after_tag_declares of_tag.Row = by_gives placements.place_param IsKept place_param_gives
after_tag_declares of_tag.Turn = by_gives turns.rotm IsKept rotm_gives
after_tag_declares of_tag.Ray = by_gives lines.ray IsKept ray_gives
after_tag_declares of_tag.Passed = by_gives (pure declaration.Passed) IsKept (pure_gives declaration.Passed IsKept (tt, tt))

answered : (o : Outcome Words Declaration) (d : Declaration) → answer_of o ≡ Ok d → (t : Words) × (o ≡ Ok (d, t))
answered (Ok p) d e = (p.1, let same : p.0 ≡ d = cc in ap (λ (x : Declaration). Ok (x, p.1)) same)
answered (Err fault) d e = absurd cc

tag_keeps : Keeps tag Anything
tag_keeps = then_keeps _ _ Anything Anything (row_keeps tags TagName) (λ n _. pure_keeps (tag_of n) Anything tt)

onward : (s : Words) (o : Outcome Words Tag) → IsReading s → tag s ≡ o → (d : Declaration) → answer_of (and_then o after_tag) ≡ Ok d → IsKept d
onward s (Err fault) i e d h = absurd cc
onward s (Ok r) i e d h =
    let read = answered (after_tag r.0 r.1) d h in
    (after_tag_declares r.0).declared r.1 d read.0 (tag_keeps.kept s r.0 r.1 i e).1 read.1

pub kept : Kept
kept params grid words d low are e = let start = unread params grid words in onward start (tag start) (record { rest = are; params = low }) refl d e
