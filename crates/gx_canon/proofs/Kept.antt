-- What a line declares is printable, where its words are words and its parameters are in lowest terms.
use Rattle.std.proofs.Common.{◌≡◌, ℕ, zero, suc, ◌+◌, ℤ, pos, unsigned_abs, Bool, true, false, List, [], ◌∷◌, ◌++◌, length, All, Option, Some, None, Result, Ok, Err, refl, ap, subst, if◌then◌else◌}
use Rattle.std.specs.Prelude.{int_le, not, ◌||◌, ◌==◌}
use Rattle.std.specs.Ordering.{int_eq}
use Rattle.std.proofs.lemmas.List.Elements.{All-head, All-tail}
use Rattle.gx_num.specs.declared.vector.V3.{V3}
use Rattle.gx_table.specs.declared.fault.FaultName.{FaultName}
use Rattle.gx_table.specs.declared.fault.FaultName.TheVariants.{Words as WordsName}
use Rattle.gx_table.specs.Table.{TableEntry, number_in}
use Rattle.gx_text.specs.Names.{is_name_of}
use Rattle.gx_expr.specs.Eval.{value_of_word}
use Rattle.gx_expr.specs.Convert as convert
use Rattle.gx_form.specs.declared.fault.Fault.{Fault}
use Rattle.gx_form.specs.Form.{Outcome, and_then, ◌>>=◌, pure, collect_from, collect}
use Rattle.gx_shapes.specs.declared.section.Section.{Section}
use Rattle.gx_shapes.specs.declared.figure.Figure.TheVariants as figure
use Rattle.gx_shapes.specs.declared.kind.SolidKind.{SolidKind}
use Rattle.gx_shapes.specs.declared.kind.SolidKind.TheVariants as kind
use Rattle.gx_shapes.specs.Figure as spec
use Rattle.gx_shapes.specs.Source.{Source, refuse as refuse_value}
use Rattle.gx_shapes.specs.Extrusion.{are_whole}
use Rattle.gx_decl.specs.Words as words
use Rattle.gx_decl.specs.Words.{Words, Reader, judged, named, refuse}
use Rattle.gx_decl.specs.Solids.{of_words, is_scale, as_scale}
use Rattle.gx_decl.specs.Solids as solids
use Rattle.gx_canon.specs.Text.{IsWord}
use Rattle.gx_canon.specs.Printable.{IsLowestFraction, AreLowest, IsLowestScale, HasLowestScales}
use Rattle.gx_canon.proofs.Forms.{Anything}
use Rattle.gx_canon.proofs.Lowest.{value_lowest}

-- a line of words, whose parameters are in lowest terms
pub record IsReading (s : Words) : Type 0 where
  pub rest : All IsWord s.rest
  pub params : AreLowest s.params

-- what the form reads has P
pub record Keeps {A : Type 0} (p : Reader A) (P : A → Type 0) : Type 0 where
  pub kept : (s : Words) (a : A) (t : Words) → IsReading s → p s ≡ Ok (a, t) → P a × IsReading t

module _ {A : Type 0} where
  abbrev value_or : A → Outcome Words A → A
  value_or d (Ok p) = p.0
  value_or d (Err e) = d

  abbrev state_or : Words → Outcome Words A → Words
  state_or d (Ok p) = p.1
  state_or d (Err e) = d

pub pure_keeps : {A : Type 0} (a : A) (P : A → Type 0) → P a → Keeps (pure a) P
pure_keeps a P h = record { kept = λ s b t i e. (subst P (ap (value_or a) e) h, subst IsReading (ap (state_or s) e) i) }

refuse_keeps : {A : Type 0} (fault : FaultName) (P : A → Type 0) → Keeps (refuse fault) P
refuse_keeps fault P = record { kept = λ s a t i e. absurd cc }

pub choice_keeps : {A : Type 0} (c : Bool) (p q : Reader A) (P : A → Type 0) → Keeps p P → Keeps q P → Keeps (if c then p else q) P
choice_keeps true p q P h k = h
choice_keeps false p q P h k = k

module _ {A B : Type 0} (p : Reader A) (f : A → Reader B) (P : A → Type 0) (Q : B → Type 0) (first : Keeps p P) (second : (a : A) → P a → Keeps (f a) Q) where
  onward : (s : Words) (o : Outcome Words A) → IsReading s → p s ≡ o → (b : B) (t : Words) → and_then o f ≡ Ok (b, t) → Q b × IsReading t
  onward s (Ok r) i e b t h = let one = first.kept s r.0 r.1 i e in (second r.0 one.0).kept r.1 b t one.1 h
  onward s (Err r) i e b t h = absurd cc

  pub then_keeps : Keeps (p >>= f) Q
  then_keeps = record { kept = λ s b t i e. onward s (p s) i refl b t e }

collect_keeps : {X : Type 0} (item : Reader X) → Keeps item Anything → (n : ℕ) (found : List X) → Keeps (collect_from item n found) Anything
unfolding collect_from
collect_keeps item h zero found = pure_keeps found Anything tt
collect_keeps item h (suc n) found = then_keeps item _ Anything Anything h (λ x _. collect_keeps item h n (found ++ x ∷ []))

-- ---- words

word_kept : (s : Words) (left : List (List ℕ)) (w : List ℕ) (t : Words) → All IsWord left → AreLowest s.params → words.word_from s left ≡ Ok (w, t) → IsWord w × IsReading t
word_kept s [] w t h low e = absurd cc
word_kept s (v ∷ rest) w t h low e =
    let next : Words = record s { count = s.count + 1; rest = rest } in
    (subst IsWord (ap (value_or v) e) (All-head IsWord v rest h), subst IsReading (ap (state_or next) e) (record { rest = All-tail IsWord v rest h; params = low }))

word_keeps : Keeps words.word IsWord
word_keeps = record { kept = λ s w t i e. word_kept s s.rest w t i.rest i.params e }

pub name_keeps : Keeps words.name IsWord
name_keeps = then_keeps words.word _ IsWord IsWord word_keeps (λ w h. choice_keeps (is_name_of w) (pure w) _ IsWord (pure_keeps w IsWord h) (refuse_keeps _ IsWord))

pub param_name_keeps : Keeps words.param_name Anything
param_name_keeps = then_keeps words.word _ IsWord Anything word_keeps (λ w _. choice_keeps (words.is_param_name w) (pure w) _ Anything (pure_keeps w Anything tt) (refuse_keeps _ Anything))

known_keeps : (unknown : FaultName) (o : Option ℕ) → Keeps (words.known unknown o) Anything
known_keeps unknown None = refuse_keeps unknown Anything
known_keeps unknown (Some n) = pure_keeps n Anything tt

pub row_keeps : (table : List TableEntry) (unknown : FaultName) → Keeps (words.row_of table unknown) Anything
row_keeps table unknown = then_keeps words.word _ IsWord Anything word_keeps (λ w _. known_keeps unknown (number_in table w))

end_by : (c : Bool) (s t : Words) (u : Unit {0}) (fault : Fault) → IsReading s → (let o : Outcome Words (Unit {0}) = if c then Ok (tt, s) else Err fault in o) ≡ Ok (u, t) → IsReading t
end_by true s t u fault i h = subst IsReading (ap (state_or s) h) i
end_by false s t u fault i h = absurd cc

pub end_keeps : Keeps words.end Anything
end_keeps = record { kept = λ s u t i e. (tt, end_by (length s.rest == 0) s t u (record { place = s.count + 1; name = WordsName }) i e) }

pub left_keeps : Keeps words.left Anything
left_keeps = record { kept = λ s n t i e. (tt, subst IsReading (ap (state_or s) e) i) }

-- ---- values

judged_kept : {A E : Type 0} (to : E → FaultName) (r : Result A E) (P : A → Type 0) → ((a : A) → r ≡ Ok a → P a) → Keeps (judged (named to r)) P
judged_kept to (Ok a) P h = pure_keeps a P (h a refl)
judged_kept to (Err e) P h = refuse_keeps (to e) P

pub expression_keeps : Keeps words.expression (λ v. IsLowestFraction v.number)
expression_keeps =
    then_keeps words.word words.value_of IsWord (λ v. IsLowestFraction v.number) word_keeps
    (λ w _. record { kept = λ s v t i e. (judged_kept words.name_of_expr (value_of_word s.params w) (λ v. IsLowestFraction v.number) (value_lowest s.params i.params w)).kept s v t i e })

steps_keeps : Keeps words.steps Anything
steps_keeps =
    then_keeps words.expression words.steps_of (λ v. IsLowestFraction v.number) Anything expression_keeps
    (λ value _. record { kept = λ s n t i e. (judged_kept words.name_of_step (convert.steps value s.grid) Anything (λ _ _. tt)).kept s n t i e })

whole_keeps : (low high : ℤ) (range : FaultName) → Keeps (words.whole low high range) Anything
whole_keeps low high range =
    then_keeps words.expression (λ value. judged (named (words.name_of_whole range) (convert.count value low high))) (λ v. IsLowestFraction v.number) Anything expression_keeps
    (λ value _. judged_kept (words.name_of_whole range) (convert.count value low high) Anything (λ _ _. tt))

scale_keeps : Keeps solids.scale IsLowestScale
scale_keeps =
    then_keeps words.expression solids.scale_of (λ v. IsLowestFraction v.number) IsLowestScale expression_keeps
    (λ value low. choice_keeps (value.length || value.angle) _ _ IsLowestScale (refuse_keeps _ IsLowestScale)
    (choice_keeps (is_scale (as_scale value.number)) (pure (as_scale value.number)) _ IsLowestScale (pure_keeps (as_scale value.number) IsLowestScale low) (refuse_keeps _ IsLowestScale)))

-- ---- figures

-- what is known of a source's values
record IsSource (values : Source Words) : Type 0 where
  length : Keeps values.length Anything
  whole : (low high : ℤ) (range : FaultName) → Keeps (values.whole low high range) Anything
  scale : Keeps values.scale IsLowestScale

abbrev IsLowestSection : Section → Type 0
IsLowestSection s = IsLowestScale s.scale

abbrev AreLowestSections : Section × Section → Type 0
AreLowestSections ends = IsLowestSection ends.0 × IsLowestSection ends.1

module _ (values : Source Words) (is : IsSource values) where
  tested_keeps : {A : Type 0} (c : Bool) (fault : FaultName) (q : Reader A) (P : A → Type 0) → Keeps q P → Keeps (if c then refuse_value values fault else q) P
  tested_keeps c fault q P h = choice_keeps c (refuse_value values fault) q P (record { kept = λ s a t i e. absurd cc }) h

  half_keeps : Keeps (spec.half values) Anything
  half_keeps = then_keeps values.length _ Anything Anything is.length (λ v _. tested_keeps _ _ (pure v) Anything (pure_keeps v Anything tt))

  width_keeps : Keeps (spec.width values) Anything
  width_keeps = then_keeps values.length _ Anything Anything is.length (λ v _. tested_keeps _ _ (pure v) Anything (pure_keeps v Anything tt))

  second_keeps : (first : ℤ) → Keeps (spec.second_width values first) Anything
  second_keeps first = then_keeps (spec.width values) _ Anything Anything width_keeps (λ v _. tested_keeps _ _ (pure v) Anything (pure_keeps v Anything tt))

  point_keeps : Keeps (spec.point_in values) Anything
  point_keeps =
      then_keeps values.length _ Anything Anything is.length (λ x _.
      then_keeps values.length _ Anything Anything is.length (λ y _. then_keeps values.length _ Anything Anything is.length (λ z _. pure_keeps _ Anything tt)))

  corner_keeps : Keeps (spec.corner_in values) Anything
  corner_keeps = then_keeps values.length _ Anything Anything is.length (λ x _. then_keeps values.length _ Anything Anything is.length (λ y _. pure_keeps _ Anything tt))

  corner_count_keeps : Keeps (spec.corner_count values) Anything
  corner_count_keeps = then_keeps _ _ _ Anything (is.whole _ _ _) (λ n _. tested_keeps _ _ (pure (unsigned_abs n)) Anything (pure_keeps _ Anything tt))

  from_keeps : (corners : List V3) (s : Section) → IsLowestScale s.scale → Keeps (spec.section_from values corners s) IsLowestSection
  from_keeps corners s h =
      tested_keeps (int_le s.scale.num (pos 0)) _ _ IsLowestSection
      (tested_keeps (not (are_whole s.scale corners)) _ _ IsLowestSection (tested_keeps (not (spec.are_near s corners)) _ (pure s) IsLowestSection (pure_keeps s IsLowestSection h)))

  section_keeps : (corners : List V3) (z : ℤ) → Keeps (spec.section_at values corners z) IsLowestSection
  section_keeps corners z =
      then_keeps values.length _ Anything IsLowestSection is.length (λ x _.
      then_keeps values.length _ Anything IsLowestSection is.length (λ y _.
      then_keeps values.scale _ IsLowestScale IsLowestSection is.scale (λ k low. from_keeps corners (record { z = z; x = x; y = y; scale = k }) low)))

  height_keeps : (first : ℤ) → Keeps (spec.second_height values first) Anything
  height_keeps first = then_keeps values.length _ Anything Anything is.length (λ z _. tested_keeps _ _ (pure z) Anything (pure_keeps z Anything tt))

  sections_keeps : (corners : List V3) → Keeps (spec.sections values corners) AreLowestSections
  sections_keeps corners =
      then_keeps values.length _ Anything AreLowestSections is.length (λ z1 _.
      then_keeps _ _ IsLowestSection AreLowestSections (section_keeps corners z1) (λ s first.
      then_keeps _ _ Anything AreLowestSections (height_keeps z1) (λ z2 _.
      then_keeps _ _ IsLowestSection AreLowestSections (section_keeps corners z2) (λ t second. pure_keeps (s, t) AreLowestSections (first, second)))))

  fourth_keeps : (c : Bool) → Keeps (if c then pure None else (spec.point_in values >>= (λ d. pure (Some d)))) Anything
  fourth_keeps true = pure_keeps None Anything tt
  fourth_keeps false = then_keeps (spec.point_in values) _ Anything Anything point_keeps (λ d _. pure_keeps (Some d) Anything tt)

  facet_keeps : Keeps (spec.facet_in values) Anything
  facet_keeps =
      then_keeps _ _ _ Anything (is.whole _ _ _) (λ n _.
      then_keeps _ _ Anything Anything point_keeps (λ a _.
      then_keeps _ _ Anything Anything point_keeps (λ b _.
      then_keeps _ _ Anything Anything point_keeps (λ c _. then_keeps _ _ Anything Anything (fourth_keeps (int_eq n (pos 3))) (λ d _. pure_keeps _ Anything tt)))))

  figures_keep : (k : SolidKind) → Keeps (spec.figure_in values k) HasLowestScales
  figures_keep kind.Cuboid =
      then_keeps _ _ Anything HasLowestScales half_keeps (λ x _.
      then_keeps _ _ Anything HasLowestScales half_keeps (λ y _. then_keeps _ _ Anything HasLowestScales half_keeps (λ z _. pure_keeps (figure.Cuboid x y z) HasLowestScales tt)))
  figures_keep kind.Trd =
      then_keeps _ _ Anything HasLowestScales width_keeps (λ x1 _.
      then_keeps _ _ Anything HasLowestScales (second_keeps x1) (λ x2 _.
      then_keeps _ _ Anything HasLowestScales width_keeps (λ y1 _.
      then_keeps _ _ Anything HasLowestScales (second_keeps y1) (λ y2 _.
      then_keeps _ _ Anything HasLowestScales half_keeps (λ z _. pure_keeps (figure.Trd x1 x2 y1 y2 z) HasLowestScales tt)))))
  figures_keep kind.Tet =
      then_keeps _ _ Anything HasLowestScales point_keeps (λ a _.
      then_keeps _ _ Anything HasLowestScales point_keeps (λ b _.
      then_keeps _ _ Anything HasLowestScales point_keeps (λ c _.
      then_keeps _ _ Anything HasLowestScales point_keeps (λ d _. pure_keeps (figure.Tet a b c d) HasLowestScales tt))))
  figures_keep kind.Extruded =
      then_keeps _ _ Anything HasLowestScales corner_count_keeps (λ n _.
      then_keeps (collect n (spec.corner_in values)) _ Anything HasLowestScales (collect_keeps _ corner_keeps n []) (λ corners _.
      then_keeps _ _ _ HasLowestScales (is.whole _ _ _) (λ two _.
      then_keeps _ _ AreLowestSections HasLowestScales (sections_keeps corners) (λ ends h. pure_keeps (figure.Extruded corners ends.0 ends.1) HasLowestScales h))))
  figures_keep kind.Tessellated =
      then_keeps _ _ _ HasLowestScales (is.whole _ _ _) (λ n _.
      then_keeps (collect (unsigned_abs n) (spec.facet_in values)) _ Anything HasLowestScales (collect_keeps _ facet_keeps (unsigned_abs n) []) (λ facets _. pure_keeps (figure.Tessellated facets) HasLowestScales tt))

words_source : IsSource of_words
words_source = record {
  length = steps_keeps;
  whole = whole_keeps;
  scale = scale_keeps;
}

pub figure_keeps : (k : SolidKind) → Keeps (spec.figure_in of_words k) HasLowestScales
figure_keeps k = figures_keep of_words words_source k
