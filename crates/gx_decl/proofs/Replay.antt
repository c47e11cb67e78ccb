-- A figure that is read from any source is the figure of some list of values: what was read, read again.
use Rattle.std.proofs.Common.{◌≡◌, ℕ, zero, suc, Bool, true, false, ℤ, pos, unsigned_abs, int_le, List, [], ◌∷◌, ◌++◌, Some, None, Ok, Err, refl, ap, ◌∙◌, subst, append_assoc, if◌then◌else◌}
use Rattle.std.specs.Prelude.{not}
use Rattle.std.specs.Ordering.{int_eq}
use Rattle.gx_num.specs.declared.vector.V3.{V3}
use Rattle.gx_table.specs.declared.fault.FaultName.{FaultName}
use Rattle.gx_form.specs.Form.{Outcome, Form, and_then, ◌>>=◌, pure, collect_from}
use Rattle.gx_shapes.specs.declared.section.Section.{Section}
use Rattle.gx_shapes.specs.declared.figure.Figure.{Figure}
use Rattle.gx_shapes.specs.declared.kind.SolidKind.{SolidKind}
use Rattle.gx_shapes.specs.declared.kind.SolidKind.TheVariants as kind
use Rattle.gx_shapes.specs.Extrusion.{are_whole}
use Rattle.gx_shapes.specs.Source.{Source, refuse}
use Rattle.gx_shapes.specs.Figure as spec
use Rattle.gx_shapes.specs.Figure.{are_near}
use Rattle.gx_shapes.specs.Numbers.{Numbers, numbers}
use Rattle.gx_shapes.specs.Solid.{kind_of}
use Rattle.gx_shapes.specs.Accepted.{IsFigure}

abbrev at : ℕ → List ℤ → Numbers
at count left = record { count = count; left = left }

-- some values, read by the form from a list, give this
pub record Written {A : Type 0} (q : Form Numbers A) (a : A) : Type 0 where
  pub values : List ℤ
  pub read : (n : ℕ) (rest : List ℤ) → (m : ℕ) × (q (at n (values ++ rest)) ≡ Ok (a, at m rest))

-- what the first form reads is written for the second
pub record Replays {S A : Type 0} (p : Form S A) (q : Form Numbers A) : Type 0 where
  pub written : (s : S) (a : A) (t : S) → p s ≡ Ok (a, t) → Written q a

module _ {S A : Type 0} where
  abbrev value_or : A → Outcome S A → A
  value_or d (Ok p) = p.0
  value_or d (Err e) = d

  pure_replays : (a : A) → Replays {S = S} (pure a) (pure a)
  pure_replays a = record { written = λ s b t e. subst (Written (pure a)) (ap (value_or a) e) (record { values = []; read = λ n rest. (n, refl) }) }

  test_replays : (c : Bool) (source : Source S) (fault : FaultName) (p : Form S A) (q : Form Numbers A) → Replays p q
      → Replays (if c then refuse source fault else p) (if c then refuse numbers fault else q)
  test_replays true source fault p q h = record { written = λ s b t e. absurd cc }
  test_replays false source fault p q h = h

module _ {A B : Type 0} (q : Form Numbers A) (g : A → Form Numbers B) (a : A) (b : B) where
  joined : Written q a → Written (g a) b → Written (q >>= g) b
  joined first second = record {
    values = first.values ++ second.values;
    read = λ n rest.
        let one = first.read n (second.values ++ rest) in
        let two = second.read one.0 rest in
        (two.0, ap (λ vs. and_then (q (at n vs)) g) (append_assoc first.values second.values rest) ∙ ap (λ o. and_then o g) one.1 ∙ two.1);
  }

module _ {S A B : Type 0} (p : Form S A) (q : Form Numbers A) (f : A → Form S B) (g : A → Form Numbers B) (first : Replays p q) (second : (a : A) → Replays (f a) (g a)) where
  onward : (s : S) (o : Outcome S A) → p s ≡ o → (b : B) (t : S) → and_then o f ≡ Ok (b, t) → Written (q >>= g) b
  onward s (Ok r) e b t h = joined q g r.0 b (first.written s r.0 r.1 e) ((second r.0).written r.1 b t h)
  onward s (Err r) e b t h = absurd cc

  then_replays : Replays (p >>= f) (q >>= g)
  then_replays = record { written = λ s b t e. onward s (p s) refl b t e }

collect_replays : {S X : Type 0} (p : Form S X) (q : Form Numbers X) → Replays p q → (n : ℕ) (found : List X) → Replays (collect_from p n found) (collect_from q n found)
unfolding collect_from
collect_replays p q h zero found = pure_replays found
collect_replays p q h (suc n) found = then_replays p q _ _ h (λ x. collect_replays p q h n (found ++ x ∷ []))

-- ---- from a source

-- what is known of a source's values
pub record IsSource {S : Type 0} (source : Source S) : Type 0 where
  pub length : Replays source.length numbers.length
  pub whole : (low high : ℤ) (range : FaultName) → Replays (source.whole low high range) (numbers.whole low high range)
  pub scale : Replays source.scale numbers.scale

module _ {S : Type 0} (source : Source S) (is : IsSource source) where
  half_replays : Replays (spec.half source) (spec.half numbers)
  half_replays = then_replays _ _ _ _ is.length (λ v. test_replays _ source _ _ _ (pure_replays v))

  width_replays : Replays (spec.width source) (spec.width numbers)
  width_replays = then_replays _ _ _ _ is.length (λ v. test_replays _ source _ _ _ (pure_replays v))

  second_replays : (first : ℤ) → Replays (spec.second_width source first) (spec.second_width numbers first)
  second_replays first = then_replays _ _ _ _ width_replays (λ v. test_replays _ source _ _ _ (pure_replays v))

  point_replays : Replays (spec.point_in source) (spec.point_in numbers)
  point_replays = then_replays _ _ _ _ is.length (λ x. then_replays _ _ _ _ is.length (λ y. then_replays _ _ _ _ is.length (λ z. pure_replays _)))

  corner_replays : Replays (spec.corner_in source) (spec.corner_in numbers)
  corner_replays = then_replays _ _ _ _ is.length (λ x. then_replays _ _ _ _ is.length (λ y. pure_replays _))

  count_replays : Replays (spec.corner_count source) (spec.corner_count numbers)
  count_replays = then_replays _ _ _ _ (is.whole _ _ _) (λ n. test_replays _ source _ _ _ (pure_replays _))

  scaled_replays : (corners : List V3) (s : Section) → Replays (spec.section_from source corners s) (spec.section_from numbers corners s)
  scaled_replays corners s =
      test_replays (int_le s.scale.num (pos 0)) source _ _ _
      (test_replays (not (are_whole s.scale corners)) source _ _ _ (test_replays (not (are_near s corners)) source _ _ _ (pure_replays s)))

  section_replays : (corners : List V3) (z : ℤ) → Replays (spec.section_at source corners z) (spec.section_at numbers corners z)
  section_replays corners z =
      then_replays _ _ _ _ is.length (λ x. then_replays _ _ _ _ is.length (λ y. then_replays _ _ _ _ is.scale (λ k. scaled_replays corners (record { z = z; x = x; y = y; scale = k }))))

  height_replays : (first : ℤ) → Replays (spec.second_height source first) (spec.second_height numbers first)
  height_replays first = then_replays _ _ _ _ is.length (λ z. test_replays _ source _ _ _ (pure_replays z))

  sections_replays : (corners : List V3) → Replays (spec.sections source corners) (spec.sections numbers corners)
  sections_replays corners =
      then_replays _ _ _ _ is.length (λ z1.
      then_replays _ _ _ _ (section_replays corners z1) (λ s.
      then_replays _ _ _ _ (height_replays z1) (λ z2.
      then_replays _ _ _ _ (section_replays corners z2) (λ t. pure_replays (s, t)))))

  fourth_by : (three : Bool) → Replays (if three then pure None else (spec.point_in source >>= (λ d. pure (Some d)))) (if three then pure None else (spec.point_in numbers >>= (λ d. pure (Some d))))
  fourth_by true = pure_replays None
  fourth_by false = then_replays _ _ _ _ point_replays (λ d. pure_replays (Some d))

  facet_replays : Replays (spec.facet_in source) (spec.facet_in numbers)
  facet_replays =
      then_replays _ _ _ _ (is.whole _ _ _) (λ n.
      then_replays _ _ _ _ point_replays (λ a.
      then_replays _ _ _ _ point_replays (λ b.
      then_replays _ _ _ _ point_replays (λ c.
      then_replays _ _ _ _ (fourth_by (int_eq n (pos 3))) (λ d. pure_replays _)))))

  figure_replays : (k : SolidKind) → Replays (spec.figure_in source k) (spec.figure_in numbers k)
  figure_replays kind.Cuboid = then_replays _ _ _ _ half_replays (λ x. then_replays _ _ _ _ half_replays (λ y. then_replays _ _ _ _ half_replays (λ z. pure_replays _)))
  figure_replays kind.Trd =
      then_replays _ _ _ _ width_replays (λ x1.
      then_replays _ _ _ _ (second_replays x1) (λ x2.
      then_replays _ _ _ _ width_replays (λ y1.
      then_replays _ _ _ _ (second_replays y1) (λ y2.
      then_replays _ _ _ _ half_replays (λ z. pure_replays _)))))
  figure_replays kind.Tet =
      then_replays _ _ _ _ point_replays (λ a. then_replays _ _ _ _ point_replays (λ b. then_replays _ _ _ _ point_replays (λ c. then_replays _ _ _ _ point_replays (λ d. pure_replays _))))
  figure_replays kind.Extruded =
      then_replays _ _ _ _ count_replays (λ n.
      then_replays _ _ _ _ (collect_replays _ _ corner_replays n []) (λ corners.
      then_replays _ _ _ _ (is.whole _ _ _) (λ two.
      then_replays _ _ _ _ (sections_replays corners) (λ ends. pure_replays _))))
  figure_replays kind.Tessellated =
      then_replays _ _ _ _ (is.whole _ _ _) (λ n.
      then_replays _ _ _ _ (collect_replays _ _ facet_replays (unsigned_abs n) []) (λ facets. pure_replays _))

  -- what is read from the source is the figure of some values
  pub IsFigure-read : (k : SolidKind) (s : S) (f : Figure) (t : S) → spec.figure_in source k s ≡ Ok (f, t) → kind_of f ≡ k → IsFigure f
  IsFigure-read k s f t e same =
      let w = (figure_replays k).written s f t e in
      let read = w.read 0 [] in
      record { values = w.values ++ []; left = at read.0 []; given = rw (same, read.1) refl }
