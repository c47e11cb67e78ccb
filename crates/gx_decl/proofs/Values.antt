-- The words of a line as a source of values: what is read is a value of a list too.
use Rattle.std.proofs.Common.{◌≡◌, ◌+◌, Bool, true, false, ◌&&◌, ◌||◌, ℤ, pos, unsigned_abs, int_le, [], ◌∷◌, Option, Some, None, Result, Ok, Err, IfOk, refl, sym, ap, ◌∙◌, if◌then◌else◌}
use Rattle.std.specs.Prelude.{nat_le}
use Rattle.gx_num.specs.declared.vector.TheConstants.{M}
use Rattle.gx_fraction.specs.Fraction.{Fraction}
use Rattle.gx_table.specs.declared.fault.FaultName.{FaultName}
use Rattle.gx_expr.specs.declared.fault.StepFault.TheVariants.{UnitKind as AngleLength}
use Rattle.gx_expr.specs.declared.fault.WholeFault.TheVariants.{UnitKind as MarkedCount}
use Rattle.gx_table.specs.declared.fault.FaultName.TheVariants.{UnitKind, TooWide}
use Rattle.gx_expr.specs.Quantity.{Quantity}
use Rattle.gx_expr.specs.Convert as convert
use Rattle.gx_expr.specs.Convert.{within_reach, between, whole_ratio}
use Rattle.gx_form.specs.declared.refusal.Refusal.{Refusal}
use Rattle.gx_form.specs.Form.{Form, Reads, ◌>>=◌, pure}
use Rattle.gx_shapes.specs.declared.section.Scale.{Scale}
use Rattle.gx_shapes.specs.declared.figure.Figure.{Figure}
use Rattle.gx_shapes.specs.declared.kind.SolidKind.{SolidKind}
use Rattle.gx_shapes.specs.Figure.{figure_in}
use Rattle.gx_shapes.specs.Numbers.{Numbers, numbers}
use Rattle.gx_shapes.specs.Solid.{kind_of}
use Rattle.gx_shapes.specs.Accepted.{IsFigure}
use Rattle.gx_shapes.proofs.Given.{Gives, then_gives, pure_gives}
use Rattle.gx_decl.specs.Words.{Words, Reader, refuse, judged, named, expression, steps_of, steps, whole, name_of_step, name_of_whole}
use Rattle.gx_decl.specs.Solids.{is_scale, as_scale, scale_of, scale, of_words}
use Rattle.gx_decl.proofs.Replay.{Written, Replays, IsSource, IsFigure-read}

-- ---- what is known of what is read

after : {A B : Type 0} (p : Reader A) (f : A → Reader B) (P : B → Type 0) → ((a : A) → Gives (f a) P) → Gives (p >>= f) P
after p f P h = then_gives p f (λ _. Unit {0}) P (record { given = λ s a t e. tt }) (λ a _. h a)

abbrev value_in : {A E : Type 0} → A → Result A E → A
value_in d (Ok a) = a
value_in d (Err e) = d

judged_gives : {A E : Type 0} (name : E → FaultName) (P : A → Type 0) (r : Result A E) → ((a : A) → r ≡ Ok a → P a) → Gives (judged (named name r)) P
judged_gives name P (Ok a) h = pure_gives a P (h a refl)
judged_gives name P (Err e) h = record { given = λ s b t e. absurd cc }

refused_gives : {A : Type 0} (fault : FaultName) (P : A → Type 0) → Gives (refuse fault) P
refused_gives fault P = record { given = λ s b t e. absurd cc }

tested : (b : Bool) (m n : ℤ) (test : ℤ → Bool) {E : Type 0} (e : E) → test m ≡ b → (if b then Ok m else Err e) ≡ Ok n → test n ≡ true
tested true m n test e is h = ap test (sym (ap (value_in m) h)) ∙ is
tested false m n test e is h = absurd cc

reach : (r : Option ℤ) (n : ℤ) → within_reach r ≡ Ok n → nat_le (unsigned_abs n) (unsigned_abs M) ≡ true
reach None n h = absurd cc
reach (Some m) n h = tested (nat_le (unsigned_abs m) (unsigned_abs M)) m n (λ n. nat_le (unsigned_abs n) (unsigned_abs M)) _ refl h

steps_near : (angle : Bool) (r : Option ℤ) (n : ℤ) → (if angle then Err AngleLength else within_reach r) ≡ Ok n → nat_le (unsigned_abs n) (unsigned_abs M) ≡ true
steps_near true r n h = absurd cc
steps_near false r n h = reach r n h

from_steps : (value : Quantity) (grid : Fraction) (n : ℤ) → convert.steps value grid ≡ Ok n → nat_le (unsigned_abs n) (unsigned_abs M) ≡ true
unfolding convert.steps
from_steps value grid n h = steps_near value.angle (whole_ratio value.number grid) n h

steps_gives : Gives steps (λ n. nat_le (unsigned_abs n) (unsigned_abs M) ≡ true)
steps_gives = after expression steps_of _ (λ value. record { given = λ s n t e. (judged_gives name_of_step _ (convert.steps value s.grid) (from_steps value s.grid)).given s n t e })

in_range : (low high : ℤ) (r : Option ℤ) (n : ℤ) → between low high r ≡ Ok n → (int_le low n && int_le n high) ≡ true
in_range low high None n h = absurd cc
in_range low high (Some m) n h = tested (int_le low m && int_le m high) m n (λ n. int_le low n && int_le n high) _ refl h

whole_between : (marked : Bool) (low high : ℤ) (r : Option ℤ) (n : ℤ) → (if marked then Err MarkedCount else between low high r) ≡ Ok n → (int_le low n && int_le n high) ≡ true
whole_between true low high r n h = absurd cc
whole_between false low high r n h = in_range low high r n h

from_count : (value : Quantity) (low high n : ℤ) → convert.count value low high ≡ Ok n → (int_le low n && int_le n high) ≡ true
from_count value low high n h = whole_between (value.length || value.angle) low high (whole_ratio value.number (record { num = pos 1; den = 1 })) n h

whole_gives : (low high : ℤ) (range : FaultName) → Gives (whole low high range) (λ n. (int_le low n && int_le n high) ≡ true)
whole_gives low high range = after expression _ _ (λ value. judged_gives (name_of_whole range) _ (convert.count value low high) (from_count value low high))

scaled : (good : Bool) (f : Fraction) → is_scale (as_scale f) ≡ good → Gives (if good then pure (as_scale f) else refuse TooWide) (λ k. is_scale k ≡ true)
scaled true f is = pure_gives (as_scale f) (λ k. is_scale k ≡ true) is
scaled false f is = refused_gives _ _

marked_scale : (marked : Bool) (f : Fraction) → Gives (if marked then refuse UnitKind else if is_scale (as_scale f) then pure (as_scale f) else refuse TooWide) (λ k. is_scale k ≡ true)
marked_scale true f = refused_gives _ _
marked_scale false f = scaled (is_scale (as_scale f)) f refl

scale_gives : Gives scale (λ k. is_scale k ≡ true)
scale_gives = after expression scale_of _ (λ value. marked_scale (value.length || value.angle) value.number)

-- ---- the source

replayed : {S A : Type 0} (p : Form S A) (q : Form Numbers A) (P : A → Type 0) → Gives p P → ((a : A) → P a → Written q a) → Replays p q
replayed p q P gives written = record { written = λ s a t e. written a (gives.given s a t e) }

length_written : (n : ℤ) → nat_le (unsigned_abs n) (unsigned_abs M) ≡ true → Written numbers.length n
length_written n h = record { values = n ∷ []; read = λ k rest. (k + 1, rw h refl) }

whole_written : (low high : ℤ) (range : FaultName) (n : ℤ) → (int_le low n && int_le n high) ≡ true → Written (numbers.whole low high range) n
whole_written low high range n h = record { values = n ∷ []; read = λ k rest. (k + 1, rw h refl) }

scale_written : (s : Scale) → is_scale s ≡ true → Written numbers.scale s
scale_written s h = record { values = s.num ∷ s.den ∷ []; read = λ k rest. (k + 1, rw h refl) }

of_words-source : IsSource of_words
of_words-source = record {
  length = replayed _ _ _ steps_gives length_written;
  whole = λ low high range. replayed _ _ _ (whole_gives low high range) (whole_written low high range);
  scale = replayed _ _ _ scale_gives scale_written;
}

-- the figure that is read from the words of a line is the figure of some values
pub IfOk-figure : (k : SolidKind) (s : Words) (result : Result Figure Refusal) (t : Words)
    → Reads (figure_in of_words k s) result t → IfOk result (λ f. kind_of f ≡ k) → IfOk result IsFigure
IfOk-figure k s (Ok f) t e same = IsFigure-read of_words of_words-source k s f t e same
IfOk-figure k s (Err e) t h same = tt
