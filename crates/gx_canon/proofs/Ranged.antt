-- What forms give is in its range, whatever the words.
use Rattle.std.proofs.Common.{◌≡◌, ℕ, suc, ◌-◌, ◌*◌, ◌<◌, ◌≤◌, ℤ, pos, negsuc, unsigned_abs, Bool, true, false, List, [], ◌∷◌, Option, Some, None, Result, Ok, Err, refl, subst, arith, if◌then◌else◌, inl, inr}
use Rattle.std.specs.Prelude.{int_le, nat_le, nat_lt, ◌&&◌, ◌||◌}
use Rattle.std.specs.List.{list_all}
use Rattle.std.specs.Str.{str_eq_ignore_ascii_case}
use Rattle.std.proofs.lemmas.Bool.{and_parts, leb-true, ltb-true, ltb-false, cases_Bool}
use Rattle.std.proofs.lemmas.Int.{ints}
use Rattle.std.proofs.lemmas.Nat.{mul-le}
use Rattle.gx_num.specs.declared.vector.TheConstants.{M}
use Rattle.gx_num.specs.Vector.{IsWithin}
use Rattle.gx_fraction.specs.Fraction.{Fraction}
use Rattle.gx_table.specs.declared.fault.FaultName.{FaultName}
use Rattle.gx_table.specs.declared.fault.FaultName.TheVariants.{Copies, Axis, Direction, TooFar, Sections, Count}
use Rattle.gx_table.specs.Table.{TableEntry, number_in}
use Rattle.gx_text.specs.Names.{is_name_of}
use Rattle.gx_expr.specs.Quantity.{Quantity}
use Rattle.gx_expr.specs.declared.fault.WholeFault.{WholeFault}
use Rattle.gx_expr.specs.declared.fault.WholeFault.TheVariants.{UnitKind as MarkedCount, Range}
use Rattle.gx_expr.specs.declared.fault.StepFault.TheVariants.{UnitKind as AngleLength}
use Rattle.gx_expr.specs.Convert as convert
use Rattle.gx_form.specs.Form.{pure, collect}
use Rattle.gx_param.specs.Param.{place}
use Rattle.gx_shapes.specs.declared.figure.Figure.{Figure}
use Rattle.gx_shapes.specs.declared.figure.Figure.TheVariants as figure
use Rattle.gx_shapes.specs.declared.kind.SolidKind.{SolidKind}
use Rattle.gx_shapes.specs.declared.kind.SolidKind.TheVariants as kind
use Rattle.gx_shapes.specs.Figure as spec
use Rattle.gx_shapes.specs.Source.{Source}
use Rattle.gx_shapes.specs.Solid.{kind_of}
use Rattle.gx_shapes.specs.Accepted.{IsFigure}
use Rattle.gx_shapes.proofs.Given.{Gives, then_gives, pure_gives}
use Rattle.gx_decl.specs.declared.declaration.Declaration.TheVariants as declaration
use Rattle.gx_decl.specs.declared.declaration.Form.{Form}
use Rattle.gx_decl.specs.declared.declaration.Form.TheVariants as form
use Rattle.gx_decl.specs.Words as words
use Rattle.gx_decl.specs.Words.{Words, Reader, judged, named}
use Rattle.gx_decl.specs.Lines as lines
use Rattle.gx_decl.specs.Solids.{of_words}
use Rattle.gx_decl.specs.Placements as placements
use Rattle.gx_decl.specs.Placements.{does_reach, axes, row_kinds}
use Rattle.gx_decl.specs.Turns as turns
use Rattle.gx_decl.specs.Range.{IsName, IsNear, IsCount, IsGiven, IsRow, IsForm}
use Rattle.gx_decl.proofs.Values.{IfOk-figure}
use Rattle.gx_tree.specs.Hierarchy.{IsRotation}
use Rattle.gx_canon.proofs.Turned.{values_gives}
use Rattle.gx_canon.specs.Printable.{IsCopy, HasCopy, IsKept}
use Rattle.gx_canon.proofs.Forms.{Anything, anything, after}

-- ---- tests

passed : {A : Type 0} (c : Bool) (a : A) (q : Reader A) (P : A → Type 0) → (c ≡ true → P a) → Gives q (λ _. ⊥) → Gives (if c then pure a else q) P
passed true a q P h fails = pure_gives a P (h refl)
passed false a q P h fails = record { given = λ s b t e. absurd (fails.given s b t e) }

refused : {A : Type 0} (fault : FaultName) → Gives {A = A} (words.refuse fault) (λ _. ⊥)
refused fault = record { given = λ s a t e. cc }

refused_at : {A : Type 0} (i : ℕ) (fault : FaultName) → Gives {A = A} (words.refuse_at i fault) (λ _. ⊥)
refused_at i fault = record { given = λ s a t e. cc }

unless : {A : Type 0} (c : Bool) (i : ℕ) (fault : FaultName) (q : Reader A) (P : A → Type 0) → (c ≡ false → Gives q P) → Gives (if c then words.refuse_at i fault else q) P
unless true i fault q P h = record { given = λ s a t e. absurd cc }
unless false i fault q P h = h refl

-- ---- words

pub name_gives : Gives words.name IsName
name_gives = then_gives words.word _ Anything IsName (anything words.word) (λ w _. passed (is_name_of w) w _ IsName (λ e. e) (refused _))

judged_gives : {A E : Type 0} (to : E → FaultName) (r : Result A E) (P : A → Type 0) → ((a : A) → r ≡ Ok a → P a) → Gives (judged (named to r)) P
judged_gives to (Ok a) P h = pure_gives a P (h a refl)
judged_gives to (Err e) P h = record { given = λ s b t e. absurd cc }

reached : (n m : ℤ) (c : Bool) {E : Type 0} (fault : E) → nat_le (unsigned_abs m) (unsigned_abs M) ≡ c → (if c then Ok m else Err fault) ≡ Ok n → IsNear n
reached n m true fault is e = let same : m ≡ n = cc in subst IsNear same (leb-true (unsigned_abs m) (unsigned_abs M) is)
reached n m false fault is e = absurd cc

near_reach : (r : Option ℤ) (n : ℤ) → convert.within_reach r ≡ Ok n → IsNear n
near_reach None n e = absurd cc
near_reach (Some m) n e = reached n m (nat_le (unsigned_abs m) (unsigned_abs M)) _ refl e

near_steps : (angle : Bool) (r : Option ℤ) (n : ℤ) → (if angle then Err AngleLength else convert.within_reach r) ≡ Ok n → IsNear n
near_steps true r n e = absurd cc
near_steps false r n e = near_reach r n e

from_steps : (value : Quantity) (grid : Fraction) (n : ℤ) → convert.steps value grid ≡ Ok n → IsNear n
unfolding convert.steps
from_steps value grid n e = near_steps value.angle (convert.whole_ratio value.number grid) n e

steps_gives : Gives words.steps IsNear
steps_gives =
    then_gives words.expression words.steps_of Anything IsNear (anything words.expression)
    (λ value _. record { given = λ s n t e. (judged_gives words.name_of_step (convert.steps value s.grid) IsNear (from_steps value s.grid)).given s n t e })

-- a whole number that was read is in its range
tested : (c : Bool) (test : ℤ → Bool) (m n : ℤ) (fault : WholeFault) → test m ≡ c → (if c then Ok m else Err fault) ≡ Ok n → test n ≡ true
tested true test m n fault is e = let same : m ≡ n = cc in subst (λ (x : ℤ). test x ≡ true) same is
tested false test m n fault is e = absurd cc

between_is : (low high : ℤ) (r : Option ℤ) (n : ℤ) → convert.between low high r ≡ Ok n → (int_le low n && int_le n high) ≡ true
between_is low high None n e = absurd cc
between_is low high (Some m) n e = tested (int_le low m && int_le m high) (λ n. int_le low n && int_le n high) m n Range refl e

counted : (marked : Bool) (low high : ℤ) (r : Option ℤ) (n : ℤ) → (if marked then Err MarkedCount else convert.between low high r) ≡ Ok n → (int_le low n && int_le n high) ≡ true
counted true low high r n e = absurd cc
counted false low high r n e = between_is low high r n e

whole_gives : (low high : ℤ) (range : FaultName) → Gives (words.whole low high range) (λ n. (int_le low n && int_le n high) ≡ true)
whole_gives low high range =
    after words.expression (λ value. judged (named (words.name_of_whole range) (convert.count value low high))) _
    (λ value. judged_gives (words.name_of_whole range) (convert.count value low high) _ (λ n e. counted (value.length || value.angle) low high (convert.whole_ratio value.number (record { num = pos 1; den = 1 })) n e))

below_by : (n : ℕ) (table : List TableEntry) (w : List ℕ) (k : ℕ) → list_all (λ r. nat_lt r.number n) table ≡ true → number_in table w ≡ Some k → k < n
below_by n [] w k all e = absurd cc
below_by n (r ∷ rs) w k all e =
    let both = and_parts (nat_lt r.number n) (list_all (λ r. nat_lt r.number n) rs) all in
    elim (cases_Bool (str_eq_ignore_ascii_case r.text w)) [
      | inl same ↦ let found : Some r.number ≡ Some k = rw same at e in let number : r.number ≡ k = cc in let less = ltb-true r.number n both.0 in omega (arith, less, number)
      | inr other ↦ below_by n rs w k both.1 (rw other at e)
    ]

known_gives : (n : ℕ) (table : List TableEntry) (w : List ℕ) (unknown : FaultName) (o : Option ℕ) → number_in table w ≡ o → list_all (λ r. nat_lt r.number n) table ≡ true → Gives (words.known unknown o) (λ k. k < n)
known_gives n table w unknown None e all = record { given = λ s k t e. absurd cc }
known_gives n table w unknown (Some k) e all = pure_gives k (λ k. k < n) (below_by n table w k all e)

row_gives : (n : ℕ) (table : List TableEntry) (unknown : FaultName) → list_all (λ r. nat_lt r.number n) table ≡ true → Gives (words.row_of table unknown) (λ k. k < n)
row_gives n table unknown all = after words.word _ (λ k. k < n) (λ w. known_gives n table w unknown (number_in table w) refl all)

vector_gives : Gives lines.vector (IsWithin (unsigned_abs M))
vector_gives =
    then_gives words.steps _ IsNear _ steps_gives (λ x hx.
    then_gives words.steps _ IsNear _ steps_gives (λ y hy. then_gives words.steps _ IsNear _ steps_gives (λ z hz. pure_gives _ (IsWithin (unsigned_abs M)) (record { x = hx; y = hy; z = hz }))))

-- ---- solids

abbrev IsOf : SolidKind → Figure → Type 0
IsOf k f = kind_of f ≡ k

figure_kind : (source : Source Words) (k : SolidKind) → Gives (spec.figure_in source k) (IsOf k)
figure_kind source kind.Cuboid = after (spec.half source) _ (IsOf kind.Cuboid) (λ x. after (spec.half source) _ (IsOf kind.Cuboid) (λ y. after (spec.half source) _ (IsOf kind.Cuboid) (λ z. pure_gives (figure.Cuboid x y z) (IsOf kind.Cuboid) refl)))
figure_kind source kind.Trd = after (spec.width source) _ (IsOf kind.Trd) (λ a. after (spec.second_width source a) _ (IsOf kind.Trd) (λ b. after (spec.width source) _ (IsOf kind.Trd) (λ c. after (spec.second_width source c) _ (IsOf kind.Trd) (λ d. after (spec.half source) _ (IsOf kind.Trd) (λ e. pure_gives (figure.Trd a b c d e) (IsOf kind.Trd) refl)))))
figure_kind source kind.Tet = after (spec.point_in source) _ (IsOf kind.Tet) (λ a. after (spec.point_in source) _ (IsOf kind.Tet) (λ b. after (spec.point_in source) _ (IsOf kind.Tet) (λ c. after (spec.point_in source) _ (IsOf kind.Tet) (λ d. pure_gives (figure.Tet a b c d) (IsOf kind.Tet) refl))))
figure_kind source kind.Extruded = after (spec.corner_count source) _ (IsOf kind.Extruded) (λ n. after (collect n (spec.corner_in source)) _ (IsOf kind.Extruded) (λ corners. after (source.whole (pos 2) (pos 2) Sections) _ (IsOf kind.Extruded) (λ two. after (spec.sections source corners) _ (IsOf kind.Extruded) (λ ends. pure_gives (figure.Extruded corners ends.0 ends.1) (IsOf kind.Extruded) refl))))
figure_kind source kind.Tessellated = after (source.whole (pos 1) (pos 4096) Count) _ (IsOf kind.Tessellated) (λ n. after (collect (unsigned_abs n) (spec.facet_in source)) _ (IsOf kind.Tessellated) (λ facets. pure_gives (figure.Tessellated facets) (IsOf kind.Tessellated) refl))

pub figure_gives : (k : SolidKind) → Gives (spec.figure_in of_words k) IsFigure
figure_gives k = record { given = λ s f t e. IfOk-figure k s (Ok f) t e ((figure_kind of_words k).given s f t e) }

-- ---- placements

count_gives : Gives placements.copies IsCount
count_gives =
    then_gives (words.whole (pos 1) (pos 4096) Copies) _ _ IsCount (whole_gives (pos 1) (pos 4096) Copies) (λ n h.
    let both = and_parts (int_le (pos 1) n) (int_le n (pos 4096)) h in
    pure_gives (unsigned_abs n) IsCount (record { some = omega (arith, ints, both.0, both.1); few = omega (arith, ints, both.0, both.1) }))

pub repl_gives : Gives placements.repl IsKept
repl_gives =
    then_gives words.name _ IsName IsKept name_gives (λ v hv.
    then_gives words.name _ IsName IsKept name_gives (λ m hm.
    then_gives placements.axis _ (λ k. k < 3) IsKept (row_gives 3 axes Axis refl) (λ axis along.
    then_gives placements.copies _ IsCount IsKept count_gives (λ count is.
    then_gives words.steps _ IsNear IsKept steps_gives (λ width near.
    after placements.offset_if_any _ IsKept (λ _.
    after words.end _ IsKept (λ _.
    pure_gives (declaration.Place v m None (form.Replica axis count width)) IsKept (record { volume_named = hv; mother_named = hm; rotation_named = tt; formed = record { along = along; counted = is; near_width = near } }, tt))))))))

copy_gives : Gives placements.copy_number IsCopy
copy_gives = record {
  given = λ s n t e.
      let both = and_parts (int_le (negsuc 2147483647) n) (int_le n (pos 2147483647)) ((whole_gives (negsuc 2147483647) (pos 2147483647) Copies).given s n t e) in
      record { low = omega (arith, ints, both.0); high = omega (arith, ints, both.1) };
}

pub single_gives : Gives placements.place IsKept
single_gives =
    then_gives words.name _ IsName IsKept name_gives (λ v hv.
    then_gives placements.copy_number _ IsCopy IsKept copy_gives (λ copy hc.
    then_gives words.name _ IsName IsKept name_gives (λ m hm.
    then_gives words.name _ IsName IsKept name_gives (λ rotation hr.
    then_gives lines.vector _ (IsWithin (unsigned_abs M)) IsKept vector_gives (λ offset near.
    after words.end _ IsKept (λ _.
    pure_gives (declaration.Place v m (Some rotation) (form.Single copy offset)) IsKept (record { volume_named = hv; mother_named = hm; rotation_named = hr; formed = near }, hc)))))))

-- between the first and the last of a row are the others
between : (offset step : ℤ) (i last : ℕ) → i ≤ last → IsNear (place offset step 0) → IsNear (place offset step last) → IsNear (place offset step i)
between offset (pos s) i last le first end = omega (arith, ints, first, end, mul-le i s last s le (omega arith))
between offset (negsuc s) i last le first end = omega (arith, ints, first, end, mul-le i (suc s) last (suc s) le (omega arith))

row_of : (r : _) → IsGiven r → does_reach r.count r.step r.offset ≡ true → IsRow r.count r.step r.offset
row_of r is reach =
    let ends = and_parts (nat_le (unsigned_abs (place r.offset r.step 0)) (unsigned_abs M)) (nat_le (unsigned_abs (place r.offset r.step (r.count - 1))) (unsigned_abs M)) reach in
    record {
      counted = is.counted;
      near_step = is.near_step;
      near_offset = is.near_offset;
      copies = λ i less. between r.offset r.step i (r.count - 1) (omega (arith, less)) (leb-true _ _ ends.0) (leb-true _ _ ends.1);
    }

reaches_gives : (i : ℕ) (r : _) → IsGiven r → Gives (placements.reaches_at i r) (λ _. IsRow r.count r.step r.offset)
reaches_gives i r is = passed (does_reach r.count r.step r.offset) tt (words.refuse_at i TooFar) (λ (_ : Unit {0}). IsRow r.count r.step r.offset) (λ e. row_of r is e) (refused_at i TooFar)

one_row_gives : Gives placements.one_row IsGiven
one_row_gives =
    then_gives placements.copies _ IsCount IsGiven count_gives (λ count is.
    then_gives words.steps _ IsNear IsGiven steps_gives (λ step hs.
    then_gives words.steps _ IsNear IsGiven steps_gives (λ offset ho. pure_gives _ IsGiven (record { counted = is; near_step = hs; near_offset = ho }))))

abbrev IsRows : Form → Type 0
IsRows f = IsForm f × HasCopy f

linear_gives : (axis : ℕ) → axis < 3 → Gives (placements.linear axis) IsRows
linear_gives axis along =
    then_gives placements.one_row _ IsGiven IsRows one_row_gives (λ r is.
    after words.end _ IsRows (λ _.
    then_gives (placements.reaches_at 8 r) _ (λ _. IsRow r.count r.step r.offset) IsRows (reaches_gives 8 r is) (λ _ row. pure_gives (form.Linear axis r.count r.step r.offset) IsRows (record { along = along; row = row }, tt))))

second_count_gives : (n : ℕ) → Gives (placements.rows_of n) (λ m. IsCount m × (n * m ≤ 4096))
second_count_gives n =
    then_gives placements.copies _ IsCount _ count_gives (λ m is. passed (nat_le (n * m) 4096) m _ _ (λ e. (is, leb-true (n * m) 4096 e)) (refused Copies))

two_rows_gives : Gives placements.two_rows (λ rs. IsGiven rs.0 × IsGiven rs.1 × (rs.0.count * rs.1.count ≤ 4096))
two_rows_gives =
    then_gives placements.copies _ IsCount _ count_gives (λ n1 h1.
    then_gives (placements.rows_of n1) _ (λ m. IsCount m × (n1 * m ≤ 4096)) _ (second_count_gives n1) (λ n2 h2.
    then_gives words.steps _ IsNear _ steps_gives (λ s1 k1.
    then_gives words.steps _ IsNear _ steps_gives (λ s2 k2.
    then_gives words.steps _ IsNear _ steps_gives (λ o1 l1.
    then_gives words.steps _ IsNear _ steps_gives (λ o2 l2.
    pure_gives _ _ (record { counted = h1; near_step = k1; near_offset = l1 }, record { counted = h2.0; near_step = k2; near_offset = l2 }, h2.1)))))))

square_gives : (plane : ℕ) → plane < 3 → Gives (placements.square plane) IsRows
square_gives plane along =
    then_gives placements.two_rows _ (λ rs. IsGiven rs.0 × IsGiven rs.1 × (rs.0.count * rs.1.count ≤ 4096)) IsRows two_rows_gives (λ rs is.
    after words.end _ IsRows (λ _.
    then_gives (placements.reaches_at 9 rs.0) _ (λ _. IsRow rs.0.count rs.0.step rs.0.offset) IsRows (reaches_gives 9 rs.0 is.0) (λ _ first.
    then_gives (placements.reaches_at 10 rs.1) _ (λ _. IsRow rs.1.count rs.1.step rs.1.offset) IsRows (reaches_gives 10 rs.1 is.1) (λ _ second.
    pure_gives (form.Square plane rs.0.count rs.1.count rs.0.step rs.1.step rs.0.offset rs.1.offset) IsRows (record { along = along; first = first; second = second; few = is.2 }, tt)))))

rows_gives : (kind : ℕ) → kind < 6 → Gives (placements.rows kind) IsRows
rows_gives kind less = by (nat_lt kind 3) refl
  where
    by : (c : Bool) → nat_lt kind 3 ≡ c → Gives (if c then placements.linear kind else placements.square (kind - 3)) IsRows
    by true e = linear_gives kind (ltb-true kind 3 e)
    by false e = square_gives (kind - 3) (omega (arith, less, ltb-false kind 3 e))

pub place_param_gives : Gives placements.place_param IsKept
place_param_gives =
    then_gives words.name _ IsName IsKept name_gives (λ v hv.
    after placements.copy_number _ IsKept (λ copy.
    then_gives words.name _ IsName IsKept name_gives (λ m hm.
    then_gives placements.row_kind _ (λ k. k < 6) IsKept (row_gives 6 row_kinds Axis refl) (λ kind less.
    then_gives words.name _ IsName IsKept name_gives (λ rotation hr.
    then_gives (placements.rows kind) _ IsRows IsKept (rows_gives kind less) (λ f hf.
    pure_gives (declaration.Place v m (Some rotation) f) IsKept (record { volume_named = hv; mother_named = hm; rotation_named = hr; formed = hf.0 }, hf.1)))))))

-- ---- parameters, rotations and rays

pub param_name_gives : Gives words.param_name (λ w. words.is_param_name w ≡ true)
param_name_gives =
    after words.word _ (λ w. words.is_param_name w ≡ true) (λ w. passed (words.is_param_name w) w _ (λ w. words.is_param_name w ≡ true) (λ e. e) (refused _))

pub rotm_gives : Gives turns.rotm IsKept
rotm_gives = then_gives words.name _ IsName IsKept name_gives (λ n hn. then_gives turns.values _ IsRotation IsKept values_gives (λ m hm. pure_gives (declaration.Turn n m) IsKept ((hn, hm), tt)))

pub ray_gives : Gives lines.ray IsKept
ray_gives =
    then_gives lines.vector _ (IsWithin (unsigned_abs M)) IsKept vector_gives (λ o ho.
    then_gives lines.vector _ (IsWithin (unsigned_abs M)) IsKept vector_gives (λ d hd.
    after words.end _ IsKept (λ _.
    unless (lines.is_zero d) 5 Direction _ IsKept (λ e. pure_gives (declaration.Trace (record { o = o; d = d })) IsKept (record { origin = ho; near = hd; direction = e }, tt)))))
