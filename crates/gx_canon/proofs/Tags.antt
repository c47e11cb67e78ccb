-- The lines of each tag, as they are printed, are read back.
use Rattle.std.proofs.Common.{◌≡◌, ℕ, zero, suc, ◌+◌, ◌-◌, ◌*◌, ◌<◌, ◌≤◌, ℤ, pos, negsuc, unsigned_abs, true, false, List, [], ◌∷◌, ◌++◌, length, Some, None, Ok, refl, codes, arith, length-append}
use Rattle.std.specs.Prelude.{not, int_le, nat_le, nat_lt, ◌&&◌, if◌then◌else◌, ◌==◌}
use Rattle.std.specs.Fmt.{signed_decimal, decimal, digits}
use Rattle.std.proofs.lemmas.Bool.{ne_eqb, agree_below_at, and_parts, leb-true, eqb-true, eqb-false, not-true}
use Rattle.std.specs.List.{list_all}
use Rattle.std.proofs.lemmas.List.Elements.{All-cons}
use Rattle.std.proofs.lemmas.List.Sums.{AllPass-from_list_all}
use Rattle.std.proofs.lemmas.Bool.Decides.{nat_tests}
use Rattle.std.proofs.lemmas.Int.{ints}
use Rattle.gx_num.specs.declared.vector.V3.{V3}
use Rattle.gx_num.specs.declared.vector.TheConstants.{M}
use Rattle.gx_num.specs.declared.ray.Ray.{Ray}
use Rattle.gx_num.specs.Vector.{IsWithin}
use Rattle.gx_table.specs.Table.{number_in}
use Rattle.gx_table.specs.declared.fault.FaultName.TheVariants.{Tag, Axis, Copies, SolidKind as UnknownKind}
use Rattle.gx_form.specs.Form.{pure}
use Rattle.gx_text.specs.Names.{is_name_of}
use Rattle.gx_rotation.specs.Matrix.{Matrix}
use Rattle.gx_rotation.specs.Rotation.{matrix_of, is_unit}
use Rattle.gx_rotation.specs.Given.{checked}
use Rattle.gx_rotation.proofs.Tables.{axes as axes_to_axes, proper}
use Rattle.gx_shapes.specs.declared.figure.Figure.{Figure}
use Rattle.gx_shapes.specs.declared.figure.Figure.TheVariants as figure
use Rattle.gx_shapes.specs.declared.kind.SolidKind.{SolidKind}
use Rattle.gx_shapes.specs.declared.kind.SolidKind.TheVariants as kind
use Rattle.gx_shapes.specs.Solid.{kind_of}
use Rattle.gx_shapes.specs.Accepted.{IsSolid}
use Rattle.gx_decl.specs.declared.declaration.Declaration.{Declaration}
use Rattle.gx_decl.specs.declared.declaration.Declaration.TheVariants.{Volume, Place, Turn, Trace}
use Rattle.gx_decl.specs.declared.declaration.Form.{Form}
use Rattle.gx_decl.specs.declared.declaration.Form.TheVariants.{Single, Replica, Linear, Square}
use Rattle.gx_decl.specs.Words.{row_of}
use Rattle.gx_decl.specs.Decl.{tags, tag_of, after_tag, line}
use Rattle.gx_decl.specs.Lines.{vector}
use Rattle.gx_decl.specs.Placements as placements
use Rattle.gx_decl.specs.Placements.{axes, row_kinds, does_reach, copies, copy_number}
use Rattle.gx_decl.specs.Turns as turns
use Rattle.gx_decl.specs.Turns.{entry, matrix9}
use Rattle.gx_decl.specs.Solids as solids
use Rattle.gx_decl.specs.Solids.{kinds}
use Rattle.gx_decl.specs.Range.{IsCount, IsRow, IsReplica, IsLinear, IsSquare, IsTraceable}
use Rattle.gx_canon.specs.Words.{vector_words, kind_word, value_words, axis_word, linear_word, square_word, place_words, words_of}
use Rattle.gx_canon.specs.Canonical.{rotation_name}
use Rattle.gx_canon.specs.Printable.{IsNameWord, IsCopy, HasLowestScales}
use Rattle.gx_canon.proofs.Back.{Back, Last, single, then_last, word_last, word_then, last_then, pure_back, pure_last, end_last, left_last, row_back, name_back, steps_back, whole_back, vector_back}
use Rattle.gx_canon.proofs.Figures.{figure_back}
use Rattle.gx_canon.proofs.Numbers.{whole_back as whole_worth, count_whole}
use Rattle.gx_canon.proofs.PrintedWords.{is_plain, IsShortWord, signed_short, plain_word, decimal_plain}

-- a word of this project's tables
fixed : (w : List ℕ) → (not (length w == 0) && list_all is_plain w && nat_le (length w) 255) ≡ true → IsShortWord 255 w
fixed w h =
    let size = and_parts (not (length w == 0) && list_all is_plain w) (nat_le (length w) 255) h in
    let word = and_parts (not (length w == 0)) (list_all is_plain w) size.0 in
    record { word = plain_word w (omega (arith, eqb-false (length w) 0 (not-true (length w == 0) word.0))) (AllPass-from_list_all is_plain w word.1); short = leb-true (length w) 255 size.1 }

-- a line by its tag
tagged : (tag : List ℕ) (k : ℕ) (words : List (List ℕ)) (d : Declaration) → IsShortWord 255 tag → number_in tags tag ≡ Some k → Last 255 (after_tag (tag_of k)) words d → Last 255 line (tag ∷ words) d
tagged tag k words d short e h =
    word_last 255 _ after_tag tag words (tag_of k) d (word_then 255 (row_of tags Tag) (λ n. pure (tag_of n)) tag [] k (tag_of k) (row_back 255 tags Tag tag k short e) (pure_back 255 (tag_of k))) h

-- ---- rays

pub ray_line : (r : Ray) → IsTraceable r → Last 255 line (words_of (Trace r)) (Trace r)
ray_line r is =
    tagged (codes ":RAY") 7 _ (Trace r) (fixed (codes ":RAY") refl) refl
    (then_last 255 vector _ (vector_words r.o) _ r.o _ (vector_back 255 (omega arith) r.o is.origin)
    (then_last 255 vector _ (vector_words r.d) [] r.d _ (vector_back 255 (omega arith) r.d is.near) (end_last 255 _ _ (rw is.direction (pure_last 255 (Trace r))))))

-- ---- volumes

kind_by : (w : List ℕ) (n : ℕ) → IsShortWord 255 w → number_in kinds w ≡ Some n → Back 255 solids.kind (w ∷ []) (solids.kind_of n)
kind_by w n short e = word_then 255 (row_of kinds UnknownKind) (λ n. pure (solids.kind_of n)) w [] n (solids.kind_of n) (row_back 255 kinds UnknownKind w n short e) (pure_back 255 (solids.kind_of n))

kind_back : (k : SolidKind) → Back 255 solids.kind (kind_word k ∷ []) k
kind_back kind.Cuboid = kind_by (codes "BOX") 0 (fixed (codes "BOX") refl) refl
kind_back kind.Trd = kind_by (codes "TRD") 1 (fixed (codes "TRD") refl) refl
kind_back kind.Tet = kind_by (codes "TET") 2 (fixed (codes "TET") refl) refl
kind_back kind.Extruded = kind_by (codes "EXTRUDED") 3 (fixed (codes "EXTRUDED") refl) refl
kind_back kind.Tessellated = kind_by (codes "TESSELLATED") 4 (fixed (codes "TESSELLATED") refl) refl

some_words : (f : Figure) → 1 ≤ length (value_words f)
some_words (figure.Cuboid hx hy hz) = omega arith
some_words (figure.Trd dx1 dx2 dy1 dy2 dz) = omega arith
some_words (figure.Tet a b c d) = omega arith
some_words (figure.Extruded corners s t) = omega arith
some_words (figure.Tessellated facets) = omega arith

pub volume_line : (name material : List ℕ) (f : Figure) → IsNameWord name → IsNameWord material → IsSolid f → HasLowestScales f → Last 255 line (words_of (Volume name f material)) (Volume name f material)
volume_line name material f hn hm is low =
    let words = kind_word (kind_of f) ∷ value_words f ++ material ∷ [] in
    let many : length words == 2 ≡ false = ne_eqb (length words) 2 (λ e. absurd (omega (arith, e, some_words f, length-append (value_words f) (material ∷ [])))) in
    let values : Last 255 (solids.of_kind name) words (Volume name f material) =
    word_last 255 solids.kind _ (kind_word (kind_of f)) _ (kind_of f) _ (kind_back (kind_of f))
    (then_last 255 _ _ (value_words f) (material ∷ []) f _ (figure_back f is low)
    (word_last 255 _ _ material [] material _ (name_back material hm) (end_last 255 _ _ (rw is.whole (pure_last 255 _))))) in
    tagged (codes ":VOLU") 2 _ _ (fixed (codes ":VOLU") refl) refl
    (word_last 255 _ _ name words name _ (name_back name hn) (left_last 255 (λ n. if n == 2 then solids.of_name name else solids.of_kind name) words _ (rw many values)))

-- ---- placements

count_back : (n : ℕ) → IsCount n → Back 255 copies (decimal n ∷ []) n
count_back n h =
    let some = h.some in
    let few = h.few in
    let below : int_le (pos 1) (pos n) ≡ true = grind (arith, nat_tests, some) in
    let above : int_le (pos n) (pos 4096) ≡ true = grind (arith, nat_tests, few) in
    word_then 255 _ _ (decimal n) [] (pos n) n (whole_back 255 (omega arith) (pos n) (pos 1) (pos 4096) Copies (omega (arith, few)) below above) (pure_back 255 n)

copy_back : (z : ℤ) → IsCopy z → Back 255 copy_number (signed_decimal z ∷ []) z
copy_back z h =
    let low = h.low in
    let high = h.high in
    let below : int_le (negsuc 2147483647) z ≡ true = grind (arith, ints, low) in
    let above : int_le z (pos 2147483647) ≡ true = grind (arith, ints, high) in
    whole_back 255 (omega arith) z (negsuc 2147483647) (pos 2147483647) Copies (omega (arith, ints, low, high)) below above

reach : (count : ℕ) (step offset : ℤ) → IsRow count step offset → does_reach count step offset ≡ true
reach count step offset h =
    let some = h.counted.some in
    let first = h.copies 0 (omega (arith, some)) in
    let last = h.copies (count - 1) (omega (arith, some)) in
    grind (arith, nat_tests, first, last)

axis_back : (axis : ℕ) → axis < 3 → Back 255 placements.axis (axis_word axis ∷ []) axis
axis_back zero h = row_back 255 axes Axis (codes "X") 0 (fixed (codes "X") refl) refl
axis_back (suc zero) h = row_back 255 axes Axis (codes "Y") 1 (fixed (codes "Y") refl) refl
axis_back (suc (suc zero)) h = row_back 255 axes Axis (codes "Z") 2 (fixed (codes "Z") refl) refl
axis_back (suc (suc (suc n))) h = absurd (omega (arith, h))

linear_back : (axis : ℕ) → axis < 3 → Back 255 placements.row_kind (linear_word axis ∷ []) axis
linear_back zero h = row_back 255 row_kinds Axis (codes "LINEAR_X") 0 (fixed (codes "LINEAR_X") refl) refl
linear_back (suc zero) h = row_back 255 row_kinds Axis (codes "LINEAR_Y") 1 (fixed (codes "LINEAR_Y") refl) refl
linear_back (suc (suc zero)) h = row_back 255 row_kinds Axis (codes "LINEAR_Z") 2 (fixed (codes "LINEAR_Z") refl) refl
linear_back (suc (suc (suc n))) h = absurd (omega (arith, h))

square_back : (plane : ℕ) → plane < 3 → Back 255 placements.row_kind (square_word plane ∷ []) (plane + 3)
square_back zero h = row_back 255 row_kinds Axis (codes "SQUARE_XY") 3 (fixed (codes "SQUARE_XY") refl) refl
square_back (suc zero) h = row_back 255 row_kinds Axis (codes "SQUARE_XZ") 4 (fixed (codes "SQUARE_XZ") refl) refl
square_back (suc (suc zero)) h = row_back 255 row_kinds Axis (codes "SQUARE_YZ") 5 (fixed (codes "SQUARE_YZ") refl) refl
square_back (suc (suc (suc n))) h = absurd (omega (arith, h))

second_count_back : (n m : ℕ) → IsCount m → n * m ≤ 4096 → Back 255 (placements.rows_of n) (decimal m ∷ []) m
second_count_back n m h few =
    let e : nat_le (n * m) 4096 ≡ true = grind (arith, nat_tests, few) in
    word_then 255 copies _ (decimal m) [] m m (count_back m h) (rw e (pure_back 255 m))

module _ (volume mother : List ℕ) (hv : IsNameWord volume) (hm : IsNameWord mother) where
  pub replica_line : (axis count : ℕ) (width : ℤ) → IsReplica axis count width → Last 255 line (place_words volume mother [] (Replica axis count width)) (Place volume mother None (Replica axis count width))
  replica_line axis count width is =
      tagged (codes ":REPL") 4 _ _ (fixed (codes ":REPL") refl) refl
      (word_last 255 _ _ volume _ volume _ (name_back volume hv)
      (word_last 255 _ _ mother _ mother _ (name_back mother hm)
      (word_last 255 _ _ (axis_word axis) _ axis _ (axis_back axis is.along)
      (word_last 255 _ _ (decimal count) _ count _ (count_back count is.counted)
      (word_last 255 _ _ (signed_decimal width) [] width _ (steps_back 255 (omega arith) width is.near_width)
      (last_then 255 placements.offset_if_any _ [] tt _ (left_last 255 (λ n. if n == 0 then pure tt else placements.zero_offset) [] tt (pure_last 255 tt)) (end_last 255 _ _ (pure_last 255 _))))))))

  module _ (rotation : List ℕ) (hr : IsNameWord rotation) where
    pub single_line : (copy : ℤ) (offset : V3) → IsCopy copy → IsWithin (unsigned_abs M) offset → Last 255 line (place_words volume mother (rotation ∷ []) (Single copy offset)) (Place volume mother (Some rotation) (Single copy offset))
    single_line copy offset hc near =
        tagged (codes ":PLACE") 3 _ _ (fixed (codes ":PLACE") refl) refl
        (word_last 255 _ _ volume _ volume _ (name_back volume hv)
        (word_last 255 _ _ (signed_decimal copy) _ copy _ (copy_back copy hc)
        (word_last 255 _ _ mother _ mother _ (name_back mother hm)
        (word_last 255 _ _ rotation _ rotation _ (name_back rotation hr)
        (then_last 255 vector _ (vector_words offset) [] offset _ (vector_back 255 (omega arith) offset near) (end_last 255 _ _ (pure_last 255 _)))))))

    -- a kind of rows, and what it wants
    rows_back : (kind : ℕ) (word : List ℕ) (words : List (List ℕ)) (form : Form) → Back 255 placements.row_kind (word ∷ []) kind → Last 255 (placements.rows kind) words form → Last 255 line (codes ":PLACE_PARAM" ∷ volume ∷ decimal 0 ∷ mother ∷ word ∷ rotation ∷ words) (Place volume mother (Some rotation) form)
    rows_back kind word words form hk h =
        tagged (codes ":PLACE_PARAM") 5 _ _ (fixed (codes ":PLACE_PARAM") refl) refl
        (word_last 255 _ _ volume _ volume _ (name_back volume hv)
        (word_last 255 _ _ (decimal 0) _ (pos 0) _ (copy_back (pos 0) (record { low = omega (arith, ints); high = omega (arith, ints) }))
        (word_last 255 _ _ mother _ mother _ (name_back mother hm)
        (word_last 255 _ _ word _ kind _ hk
        (word_last 255 _ _ rotation _ rotation _ (name_back rotation hr) (last_then 255 (placements.rows kind) (λ form. pure (Place volume mother (Some rotation) form)) words form _ h (pure_last 255 _)))))))

    pub linear_line : (axis count : ℕ) (step offset : ℤ) → IsLinear axis count step offset → Last 255 line (place_words volume mother (rotation ∷ []) (Linear axis count step offset)) (Place volume mother (Some rotation) (Linear axis count step offset))
    linear_line axis count step offset is =
        let along = is.along in
        let kind : nat_lt axis 3 ≡ true = grind (arith, nat_tests, along) in
        let row : Back 255 placements.one_row (decimal count ∷ signed_decimal step ∷ signed_decimal offset ∷ []) (record { count = count; step = step; offset = offset }) =
        word_then 255 _ _ (decimal count) _ count _ (count_back count is.row.counted)
        (word_then 255 _ _ (signed_decimal step) _ step _ (steps_back 255 (omega arith) step is.row.near_step)
        (word_then 255 _ _ (signed_decimal offset) [] offset _ (steps_back 255 (omega arith) offset is.row.near_offset) (pure_back 255 _))) in
        rows_back axis (linear_word axis) _ (Linear axis count step offset) (linear_back axis along)
        (rw kind (then_last 255 placements.one_row _ (decimal count ∷ signed_decimal step ∷ signed_decimal offset ∷ []) [] _ _ row (end_last 255 _ _ (rw (reach count step offset is.row) (pure_last 255 _)))))

    pub square_line : (plane n1 n2 : ℕ) (s1 s2 o1 o2 : ℤ) → IsSquare plane n1 n2 s1 s2 o1 o2 → Last 255 line (place_words volume mother (rotation ∷ []) (Square plane n1 n2 s1 s2 o1 o2)) (Place volume mother (Some rotation) (Square plane n1 n2 s1 s2 o1 o2))
    square_line plane n1 n2 s1 s2 o1 o2 is =
        let kind : nat_lt (plane + 3) 3 ≡ false = grind (arith, nat_tests) in
        let same : plane + 3 - 3 ≡ plane = omega arith in
        let words = decimal n1 ∷ decimal n2 ∷ signed_decimal s1 ∷ signed_decimal s2 ∷ signed_decimal o1 ∷ signed_decimal o2 ∷ [] in
        let rows : Back 255 placements.two_rows words (record { count = n1; step = s1; offset = o1 }, record { count = n2; step = s2; offset = o2 }) =
        word_then 255 _ _ (decimal n1) _ n1 _ (count_back n1 is.first.counted)
        (word_then 255 _ _ (decimal n2) _ n2 _ (second_count_back n1 n2 is.second.counted is.few)
        (word_then 255 _ _ (signed_decimal s1) _ s1 _ (steps_back 255 (omega arith) s1 is.first.near_step)
        (word_then 255 _ _ (signed_decimal s2) _ s2 _ (steps_back 255 (omega arith) s2 is.second.near_step)
        (word_then 255 _ _ (signed_decimal o1) _ o1 _ (steps_back 255 (omega arith) o1 is.first.near_offset)
        (word_then 255 _ _ (signed_decimal o2) [] o2 _ (steps_back 255 (omega arith) o2 is.second.near_offset) (pure_back 255 _)))))) in
        rows_back (plane + 3) (square_word plane) words (Square plane n1 n2 s1 s2 o1 o2) (square_back plane is.along)
        (rw (kind, same) (then_last 255 placements.two_rows _ words [] _ _ rows (end_last 255 _ _ (rw (reach n1 s1 o1 is.first, reach n2 s2 o2 is.second) (pure_last 255 _)))))

-- ---- rotations

-- an entry of a row of a rotation
entry_back : (z : ℤ) → unsigned_abs z ≤ 1 → Back 255 entry (signed_decimal z ∷ []) (Some z)
entry_back z h =
    let below : int_le (negsuc 0) z ≡ true = grind (arith, ints, h) in
    let above : int_le z (pos 1) ≡ true = grind (arith, ints, h) in
    record {
      reads = λ params n rest. (n + 1, rw (whole_worth params z (omega (arith, h)), count_whole z (negsuc 0) (pos 1) below above) refl);
      short = single 255 (signed_decimal z) (signed_short 255 z (omega arith) (omega (arith, h)));
    }

record IsUnit (v : V3) : Type 0 where
  x : unsigned_abs v.x ≤ 1
  y : unsigned_abs v.y ≤ 1
  z : unsigned_abs v.z ≤ 1

unit : (v : V3) → is_unit v ≡ true → IsUnit v
unit v h =
    let e : unsigned_abs v.x + unsigned_abs v.y + unsigned_abs v.z ≡ 1 = eqb-true _ _ h in
    record { x = omega (arith, e); y = omega (arith, e); z = omega (arith, e) }

module _ (m : Matrix) (x : IsUnit m.x) (y : IsUnit m.y) (z : IsUnit m.z) (whole : checked m ≡ Ok m) where
  matrix_last : Last 255 matrix9 (vector_words m.x ++ vector_words m.y ++ vector_words m.z) m
  matrix_last =
      word_last 255 _ _ (signed_decimal m.x.x) _ (Some m.x.x) _ (entry_back m.x.x x.x)
      (word_last 255 _ _ (signed_decimal m.x.y) _ (Some m.x.y) _ (entry_back m.x.y x.y)
      (word_last 255 _ _ (signed_decimal m.x.z) _ (Some m.x.z) _ (entry_back m.x.z x.z)
      (word_last 255 _ _ (signed_decimal m.y.x) _ (Some m.y.x) _ (entry_back m.y.x y.x)
      (word_last 255 _ _ (signed_decimal m.y.y) _ (Some m.y.y) _ (entry_back m.y.y y.y)
      (word_last 255 _ _ (signed_decimal m.y.z) _ (Some m.y.z) _ (entry_back m.y.z y.z)
      (word_last 255 _ _ (signed_decimal m.z.x) _ (Some m.z.x) _ (entry_back m.z.x z.x)
      (word_last 255 _ _ (signed_decimal m.z.y) _ (Some m.z.y) _ (entry_back m.z.y z.y)
      (word_last 255 _ _ (signed_decimal m.z.z) [] (Some m.z.z) _ (entry_back m.z.z z.z) (end_last 255 _ _ (rw whole (pure_last 255 m)))))))))))

checked-matrix_of : (k : ℕ) → k < 24 → checked (matrix_of k) ≡ Ok (matrix_of k)
unfolding checked
checked-matrix_of k h = rw (axes_to_axes k h, proper k h) refl

pub rotation_named : (k : ℕ) → k < 24 → IsNameWord (rotation_name k)
unfolding digits
rotation_named k h = record {
  named = agree_below_at (λ k. is_name_of (rotation_name k)) (λ _. true) 24 k refl h;
  word = plain_word (rotation_name k) (omega arith) (All-cons (λ b. is_plain b ≡ true) 82 (decimal k) refl (decimal_plain k (omega (arith, h))));
}

pub turn_line : (k : ℕ) → k < 24 → Last 255 line (words_of (Turn (rotation_name k) (matrix_of k))) (Turn (rotation_name k) (matrix_of k))
turn_line k h =
    let m = matrix_of k in
    let rows = and_parts (is_unit m.x && is_unit m.y && is_unit m.z) _ (axes_to_axes k h) in
    let two = and_parts (is_unit m.x && is_unit m.y) (is_unit m.z) rows.0 in
    let one = and_parts (is_unit m.x) (is_unit m.y) two.0 in
    let matrix = matrix_last m (unit m.x one.0) (unit m.y one.1) (unit m.z two.1) (checked-matrix_of k h) in
    tagged (codes ":ROTM") 6 _ _ (fixed (codes ":ROTM") refl) refl
    (word_last 255 _ _ (rotation_name k) _ (rotation_name k) _ (name_back (rotation_name k) (rotation_named k h))
    (last_then 255 turns.values (λ x. pure (Turn (rotation_name k) x)) _ m _
    (left_last 255 (λ n. if nat_le n 3 then turns.angles3 else if nat_le n 6 then turns.angles6 else matrix9) _ m matrix) (pure_last 255 _)))
