-- The values of a solid, as they are printed, are read back as it.
use Rattle.std.proofs.Common.{◌≡◌, ℕ, ◌≤◌, ℤ, pos, ◌+ℤ◌, ◌≤ℤ◌, ◌<ℤ◌, unsigned_abs, Bool, true, false, List, [], ◌∷◌, ◌++◌, flat_map, length, All, Option, Some, None, refl, sym, subst, arith}
use Rattle.std.specs.Prelude.{int_le, int_lt, not, ◌&&◌, if◌then◌else◌}
use Rattle.std.specs.Ordering.{int_eq}
use Rattle.std.specs.Fmt.{decimal, signed_decimal}
use Rattle.std.proofs.lemmas.Bool.{not-false}
use Rattle.std.proofs.lemmas.Bool.Decides.{nat_tests}
use Rattle.std.proofs.lemmas.Int.{ints}
use Rattle.std.proofs.lemmas.List.Elements.{All-weaker}
use Rattle.gx_num.specs.declared.vector.V3.{V3}
use Rattle.gx_num.specs.declared.vector.TheConstants.{M}
use Rattle.gx_num.specs.Vector.{IsWithin}
use Rattle.gx_table.specs.declared.fault.FaultName.TheVariants.{Count, Sections, Flat, NotConvex}
use Rattle.gx_form.specs.Form.{Form, pure, collect}
use Rattle.gx_polygon.specs.Polygon.{is_straight, is_convex}
use Rattle.gx_shapes.specs.declared.section.Section.{Section}
use Rattle.gx_shapes.specs.declared.facet.Facet.{Facet}
use Rattle.gx_shapes.specs.declared.figure.Figure.{Figure}
use Rattle.gx_shapes.specs.declared.figure.Figure.TheVariants as figure
use Rattle.gx_shapes.specs.declared.kind.SolidKind.TheVariants as kind
use Rattle.gx_shapes.specs.Figure as spec
use Rattle.gx_shapes.specs.Figure.{are_near}
use Rattle.gx_shapes.specs.Extrusion.{are_whole}
use Rattle.gx_shapes.specs.Numbers.{Numbers, start, numbers, number, end}
use Rattle.gx_shapes.specs.Solid.{kind_of}
use Rattle.gx_shapes.specs.Accepted.{IsFigure, IsSolid, all_of}
use Rattle.gx_shapes.proofs.Given.{Gives, then_gives, pure_gives, test_gives, near_value, IsHalf, IsWidths, IsCorner, IsSection, IsExtrusion, IsFacet, IsFourth, given}
use Rattle.gx_shapes.proofs.Tessellations.{first_true-none}
use Rattle.gx_decl.specs.Solids.{of_words}
use Rattle.gx_canon.specs.Words.{vector_words, corner_words, section_words, scale_word, points_words, facet_words, value_words}
use Rattle.gx_canon.specs.Printable.{IsLowestScale, HasLowestScales}
use Rattle.gx_canon.proofs.Back.{Back, IsNear, then_back, word_then, map_back, pure_back, longer_back, collect_back, steps_back, whole_back}
use Rattle.gx_canon.proofs.Forms.{anything, after}
use Rattle.gx_canon.proofs.FewFacets.{few_facets}
use Rattle.gx_canon.proofs.Scales.{small_section, scale_back}

-- ---- half-lengths and points

positive : (v : ℤ) → pos 0 <ℤ v → int_le v (pos 0) ≡ false
positive v h = grind (arith, ints)

not_negative : (v : ℤ) → pos 0 ≤ℤ v → int_lt v (pos 0) ≡ false
not_negative v h = grind (arith, ints)

not_both : (a b : ℤ) → pos 0 <ℤ (a +ℤ b) → (int_eq a (pos 0) && int_eq b (pos 0)) ≡ false
not_both a b h = grind (arith, ints)

module _ (most : ℕ) (enough : 11 ≤ most) where
  half_back : (v : ℤ) → IsHalf v → Back most (spec.half of_words) (signed_decimal v ∷ []) v
  half_back v h = word_then most _ _ _ _ _ _ (steps_back most enough v h.near) (rw (positive v h.above) (pure_back most v))

  width_back : (v : ℤ) → IsNear v → pos 0 ≤ℤ v → Back most (spec.width of_words) (signed_decimal v ∷ []) v
  width_back v near h = word_then most _ _ _ _ _ _ (steps_back most enough v near) (rw (not_negative v h) (pure_back most v))

  second_back : (a b : ℤ) → IsWidths a b → Back most (spec.second_width of_words a) (signed_decimal b ∷ []) b
  second_back a b h = word_then most _ _ _ _ _ _ (width_back b h.near_second h.width.second) (rw (not_both a b h.width.some) (pure_back most b))

  point_back : (p : V3) → IsWithin (unsigned_abs M) p → Back most (spec.point_in of_words) (vector_words p) p
  point_back p h =
      word_then most _ _ _ _ _ _ (steps_back most enough p.x h.x) (word_then most _ _ _ _ _ _ (steps_back most enough p.y h.y) (word_then most _ _ _ _ _ _ (steps_back most enough p.z h.z) (pure_back most p)))

  box_back : (hx hy hz : ℤ) → IsHalf hx → IsHalf hy → IsHalf hz → Back most (spec.figure_in of_words kind.Cuboid) (value_words (figure.Cuboid hx hy hz)) (figure.Cuboid hx hy hz)
  box_back hx hy hz x y z = word_then most _ _ _ _ _ _ (half_back hx x) (word_then most _ _ _ _ _ _ (half_back hy y) (word_then most _ _ _ _ _ _ (half_back hz z) (pure_back most _)))

  trd_back : (x1 x2 y1 y2 z : ℤ) → IsWidths x1 x2 → IsWidths y1 y2 → IsHalf z → Back most (spec.figure_in of_words kind.Trd) (value_words (figure.Trd x1 x2 y1 y2 z)) (figure.Trd x1 x2 y1 y2 z)
  trd_back x1 x2 y1 y2 z x y h =
      word_then most _ _ _ _ _ _ (width_back x1 x.near_first x.width.first)
      (word_then most _ _ _ _ _ _ (second_back x1 x2 x)
      (word_then most _ _ _ _ _ _ (width_back y1 y.near_first y.width.first)
      (word_then most _ _ _ _ _ _ (second_back y1 y2 y) (word_then most _ _ _ _ _ _ (half_back z h) (pure_back most _)))))

  tet_back : (a b c d : V3) → IsWithin (unsigned_abs M) a → IsWithin (unsigned_abs M) b → IsWithin (unsigned_abs M) c → IsWithin (unsigned_abs M) d → Back most (spec.figure_in of_words kind.Tet) (value_words (figure.Tet a b c d)) (figure.Tet a b c d)
  tet_back a b c d ha hb hc hd =
      then_back most _ _ (vector_words a) _ _ _ (point_back a ha)
      (then_back most _ _ (vector_words b) _ _ _ (point_back b hb)
      (then_back most _ _ (vector_words c) _ _ _ (point_back c hc) (then_back most _ _ (vector_words d) [] _ _ (point_back d hd) (pure_back most _))))

  -- ---- facets

  facet_back : (a b c : V3) (d : Option V3) → IsWithin (unsigned_abs M) a → IsWithin (unsigned_abs M) b → IsWithin (unsigned_abs M) c → IsFourth d → Back most (spec.facet_in of_words) (points_words a b c d) (record { a = a; b = b; c = c; d = d })
  facet_back a b c None ha hb hc hd =
      word_then most _ _ _ _ _ _ (whole_back most enough (pos 3) (pos 3) (pos 4) Count (omega arith) refl refl)
      (then_back most _ _ (vector_words a) _ _ _ (point_back a ha)
      (then_back most _ _ (vector_words b) _ _ _ (point_back b hb)
      (then_back most _ _ (vector_words c) _ _ _ (point_back c hc) (then_back most (spec.fourth_in of_words (pos 3)) (λ x. pure (let f : Facet = record { a = a; b = b; c = c; d = x } in f)) [] [] None _ (pure_back most None) (pure_back most _)))))
  facet_back a b c (Some d) ha hb hc hd =
      word_then most _ _ _ _ _ _ (whole_back most enough (pos 4) (pos 3) (pos 4) Count (omega arith) refl refl)
      (then_back most _ _ (vector_words a) _ _ _ (point_back a ha)
      (then_back most _ _ (vector_words b) _ _ _ (point_back b hb)
      (then_back most _ _ (vector_words c) _ _ _ (point_back c hc)
      (then_back most _ _ (vector_words d) [] _ _ (then_back most _ _ (vector_words d) [] _ _ (point_back d hd) (pure_back most (Some d))) (pure_back most _)))))

  tessellated_back : (facets : List Facet) → 1 ≤ length facets → length facets ≤ 4096 → All IsFacet facets → Back most (spec.figure_in of_words kind.Tessellated) (value_words (figure.Tessellated facets)) (figure.Tessellated facets)
  tessellated_back facets low high h =
      let below : int_le (pos 1) (pos (length facets)) ≡ true = grind (arith, nat_tests) in
      let above : int_le (pos (length facets)) (pos 4096) ≡ true = grind (arith, nat_tests) in
      let each = All-weaker IsFacet (λ f. Back most (spec.facet_in of_words) (facet_words f) f) (λ f is. facet_back f.a f.b f.c f.d is.a is.b is.c is.d) facets h in
      word_then most _ _ _ _ _ _ (whole_back most enough (pos (length facets)) (pos 1) (pos 4096) Count (omega (arith, high)) below above)
      (map_back most _ figure.Tessellated (flat_map facet_words facets) facets (collect_back most (spec.facet_in of_words) facet_words [] facets each))

  -- ---- extrusions

  corner_back : (c : V3) → IsCorner c → Back most (spec.corner_in of_words) (corner_words c) c
  corner_back c h =
      let same : record { x = c.x; y = c.y; z = pos 0 } ≡ c = λ i. record { x = c.x; y = c.y; z = sym h.flat i } in
      subst (Back most (spec.corner_in of_words) (corner_words c)) same
      (word_then most _ _ _ _ _ _ (steps_back most enough c.x h.within.x) (word_then most _ _ _ _ _ _ (steps_back most enough c.y h.within.y) (pure_back most _)))

  count_back : (n : ℕ) → 3 ≤ n → n ≤ 16 → Back most (spec.corner_count of_words) (decimal n ∷ []) n
  count_back n low high =
      let below : int_le (pos 3) (pos n) ≡ true = grind (arith, nat_tests) in
      let above : int_le (pos n) (pos 9223372036854775807) ≡ true = grind (arith, nat_tests) in
      let few : int_lt (pos 16) (pos n) ≡ false = grind (arith, nat_tests) in
      word_then most _ _ _ _ _ _ (whole_back most enough (pos n) (pos 3) (pos 9223372036854775807) Count (omega (arith, high)) below above) (rw few (pure_back most n))

-- ---- what is known of an extrusion besides: where its ends are moved to, and three corners

record IsMoved (s : Section) : Type 0 where
  x : IsNear s.x
  y : IsNear s.y

abbrev AreMoved : Figure → Type 0
AreMoved (figure.Extruded corners s t) = IsMoved s × IsMoved t
AreMoved figure = Unit {0}

kept_gives : (c : Bool) (n : ℤ) (q : Form Numbers ℤ) (P : ℤ → Type 0) → (c ≡ true → P n) → Gives q (λ _. ⊥) → Gives (if c then pure n else q) P
kept_gives true n q P h fails = pure_gives n P (h refl)
kept_gives false n q P h fails = record { given = λ s b t e. absurd (fails.given s b t e) }

length_gives : Gives numbers.length IsNear
length_gives = then_gives number _ _ IsNear (anything number) (λ n _. kept_gives _ n _ IsNear (near_value n) (record { given = λ s b t e. cc }))

from_gives : (corners : List V3) (s : Section) → IsMoved s → Gives (spec.section_from numbers corners s) IsMoved
from_gives corners s h =
    test_gives (int_le s.scale.num (pos 0)) numbers _ _ _ (λ _.
    test_gives (not (are_whole s.scale corners)) numbers _ _ _ (λ _. test_gives (not (are_near s corners)) numbers _ (pure s) _ (λ _. pure_gives s IsMoved h)))

section_gives : (corners : List V3) (z : ℤ) → Gives (spec.section_at numbers corners z) IsMoved
section_gives corners z =
    then_gives _ _ IsNear IsMoved length_gives (λ x hx.
    then_gives _ _ IsNear IsMoved length_gives (λ y hy.
    after numbers.scale _ IsMoved (λ k. from_gives corners (record { z = z; x = x; y = y; scale = k }) (record { x = hx; y = hy }))))

sections_gives : (corners : List V3) → Gives (spec.sections numbers corners) (λ e. IsMoved e.0 × IsMoved e.1)
sections_gives corners =
    after numbers.length _ _ (λ z1.
    then_gives _ _ IsMoved _ (section_gives corners z1) (λ s hs.
    after (spec.second_height numbers z1) _ _ (λ z2. then_gives _ _ IsMoved _ (section_gives corners z2) (λ t ht. pure_gives (s, t) _ (hs, ht)))))

extruded_gives : Gives (all_of kind.Extruded) AreMoved
extruded_gives =
    then_gives _ _ AreMoved AreMoved
    (after (spec.corner_count numbers) _ AreMoved (λ n.
    after (collect n (spec.corner_in numbers)) _ AreMoved (λ corners.
    after (numbers.whole (pos 2) (pos 2) Sections) _ AreMoved (λ two.
    then_gives _ _ _ AreMoved (sections_gives corners) (λ ends h. pure_gives (figure.Extruded corners ends.0 ends.1) AreMoved h)))))
    (λ f h. after end _ AreMoved (λ _. pure_gives f AreMoved h))

moved : (corners : List V3) (s t : Section) → IsFigure (figure.Extruded corners s t) → IsMoved s × IsMoved t
moved corners s t is = extruded_gives.given (start is.values) (figure.Extruded corners s t) is.left is.given

three_corners : (corners : List V3) → is_straight corners ≡ false → 3 ≤ length corners
three_corners [] h = absurd cc
three_corners (a ∷ []) h = absurd cc
three_corners (a ∷ b ∷ []) h = absurd cc
three_corners (a ∷ b ∷ c ∷ rest) h = omega arith

-- ---- extrusions

module _ (corners : List V3) (each : All IsCorner corners) (bent : is_straight corners ≡ false) (convex : is_convex corners ≡ true) where
  section_back : (s : Section) → IsSection corners s → IsMoved s → IsLowestScale s.scale → Back 255 (spec.section_at of_words corners s.z) (signed_decimal s.x ∷ signed_decimal s.y ∷ scale_word s.scale ∷ []) s
  section_back s is at low =
      let few = small_section corners s low at.x at.y each bent convex is.scale.whole is.near in
      word_then 255 _ _ _ _ _ _ (steps_back 255 (omega arith) s.x at.x)
      (word_then 255 _ _ _ _ _ _ (steps_back 255 (omega arith) s.y at.y)
      (word_then 255 _ _ _ _ _ _ (scale_back s.scale low is.scale.den few) (rw (positive s.scale.num is.scale.num, is.scale.whole, is.near) (pure_back 255 s))))

  height_back : (first z : ℤ) → IsNear z → first <ℤ z → Back 255 (spec.second_height of_words first) (signed_decimal z ∷ []) z
  height_back first z near h =
      let above : int_le z first ≡ false = grind (arith, ints) in
      word_then 255 _ _ _ _ _ _ (steps_back 255 (omega arith) z near) (rw above (pure_back 255 z))

  extruded_back : (s t : Section) → IsExtrusion corners s t → IsMoved s → IsMoved t → IsLowestScale s.scale → IsLowestScale t.scale → Back 255 (spec.figure_in of_words kind.Extruded) (value_words (figure.Extruded corners s t)) (figure.Extruded corners s t)
  extruded_back s t is at_s at_t low_s low_t =
      let item = λ (c : V3) (h : IsCorner c). corner_back 255 (omega arith) c h in
      let sections : Back 255 (spec.sections of_words corners) (section_words s ++ section_words t) (s, t) = word_then 255 _ _ _ _ s.z (s, t) (steps_back 255 (omega arith) s.z is.first.z)
      (then_back 255 _ _ (signed_decimal s.x ∷ signed_decimal s.y ∷ scale_word s.scale ∷ []) _ s _ (section_back s is.first at_s low_s)
      (word_then 255 _ _ _ _ t.z _ (height_back s.z t.z is.second.z is.above)
      (then_back 255 _ _ (signed_decimal t.x ∷ signed_decimal t.y ∷ scale_word t.scale ∷ []) [] t _ (section_back t is.second at_t low_t) (pure_back 255 (s, t))))) in
      word_then 255 _ _ _ _ (length corners) _ (count_back 255 (omega arith) (length corners) (three_corners corners bent) is.few)
      (then_back 255 _ _ (flat_map corner_words corners) _ corners _ (collect_back 255 (spec.corner_in of_words) corner_words [] corners (All-weaker IsCorner (λ c. Back 255 (spec.corner_in of_words) (corner_words c) c) item corners each))
      (word_then 255 _ _ _ _ (pos 2) _ (whole_back 255 (omega arith) (pos 2) (pos 2) (pos 2) Sections (omega arith) refl refl)
      (then_back 255 _ _ (section_words s ++ section_words t) [] (s, t) _ sections (pure_back 255 _))))

-- ---- any solid

some_facets : (facets : List Facet) → IsSolid (figure.Tessellated facets) → 1 ≤ length facets
some_facets [] is = absurd (let e = is.whole in cc)
some_facets (f ∷ facets) is = omega arith

-- in words of few bytes
pub facets_back : (facets : List Facet) → IsSolid (figure.Tessellated facets) → Back 11 (spec.figure_in of_words kind.Tessellated) (value_words (figure.Tessellated facets)) (figure.Tessellated facets)
facets_back facets is = tessellated_back 11 (omega arith) facets (some_facets facets is) (omega (arith, few_facets facets is)) (given (figure.Tessellated facets) is.values)

pub figure_back : (f : Figure) → IsSolid f → HasLowestScales f → Back 255 (spec.figure_in of_words (kind_of f)) (value_words f) f
figure_back (figure.Cuboid hx hy hz) is low =
    let h = given (figure.Cuboid hx hy hz) is.values in box_back 255 (omega arith) hx hy hz h.0 h.1 h.2
figure_back (figure.Trd x1 x2 y1 y2 z) is low =
    let h = given (figure.Trd x1 x2 y1 y2 z) is.values in trd_back 255 (omega arith) x1 x2 y1 y2 z h.0 h.1 h.2
figure_back (figure.Tet a b c d) is low =
    let h = given (figure.Tet a b c d) is.values in tet_back 255 (omega arith) a b c d h.0 h.1 h.2 h.3
figure_back (figure.Extruded corners s t) is low =
    let h = given (figure.Extruded corners s t) is.values in
    let at = moved corners s t is.values in
    let none = first_true-none ((is_straight corners, Flat) ∷ (not (is_convex corners), NotConvex) ∷ []) is.whole in
    extruded_back corners h.each (none 0 (true, Flat) (omega arith)) (not-false (is_convex corners) (none 1 (true, Flat) (omega arith))) s t h at.0 at.1 low.0 low.1
figure_back (figure.Tessellated facets) is low = longer_back 11 255 _ _ _ (omega arith) (facets_back facets is)
