-- What is known of a figure that some values give.
use Rattle.std.proofs.Common.{◌≡◌, ◌≤◌, ℕ, zero, suc, ◌+◌, ◌^◌, Bool, true, false, ◌&&◌, ℤ, pos, ◌+ℤ◌, ◌≤ℤ◌, ◌<ℤ◌, unsigned_abs, int_lt, int_le, List, [], ◌∷◌, ◌++◌, length, All, Option, Some, None, Ok, Err, refl, sym, ap, ◌∙◌, subst, arith, length-append, if◌then◌else◌, true≢false}
use Rattle.std.specs.Prelude.{nat_le, not}
use Rattle.std.specs.Ordering.{int_eq}
use Rattle.std.proofs.lemmas.List.Elements.{All-nil, All-append, All-cons}
use Rattle.std.proofs.lemmas.Bool.Decides.{Decides-int_eq, Decides-and, nat_tests}
use Rattle.std.proofs.lemmas.Bool.{and_parts, not-false}
use Rattle.gx_algebra.proofs.Order.{by_sign}
use Rattle.gx_shapes.proofs.Extrusions.{IsScaled}
use Rattle.gx_shapes.proofs.Trapezoids.{IsWidth}
use Rattle.gx_num.specs.declared.vector.V3.{V3}
use Rattle.gx_num.specs.declared.vector.TheConstants.{M}
use Rattle.gx_num.specs.Vector.{IsWithin}
use Rattle.gx_table.specs.declared.fault.FaultName.{FaultName}
use Rattle.gx_form.specs.Form.{Outcome, Form, and_then, ◌>>=◌, pure, collect_from}
use Rattle.gx_shapes.specs.declared.facet.Facet.{Facet}
use Rattle.gx_shapes.specs.declared.section.Scale.{Scale}
use Rattle.gx_shapes.specs.declared.section.Section.{Section}
use Rattle.gx_shapes.specs.declared.figure.Figure.{Figure}
use Rattle.gx_shapes.specs.declared.figure.Figure.TheVariants as figure
use Rattle.gx_shapes.specs.declared.kind.SolidKind.{SolidKind}
use Rattle.gx_shapes.specs.declared.kind.SolidKind.TheVariants as kind
use Rattle.gx_shapes.specs.Extrusion.{are_whole}
use Rattle.gx_shapes.specs.Source.{Source, refuse}
use Rattle.gx_shapes.specs.Figure as spec
use Rattle.gx_shapes.specs.Numbers.{Numbers, start, number, pair, here, numbers, end}
use Rattle.gx_shapes.specs.Solid.{kind_of}
use Rattle.gx_shapes.specs.Accepted.{IsFigure}
use Rattle.gx_shapes.specs.Figure.{are_near}
use borrow.Author.Differences.{ints}

-- ---- forms

-- what the form reads has P
pub record Gives {S A : Type 0} (p : Form S A) (P : A → Type 0) : Type 0 where
  pub given : (s : S) (a : A) (t : S) → p s ≡ Ok (a, t) → P a

module _ {S A : Type 0} where
  abbrev value_or : A → Outcome S A → A
  value_or d (Ok p) = p.0
  value_or d (Err e) = d

  pub pure_gives : (a : A) (P : A → Type 0) → P a → Gives {S = S} (pure a) P
  pure_gives a P h = record { given = λ s b t e. subst P (ap (value_or a) e) h }

  pub test_gives : (c : Bool) (source : Source S) (fault : FaultName) (q : Form S A) (P : A → Type 0) → (c ≡ false → Gives q P) → Gives (if c then refuse source fault else q) P
  test_gives true source fault q P h = record { given = λ s b t e. absurd cc }
  test_gives false source fault q P h = h refl

module _ {S A B : Type 0} (p : Form S A) (f : A → Form S B) (P : A → Type 0) (Q : B → Type 0) (first : Gives p P) (second : (a : A) → P a → Gives (f a) Q) where
  onward : (s : S) (o : Outcome S A) → p s ≡ o → (b : B) (t : S) → and_then o f ≡ Ok (b, t) → Q b
  onward s (Ok q) e b t h = (second q.0 (first.given s q.0 q.1 e)).given q.1 b t h
  onward s (Err r) e b t h = absurd cc

  pub then_gives : Gives (p >>= f) Q
  then_gives = record { given = λ s b t e. onward s (p s) refl b t e }

-- each of a row, and as many as were asked for
collect_gives : {S X : Type 0} (item : Form S X) (P : X → Type 0) → Gives item P → (n : ℕ) (found : List X) → All P found → Gives (collect_from item n found) (λ xs. All P xs × (length xs ≡ length found + n))
unfolding collect_from
collect_gives item P h zero found all = pure_gives found (λ xs. All P xs × (length xs ≡ length found + 0)) (all, omega arith)
collect_gives item P h (suc n) found all =
    then_gives item (λ x. collect_from item n (found ++ x ∷ [])) P (λ xs. All P xs × (length xs ≡ length found + suc n)) h
    (λ x is.
    let rest = collect_gives item P h n (found ++ x ∷ []) (All-append P found (x ∷ []) all (All-cons P x [] is (All-nil P))) in
    record { given = λ s xs t e. let both = rest.given s xs t e in (both.0, omega (arith, both.1, length-append found (x ∷ []))) })

-- ---- what is known of each kind

abbrev pub bound : ℕ
bound = unsigned_abs M

abbrev pub IsNear : ℤ → Type 0
IsNear v = unsigned_abs v ≤ bound

-- a half-length above 0
pub record IsHalf (v : ℤ) : Type 0 where
  pub near : IsNear v
  pub above : pos 0 <ℤ v

-- two half-lengths of one direction
pub record IsWidths (a b : ℤ) : Type 0 where
  pub near_first : IsNear a
  pub near_second : IsNear b
  pub width : IsWidth a b

-- a corner of a polygon
pub record IsCorner (c : V3) : Type 0 where
  pub within : IsWithin bound c
  pub flat : c.z ≡ pos 0

pub record IsSection (corners : List V3) (s : Section) : Type 0 where
  pub z : IsNear s.z
  pub scale : IsScaled s corners
  pub near : are_near s corners ≡ true

pub record IsExtrusion (corners : List V3) (s t : Section) : Type 0 where
  pub few : length corners ≤ 16
  pub each : All IsCorner corners
  pub first : IsSection corners s
  pub second : IsSection corners t
  pub above : s.z <ℤ t.z

abbrev pub IsFourth : Option V3 → Type 0
IsFourth None = Unit {0}
IsFourth (Some d) = IsWithin bound d

pub record IsFacet (f : Facet) : Type 0 where
  pub a : IsWithin bound f.a
  pub b : IsWithin bound f.b
  pub c : IsWithin bound f.c
  pub d : IsFourth f.d

abbrev pub IsGiven : Figure → Type 0
IsGiven (figure.Cuboid hx hy hz) = IsHalf hx × IsHalf hy × IsHalf hz
IsGiven (figure.Trd dx1 dx2 dy1 dy2 dz) = IsWidths dx1 dx2 × IsWidths dy1 dy2 × IsHalf dz
IsGiven (figure.Tet a b c d) = IsWithin bound a × IsWithin bound b × IsWithin bound c × IsWithin bound d
IsGiven (figure.Extruded corners s t) = IsExtrusion corners s t
IsGiven (figure.Tessellated facets) = All IsFacet facets

-- ---- from a source

-- what is known of a source's values
pub record IsSource {S : Type 0} (source : Source S) : Type 0 where
  pub length : Gives source.length IsNear
  pub whole : (low high : ℤ) (range : FaultName) → Gives (source.whole low high range) (λ n. (low ≤ℤ n) × (n ≤ℤ high))
  pub scale : Gives source.scale (λ s. pos 0 <ℤ s.den)

above_zero : (n : ℤ) → int_le n (pos 0) ≡ false → pos 0 <ℤ n
above_zero n e = omega (arith, ints)

two_widths : (a b : ℤ) → pos 0 ≤ℤ a → pos 0 ≤ℤ b → (int_eq a (pos 0) && int_eq b (pos 0)) ≡ false → IsWidth a b
two_widths a b h k e = record { first = h; second = k; some = by_sign (a +ℤ b) (λ lt. absurd (omega (arith, ints, h, k))) (λ z. absurd (both z)) (λ lt. lt) }
  where
    both : a +ℤ b ≡ pos 0 → ⊥
    both z = true≢false (sym ((Decides-and (int_eq a (pos 0)) (int_eq b (pos 0)) (Decides-int_eq a (pos 0)) (Decides-int_eq b (pos 0))).1 (omega (arith, ints, h, k), omega (arith, ints, h, k))) ∙ e)

module _ {S : Type 0} (source : Source S) (is : IsSource source) where
  half_gives : Gives (spec.half source) IsHalf
  half_gives = then_gives _ _ IsNear IsHalf is.length (λ v near. test_gives _ source _ (pure v) IsHalf (λ e. pure_gives v IsHalf (record { near = near; above = omega (arith, ints, e) })))

  width_gives : Gives (spec.width source) (λ v. IsNear v × (pos 0 ≤ℤ v))
  width_gives = then_gives _ _ IsNear _ is.length (λ v near. test_gives _ source _ (pure v) _ (λ e. pure_gives v _ (near, omega (arith, ints, e))))

  second_gives : (first : ℤ) → IsNear first → pos 0 ≤ℤ first → Gives (spec.second_width source first) (IsWidths first)
  second_gives first near le =
      then_gives _ _ _ _ width_gives (λ v h.
      test_gives _ source _ (pure v) _ (λ e. pure_gives v _ (record { near_first = near; near_second = h.0; width = two_widths first v le h.1 e })))

  point_gives : Gives (spec.point_in source) (IsWithin bound)
  point_gives =
      then_gives _ _ IsNear _ is.length (λ x hx.
      then_gives _ _ IsNear _ is.length (λ y hy.
      then_gives _ _ IsNear _ is.length (λ z hz. pure_gives _ _ (record { x = hx; y = hy; z = hz }))))

  corner_gives : Gives (spec.corner_in source) IsCorner
  corner_gives =
      then_gives _ _ IsNear _ is.length (λ x hx.
      then_gives _ _ IsNear _ is.length (λ y hy. pure_gives _ _ (record { within = record { x = hx; y = hy; z = omega arith }; flat = refl })))

  count_gives : Gives (spec.corner_count source) (λ n. n ≤ 16)
  count_gives = then_gives _ _ _ _ (is.whole _ _ _) (λ n h. test_gives _ source _ (pure (unsigned_abs n)) _ (λ e. pure_gives _ _ (omega (arith, ints, h.0, e))))

  scaled_gives : (corners : List V3) (s : Section) → IsNear s.z → pos 0 <ℤ s.scale.den → Gives (spec.section_from source corners s) (λ t. IsSection corners t × (t.z ≡ s.z))
  scaled_gives corners s hz den =
      test_gives (int_le s.scale.num (pos 0)) source _ _ _ (λ above.
      test_gives (not (are_whole s.scale corners)) source _ _ _ (λ whole.
      test_gives (not (are_near s corners)) source _ (pure s) _ (λ near.
      pure_gives s _ (record { z = hz; scale = record { num = above_zero s.scale.num above; den = den; whole = not-false _ whole }; near = not-false _ near }, refl))))

  section_gives : (corners : List V3) (z : ℤ) → IsNear z → Gives (spec.section_at source corners z) (λ s. IsSection corners s × (s.z ≡ z))
  section_gives corners z hz =
      then_gives _ _ IsNear _ is.length (λ x hx.
      then_gives _ _ IsNear _ is.length (λ y hy.
      then_gives _ _ _ _ is.scale (λ k hk. scaled_gives corners (record { z = z; x = x; y = y; scale = k }) hz hk)))

  height_gives : (first : ℤ) → Gives (spec.second_height source first) (λ z. IsNear z × (first <ℤ z))
  height_gives first = then_gives _ _ IsNear _ is.length (λ v h. test_gives _ source _ (pure v) _ (λ e. pure_gives v _ (h, omega (arith, ints, e))))

  sections_gives : (corners : List V3) → Gives (spec.sections source corners) (λ e. IsSection corners e.0 × IsSection corners e.1 × (e.0.z <ℤ e.1.z))
  sections_gives corners =
      then_gives _ _ IsNear _ is.length (λ z1 h1.
      then_gives _ _ _ _ (section_gives corners z1 h1) (λ s hs.
      then_gives _ _ _ _ (height_gives z1) (λ z2 h2.
      then_gives _ _ _ _ (section_gives corners z2 h2.0) (λ t ht. pure_gives (s, t) _ (hs.0, ht.0, rw (hs.1, ht.1) h2.1)))))

  fourth_by : (three : Bool) → Gives (if three then pure None else (spec.point_in source >>= (λ d. pure (Some d)))) IsFourth
  fourth_by true = pure_gives None IsFourth tt
  fourth_by false = then_gives _ _ _ IsFourth point_gives (λ d h. pure_gives (Some d) IsFourth h)

  facet_gives : Gives (spec.facet_in source) IsFacet
  facet_gives =
      then_gives _ _ _ IsFacet (is.whole _ _ _) (λ n hn.
      then_gives _ _ _ IsFacet point_gives (λ a ha.
      then_gives _ _ _ IsFacet point_gives (λ b hb.
      then_gives _ _ _ IsFacet point_gives (λ c hc.
      then_gives _ _ IsFourth IsFacet (fourth_by (int_eq n (pos 3))) (λ d hd. pure_gives _ IsFacet (record { a = ha; b = hb; c = hc; d = hd }))))))

  pub figure_gives : (k : SolidKind) → Gives (spec.figure_in source k) IsGiven
  figure_gives kind.Cuboid =
      then_gives _ _ IsHalf IsGiven half_gives (λ x hx.
      then_gives _ _ IsHalf IsGiven half_gives (λ y hy.
      then_gives _ _ IsHalf IsGiven half_gives (λ z hz. pure_gives (figure.Cuboid x y z) IsGiven (hx, hy, hz))))
  figure_gives kind.Trd =
      then_gives _ _ _ IsGiven width_gives (λ x1 h1.
      then_gives _ _ _ IsGiven (second_gives x1 h1.0 h1.1) (λ x2 h2.
      then_gives _ _ _ IsGiven width_gives (λ y1 h3.
      then_gives _ _ _ IsGiven (second_gives y1 h3.0 h3.1) (λ y2 h4.
      then_gives _ _ IsHalf IsGiven half_gives (λ z h5. pure_gives (figure.Trd x1 x2 y1 y2 z) IsGiven (h2, h4, h5))))))
  figure_gives kind.Tet =
      then_gives _ _ _ IsGiven point_gives (λ a ha.
      then_gives _ _ _ IsGiven point_gives (λ b hb.
      then_gives _ _ _ IsGiven point_gives (λ c hc.
      then_gives _ _ _ IsGiven point_gives (λ d hd. pure_gives (figure.Tet a b c d) IsGiven (ha, hb, hc, hd)))))
  figure_gives kind.Extruded =
      then_gives _ _ _ IsGiven count_gives (λ n hn.
      then_gives _ _ _ IsGiven (collect_gives (spec.corner_in source) IsCorner corner_gives n [] (All-nil IsCorner)) (λ corners hc.
      then_gives _ _ _ IsGiven (is.whole _ _ _) (λ two ht.
      then_gives _ _ _ IsGiven (sections_gives corners) (λ ends he.
      pure_gives (figure.Extruded corners ends.0 ends.1) IsGiven
      (record { few = omega (arith, hn, hc.1); each = hc.0; first = he.0; second = he.1; above = he.2 })))))
  figure_gives kind.Tessellated =
      then_gives _ _ _ IsGiven (is.whole _ _ _) (λ n hn.
      then_gives _ _ _ IsGiven (collect_gives (spec.facet_in source) IsFacet facet_gives (unsigned_abs n) [] (All-nil IsFacet)) (λ facets hf. pure_gives (figure.Tessellated facets) IsGiven hf.0))

-- ---- from a list

kept_gives : {A : Type 0} (c : Bool) (q : Form Numbers A) (fault : FaultName) (P : A → Type 0) → (c ≡ true → Gives q P) → Gives (if c then q else here fault) P
kept_gives true q fault P h = h refl
kept_gives false q fault P h = record { given = λ s b t e. absurd cc }

anything : {S A : Type 0} (p : Form S A) → Gives p (λ _. Unit {0})
anything p = record { given = λ s a t e. tt }

pub near_value : (n : ℤ) → nat_le (unsigned_abs n) bound ≡ true → IsNear n
near_value n e = grind (arith, nat_tests, e)

between : (low high n : ℤ) → (int_le low n && int_le n high) ≡ true → (low ≤ℤ n) × (n ≤ℤ high)
between low high n e = let both = and_parts (int_le low n) (int_le n high) e in (omega (arith, ints, both.0), omega (arith, ints, both.1))

abbrev is_scale : Scale → Bool
is_scale k = nat_le (unsigned_abs k.num) (2 ^ 62) && int_lt (pos 0) k.den && nat_le (unsigned_abs k.den) (2 ^ 62)

den_above : (k : Scale) → is_scale k ≡ true → pos 0 <ℤ k.den
den_above k e =
    let both = and_parts (nat_le (unsigned_abs k.num) (2 ^ 62) && int_lt (pos 0) k.den) (nat_le (unsigned_abs k.den) (2 ^ 62)) e in
    omega (arith, ints, (and_parts (nat_le (unsigned_abs k.num) (2 ^ 62)) (int_lt (pos 0) k.den) both.0).1)

numbers_source : IsSource numbers
numbers_source = record {
  length = then_gives _ _ _ IsNear (anything number) (λ n _. kept_gives _ (pure n) _ IsNear (λ e. pure_gives n IsNear (near_value n e)));
  whole = λ low high range. then_gives _ _ _ _ (anything number) (λ n _. kept_gives _ (pure n) _ _ (λ e. pure_gives n _ (between low high n e)));
  scale = then_gives _ _ _ _ (anything pair) (λ k _. kept_gives (is_scale k) (pure k) _ _ (λ e. pure_gives k _ (den_above k e)));
}

pub given : (f : Figure) → IsFigure f → IsGiven f
given f is =
    (then_gives (spec.figure_in numbers (kind_of f)) _ IsGiven IsGiven (figure_gives numbers numbers_source (kind_of f)) (λ g h. then_gives end _ _ IsGiven (anything end) (λ _ _. pure_gives g IsGiven h))).given (start is.values) f is.left is.given
