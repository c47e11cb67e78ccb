-- The planes along the axes are between two lists of points as their extents tell.
use Rattle.std.proofs.Common.{◌≡◌, ◌⊎◌, inl, inr, Contains, ℕ, ◌≤◌, Bool, true, false, cond, Option, Some, None, ℤ, pos, ◌≤ℤ◌, int_le, unsigned_abs, List, [], ◌∷◌, ◌++◌, map, fold, find, All, refl, sym, ap, ◌∙◌, subst, arith, true≢false}
use Rattle.std.specs.Int.{int_min, int_max}
use Rattle.std.specs.Option.{option_or}
use Rattle.std.proofs.lemmas.Bool.Decides.{same_from_decides}
use Rattle.std.proofs.lemmas.Int.{fold-int_min_reached, fold-int_max_reached}
use Rattle.std.proofs.lemmas.List.Elements.{All-head, All-tail, All-map, All-contains, All-weaker}
use Rattle.std.proofs.lemmas.List.Folds.{find-append}
use Rattle.gx_num.specs.declared.vector.V3.{V3}
use Rattle.gx_num.specs.Vector.{dot_of, IsWithin}
use Rattle.gx_num.specs.Space.{HalfSpace}
use Rattle.gx_plane.specs.Plane.{side_of, supports, flipped, unit_along, plane_along}
use Rattle.gx_plane.specs.Between.{is_between, candidates}
use Rattle.gx_plane.proofs.PlaneFacts.{Decides-int_le, Decides-supports, side_of-flipped, flipped-flipped}
use Rattle.gx_convex.specs.Points.{are_coplanar}
use Rattle.gx_convex.specs.Extent.{lower, upper, extent_of}
use Rattle.gx_convex.proofs.Extents.{fold-part, low_below, high_above}
use Rattle.gx_separate.specs.Between.{axis_planes, first_between}
use Rattle.gx_separate.specs.Boxes.{between_ranges, between_boxes}
use borrow.Author.Differences.{ints}

-- ---- a least or a greatest coordinate is that of a point
All-low : (P : ℤ → Type 0) (part : V3 → ℤ) → ((a b : V3) → part (lower a b) ≡ int_min (part a) (part b)) → (p : V3) (ps : List V3) → All (λ q. P (part q)) (p ∷ ps) → P (part (extent_of (p ∷ ps)).low)
All-low P part e p ps h = go (fold-int_min_reached (part p) (map part ps) (part (fold lower p ps)) (fold-part part lower int_min e p ps))
  where
    go : (part (fold lower p ps) ≡ part p) ⊎ Contains (map part ps) (part (fold lower p ps)) → P (part (fold lower p ps))
    go (inl same) = subst P (sym same) (All-head (λ q. P (part q)) p ps h)
    go (inr k) = All-contains P (map part ps) (part (fold lower p ps)) (All-map P part ps (All-tail (λ q. P (part q)) p ps h)) k

All-high : (P : ℤ → Type 0) (part : V3 → ℤ) → ((a b : V3) → part (upper a b) ≡ int_max (part a) (part b)) → (p : V3) (ps : List V3) → All (λ q. P (part q)) (p ∷ ps) → P (part (extent_of (p ∷ ps)).high)
All-high P part e p ps h = go (fold-int_max_reached (part p) (map part ps) (part (fold upper p ps)) (fold-part part upper int_max e p ps))
  where
    go : (part (fold upper p ps) ≡ part p) ⊎ Contains (map part ps) (part (fold upper p ps)) → P (part (fold upper p ps))
    go (inl same) = subst P (sym same) (All-head (λ q. P (part q)) p ps h)
    go (inr k) = All-contains P (map part ps) (part (fold upper p ps)) (All-map P part ps (All-tail (λ q. P (part q)) p ps h)) k

pub IsWithin-extent_of : (r : ℕ) (points : List V3) → are_coplanar points ≡ false → All (IsWithin r) points → IsWithin r (extent_of points).low × IsWithin r (extent_of points).high
IsWithin-extent_of r [] e h = absurd (true≢false e)
IsWithin-extent_of r (p ∷ ps) e h =
    let P : ℤ → Type 0 = λ z. unsigned_abs z ≤ r in
    let x = All-weaker (IsWithin r) (λ q. P q.x) (λ q k. k.x) (p ∷ ps) h in
    let y = All-weaker (IsWithin r) (λ q. P q.y) (λ q k. k.y) (p ∷ ps) h in
    let z = All-weaker (IsWithin r) (λ q. P q.z) (λ q k. k.z) (p ∷ ps) h in (
      record { x = All-low P (λ q. q.x) (λ a b. refl) p ps x; y = All-low P (λ q. q.y) (λ a b. refl) p ps y; z = All-low P (λ q. q.z) (λ a b. refl) p ps z },
      record { x = All-high P (λ q. q.x) (λ a b. refl) p ps x; y = All-high P (λ q. q.y) (λ a b. refl) p ps y; z = All-high P (λ q. q.z) (λ a b. refl) p ps z },
    )

-- ---- on an axis, whose coordinate is `of`
module _ (axis : ℕ) (of : V3 → ℤ) (low_is : (a b : V3) → of (lower a b) ≡ int_min (of a) (of b)) (high_is : (a b : V3) → of (upper a b) ≡ int_max (of a) (of b)) (same : (q : V3) → dot_of (unit_along axis) q ≡ of q) where
  abbrev along : ℤ → HalfSpace
  along at = plane_along axis true at

  supports-along : (at : ℤ) (p : V3) (ps : List V3) → supports (along at) (p ∷ ps) ≡ int_le (of (extent_of (p ∷ ps)).high) at
  supports-along at p ps =
      let high = of (extent_of (p ∷ ps)).high in
      same_from_decides (supports (along at) (p ∷ ps)) (int_le high at) (Decides-supports (along at) (p ∷ ps)) (
        λ e. All-weaker (λ q. of q ≤ℤ high) (λ q. side_of (along at) q ≤ℤ pos 0) (λ q k. omega (arith, ints, k, same q, (Decides-int_le high at).0 e)) (p ∷ ps) (high_above of high_is (p ∷ ps)),
        λ h. (Decides-int_le high at).1 (All-high (λ z. z ≤ℤ at) of high_is p ps (All-weaker (λ q. side_of (along at) q ≤ℤ pos 0) (λ q. of q ≤ℤ at) (λ q k. omega (arith, ints, k, same q)) (p ∷ ps) h)),
      )

  supports-against : (at : ℤ) (p : V3) (ps : List V3) → supports (flipped (along at)) (p ∷ ps) ≡ int_le at (of (extent_of (p ∷ ps)).low)
  supports-against at p ps =
      let low = of (extent_of (p ∷ ps)).low in
      let h = flipped (along at) in
      same_from_decides (supports h (p ∷ ps)) (int_le at low) (Decides-supports h (p ∷ ps)) (
        λ e. All-weaker (λ q. low ≤ℤ of q) (λ q. side_of h q ≤ℤ pos 0) (λ q k. omega (arith, ints, k, same q, side_of-flipped (along at) q, (Decides-int_le at low).0 e)) (p ∷ ps) (low_below of low_is (p ∷ ps)),
        λ h. (Decides-int_le at low).1 (All-low (λ z. at ≤ℤ z) of low_is p ps (All-weaker (λ q. side_of (flipped (along at)) q ≤ℤ pos 0) (λ q. at ≤ℤ of q) (λ q k. omega (arith, ints, k, same q, side_of-flipped (along at) q)) (p ∷ ps) h)),
      )

  -- the two planes of an axis, the first of six or fewer
  find_two : (p : V3) (ps : List V3) (q : V3) (qs : List V3) (planes : List HalfSpace) → find (is_between (p ∷ ps) (q ∷ qs)) (plane_along axis true (of (extent_of (p ∷ ps)).high) ∷ plane_along axis false (of (extent_of (p ∷ ps)).low) ∷ planes) ≡ option_or (between_ranges axis (of (extent_of (p ∷ ps)).low) (of (extent_of (p ∷ ps)).high) (of (extent_of (q ∷ qs)).low) (of (extent_of (q ∷ qs)).high)) (find (is_between (p ∷ ps) (q ∷ qs)) planes)
  find_two p ps q qs planes = rw (first, second) (ways (int_le high other_low) (int_le other_high low))
    where
      low : ℤ
      low = of (extent_of (p ∷ ps)).low

      high : ℤ
      high = of (extent_of (p ∷ ps)).high

      other_low : ℤ
      other_low = of (extent_of (q ∷ qs)).low

      other_high : ℤ
      other_high = of (extent_of (q ∷ qs)).high

      itself : (z : ℤ) → int_le z z ≡ true
      itself z = (Decides-int_le z z).1 (omega (arith, ints))

      first : is_between (p ∷ ps) (q ∷ qs) (along high) ≡ int_le high other_low
      first = rw (supports-along high p ps, itself high) (supports-against high q qs)

      second : is_between (p ∷ ps) (q ∷ qs) (flipped (along low)) ≡ int_le other_high low
      second = rw (supports-against low p ps, itself low) (ap (λ (g : HalfSpace). supports g (q ∷ qs)) (flipped-flipped (along low)) ∙ supports-along low q qs)

      ways : (s t : Bool) → cond s (Some (along high)) (cond t (Some (flipped (along low))) (find (is_between (p ∷ ps) (q ∷ qs)) planes)) ≡ option_or (cond s (Some (along high)) (cond t (Some (flipped (along low))) None)) (find (is_between (p ∷ ps) (q ∷ qs)) planes)
      ways true t = refl
      ways false true = refl
      ways false false = refl

-- ---- the first of the six
or_none : (o : Option HalfSpace) → option_or o None ≡ o
or_none None = refl
or_none (Some h) = refl

find-axis_planes : (a b : List V3) → are_coplanar a ≡ false → are_coplanar b ≡ false → find (is_between a b) (axis_planes (extent_of a)) ≡ between_boxes (extent_of a) (extent_of b)
find-axis_planes [] b e f = absurd (true≢false e)
find-axis_planes (p ∷ ps) [] e f = absurd (true≢false f)
find-axis_planes (p ∷ ps) (q ∷ qs) e f = x ∙ ap (option_or (between_ranges 0 l.x h.x m.x k.x)) (y ∙ ap (option_or (between_ranges 1 l.y h.y m.y k.y)) z)
  where
    l : V3
    l = (extent_of (p ∷ ps)).low

    h : V3
    h = (extent_of (p ∷ ps)).high

    m : V3
    m = (extent_of (q ∷ qs)).low

    k : V3
    k = (extent_of (q ∷ qs)).high

    test : HalfSpace → Bool
    test = is_between (p ∷ ps) (q ∷ qs)

    on_z : List HalfSpace
    on_z = plane_along 2 true h.z ∷ plane_along 2 false l.z ∷ []

    on_y : List HalfSpace
    on_y = plane_along 1 true h.y ∷ plane_along 1 false l.y ∷ on_z

    x : find test (plane_along 0 true h.x ∷ plane_along 0 false l.x ∷ on_y) ≡ option_or (between_ranges 0 l.x h.x m.x k.x) (find test on_y)
    x = find_two 0 (λ q. q.x) (λ a b. refl) (λ a b. refl) (λ q. omega (arith, ints)) p ps q qs on_y

    y : find test on_y ≡ option_or (between_ranges 1 l.y h.y m.y k.y) (find test on_z)
    y = find_two 1 (λ q. q.y) (λ a b. refl) (λ a b. refl) (λ q. omega (arith, ints)) p ps q qs on_z

    z : find test on_z ≡ between_ranges 2 l.z h.z m.z k.z
    z =
        find_two 2 (λ q. q.z) (λ a b. refl) (λ a b. refl) (λ q. omega (arith, ints)) p ps q qs [] ∙ or_none (between_ranges 2 l.z h.z m.z k.z)

first_between-boxes : (a b : List V3) → are_coplanar a ≡ false → are_coplanar b ≡ false → first_between a b ≡ option_or (between_boxes (extent_of a) (extent_of b)) (find (is_between a b) (candidates (a ++ b)))
first_between-boxes a b e f =
    find-append (is_between a b) (axis_planes (extent_of a)) (candidates (a ++ b)) ∙ ap (λ (o : Option HalfSpace). option_or o (find (is_between a b) (candidates (a ++ b)))) (find-axis_planes a b e f)

-- what is found along an axis is the first of all; where nothing is, the first is through three points
pub found : (a b : List V3) (r : Option HalfSpace) (h : HalfSpace) → are_coplanar a ≡ false → are_coplanar b ≡ false → r ≡ between_boxes (extent_of a) (extent_of b) → r ≡ Some h → Some h ≡ first_between a b
found a b r h e f is some =
    sym (first_between-boxes a b e f ∙ ap (λ (o : Option HalfSpace). option_or o (find (is_between a b) (candidates (a ++ b)))) (sym is ∙ some))

pub not_found : (a b : List V3) (r : Option HalfSpace) → are_coplanar a ≡ false → are_coplanar b ≡ false → r ≡ between_boxes (extent_of a) (extent_of b) → r ≡ None → find (is_between a b) (candidates (a ++ b)) ≡ first_between a b
not_found a b r e f is none =
    sym (first_between-boxes a b e f ∙ ap (λ (o : Option HalfSpace). option_or o (find (is_between a b) (candidates (a ++ b)))) (sym is ∙ none))
