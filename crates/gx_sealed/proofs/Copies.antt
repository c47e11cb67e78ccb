-- The copies of a replica: it is alone in its mother, and the copies go from slab to slab along the axis.
use Rattle.std.proofs.Common.{◌≡◌, refl, ◌∙◌, ℕ, zero, suc, ◌+◌, ◌-◌, ◌*◌, ◌<◌, ◌≤◌, Bool, true, false, cond, ◌&&◌, ◌==◌, ℤ, pos, neg_ℤ, ◌+ℤ◌, ◌-ℤ◌, ◌*ℤ◌, ◌≤ℤ◌, ◌<ℤ◌, unsigned_abs, List, [], ◌∷◌, append-nil, length, map, get_or, slice_get, Option, None, Some, All, sym, ap, subst, arith}
use Rattle.std.specs.Prelude.{int_lt, nat_lt, int_div, find, option_map, Result, Ok, Err}
use Rattle.std.specs.Int.{int_min, int_max}
use Rattle.std.specs.List.{range_with_len}
use Rattle.std.specs.Option.{ForSome, option_or}
use Rattle.std.proofs.lemmas.Bool.{and_parts, cond_both, ltb-false}
use Rattle.std.proofs.lemmas.Bool.Decides.{Decides-int_eq}
use Rattle.std.proofs.Math.IntN.{zero-*ℤ}
use Rattle.std.proofs.lemmas.Int.{ints, int_min_is, int_max_is}
use Rattle.std.proofs.lemmas.List.Elements.{All-nil, All-cons, All-append, All-map, All-weaker}
use Rattle.std.proofs.lemmas.List.FromFn.{get_or-map-range_with_len, length-map-range_with_len}
use Rattle.std.proofs.lemmas.Option.{slice_get_within, slice_get-get_or, get_or_from_slice_get}
use Rattle.gx_num.specs.declared.vector.V3.{V3}
use Rattle.gx_num.specs.declared.vector.TheConstants.{M}
use Rattle.gx_num.specs.declared.extent.Extent.{Extent}
use Rattle.gx_num.specs.Vector.{IsWithin, sum_of}
use Rattle.gx_algebra.proofs.Lists.{All-four, All-from_map}
use Rattle.gx_algebra.proofs.Ring.{num}
use Rattle.gx_algebra.proofs.Terms.{◌≣◌, ◌⊕◌, ◌⊗◌}
use Rattle.gx_algebra.proofs.Identity.{identity as ring, number}
use Rattle.gx_convex.specs.Points.{distinct}
use Rattle.gx_convex.specs.Extent.{lower, upper, extent_of}
use Rattle.gx_convex.proofs.Distinct.{All-distinct, All-from_distinct}
use Rattle.gx_convex.proofs.Extents.{low_below, high_above}
use Rattle.gx_rotation.specs.Matrix.{identity, image, transpose}
use Rattle.gx_rotation.specs.Place.{placed_point}
use Rattle.gx_rotation.proofs.Algebra.{image-identity}
use Rattle.gx_form.specs.First.{◌>>=◌}
use Rattle.gx_shapes.specs.declared.figure.Figure.{Figure}
use Rattle.gx_shapes.specs.declared.figure.Figure.TheVariants.{Cuboid, Trd, Tet, Extruded, Tessellated}
use Rattle.gx_shapes.specs.Solid.{vertices_of}
use Rattle.gx_shapes.specs.Space.{point}
use Rattle.gx_shapes.specs.Straight.{corners, frustum}
use Rattle.gx_shapes.proofs.Given.{IsGiven, given}
use Rattle.gx_replica.specs.Replica.{along, is_long, fills_along, is_alike_across, fills}
use Rattle.gx_tree.specs.declared.placement.Placement.{Placement}
use Rattle.gx_tree.specs.declared.placement.Placement.TheVariants.{Single, Replica, Linear, Square}
use Rattle.gx_tree.specs.declared.fault.TreeFault.{TreeFault}
use Rattle.gx_tree.specs.declared.fault.TreeFault.TheVariants.{Cycle, TooDeep, ReplicaMixed, ReplicaFill}
use Rattle.gx_tree.specs.Volume.{Volume, offset_of, instance_of, instances_of, instances_in}
use Rattle.gx_tree.specs.Hierarchy.{Hierarchy, volume_at, instances, numbers}
use Rattle.gx_tree.specs.Limits.{IsPlaceable}
use Rattle.gx_tree.specs.Fault.{IsTree, halves, fill_fault, fault_of_placement, first_numbered, replica_fault_in, replica_fault, unless, only_world, is_in_itself, is_too_deep, hierarchy_of}
use Rattle.gx_voxel.specs.Cut.{Interval, coordinate, interval_on}
use Rattle.gx_boxes.specs.Boxes.{IsProper, reach}
use Rattle.gx_sealed.specs.Cells.{extent_in, is_replica, AreReplicas}
use Rattle.gx_sealed.specs.Placed.{daughter_of, daughters_of}
use Rattle.gx_sealed.proofs.Boxes.{fold_keeps}
use Rattle.gx_sealed.proofs.Extents.{length-extents_in, extent_in-is, all_proper}
use Rattle.gx_sealed.proofs.Tables.{placed_at}

-- ---- a box, moved: from its centre less a half-length to its centre and a half-length
module _ (part : V3 → ℤ) (low : (a b : V3) → part (lower a b) ≡ int_min (part a) (part b)) (high : (a b : V3) → part (upper a b) ≡ int_max (part a) (part b)) where
  at_least : (c : ℤ) (p : V3) (ps : List V3) → All (λ q. c ≤ℤ part q) (p ∷ ps) → c ≤ℤ part (extent_of (p ∷ ps)).low
  at_least c p ps all = fold_keeps (λ q. c ≤ℤ part q) lower (λ a b h k. omega (arith, ints, low a b, int_min_is (part a) (part b))) p ps (all 0 p (omega arith)) (λ k d less. all (suc k) d (omega (arith, less)))

  at_most : (c : ℤ) (p : V3) (ps : List V3) → All (λ q. part q ≤ℤ c) (p ∷ ps) → part (extent_of (p ∷ ps)).high ≤ℤ c
  at_most c p ps all = fold_keeps (λ q. part q ≤ℤ c) upper (λ a b h k. omega (arith, ints, high a b, int_max_is (part a) (part b))) p ps (all 0 p (omega arith)) (λ k d less. all (suc k) d (omega (arith, less)))

  module _ (move : V3 → V3) (x y z a b : ℤ) (all : All (λ v. (a ≤ℤ part (move v)) × (part (move v) ≤ℤ b)) (frustum x x y y z))
      (first : part (move (point (neg_ℤ x) (neg_ℤ y) (neg_ℤ z))) ≡ a) (last : part (move (point x y z)) ≡ b) where
    abbrev vertices : List V3
    vertices = frustum x x y y z

    abbrev extent : Extent
    extent = extent_of (map move (distinct vertices))

    box_low : part extent.low ≡ a
    box_low =
        let least = All-from_distinct (λ v. part extent.low ≤ℤ part (move v)) vertices (All-from_map (λ p. part extent.low ≤ℤ part p) move (distinct vertices) (low_below part low (map move (distinct vertices)))) in
        let above : a ≤ℤ part extent.low = at_least a _ _ (All-map (λ p. a ≤ℤ part p) move (distinct vertices) (All-distinct (λ v. a ≤ℤ part (move v)) vertices (λ k d less. (all k d less).0))) in
        omega (arith, ints, least 0 (point x y z) (omega arith), first, above)

    box_high : part extent.high ≡ b
    box_high =
        let greatest = All-from_distinct (λ v. part (move v) ≤ℤ part extent.high) vertices (All-from_map (λ p. part p ≤ℤ part extent.high) move (distinct vertices) (high_above part high (map move (distinct vertices)))) in
        let below : part extent.high ≤ℤ b = at_most b _ _ (All-map (λ p. part p ≤ℤ b) move (distinct vertices) (All-distinct (λ v. part (move v) ≤ℤ b) vertices (λ k d less. (all k d less).1))) in
        omega (arith, ints, greatest 7 (point x y z) (omega arith), last, below)

-- each vertex is a half-length from the centre
record IsCornerOf (x y z : ℤ) (v : V3) : Type 0 where
  x_of : unsigned_abs v.x ≡ unsigned_abs x
  y_of : unsigned_abs v.y ≡ unsigned_abs y
  z_of : unsigned_abs v.z ≡ unsigned_abs z

abs-neg : (x : ℤ) → unsigned_abs (neg_ℤ x) ≡ unsigned_abs x
abs-neg x = omega (arith, ints)

all_corners : (x y z : ℤ) → All (IsCornerOf x y z) (frustum x x y y z)
all_corners x y z =
    let P = IsCornerOf x y z in
    All-append P (corners x y (neg_ℤ z)) (corners x y z) (four (neg_ℤ z) (abs-neg z)) (four z refl)
  where
    four : (w : ℤ) → unsigned_abs w ≡ unsigned_abs z → All (IsCornerOf x y z) (corners x y w)
    four w e = All-four (IsCornerOf x y z) (point (neg_ℤ x) (neg_ℤ y) w) (point x (neg_ℤ y) w) (point (neg_ℤ x) y w) (point x y w)
        (record { x_of = abs-neg x; y_of = abs-neg y; z_of = e })
        (record { x_of = refl; y_of = abs-neg y; z_of = e })
        (record { x_of = abs-neg x; y_of = refl; z_of = e })
        (record { x_of = refl; y_of = refl; z_of = e })

between : (o half at : ℤ) → pos 0 <ℤ half → unsigned_abs at ≡ unsigned_abs half → ((o -ℤ half) ≤ℤ (o +ℤ at)) × ((o +ℤ at) ≤ℤ (o +ℤ half))
between o half at some same = (omega (arith, ints), omega (arith, ints))

module _ (x y z : ℤ) (ax : pos 0 <ℤ x) (ay : pos 0 <ℤ y) (az : pos 0 <ℤ z) (o : V3) where
  abbrev move : V3 → V3
  move = placed_point identity o

  abbrev box : Extent
  box = extent_of (map move (distinct (frustum x x y y z)))

  abbrev half : V3
  half = point x y z

  moved : (part : V3 → ℤ) → ((a b : V3) → part (sum_of a b) ≡ part a +ℤ part b) → (v : V3) → part (move v) ≡ part o +ℤ part v
  moved part sum v = sum o (image (transpose identity) v) ∙ ap (λ (w : V3). part o +ℤ part w) (image-identity v)

  module _ (part : V3 → ℤ) (low : (a b : V3) → part (lower a b) ≡ int_min (part a) (part b)) (high : (a b : V3) → part (upper a b) ≡ int_max (part a) (part b))
      (sum : (a b : V3) → part (sum_of a b) ≡ part a +ℤ part b) (size : ℤ) (some : pos 0 <ℤ size) (corner : (v : V3) → IsCornerOf x y z v → unsigned_abs (part v) ≡ unsigned_abs size)
      (first : part (point (neg_ℤ x) (neg_ℤ y) (neg_ℤ z)) ≡ neg_ℤ size) (last : part (point x y z) ≡ size) where
    all_between : All (λ v. ((part o -ℤ size) ≤ℤ part (move v)) × (part (move v) ≤ℤ (part o +ℤ size))) (frustum x x y y z)
    all_between =
        All-weaker (IsCornerOf x y z) (λ v. ((part o -ℤ size) ≤ℤ part (move v)) × (part (move v) ≤ℤ (part o +ℤ size)))
        (λ v is. subst (λ (at : ℤ). ((part o -ℤ size) ≤ℤ at) × (at ≤ℤ (part o +ℤ size))) (sym (moved part sum v)) (between (part o) size (part v) some (corner v is))) (frustum x x y y z) (all_corners x y z)

    sides : (part box.low ≡ part o -ℤ size) × (part box.high ≡ part o +ℤ size)
    sides =
        let from : part (move (point (neg_ℤ x) (neg_ℤ y) (neg_ℤ z))) ≡ part o -ℤ size = omega (arith, ints, moved part sum (point (neg_ℤ x) (neg_ℤ y) (neg_ℤ z)), first) in
        let to : part (move (point x y z)) ≡ part o +ℤ size = omega (arith, ints, moved part sum (point x y z), last) in
        (box_low part low high move x y z _ _ all_between from to, box_high part low high move x y z _ _ all_between from to)

  box_sides : (axis : ℕ) → axis < 3 → (coordinate axis box.low ≡ coordinate axis o -ℤ coordinate axis half) × (coordinate axis box.high ≡ coordinate axis o +ℤ coordinate axis half)
  box_sides zero _ = sides (λ v. v.x) (λ _ _. refl) (λ _ _. refl) (λ _ _. refl) x ax (λ v is. is.x_of) refl refl
  box_sides (suc zero) _ = sides (λ v. v.y) (λ _ _. refl) (λ _ _. refl) (λ _ _. refl) y ay (λ v is. is.y_of) refl refl
  box_sides (suc (suc zero)) _ = sides (λ v. v.z) (λ _ _. refl) (λ _ _. refl) (λ _ _. refl) z az (λ v is. is.z_of) refl refl
  box_sides (suc (suc (suc n))) less = absurd (omega (arith, less))

-- ---- a placement without a fault
-- none of the answers along the list is a fault
none_numbered : {X Y : Type 0} (answer : ℕ → X → Option Y) (n : ℕ) (xs : List X) → first_numbered answer n xs ≡ None → All (λ x. (k : ℕ) × (answer k x ≡ None)) xs
none_numbered answer n [] e = All-nil (λ x. (k : ℕ) × (answer k x ≡ None))
none_numbered answer n (x ∷ xs) e =
    let here = option_or-none (answer n x) (first_numbered answer (n + 1) xs) e in
    All-cons (λ x. (k : ℕ) × (answer k x ≡ None)) x xs (n, here.0) (none_numbered answer (n + 1) xs here.1)
  where
    option_or-none : {X : Type 0} (a b : Option X) → option_or a b ≡ None → (a ≡ None) × (b ≡ None)
    option_or-none None b e = (refl, e)
    option_or-none (Some x) b e = absurd (cc)

none-false : {X : Type 0} (c : Bool) (x : X) (o : Option X) → cond c (Some x) o ≡ None → (c ≡ false) × (o ≡ None)
none-false true x o e = absurd (cc)
none-false false x o e = (refl, e)

none-true : {X : Type 0} (c : Bool) (x : X) → cond c None (Some x) ≡ None → c ≡ true
none-true true x e = refl
none-true false x e = absurd (cc)

-- a cell that is a box, as wide as a copy
record IsCell (cell : Figure) (axis : ℕ) (width : ℤ) : Type 0 where
  half : V3
  is : halves cell ≡ Some half
  wide : pos 0 <ℤ width
  full : width ≡ pos 2 *ℤ coordinate axis half

cell_by : (v k axis count : ℕ) (width : ℤ) (a : Option V3) (cell : Figure) (b : Option V3) → halves cell ≡ b → fill_fault v k axis count width a b ≡ None → IsCell cell axis width
cell_by v k axis count width (Some a) cell (Some b) is e =
    let first = and_parts (fills_along a b axis count width) (is_alike_across axis b a) (none-true (fills a b axis count width) (ReplicaFill v k) e) in
    let both = and_parts (int_lt (pos 0) width && is_long axis a count width) (is_long axis b 1 width) first.0 in
    let wide = and_parts (int_lt (pos 0) width) (is_long axis a count width) both.0 in
    record { half = b; is = is; wide = grind (arith, ints, wide.0); full = omega (arith, ints, (Decides-int_eq (pos 1 *ℤ width) (pos 2 *ℤ coordinate axis b)).0 both.1) }
cell_by v k axis count width (Some a) cell None is e = absurd (cc)
cell_by v k axis count width None cell (Some b) is e = absurd (cc)
cell_by v k axis count width None cell None is e = absurd (cc)

-- what is known of a placement of a hierarchy
abbrev IsSound : List Volume → Volume → Placement → Type 0
IsSound volumes mother (Replica volume axis count width) = (length mother.placements ≤ 1) × IsCell (volume_at volumes volume).solid axis width
IsSound volumes mother placement = Unit {0}

sound : (volumes : List Volume) (v : ℕ) (mother : Volume) (k : ℕ) (p : Placement) → fault_of_placement volumes v mother k p ≡ None → IsSound volumes mother p
sound volumes v mother k (Single volume copy rotation offset) e = tt
sound volumes v mother k (Replica volume axis count width) e =
    let cell = halves (volume_at volumes volume).solid in
    let parts = none-false (nat_lt 1 (length mother.placements)) (ReplicaMixed v k) (fill_fault v k axis count width (halves mother.solid) cell) e in
    (ltb-false 1 (length mother.placements) parts.0, cell_by v k axis count width (halves mother.solid) (volume_at volumes volume).solid cell refl parts.1)
sound volumes v mother k (Linear volume axis rotation count step offset) e = tt
sound volumes v mother k (Square volume plane rotation first_count second_count first_step second_step first_offset second_offset) e = tt

all_sound : (volumes : List Volume) → replica_fault volumes ≡ None → All (λ mother. All (IsSound volumes mother) mother.placements) volumes
unfolding replica_fault
all_sound volumes e =
    All-weaker (λ mother. (v : ℕ) × (replica_fault_in volumes v mother ≡ None)) (λ mother. All (IsSound volumes mother) mother.placements)
    (λ mother h. All-weaker (λ p. (k : ℕ) × (fault_of_placement volumes h.0 mother k p ≡ None)) (IsSound volumes mother) (λ p g. sound volumes h.0 mother g.0 p g.1) mother.placements (none_numbered (fault_of_placement volumes h.0 mother) 0 mother.placements h.1))
    volumes (none_numbered (replica_fault_in volumes) 0 volumes e)

-- ---- the steps of the definition of a hierarchy
unless-ok : {A : Type 0} (o : Option TreeFault) (next : Unit {0} → Result A TreeFault) (a : A) → (unless o >>= next) ≡ Ok a → (o ≡ None) × (next tt ≡ Ok a)
unless-ok None next a e = (refl, e)
unless-ok (Some fault) next a e = absurd (cc)

then-ok : {A B : Type 0} (r : Result A TreeFault) (next : A → Result B TreeFault) (b : B) → (r >>= next) ≡ Ok b → (a : A) × (next a ≡ Ok b)
then-ok (Ok a) next b e = (a, e)
then-ok (Err fault) next b e = absurd (cc)

filled : (volumes : List Volume) (h : Hierarchy) → hierarchy_of volumes ≡ Ok h → replica_fault volumes ≡ None
unfolding hierarchy_of
filled volumes h e =
    let (_, acyclic) = unless-ok (option_map Cycle (find (is_in_itself volumes) (numbers volumes))) _ h e in
    let (world, is) = then-ok (only_world volumes) _ h acyclic in
    let (_, shallow) = unless-ok (option_map TooDeep (find (is_too_deep volumes world) (numbers volumes))) _ h is in
    (unless-ok (replica_fault volumes) _ h shallow).0

-- ---- coordinates
cuboid_of : (f : Figure) (half : V3) → halves f ≡ Some half → f ≡ Cuboid half.x half.y half.z
cuboid_of (Cuboid x y z) half e = let same : record { x = x; y = y; z = z } ≡ half = cc in ap (λ (v : V3). Cuboid v.x v.y v.z) same
cuboid_of (Trd x1 x2 y1 y2 z) half e = absurd (cc)
cuboid_of (Tet a b c d) half e = absurd (cc)
cuboid_of (Extruded corners low high) half e = absurd (cc)
cuboid_of (Tessellated facets) half e = absurd (cc)

coordinate-along : (axis : ℕ) → axis < 3 → (at : ℤ) → coordinate axis (along axis at) ≡ at
coordinate-along zero less at = refl
coordinate-along (suc zero) less at = refl
coordinate-along (suc (suc zero)) less at = refl
coordinate-along (suc (suc (suc n))) less at = absurd (omega (arith, less))

within-coordinate : (axis bound : ℕ) (v : V3) → IsWithin bound v → unsigned_abs (coordinate axis v) ≤ bound
within-coordinate axis bound v within =
    let P : ℤ → Type 0 = λ z. unsigned_abs z ≤ bound in
    cond_both (axis == 0) v.x _ P (λ _. within.x) (λ _. cond_both (axis == 1) v.y v.z P (λ _. within.y) (λ _. within.z))

none-of : (w : ℤ) → pos 0 *ℤ w ≡ pos 0
none-of = zero-*ℤ

one_more : (k : ℕ) (w : ℤ) → pos (k + 1) *ℤ w ≡ pos k *ℤ w +ℤ w
one_more k w = ap (λ (n : ℤ). n *ℤ w) (sum k) ∙ next (pos k) w
  where
    sum : (k : ℕ) → pos (k + 1) ≡ pos k +ℤ pos 1
    sum k = omega (arith, ints)

    next : (k w : ℤ) → (k +ℤ pos 1) *ℤ w ≡ k *ℤ w +ℤ w
    next = ring (number ∷ number ∷ []) (λ k w. (k ⊕ num (pos 1)) ⊗ w ≣ k ⊗ w ⊕ w) tt

abbrev interval : ℤ → ℤ → Interval
interval low high = record { low = low; high = high }

interval_by : {a b c d : ℤ} → a ≡ c → b ≡ d → interval a b ≡ interval c d
interval_by e f = λ i. record { low = e i; high = f i }

-- ---- the volumes of a hierarchy
module _ (h : Hierarchy) (tree : IsTree h) (v : ℕ) (below : v < length h.volumes) where
  abbrev mother : Volume
  mother = volume_at h.volumes v

  all_sound_in : All (IsSound h.volumes mother) mother.placements
  all_sound_in = all_sound h.volumes (filled h.volumes h tree.formed) v _ below

  -- where the first isn't a replica, none is
  pub none_replica : ((d : Placement) → 0 < length mother.placements → is_replica (get_or mother.placements 0 d) ≡ false) → All (λ p. is_replica p ≡ false) mother.placements
  none_replica first k d less = by_kind (get_or mother.placements k d) refl (all_sound_in k d less)
    where
      by_kind : (p : Placement) → get_or mother.placements k d ≡ p → IsSound h.volumes mother p → is_replica p ≡ false
      by_kind (Single volume copy rotation offset) e s = refl
      by_kind (Replica volume axis count width) e s =
          let start : k ≡ 0 = omega (arith, less, s.0) in
          sym (ap is_replica e) ∙ ap (λ j. is_replica (get_or mother.placements j d)) start ∙ first d (omega (arith, less))
      by_kind (Linear volume axis rotation count step offset) e s = refl
      by_kind (Square volume plane rotation first_count second_count first_step second_step first_offset second_offset) e s = refl

  -- the first is a replica
  module _ (volume axis count : ℕ) (width : ℤ) (at : slice_get mother.placements 0 ≡ Some (Replica volume axis count width)) where
    abbrev replica : Placement
    replica = Replica volume axis count width

    here : 0 < length mother.placements
    here = slice_get_within mother.placements 0 replica at

    is_first : get_or mother.placements 0 replica ≡ replica
    is_first = get_or_from_slice_get mother.placements 0 replica replica at

    known : IsSound h.volumes mother replica
    known = subst (IsSound h.volumes mother) is_first (all_sound_in 0 replica here)

    placeable : IsPlaceable (length h.volumes) replica
    placeable = subst (IsPlaceable (length h.volumes)) is_first (tree.limits.placeable v _ below 0 replica here)

    alone : mother.placements ≡ replica ∷ []
    alone = single mother.placements here known.0 is_first
      where
        single : (ps : List Placement) → 0 < length ps → length ps ≤ 1 → get_or ps 0 replica ≡ replica → ps ≡ replica ∷ []
        single [] some few e = absurd (omega (arith, some))
        single (p ∷ []) some few e = ap (λ q. q ∷ []) e
        single (p ∷ q ∷ ps) some few e = absurd (omega (arith, few))

    instances_are : instances h v ≡ map (instance_of replica) (range_with_len 0 count)
    unfolding instances_of
    instances_are = ap instances_in alone ∙ append-nil (map (instance_of replica) (range_with_len 0 count))

    all : length (instances h v) ≡ count
    all = ap length instances_are ∙ length-map-range_with_len (instance_of replica) 0 count

    pub instance_is : (k : ℕ) → k < count → slice_get (instances h v) k ≡ Some (instance_of replica k)
    instance_is k less =
        slice_get-get_or (instances h v) k (instance_of replica k) (omega (arith, all, less))
        ∙ ap (λ l. Some (get_or l k (instance_of replica k))) instances_are
        ∙ ap Some (get_or-map-range_with_len (instance_of replica) 0 count k k (instance_of replica k) less (omega arith))

    abbrev cell : V3
    cell = known.1.half

    cuboid : (volume_at h.volumes volume).solid ≡ Cuboid cell.x cell.y cell.z
    cuboid = cuboid_of _ cell known.1.is

    halves_are : IsGiven (Cuboid cell.x cell.y cell.z)
    halves_are = subst IsGiven cuboid (given _ (tree.solids volume _ placeable.volume).values)

    abbrev offset : ℕ → V3
    offset k = offset_of replica k

    sides_in : (k : ℕ) → k < count → (coordinate axis (extent_in h v k).low ≡ coordinate axis (offset k) -ℤ coordinate axis cell) × (coordinate axis (extent_in h v k).high ≡ coordinate axis (offset k) +ℤ coordinate axis cell)
    sides_in k less =
        subst (λ (e : Extent). (coordinate axis e.low ≡ coordinate axis (offset k) -ℤ coordinate axis cell) × (coordinate axis e.high ≡ coordinate axis (offset k) +ℤ coordinate axis cell))
        (ap (λ (f : Figure). extent_of (map (placed_point identity (offset k)) (distinct (vertices_of f)))) (sym cuboid) ∙ sym (extent_in-is h v k (instance_of replica k) (instance_is k less)))
        (box_sides cell.x cell.y cell.z halves_are.0.above halves_are.1.above halves_are.2.above (offset k) axis placeable.range.copies.direction)

    pub near_width : unsigned_abs width ≤ 2 * unsigned_abs M
    near_width = placeable.range.near_width

    -- copy after copy, from the lower face of the first
    abbrev pub lowest : ℤ
    lowest = coordinate axis (extent_in h v 0).low

    some : 0 < count
    some = placeable.range.copies.some

    pub some_daughter : 0 < length (instances h v)
    some_daughter = omega (arith, all, some)

    -- as the code finds it
    pub lowest_is : (at : ℤ) → ForSome (slice_get (daughters_of h v) 0) (λ d. at ≡ coordinate axis d.extent.low) → at ≡ lowest
    lowest_is at is =
        let first = instance_is 0 some in
        is (daughter_of h (instance_of replica 0)) (placed_at h v 0 (instance_of replica 0) _ first refl) ∙ ap (λ (e : Extent). coordinate axis e.low) (sym (extent_in-is h v 0 (instance_of replica 0) first))

    low_at : (k : ℕ) → k < count → coordinate axis (extent_in h v k).low ≡ lowest +ℤ pos k *ℤ width
    low_at k less =
        let first = neg_ℤ (int_div (pos (count - 1) *ℤ width) (pos 2)) in
        let direction = placeable.range.copies.direction in
        omega (arith, ints, (sides_in k less).0, (sides_in 0 some).0, coordinate-along axis direction (first +ℤ pos k *ℤ width), coordinate-along axis direction (first +ℤ pos 0 *ℤ width), none-of width)

    high_at : (k : ℕ) → k < count → coordinate axis (extent_in h v k).high ≡ lowest +ℤ pos (k + 1) *ℤ width
    high_at k less = omega (arith, ints, low_at k less, (sides_in k less).0, (sides_in k less).1, known.1.full, one_more k width)

    proper_at : (k : ℕ) → k < count → IsProper (extent_in h v k)
    proper_at k less = all_proper h tree v k _ (omega (arith, length-extents_in h v, all, less))

    pub replicas : AreReplicas h v axis lowest width count
    unfolding interval_on
    replicas = record {
      volume = volume;
      alone = alone;
      all = all;
      slabs = λ k less. interval_by (low_at k less) (high_at k less);
      direction = placeable.range.copies.direction;
      few = placeable.range.copies.few;
      wide = known.1.wide;
      narrow = near_width;
      from = within-coordinate axis reach _ (proper_at 0 some).low;
      to =
          let last : count - 1 < count = omega (arith, some) in
          let next : count - 1 + 1 ≡ count = omega (arith, some) in
          subst (λ n. unsigned_abs (lowest +ℤ pos n *ℤ width) ≤ reach) next (subst (λ z. unsigned_abs z ≤ reach) (high_at (count - 1) last) (within-coordinate axis reach _ (proper_at (count - 1) last).high));
    }
