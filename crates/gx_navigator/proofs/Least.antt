-- Each path of a report leads to a daughter that was tested, and each header on it was read.
use Rattle.std.proofs.Common.{◌≡◌, ◌⊎◌, ℕ, zero, suc, ◌+◌, ◌≤◌, inl, inr, Bool, true, false, cond, refl, sym, ap, ◌∙◌, subst, arith, List, [], ◌∷◌, ◌++◌, map, length, length-append, Option, None, Some}
use Rattle.std.specs.Prelude.{◌≢◌, sum_by, is_some, if◌then◌else◌}
use Rattle.std.specs.List.{AllByRecursion, flat_map}
use Rattle.std.proofs.lemmas.List.Sums.{sum_by-cons}
use Rattle.gx_num.specs.declared.ray.Ray.{Ray}
use Rattle.gx_num.specs.Ray.{RayParameter, HasDirection}
use Rattle.gx_fraction.specs.Fraction.{parameter_of}
use Rattle.gx_clip.specs.declared.span.Span.{Span}
use Rattle.gx_tree.specs.Hierarchy.{Hierarchy, volume_at}
use Rattle.gx_tree.specs.Fault.{IsTree}
use Rattle.gx_tree.specs.Deepest.{path_along}
use Rattle.gx_check.specs.Clean.{IsClean}
use Rattle.gx_clip.specs.Clip.{IsClip}
use Rattle.gx_path.specs.Path.{max_length}
use Rattle.gx_path.specs.Report.{Row, IsReport, AnyByRecursion}
use Rattle.gx_path.proofs.Unique.{unique}
use Rattle.gx_partition.specs.Partition.{Piece, is_below, open_rows}
use Rattle.gx_partition.specs.Walk.{Hit, has_room, gap, under, walk, pieces_of}
use Rattle.gx_nest.proofs.Nested.{solid_at}
use Rattle.gx_voxel.specs.Cut.{Cut}
use Rattle.gx_walk.specs.declared.met.Frame.{Frame}
use Rattle.gx_walk.specs.Hits.{CountOf, Leads, cost_of, least_each, one_each}
use Rattle.gx_navigator.specs.Paths.{daughter_of}
use Rattle.gx_navigator.specs.Tests.{AreDifferent, HasHeader, HasPaths, IsToDaughter, IsToHeader, cut_by}
use Rattle.gx_navigator.specs.Tracer.{least_of, place}
use Rattle.gx_navigator.proofs.Found.{hits, linked, no_report, report}

-- ---- different elements of a list are no more than it is long

abbrev IsOne : {X : Type 0} → X → List X → Type 0
IsOne x xs = AnyByRecursion (λ y. x ≡ y) xs

without : {X : Type 0} (x : X) (xs : List X) → IsOne x xs → List X
without x [] one = absurd one
without x (y ∷ ys) (inl e) = ys
without x (y ∷ ys) (inr one) = y ∷ without x ys one

length-without : {X : Type 0} (x : X) (xs : List X) (one : IsOne x xs) → suc (length (without x xs one)) ≡ length xs
unfolding without
length-without x [] one = absurd one
length-without x (y ∷ ys) (inl e) = refl
length-without x (y ∷ ys) (inr one) = ap suc (length-without x ys one)

still_one : {X : Type 0} (x y : X) (xs : List X) (one : IsOne x xs) → x ≢ y → IsOne y xs → IsOne y (without x xs one)
unfolding without
still_one x y [] one differ is = absurd one
still_one x y (z ∷ zs) (inl e) differ (inl f) = absurd (differ (e ∙ sym f))
still_one x y (z ∷ zs) (inl e) differ (inr is) = is
still_one x y (z ∷ zs) (inr one) differ (inl f) = inl f
still_one x y (z ∷ zs) (inr one) differ (inr is) = inr (still_one x y zs one differ is)

all_still : {X : Type 0} (x : X) (ys xs : List X) (one : IsOne x xs) → AllByRecursion (λ y. x ≢ y) ys → AllByRecursion (λ y. IsOne y xs) ys → AllByRecursion (λ y. IsOne y (without x xs one)) ys
all_still x [] xs one differ are = tt
all_still x (y ∷ ys) xs one (differ, others) (is, are) = (still_one x y xs one differ is, all_still x ys xs one others are)

no_more : (paths all : List (List ℕ)) → AreDifferent paths → AllByRecursion (λ p. IsOne p all) paths → length paths ≤ length all
no_more [] all different are = omega arith
no_more (p ∷ ps) all (others, different) (is, are) =
    let rest = no_more ps (without p all is) different (all_still p ps all is others are) in
    omega (arith, rest, length-without p all is)

-- ---- the paths of a walk

one-append : {X : Type 0} (x : X) (xs ys : List X) → IsOne x ys → IsOne x (xs ++ ys)
one-append x [] ys is = is
one-append x (z ∷ zs) ys is = inr (one-append x zs ys is)

append-one : {X : Type 0} (x : X) (xs ys : List X) → IsOne x xs → IsOne x (xs ++ ys)
append-one x [] ys is = absurd is
append-one x (z ∷ zs) ys (inl e) = inl e
append-one x (z ∷ zs) ys (inr is) = inr (append-one x zs ys is)

one-map : {X Y : Type 0} (f : X → Y) (x : X) (xs : List X) → IsOne x xs → IsOne (f x) (map f xs)
one-map f x [] is = absurd is
one-map f x (y ∷ ys) (inl e) = inl (ap f e)
one-map f x (y ∷ ys) (inr is) = inr (one-map f x ys is)

length-map : {X Y : Type 0} (f : X → Y) (xs : List X) → length (map f xs) ≡ length xs
length-map f [] = refl
length-map f (x ∷ xs) = ap suc (length-map f xs)

all-append : {X : Type 0} (P : X → Type 0) (xs ys : List X) → AllByRecursion P xs → AllByRecursion P ys → AllByRecursion P (xs ++ ys)
all-append P [] ys a b = b
all-append P (x ∷ xs) ys (p, a) b = (p, all-append P xs ys a b)

-- a path within the mother, or one of these
abbrev IsKnown : List (List ℕ) → Piece → Type 0
IsKnown paths piece = (piece.path ≡ []) ⊎ IsOne piece.path paths

module _ {D : Type 0} (hits : D → List (Hit D)) where
  -- the paths to all daughters that are met, so many levels deep
  met_paths : ℕ → D → List (List ℕ)
  met_paths zero d = []
  met_paths (suc n) d = flat_map (λ h. (h.ordinal ∷ []) ∷ map (λ path. h.ordinal ∷ path) (met_paths n h.daughter)) (hits d)

  abbrev below : ℕ → Hit D → List (List ℕ)
  below n h = (h.ordinal ∷ []) ∷ map (λ path. h.ordinal ∷ path) (met_paths n h.daughter)

  known_gap : (paths : List (List ℕ)) (s : RayParameter) (m : Bool) (t : RayParameter) (l : Bool) → AllByRecursion (IsKnown paths) (gap s m t l)
  known_gap paths s m t l = by (has_room s m t l)
    where
      by : (b : Bool) → AllByRecursion (IsKnown paths) (cond b (record { from = s; from_in = m; to = t; to_in = l; path = [] } ∷ []) [])
      by true = (inl refl, tt)
      by false = tt

  known_under : (n : ℕ) (h : Hit D) (rest : List (List ℕ)) (pieces : List Piece) → AllByRecursion (IsKnown (met_paths n h.daughter)) pieces
      → AllByRecursion (IsKnown (below n h ++ rest)) (map (under h.ordinal) pieces)
  known_under n h rest [] known = tt
  known_under n h rest (p ∷ ps) (one, known) = (by one, known_under n h rest ps known)
    where
      by : IsKnown (met_paths n h.daughter) p → IsKnown (below n h ++ rest) (under h.ordinal p)
      by (inl e) = inr (inl (ap (λ path. h.ordinal ∷ path) e))
      by (inr is) = inr (inr (append-one (h.ordinal ∷ p.path) (map (λ path. h.ordinal ∷ path) (met_paths n h.daughter)) rest (one-map (λ path. h.ordinal ∷ path) p.path (met_paths n h.daughter) is)))

  known_more : (more paths : List (List ℕ)) (pieces : List Piece) → AllByRecursion (IsKnown paths) pieces → AllByRecursion (IsKnown (more ++ paths)) pieces
  known_more more paths [] known = tt
  known_more more paths (p ∷ ps) (one, known) = (by one, known_more more paths ps known)
    where
      by : IsKnown paths p → IsKnown (more ++ paths) p
      by (inl e) = inl e
      by (inr is) = inr (one-append p.path more paths is)

  known_walk : (n : ℕ) → ((from to : RayParameter) (d : D) → AllByRecursion (IsKnown (met_paths n d)) (pieces_of hits n from to d)) → (to s : RayParameter) (m : Bool) (hs : List (Hit D))
      → AllByRecursion (IsKnown (flat_map (below n) hs)) (walk (λ h. pieces_of hits n h.from h.to h.daughter) s m to hs)
  known_walk n known to s m [] = known_gap [] s m to false
  known_walk n known to s m (h ∷ hs) =
      let paths = below n h ++ flat_map (below n) hs in
      let inner = map (under h.ordinal) (pieces_of hits n h.from h.to h.daughter) in
      let rest = walk (λ h. pieces_of hits n h.from h.to h.daughter) h.to true to hs in
      all-append (IsKnown paths) (gap s m h.from true) (inner ++ rest) (known_gap paths s m h.from true)
      (all-append (IsKnown paths) inner rest
      (known_under n h (flat_map (below n) hs) (pieces_of hits n h.from h.to h.daughter) (known h.from h.to h.daughter))
      (known_more (below n h) (flat_map (below n) hs) rest (known_walk n known to h.to true hs)))

  known_pieces : (n : ℕ) (from to : RayParameter) (d : D) → AllByRecursion (IsKnown (met_paths n d)) (pieces_of hits n from to d)
  unfolding met_paths
  known_pieces zero from to d = known_gap [] from false to false
  known_pieces (suc n) from to d = known_walk n (known_pieces n) to from false (hits d)

  -- they are as many as the daughters met
  length-below : (n : ℕ) → ((from to : RayParameter) (d : D) → length (met_paths n d) ≡ cost_of (one_each hits) hits n from to d) → (hs : List (Hit D))
      → length (flat_map (below n) hs) ≡ length hs + sum_by (λ h. cost_of (one_each hits) hits n h.from h.to h.daughter) hs
  length-below n each [] = refl
  length-below n each (h ∷ hs) =
      let one = each h.from h.to h.daughter in
      let rest = length-below n each hs in
      let parts = length-append (map (λ path. h.ordinal ∷ path) (met_paths n h.daughter)) (flat_map (below n) hs) in
      let same = length-map (λ (path : List ℕ). h.ordinal ∷ path) (met_paths n h.daughter) in
      let sum = sum_by-cons (λ (h : Hit D). cost_of (one_each hits) hits n h.from h.to h.daughter) h hs in
      omega (arith, one, rest, parts, same, sum)

  length-met : (n : ℕ) (from to : RayParameter) (d : D) → length (met_paths n d) ≡ cost_of (one_each hits) hits n from to d
  unfolding met_paths
  length-met zero from to d = refl
  length-met (suc n) from to d = length-below n (length-met n) (hits d)

  -- ---- the fronts of paths at which there is a header

  module _ (has : D → Bool) where
    abbrev empty_if : Bool → List (List ℕ)
    empty_if b = if b then [] ∷ [] else []

    abbrev at_header : D → List (List ℕ)
    at_header d = empty_if (has d)

    length-empty : (b : Bool) → length (empty_if b) ≡ (if b then 1 else 0)
    length-empty true = refl
    length-empty false = refl

    header_paths : ℕ → D → List (List ℕ)
    header_paths zero d = []
    header_paths (suc n) d = at_header d ++ flat_map (λ h. map (λ path. h.ordinal ∷ path) (header_paths n h.daughter)) (hits d)

    abbrev deeper : ℕ → Hit D → List (List ℕ)
    deeper n h = map (λ path. h.ordinal ∷ path) (header_paths n h.daughter)

    abbrev least : CountOf D
    least = least_each (λ d. if has d then 1 else 0)

    length-deeper : (n : ℕ) → ((from to : RayParameter) (d : D) → length (header_paths n d) ≡ cost_of least hits n from to d) → (hs : List (Hit D))
        → length (flat_map (deeper n) hs) ≡ sum_by (λ h. cost_of least hits n h.from h.to h.daughter) hs
    length-deeper n each [] = refl
    length-deeper n each (h ∷ hs) =
        let one = each h.from h.to h.daughter in
        let parts = length-append (deeper n h) (flat_map (deeper n) hs) in
        let same = length-map (λ (path : List ℕ). h.ordinal ∷ path) (header_paths n h.daughter) in
        omega (arith, one, length-deeper n each hs, parts, same, sum_by-cons (λ (h : Hit D). cost_of least hits n h.from h.to h.daughter) h hs)

    length-header : (n : ℕ) (from to : RayParameter) (d : D) → length (header_paths n d) ≡ cost_of least hits n from to d
    unfolding header_paths
    length-header zero from to d = refl
    length-header (suc n) from to d = length-append (at_header d) (flat_map (deeper n) (hits d)) ∙ omega (arith, length-deeper n (length-header n) (hits d), length-empty (has d))

    -- P is said of a volume and a path from it to one that has a header
    module _ (P : D → List ℕ → Type 0) (here : (d : D) → P d [] → has d ≡ true) (there : (d : D) → AllByRecursion (λ h. (path : List ℕ) → P d (h.ordinal ∷ path) → P h.daughter path) (hits d)) where
      -- each front of the piece's path that leads to a header is one of these
      abbrev IsFronted : D → List (List ℕ) → Piece → Type 0
      IsFronted d paths piece = (path : List ℕ) (k : ℕ) (further : List ℕ) → piece.path ≡ path ++ k ∷ further → P d path → IsOne path paths

      fronted_gap : (d : D) (paths : List (List ℕ)) (s : RayParameter) (m : Bool) (t : RayParameter) (l : Bool) → AllByRecursion (IsFronted d paths) (gap s m t l)
      fronted_gap d paths s m t l = by (has_room s m t l)
        where
          none : (path : List ℕ) (k : ℕ) (further : List ℕ) → [] ≡ path ++ k ∷ further → ⊥
          none [] k further e = absurd (cc)
          none (j ∷ path) k further e = absurd (cc)

          by : (b : Bool) → AllByRecursion (IsFronted d paths) (cond b (record { from = s; from_in = m; to = t; to_in = l; path = [] } ∷ []) [])
          by true = ((λ path k further e p. absurd (none path k further e)), tt)
          by false = tt

      front_header : (d : D) (rest : List (List ℕ)) → P d [] → IsOne [] (at_header d ++ rest)
      front_header d rest p = subst (λ b. IsOne [] (empty_if b ++ rest)) (sym (here d p)) (inl refl)

      fronted_under : (d : D) (n : ℕ) (h : Hit D) (rest : List (List ℕ)) → ((path : List ℕ) → P d (h.ordinal ∷ path) → P h.daughter path) → (pieces : List Piece)
          → AllByRecursion (IsFronted h.daughter (header_paths n h.daughter)) pieces → AllByRecursion (IsFronted d (at_header d ++ (deeper n h ++ rest))) (map (under h.ordinal) pieces)
      fronted_under d n h rest on [] fronted = tt
      fronted_under d n h rest on (piece ∷ pieces) (one, fronted) = (by, fronted_under d n h rest on pieces fronted)
        where
          by : IsFronted d (at_header d ++ (deeper n h ++ rest)) (under h.ordinal piece)
          by [] k further e p = front_header d (deeper n h ++ rest) p
          by (j ∷ path) k further e p =
              let first : h.ordinal ≡ j = cc in
              let tail : piece.path ≡ path ++ k ∷ further = cc in
              let q = on path (subst (λ i. P d (i ∷ path)) (sym first) p) in
              one-append (j ∷ path) (at_header d) (deeper n h ++ rest)
              (append-one (j ∷ path) (deeper n h) rest (subst (λ i. IsOne (i ∷ path) (deeper n h)) first (one-map (λ path. h.ordinal ∷ path) path (header_paths n h.daughter) (one path k further tail q))))

      fronted_more : (d : D) (front more paths : List (List ℕ)) (pieces : List Piece) → AllByRecursion (IsFronted d (front ++ paths)) pieces → AllByRecursion (IsFronted d (front ++ (more ++ paths))) pieces
      fronted_more d front more paths [] fronted = tt
      fronted_more d front more paths (piece ∷ pieces) (one, fronted) = ((λ path k further e p. between path front (one path k further e p)), fronted_more d front more paths pieces fronted)
        where
          between : (path : List ℕ) (front : List (List ℕ)) → IsOne path (front ++ paths) → IsOne path (front ++ (more ++ paths))
          between path [] is = one-append path more paths is
          between path (x ∷ front) (inl e) = inl e
          between path (x ∷ front) (inr is) = inr (between path front is)

      fronted_walk : (n : ℕ) → ((from to : RayParameter) (d : D) → AllByRecursion (IsFronted d (header_paths n d)) (pieces_of hits n from to d)) → (d : D) (to s : RayParameter) (m : Bool) (hs : List (Hit D))
          → AllByRecursion (λ h. (path : List ℕ) → P d (h.ordinal ∷ path) → P h.daughter path) hs
          → AllByRecursion (IsFronted d (at_header d ++ flat_map (deeper n) hs)) (walk (λ h. pieces_of hits n h.from h.to h.daughter) s m to hs)
      fronted_walk n fronted d to s m [] on = fronted_gap d (at_header d ++ []) s m to false
      fronted_walk n fronted d to s m (h ∷ hs) on =
          let paths = at_header d ++ (deeper n h ++ flat_map (deeper n) hs) in
          let inner = map (under h.ordinal) (pieces_of hits n h.from h.to h.daughter) in
          let rest = walk (λ h. pieces_of hits n h.from h.to h.daughter) h.to true to hs in
          all-append (IsFronted d paths) (gap s m h.from true) (inner ++ rest) (fronted_gap d paths s m h.from true)
          (all-append (IsFronted d paths) inner rest
          (fronted_under d n h (flat_map (deeper n) hs) on.0 (pieces_of hits n h.from h.to h.daughter) (fronted h.from h.to h.daughter))
          (fronted_more d (at_header d) (deeper n h) (flat_map (deeper n) hs) rest (fronted_walk n fronted d to h.to true hs on.1)))

      fronted_pieces : (n : ℕ) (from to : RayParameter) (d : D) → AllByRecursion (IsFronted d (header_paths n d)) (pieces_of hits n from to d)
      unfolding header_paths
      fronted_pieces zero from to d = fronted_gap d [] from false to false
      fronted_pieces (suc n) from to d = fronted_walk n (fronted_pieces n) d to from false (hits d) (there d)

      row_fronted : (d : D) (paths : List (List ℕ)) (pieces : List Piece) (path : List ℕ) → AllByRecursion (IsFronted d paths) pieces → P d path
          → AnyByRecursion (λ row. (k : ℕ) × (further : List ℕ) × (row.path ≡ path ++ k ∷ further)) (open_rows pieces) → IsOne path paths
      row_fronted d paths [] path fronted p is = absurd is
      row_fronted d paths (piece ∷ pieces) path (one, fronted) p is = by (row_fronted d paths pieces path fronted p) (is_below piece.from piece.to) is
        where
          by : (AnyByRecursion (λ row. (k : ℕ) × (further : List ℕ) × (row.path ≡ path ++ k ∷ further)) (open_rows pieces) → IsOne path paths)
              → (b : Bool) → AnyByRecursion (λ row. (k : ℕ) × (further : List ℕ) × (row.path ≡ path ++ k ∷ further)) (cond b (record { from = piece.from; to = piece.to; path = piece.path } ∷ open_rows pieces) (open_rows pieces)) → IsOne path paths
          by later true (inl (k, further, e)) = one path k further e p
          by later true (inr is) = later is
          by later false is = later is

  row_known : (paths : List (List ℕ)) (pieces : List Piece) (path : List ℕ) → AllByRecursion (IsKnown paths) pieces → path ≢ [] → AnyByRecursion (λ row. path ≡ row.path) (open_rows pieces) → IsOne path paths
  row_known paths [] path known some is = absurd is
  row_known paths (p ∷ ps) path (one, known) some is = by (row_known paths ps path known some) (is_below p.from p.to) is
    where
      here : IsKnown paths p → path ≡ p.path → IsOne path paths
      here (inl e) f = absurd (some (f ∙ e))
      here (inr one) f = subst (λ l. IsOne l paths) (sym f) one

      by : (AnyByRecursion (λ row. path ≡ row.path) (open_rows ps) → IsOne path paths)
          → (b : Bool) → AnyByRecursion (λ row. path ≡ row.path) (cond b (record { from = p.from; to = p.to; path = p.path } ∷ open_rows ps) (open_rows ps)) → IsOne path paths
      by later true (inl e) = here one e
      by later true (inr is) = later is
      by later false is = later is

-- ---- in a hierarchy

module _ (h : Hierarchy) (tree : IsTree h) (clean : IsClean h) (ray : Ray) (moves : HasDirection ray) where
  -- nowhere in the world there are no such paths
  module _ (clip : IsClip (solid_at h h.world) ray None) (rows : List Row) (is : IsReport (path_along h ray) rows) where
    none : rows ≡ []
    none = unique (path_along h ray) rows [] is (no_report h tree clean ray moves clip)

    pub none_tested : (n : ℕ) → HasPaths (IsToDaughter rows) n → n ≤ 0
    none_tested n has = subst (λ k. k ≤ 0) has.many (by has.paths (subst (λ l. AllByRecursion (IsToDaughter l) has.paths) none has.each))
      where
        by : (paths : List (List ℕ)) → AllByRecursion (IsToDaughter []) paths → length paths ≤ 0
        by [] each = omega arith
        by (path ∷ paths) each = absurd each.0.1

    pub none_read : (n : ℕ) → HasPaths (IsToHeader h rows) n → n ≤ 0
    none_read n has = subst (λ k. k ≤ 0) has.many (by has.paths (subst (λ l. AllByRecursion (IsToHeader h l) has.paths) none has.each))
      where
        by : (paths : List (List ℕ)) → AllByRecursion (IsToHeader h []) paths → length paths ≤ 0
        by [] each = omega arith
        by (path ∷ paths) each = absurd each.0.on

  module _ (v : ℕ) (same : v ≡ h.world) (span : Span) (clip : IsClip (solid_at h h.world) ray (Some span)) (rows : List Row) (is : IsReport (path_along h ray) rows) where
    abbrev from : RayParameter
    from = parameter_of span.from

    abbrev to : RayParameter
    to = parameter_of span.to

    abbrev world : Frame
    world = record { volume = v; ray = ray }

    abbrev pieces : List Piece
    pieces = pieces_of (hits h) max_length from to world

    are : rows ≡ open_rows pieces
    are = unique (path_along h ray) rows (open_rows pieces) is (report h tree clean ray moves v same span clip)

    pub some_tested : (n : ℕ) → HasPaths (IsToDaughter rows) n → n ≤ cost_of (one_each (hits h)) (hits h) max_length from to world
    some_tested n has = subst (λ k. k ≤ cost_of (one_each (hits h)) (hits h) max_length from to world) has.many
        (omega (arith, length-met (hits h) max_length from to world, no_more has.paths (met_paths (hits h) max_length world) has.different (by has.paths (subst (λ l. AllByRecursion (IsToDaughter l) has.paths) are has.each))))
      where
        by : (paths : List (List ℕ)) → AllByRecursion (IsToDaughter (open_rows pieces)) paths → AllByRecursion (λ p. IsOne p (met_paths (hits h) max_length world)) paths
        by [] each = tt
        by (path ∷ paths) ((some, row), each) = (row_known (hits h) (met_paths (hits h) max_length world) pieces path (known_pieces (hits h) max_length from to world) some row, by paths each)

    abbrev has_header : Frame → Bool
    has_header f = is_some (cut_by h f.volume (volume_at h.volumes f.volume).placements)

    abbrev LeadsToHeader : Frame → List ℕ → Type 0
    LeadsToHeader f path = (w : ℕ) × Leads (daughter_of h) f.volume path w × HasHeader h w

    header_here : (f : Frame) → LeadsToHeader f [] → has_header f ≡ true
    header_here f (w, leads, header) = ap (λ (u : ℕ). is_some (cut_by h u (volume_at h.volumes u).placements)) leads ∙ ap is_some header.1

    header_there : (f : Frame) → AllByRecursion (λ (hit : Hit Frame). (path : List ℕ) → LeadsToHeader f (hit.ordinal ∷ path) → LeadsToHeader hit.daughter path) (hits h f)
    header_there f = by (hits h f) (linked h f)
      where
        by : (hs : List (Hit Frame)) → AllByRecursion (λ (hit : Hit Frame). daughter_of h f.volume hit.ordinal ≡ Some hit.daughter.volume) hs
            → AllByRecursion (λ (hit : Hit Frame). (path : List ℕ) → LeadsToHeader f (hit.ordinal ∷ path) → LeadsToHeader hit.daughter path) hs
        by [] all = tt
        by (hit ∷ hs) all = (
          (λ path leads.
              let u = leads.1 in
              let one : u.0 ≡ hit.daughter.volume = let e : Some u.0 ≡ Some hit.daughter.volume = sym u.1 ∙ all.0 in cc in
              (leads.0, subst (λ (x : ℕ). Leads (daughter_of h) x path leads.0) one u.2, leads.2)),
          by hs all.1,
        )

    pub some_read : (n : ℕ) → HasPaths (IsToHeader h rows) n → n ≤ cost_of (least_each (λ f. least_of h (place f))) (hits h) max_length from to world
    some_read n has = subst (λ k. k ≤ cost_of (least_each (λ f. least_of h (place f))) (hits h) max_length from to world) has.many
        (omega (
          arith,
          ap (λ c. cost_of (least_each c) (hits h) max_length from to world) least_is,
          length-header (hits h) has_header max_length from to world,
          no_more has.paths (header_paths (hits h) has_header max_length world) has.different (by has.paths (subst (λ l. AllByRecursion (IsToHeader h l) has.paths) are has.each)),
        ))
      where
        one_of : (o : Option Cut) → ◌≡◌ {A = ℕ} (if is_some o then 1 else 0) (elim o [ None ↦ 0 | Some cut ↦ 1 ])
        one_of None = refl
        one_of (Some cut) = refl

        least_is : ◌≡◌ {A = Frame → ℕ} (λ f. if has_header f then 1 else 0) (λ f. least_of h (place f))
        least_is i f = one_of (cut_by h f.volume (volume_at h.volumes f.volume).placements) i

        by : (paths : List (List ℕ)) → AllByRecursion (IsToHeader h (open_rows pieces)) paths → AllByRecursion (λ p. IsOne p (header_paths (hits h) has_header max_length world)) paths
        by [] each = tt
        by (path ∷ paths) (one, each) = (
          row_fronted (hits h) has_header LeadsToHeader header_here header_there world (header_paths (hits h) has_header max_length world) pieces path
              (fronted_pieces (hits h) has_header LeadsToHeader header_here header_there max_length from to world)
              (one.volume, subst (λ (w : ℕ). Leads (daughter_of h) w path one.volume) (sym same) one.leads, one.header) one.on,
          by paths each,
        )
