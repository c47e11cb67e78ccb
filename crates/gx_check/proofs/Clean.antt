-- A hierarchy is clean exactly where no verdict refutes it.
use Rattle.std.proofs.Common.{◌≡◌, ◌⊎◌, inl, inr, ◌↔◌, ℕ, ◌+◌, ◌-◌, ◌<◌, ◌≤◌, pos, ◌<ℤ◌, Bool, false, true≢false, List, [], ◌∷◌, length, map, find, get_or, Option, None, Some, All, Contains, refl, sym, ap, ◌∙◌, subst, arith}
use Rattle.std.specs.Prelude.{unwrap_or}
use Rattle.std.specs.List.{range_with_len}
use Rattle.std.proofs.lemmas.List.{length-map, get_or-map, get_or_default}
use Rattle.std.proofs.lemmas.List.Elements.{All-head, All-tail, Contains-append_left, Contains-append_right}
use Rattle.std.proofs.lemmas.List.FromFn.{length-range_with_len, get_or-range_with_len}
use Rattle.gx_num.specs.declared.vector.V3.{V3}
use Rattle.gx_num.specs.Space.{HalfSpace, is_in, is_inside}
use Rattle.gx_num.specs.Vector4.{Vec4}
use Rattle.gx_algebra.proofs.Lists.{Contains-map, Contains-flat_map, find-none}
use Rattle.gx_convex.specs.Points.{are_coplanar}
use Rattle.gx_convex.specs.Faces.{faces_of}
use Rattle.gx_convex.specs.Hull.{IsHullOf}
use Rattle.gx_convex.specs.Laws.{AreTheSolid}
use Rattle.gx_convex.proofs.FaceFacts.{faces_bound, implied}
use Rattle.gx_shapes.specs.Solid.{solid_of}
use Rattle.gx_shapes.proofs.Solids.{faces_are_the_solid_of, whole_hull}
use Rattle.gx_rotation.specs.Matrix.{Matrix, identity}
use Rattle.gx_rotation.specs.Rotation.{matrix_of}
use Rattle.gx_rotation.specs.Place.{placed_point, placed_face}
use Rattle.gx_place.specs.Laws.{IsPlaced}
use Rattle.gx_place.proofs.Moved.{are_coplanar-map}
use Rattle.gx_place.proofs.Turned.{IsMotion-placed, IsTurn-matrix_of}
use Rattle.gx_place.proofs.Placed.{placed_solids}
use Rattle.gx_contain.specs.Outside.{first_outside}
use Rattle.gx_contain.proofs.Containment.{containment}
use Rattle.gx_separate.specs.Between.{first_between}
use Rattle.gx_common.specs.Common.{common_of}
use Rattle.gx_common.specs.Laws.{AreReached, AreAlternatives}
use Rattle.gx_common.proofs.Alternatives.{alternatives}
use Rattle.gx_tree.specs.declared.instance.Instance.{Instance}
use Rattle.gx_tree.specs.Hierarchy.{Hierarchy, volume_at, instances, IsRotation, IsInstance}
use Rattle.gx_tree.specs.Deepest.{local_of, is_inside_daughter}
use Rattle.gx_tree.specs.Fault.{IsTree}
use Rattle.gx_check.specs.declared.verdict.Verdict.{Verdict}
use Rattle.gx_check.specs.Verdicts.{solid_vertices, placed_vertices, placed_daughters, contained, parted, daughter_verdict, pair_verdict, ordinals_from, daughter_verdicts, verdicts_with, pair_verdicts, verdicts_in, verdicts, refutes}
use Rattle.gx_check.specs.Clean.{is_in_daughter, IsContainedIn, AreDisjoint, IsClean}
use Rattle.gx_check.specs.Laws.{CleanWhereUnrefuted}
use Rattle.gx_check.proofs.Each.{All-verdicts}

-- ---- lists
none-find : {X : Type 0} (test : X → Bool) (xs : List X) → All (λ x. test x ≡ false) xs → find test xs ≡ None
none-find test [] all = refl
none-find test (x ∷ xs) all = rw (All-head (λ x. test x ≡ false) x xs all) (none-find test xs (All-tail (λ x. test x ≡ false) x xs all))

Contains-range : (a n k : ℕ) → a ≤ k → k < a + n → Contains (range_with_len a n) k
Contains-range a n k from below = (k - a, omega (arith, length-range_with_len a n), get_or-range_with_len a n (k - a) k (omega arith) ∙ omega arith)

-- ---- what a verdict says
IsParted : Option HalfSpace → Type 0
IsParted o = (plane : HalfSpace) × (o ≡ Some plane)

none_outside : (v k : ℕ) (o : Option V3) → refutes (contained v k o) ≡ false → o ≡ None
none_outside v k None e = refl
none_outside v k (Some p) e = absurd (true≢false e)

some_plane : (v i j : ℕ) (o : Option HalfSpace) (points : List Vec4) → refutes (parted v i j o points) ≡ false → IsParted o
unfolding IsParted
some_plane v i j (Some plane) points e = (plane, refl)
some_plane v i j None points e = absurd (true≢false e)

by_plane : (v i j : ℕ) (o : Option HalfSpace) (points : List Vec4) → IsParted o → refutes (parted v i j o points) ≡ false
unfolding IsParted
by_plane v i j o points (plane, e) = rw e refl

-- ---- solids by their vertices
own_hull : (vertices : List V3) → are_coplanar vertices ≡ false → IsHullOf (faces_of vertices) vertices
own_hull vertices solid = record { bounds = faces_bound vertices; bounded = λ h s p _ e. implied vertices solid h s p e }

placed_hull : (r : Matrix) → IsRotation r → (t : V3) (vertices : List V3) → are_coplanar vertices ≡ false → (are_coplanar (map (placed_point r t) vertices) ≡ false) × IsPlaced r t (faces_of vertices) vertices
placed_hull r turn t vertices solid = subst (λ q. (are_coplanar (map (placed_point q t) vertices) ≡ false) × IsPlaced q t (faces_of vertices) vertices) (sym turn.same) (
  are_coplanar-map (placed_point (matrix_of turn.index) t) (placed_face (matrix_of turn.index) t) (IsMotion-placed (matrix_of turn.index) (IsTurn-matrix_of turn.index turn.below) t) vertices ∙ solid,
  placed_solids turn.index turn.below t (faces_of vertices) vertices solid (own_hull vertices solid),
)

module _ (h : Hierarchy) (tree : IsTree h) where
  is_solid : (v : ℕ) → v < length h.volumes → are_coplanar (solid_vertices h v) ≡ false
  is_solid v below = (whole_hull (volume_at h.volumes v).solid (tree.solids v _ below)).0

  same_solid : (v : ℕ) → v < length h.volumes → AreTheSolid (solid_of (volume_at h.volumes v).solid) (solid_vertices h v)
  same_solid v below = faces_are_the_solid_of (volume_at h.volumes v).solid (tree.solids v _ below)

  -- a daughter is the faces of her placed vertices
  record IsBody (i : Instance) : Type 0 where
    solid : are_coplanar (placed_vertices h i) ≡ false
    same_in : (p : Vec4) → pos 0 <ℤ p.w → is_in (faces_of (placed_vertices h i)) p ≡ is_in_daughter h p i
    same_inside : (p : Vec4) → pos 0 <ℤ p.w → is_inside (faces_of (placed_vertices h i)) p ≡ is_inside_daughter h p i

  body : (i : Instance) → IsInstance h i → IsBody i
  body i is =
      let placed = placed_hull i.rotation is.rotation i.offset (solid_vertices h i.volume) (is_solid i.volume is.volume) in
      let own = same_solid i.volume is.volume in
      record {
        solid = placed.0;
        same_in = λ p w. placed.1.same_in p w ∙ sym (own.same_in (local_of i p) w);
        same_inside = λ p w. placed.1.same_inside p w ∙ sym (own.same_inside (local_of i p) w);
      }

  contained_where : (v : ℕ) → v < length h.volumes → (i : Instance) → IsBody i → IsContainedIn h v i ↔ (first_outside (solid_vertices h v) (placed_vertices h i) ≡ None)
  contained_where v below i is =
      let outer = solid_vertices h v in
      let inner = placed_vertices h i in
      let own = same_solid v below in
      let law = containment (faces_of outer) (faces_of inner) outer inner (is_solid v below) (own_hull outer (is_solid v below)) (own_hull inner is.solid) in (
        λ all. law.1 (λ p w e. sym (own.same_in p w) ∙ all p w (sym (is.same_in p w) ∙ e)),
        λ none p w e. own.same_in p w ∙ law.0 none p w (is.same_in p w ∙ e),
      )

  disjoint_where : (i j : Instance) → IsBody i → IsBody j → AreDisjoint h i j ↔ IsParted (first_between (placed_vertices h i) (placed_vertices h j))
  unfolding IsParted
  disjoint_where i j is js = (
    λ none. parted_by none law.either,
    λ plane p w e f. law.never_both plane.0 plane.1 (law.meet.0 (record { point = p; proper = w; inside = is.same_inside p w ∙ e; inside_other = js.same_inside p w ∙ f })),
  )
    where
      a : List V3
      a = placed_vertices h i

      b : List V3
      b = placed_vertices h j

      law : AreAlternatives (placed_vertices h i) (placed_vertices h j)
      law = alternatives (placed_vertices h i) (placed_vertices h j) is.solid js.solid

      parted_by : AreDisjoint h i j → ((plane : HalfSpace) × (first_between (placed_vertices h i) (placed_vertices h j) ≡ Some plane)) ⊎ AreReached (placed_vertices h i) (placed_vertices h j) → (plane : HalfSpace) × (first_between (placed_vertices h i) (placed_vertices h j) ≡ Some plane)
      parted_by none (inl plane) = plane
      parted_by none (inr reached) =
          let common = law.meet.1 reached in
          absurd (none common.point common.proper (sym (is.same_inside common.point common.proper) ∙ common.inside) (sym (js.same_inside common.point common.proper) ∙ common.inside_other))

  -- ---- by ordinals
  nothing : Instance
  nothing = record { volume = 0; copy = pos 0; rotation = identity; offset = record { x = pos 0; y = pos 0; z = pos 0 } }

  nth : ℕ → ℕ → Instance
  nth v k = get_or (instances h v) k nothing

  nth-body : (v k : ℕ) → k < length (instances h v) → IsBody (nth v k)
  unfolding nth
  nth-body v k below = body (nth v k) (tree.placed v k nothing below)

  nth-placed : (v k : ℕ) → k < length (instances h v) → get_or (placed_daughters h v) k [] ≡ placed_vertices h (nth v k)
  unfolding nth
  nth-placed v k below = get_or-map (placed_vertices h) (instances h v) k nothing [] below

  nth-between : (v i j : ℕ) → i < length (instances h v) → j < length (instances h v)
      → first_between (get_or (placed_daughters h v) i []) (get_or (placed_daughters h v) j []) ≡ first_between (placed_vertices h (nth v i)) (placed_vertices h (nth v j))
  nth-between v i j first second = λ k. first_between (nth-placed v i first k) (nth-placed v j second k)

  Unrefuted : Verdict → Type 0
  Unrefuted x = refutes x ≡ false

  -- ---- no verdict refutes a clean hierarchy
  module _ (clean : IsClean h) (v : ℕ) (below : v < length h.volumes) where
    daughter_unrefuted : (k : ℕ) → k < length (instances h v) → Unrefuted (daughter_verdict v (solid_vertices h v) (placed_daughters h v) k)
    unfolding Unrefuted nth daughter_verdict
    daughter_unrefuted k less =
        rw (nth-placed v k less, (contained_where v below (nth v k) (nth-body v k less)).0 (clean.contained v below k nothing less)) refl

    pair_unrefuted : (i j : ℕ) → i < j → j < length (instances h v) → Unrefuted (pair_verdict v (placed_daughters h v) i j)
    unfolding Unrefuted nth pair_verdict
    pair_unrefuted i j less within =
        let first : i < length (instances h v) = omega arith in
        by_plane v i j _ _ (subst IsParted (sym (nth-between v i j first within)) ((disjoint_where (nth v i) (nth v j) (nth-body v i first) (nth-body v j within)).0 (clean.disjoint v below i j nothing less within)))

  unrefuted : IsClean h → find refutes (verdicts h) ≡ None
  unfolding Unrefuted
  unrefuted clean =
      none-find refutes (verdicts h)
      (All-verdicts Unrefuted h (λ v k below less. daughter_unrefuted clean v below k less) (λ v i j below less within. pair_unrefuted clean v below i j less within))

  -- ---- a hierarchy that no verdict refutes is clean
  module _ (none : find refutes (verdicts h) ≡ None) (v : ℕ) (below : v < length h.volumes) where
    passes : (x : Verdict) → Contains (verdicts_in h v) x → Unrefuted x
    unfolding verdicts Unrefuted
    passes x among = find-none refutes (verdicts h) x none (Contains-flat_map (verdicts_in h) (range_with_len 0 (length h.volumes)) v x (Contains-range 0 (length h.volumes) v (omega arith) (omega arith)) among)

    contained_at : (k : ℕ) → k < length (instances h v) → IsContainedIn h v (nth v k)
    unfolding Unrefuted daughter_verdict daughter_verdicts verdicts_in
    contained_at k less =
        let count : length (placed_daughters h v) ≡ length (instances h v) = length-map (instances h v) (placed_vertices h) in
        let ds = placed_daughters h v in
        let among = Contains-map (daughter_verdict v (solid_vertices h v) ds) (ordinals_from 0 ds) k (Contains-range 0 (length ds - 0) k (omega arith) (omega arith)) in
        let none = none_outside v k _ (passes _ (Contains-append_left (daughter_verdicts v (solid_vertices h v) ds) (pair_verdicts v ds) _ among)) in
        (contained_where v below (nth v k) (nth-body v k less)).1 (ap (first_outside (solid_vertices h v)) (sym (nth-placed v k less)) ∙ none)

    disjoint_at : (i j : ℕ) → i < j → j < length (instances h v) → AreDisjoint h (nth v i) (nth v j)
    unfolding Unrefuted pair_verdict verdicts_with pair_verdicts verdicts_in
    disjoint_at i j less within =
        let count : length (placed_daughters h v) ≡ length (instances h v) = length-map (instances h v) (placed_vertices h) in
        let ds = placed_daughters h v in
        let first : i < length (instances h v) = omega arith in
        let among = Contains-flat_map (verdicts_with v ds) (ordinals_from 0 ds) i _ (Contains-range 0 (length ds - 0) i (omega arith) (omega arith)) (Contains-map (pair_verdict v ds i) (ordinals_from (i + 1) ds) j (Contains-range (i + 1) (length ds - (i + 1)) j (omega arith) (omega arith))) in
        let between = first_between (get_or ds i []) (get_or ds j []) in
        let plane = some_plane v i j between (unwrap_or (common_of (get_or ds i []) (get_or ds j [])) []) (passes (pair_verdict v ds i j) (Contains-append_right (daughter_verdicts v (solid_vertices h v) ds) (pair_verdicts v ds) _ among)) in
        (disjoint_where (nth v i) (nth v j) (nth-body v i first) (nth-body v j within)).1 (subst IsParted (nth-between v i j first within) plane)

  nth-same : (v k : ℕ) (d : Instance) → k < length (instances h v) → nth v k ≡ get_or (instances h v) k d
  unfolding nth
  nth-same v k d less = get_or_default (instances h v) k nothing d less

  clean_from : find refutes (verdicts h) ≡ None → IsClean h
  clean_from none = record {
    contained = λ v below k d less. subst (IsContainedIn h v) (nth-same v k d less) (contained_at none v below k less);
    disjoint = λ v below i j d less within. subst (λ a. AreDisjoint h a (get_or (instances h v) j d)) (nth-same v i d (omega arith)) (subst (λ b. AreDisjoint h (nth v i) b) (nth-same v j d within) (disjoint_at none v below i j less within));
  }

pub clean_where_unrefuted : CleanWhereUnrefuted
clean_where_unrefuted h tree = (unrefuted h tree, clean_from h tree)
