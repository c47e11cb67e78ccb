-- A daughter in her mother's frame: a point inside her is strictly within the extent of her placed vertices, which are near.
use Rattle.std.proofs.Common.{◌≡◌, ◌∙◌, ℕ, ◌<◌, ◌≤◌, true, false, ℤ, pos, ◌<ℤ◌, List, [], ◌∷◌, map, fold, None, unsigned_abs, All, sym, ap, subst, arith}
use Rattle.std.proofs.lemmas.Bool.{false_from_ne_true}
use Rattle.std.specs.Int.{int_min, int_max}
use Rattle.std.proofs.lemmas.Int.{ints, int_min_is, int_max_is}
use Rattle.std.proofs.lemmas.List.Elements.{All-head, All-tail, All-map, All-weaker}
use Rattle.gx_num.specs.declared.vector.V3.{V3}
use Rattle.gx_num.specs.declared.vector.TheConstants.{M}
use Rattle.gx_num.specs.declared.ray.Ray.{Ray}
use Rattle.gx_num.specs.Vector.{IsWithin}
use Rattle.gx_num.specs.Space.{is_inside}
use Rattle.gx_num.specs.Vector4.{Vec4}
use Rattle.gx_num.specs.Ray.{point_of_ray}
use Rattle.gx_plane.specs.Plane.{reach}
use Rattle.gx_convex.specs.Points.{distinct, are_coplanar}
use Rattle.gx_convex.specs.Extent.{lower, upper, extent_of}
use Rattle.gx_convex.specs.Faces.{faces_of}
use Rattle.gx_convex.specs.Hull.{IsHullOf}
use Rattle.gx_convex.proofs.Cutting.{faces_are_the_solid}
use Rattle.gx_convex.proofs.Distinct.{All-distinct}
use Rattle.gx_convex.proofs.FaceFacts.{faces_bound, implied}
use Rattle.gx_shapes.specs.declared.figure.Figure.{Figure}
use Rattle.gx_shapes.specs.Accepted.{IsSolid}
use Rattle.gx_shapes.specs.Solid.{solid_of, vertices_of}
use Rattle.gx_shapes.proofs.Solids.{faces_are_the_solid_of, vertices_within, whole_hull}
use Rattle.gx_rotation.specs.Matrix.{Matrix, image, transpose}
use Rattle.gx_rotation.specs.Rotation.{matrix_of}
use Rattle.gx_rotation.specs.Place.{local_point, placed_point, placed_face}
use Rattle.gx_rotation.proofs.Tables.{IsWithin-image_back}
use Rattle.gx_place.proofs.Moved.{are_coplanar-map}
use Rattle.gx_place.proofs.Turned.{IsMotion-placed, IsTurn-matrix_of}
use Rattle.gx_place.proofs.Placed.{placed_solids}
use Rattle.gx_place.proofs.Sizes.{IsWithin-sum_of}
use Rattle.gx_tree.specs.declared.instance.Instance.{Instance}
use Rattle.gx_tree.specs.Hierarchy.{Hierarchy, volume_at, IsInstance}
use Rattle.gx_tree.specs.Deepest.{local_of}
use Rattle.gx_tree.specs.Fault.{IsTree}
use Rattle.gx_check.specs.Verdicts.{placed_vertices}
use Rattle.gx_frame.specs.Frames.{IsMet}
use Rattle.gx_frame.proofs.Frames.{points_stay}
use Rattle.gx_boxes.specs.Boxes.{IsWithinOpen, IsMet as IsBoxMet}
use Rattle.gx_boxes.specs.Boxes.{IsProper}
use Rattle.gx_sealed.proofs.Proper.{apart_x, apart_y, apart_z}

-- ---- vertices by themselves
own_hull : (vertices : List V3) → are_coplanar vertices ≡ false → IsHullOf (faces_of vertices) vertices
own_hull vertices solid = record { bounds = faces_bound vertices; bounded = λ h s p _ e. implied vertices solid h s p e }

module _ (k : ℕ) (below : k < 24) (t : V3) (vertices : List V3) (solid : are_coplanar vertices ≡ false) where
  abbrev point : V3 → V3
  point = placed_point (matrix_of k) t

  placed_apart : are_coplanar (map point vertices) ≡ false
  placed_apart = are_coplanar-map point (placed_face (matrix_of k) t) (IsMotion-placed (matrix_of k) (IsTurn-matrix_of k below) t) vertices ∙ solid

  inside_box : (p : Vec4) → pos 0 <ℤ p.w → is_inside (faces_of vertices) (local_point (matrix_of k) t p) ≡ true → IsWithinOpen (extent_of (map point vertices)) p
  inside_box p positive inside =
      let placed = placed_solids k below t (faces_of vertices) vertices solid (own_hull vertices solid) in
      let within = (faces_are_the_solid (faces_of (map point vertices)) (map point vertices) placed_apart (own_hull (map point vertices) placed_apart)).extent p positive (placed.same_inside p positive ∙ inside) in
      record { x = within.x; y = within.y; z = within.z }

  near_points : IsWithin (unsigned_abs M) t → All (IsWithin (unsigned_abs M)) vertices → All (IsWithin reach) (map point vertices)
  near_points offset near =
      All-map (IsWithin reach) point vertices
      (All-weaker (IsWithin (unsigned_abs M)) (λ v. IsWithin reach (point v)) (λ v h. IsWithin-sum_of (unsigned_abs M) t (image (transpose (matrix_of k)) v) offset (IsWithin-image_back k below (unsigned_abs M) v h)) vertices near)

-- ---- extents
-- a fold of elements has what each two pass on
pub fold_keeps : {X : Type 0} (P : X → Type 0) (f : X → X → X) → ((a b : X) → P a → P b → P (f a b)) → (x : X) (xs : List X) → P x → All P xs → P (fold f x xs)
fold_keeps P f keeps x [] h all = h
fold_keeps P f keeps x (y ∷ xs) h all = fold_keeps P f keeps (f x y) xs (keeps x y h (All-head P y xs all)) (All-tail P y xs all)

near_min : (r : ℕ) (x y : ℤ) → unsigned_abs x ≤ r → unsigned_abs y ≤ r → unsigned_abs (int_min x y) ≤ r
near_min r x y h k = omega (arith, ints, int_min_is x y)

near_max : (r : ℕ) (x y : ℤ) → unsigned_abs x ≤ r → unsigned_abs y ≤ r → unsigned_abs (int_max x y) ≤ r
near_max r x y h k = omega (arith, ints, int_max_is x y)

IsWithin-lower : (r : ℕ) (a b : V3) → IsWithin r a → IsWithin r b → IsWithin r (lower a b)
IsWithin-lower r a b h k = record { x = near_min r a.x b.x h.x k.x; y = near_min r a.y b.y h.y k.y; z = near_min r a.z b.z h.z k.z }

IsWithin-upper : (r : ℕ) (a b : V3) → IsWithin r a → IsWithin r b → IsWithin r (upper a b)
IsWithin-upper r a b h k = record { x = near_max r a.x b.x h.x k.x; y = near_max r a.y b.y h.y k.y; z = near_max r a.z b.z h.z k.z }

IsWithin-extent_of : (r : ℕ) (points : List V3) → All (IsWithin r) points → IsWithin r (extent_of points).low × IsWithin r (extent_of points).high
IsWithin-extent_of r [] all = (record { x = omega arith; y = omega arith; z = omega arith }, record { x = omega arith; y = omega arith; z = omega arith })
IsWithin-extent_of r (p ∷ ps) all =
    let first = All-head (IsWithin r) p ps all in
    let others = All-tail (IsWithin r) p ps all in
    (fold_keeps (IsWithin r) lower (IsWithin-lower r) p ps first others, fold_keeps (IsWithin r) upper (IsWithin-upper r) p ps first others)

-- ---- a daughter
module _ (h : Hierarchy) (tree : IsTree h) (i : Instance) (is : IsInstance h i) where
  abbrev figure : Figure
  figure = (volume_at h.volumes i.volume).solid

  solid : IsSolid figure
  solid = tree.solids i.volume _ is.volume

  pub near_extent : IsWithin reach (extent_of (placed_vertices h i)).low × IsWithin reach (extent_of (placed_vertices h i)).high
  near_extent =
      let vertices = distinct (vertices_of figure) in
      let near = All-distinct (IsWithin (unsigned_abs M)) (vertices_of figure) (vertices_within figure solid.values) in
      IsWithin-extent_of reach (placed_vertices h i)
      (subst (λ (m : Matrix). All (IsWithin reach) (map (placed_point m i.offset) vertices)) (sym is.rotation.same) (near_points is.rotation.index is.rotation.below i.offset vertices (whole_hull figure solid).0 is.offset near))

  pub proper : IsProper (extent_of (placed_vertices h i))
  proper =
      let vertices = distinct (vertices_of figure) in
      let solid_placed : are_coplanar (placed_vertices h i) ≡ false = subst (λ (m : Matrix). are_coplanar (map (placed_point m i.offset) vertices) ≡ false) (sym is.rotation.same) (placed_apart is.rotation.index is.rotation.below i.offset vertices (whole_hull figure solid).0) in
      record {
        low = near_extent.0;
        high = near_extent.1;
        x = apart_x (placed_vertices h i) solid_placed;
        y = apart_y (placed_vertices h i) solid_placed;
        z = apart_z (placed_vertices h i) solid_placed;
      }

  pub in_extent : (p : Vec4) → pos 0 <ℤ p.w → is_inside (solid_of figure) (local_of i p) ≡ true → IsWithinOpen (extent_of (placed_vertices h i)) p
  in_extent p positive inside =
      let vertices = distinct (vertices_of figure) in
      subst (λ (m : Matrix). is_inside (faces_of vertices) (local_point m i.offset p) ≡ true → IsWithinOpen (extent_of (map (placed_point m i.offset) vertices)) p) (sym is.rotation.same)
      (inside_box is.rotation.index is.rotation.below i.offset vertices (whole_hull figure solid).0 p positive)
      (sym ((faces_are_the_solid_of figure solid).same_inside (local_of i p) positive) ∙ inside)

  -- a ray that is nowhere in the extent doesn't meet her
  pub not_met : (ray : Ray) → (IsBoxMet (extent_of (placed_vertices h i)) ray → ⊥) → IsMet h i ray None
  not_met ray none = λ t positive. false_from_ne_true _ (λ inside.
      none (t, positive, in_extent (point_of_ray ray t) (omega (arith, ints, positive.1)) (ap (is_inside (solid_of figure)) (points_stay i ray t) ∙ inside)))
