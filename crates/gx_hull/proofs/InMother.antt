-- Placed vertices keep what the vertices of a hull keep.
use Rattle.std.proofs.Common.{◌∙◌, ℕ, ◌<◌, List, map, unsigned_abs, All, ap, subst, arith}
use Rattle.std.proofs.lemmas.List.{length-map}
use Rattle.std.proofs.lemmas.List.Elements.{All-map, All-weaker}
use Rattle.gx_num.specs.declared.vector.V3.{V3}
use Rattle.gx_num.specs.declared.vector.TheConstants.{M}
use Rattle.gx_num.specs.Vector.{IsWithin}
use Rattle.gx_algebra.proofs.Lists.{All-from_map}
use Rattle.gx_plane.specs.Plane.{reach, IsPlane}
use Rattle.gx_convex.specs.Faces.{faces_of}
use Rattle.gx_convex.proofs.FaceFacts.{IsPlane-faces_of}
use Rattle.gx_rotation.specs.Rotation.{matrix_of}
use Rattle.gx_rotation.specs.Matrix.{transpose, image}
use Rattle.gx_rotation.specs.Place.{placed_point, placed_face}
use Rattle.gx_rotation.proofs.Tables.{IsWithin-image_back}
use Rattle.gx_place.proofs.Moved.{distinct-map, are_coplanar-map}
use Rattle.gx_place.proofs.Turned.{IsMotion-placed, IsTurn-matrix_of}
use Rattle.gx_place.proofs.Placed.{faces_placed}
use Rattle.gx_place.proofs.Sizes.{IsWithin-sum_of}
use Rattle.gx_hull.specs.Hull.{IsVertices}

module _ (k : ℕ) (lt : k < 24) (t : V3) (offset : IsWithin (unsigned_abs M) t) (vertices : List V3) (within : All (IsWithin (unsigned_abs M)) vertices) where
  abbrev point : V3 → V3
  point = placed_point (matrix_of k) t

  placed_within : All (IsWithin reach) (map point vertices)
  placed_within =
      All-map (IsWithin reach) point vertices
      (All-weaker (IsWithin (unsigned_abs M)) (λ v. IsWithin reach (point v)) (λ v h. IsWithin-sum_of (unsigned_abs M) t (image (transpose (matrix_of k)) v) offset (IsWithin-image_back k lt (unsigned_abs M) v h)) vertices within)

  pub IsVertices-placed : IsVertices vertices → IsVertices (map point vertices)
  IsVertices-placed h =
      let motion = IsMotion-placed (matrix_of k) (IsTurn-matrix_of k lt) t in
      record {
        few = omega (arith, length-map vertices point, h.few);
        within = placed_within;
        once = distinct-map point (placed_face (matrix_of k) t) motion vertices ∙ ap (map point) h.once;
        solid = are_coplanar-map point (placed_face (matrix_of k) t) motion vertices ∙ h.solid;
      }

  pub faces_fit : All (λ face. IsPlane (placed_face (matrix_of k) t face)) (faces_of vertices)
  faces_fit = All-from_map IsPlane (placed_face (matrix_of k) t) (faces_of vertices) (subst (All IsPlane) (faces_placed k lt t vertices) (IsPlane-faces_of (map point vertices) placed_within))
