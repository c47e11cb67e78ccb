-- The daughters of a mother, placed in her frame.
use Rattle.std.proofs.Common.{◌≡◌, ℕ, ◌<◌, true, false, true≢false, List, [], length, get_or, slice_get, Option, Some, None, All, refl, sym, ap, ◌∙◌, subst, arith}
use Rattle.std.specs.Option.{is_some}
use Rattle.std.proofs.lemmas.List.{get_or-map}
use Rattle.std.proofs.lemmas.Option.{get_or_from_slice_get}
use Rattle.gx_num.specs.declared.vector.V3.{V3}
use Rattle.gx_num.specs.declared.extent.Extent.{Extent}
use Rattle.gx_num.specs.Space.{HalfSpace}
use Rattle.gx_convex.specs.Points.{are_coplanar}
use Rattle.gx_convex.specs.Extent.{extent_of}
use Rattle.gx_hull.specs.Hull.{IsVertices}
use Rattle.gx_separate.specs.Between.{first_between}
use Rattle.gx_common.specs.Reached.{are_extents_apart}
use Rattle.gx_common.proofs.Quick.{none_apart, apart_is}
use Rattle.gx_tree.specs.declared.instance.Instance.{Instance}
use Rattle.gx_tree.specs.Hierarchy.{Hierarchy, instances}
use Rattle.gx_check.specs.Kept.{AreKept, AreParted}
use Rattle.gx_check.specs.Verdicts.{placed_vertices, placed_daughters}

pub placed_at : (h : Hierarchy) (v k : ℕ) (i : Instance) → k < length (instances h v) → slice_get (instances h v) k ≡ Some i → placed_vertices h i ≡ get_or (placed_daughters h v) k []
placed_at h v k i less at = ap (placed_vertices h) (sym (get_or_from_slice_get (instances h v) k i i at)) ∙ sym (get_or-map (placed_vertices h) (instances h v) k i [] less)

-- ---- extents
plane_from_extents : (a b : List V3) → are_coplanar a ≡ false → are_coplanar b ≡ false → are_extents_apart (extent_of a) (extent_of b) ≡ true → (plane : HalfSpace) × (first_between a b ≡ Some plane)
plane_from_extents a b solid_a solid_b apart = some (first_between a b) refl (sym (apart_is a b solid_a solid_b None (sym (none_apart a b solid_a solid_b apart))))
  where
    some : (o : Option HalfSpace) → first_between a b ≡ o → is_some o ≡ true → (plane : HalfSpace) × (first_between a b ≡ Some plane)
    some (Some plane) e is = (plane, e)
    some None e is = absurd (true≢false (sym is))

module _ (hulls daughters : List (List V3)) (extents : List Extent) (same : hulls ≡ daughters) (kept : AreKept hulls extents) where
  solid_at : (k : ℕ) → k < length daughters → are_coplanar (get_or daughters k []) ≡ false
  solid_at k less = (subst (All IsVertices) same kept.vertices k [] less).solid

  extent_at : (k : ℕ) (box : Extent) → k < length daughters → box ≡ get_or extents k box → box ≡ extent_of (get_or daughters k [])
  extent_at k box less at =
      let within : k < length hulls = omega (arith, ap length same) in
      at ∙ ap (λ boxes. get_or boxes k box) kept.boxes ∙ get_or-map extent_of hulls k [] box within ∙ ap (λ ds. extent_of (get_or ds k [])) same

  pub apart_at : (i j : ℕ) (box other : Extent) → i < length daughters → j < length daughters → box ≡ get_or extents i box → other ≡ get_or extents j other → are_extents_apart box other ≡ are_extents_apart (extent_of (get_or daughters i [])) (extent_of (get_or daughters j []))
  apart_at i j box other first second at at_other = λ t. are_extents_apart (extent_at i box first at t) (extent_at j other second at_other t)

  pub parted_at : (i j : ℕ) (box other : Extent) → i < length daughters → j < length daughters → box ≡ get_or extents i box → other ≡ get_or extents j other → are_extents_apart box other ≡ true → AreParted daughters i j
  unfolding AreParted
  parted_at i j box other first second at at_other apart =
      plane_from_extents (get_or daughters i []) (get_or daughters j []) (solid_at i first) (solid_at j second)
      (sym (apart_at i j box other first second at at_other) ∙ apart)
