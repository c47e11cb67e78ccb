-- Values, faults and points worked by hand.
use Rattle.std.proofs.Common.{◌≡◌, ℤ, true, false, pos, neg_ℤ, List, [], ◌∷◌, Some, Ok, Err, refl}
use Rattle.gx_num.specs.declared.vector.V3.{V3}
use Rattle.gx_num.specs.Space.{is_in, is_inside}
use Rattle.gx_form.specs.Form.{collect_from}
use Rattle.gx_table.specs.declared.fault.FaultName.TheVariants.{Half, Flat, Scale, Count, Vertices}
use Rattle.gx_shapes.specs.declared.fault.SolidFault.TheVariants.{Whole}
use Rattle.gx_shapes.specs.declared.figure.Figure.TheVariants as figure
use Rattle.gx_shapes.specs.declared.kind.SolidKind.TheVariants as kind
use Rattle.gx_shapes.specs.Space.{point}
use Rattle.gx_shapes.specs.Solid.{solid_of, vertices_of}
use Rattle.gx_shapes.specs.Accepted.{accepted, first_fault}

-- ---- faults
-- TRD 0 0 1 1 5: no width at either end
narrow : first_fault kind.Trd (pos 0 ∷ pos 0 ∷ pos 1 ∷ pos 1 ∷ pos 5 ∷ []) ≡ Some (record { place = 1; name = Half })
narrow = refl

-- BOX 1 0 and no more: the value that is missing is no fault of those given
thin : first_fault kind.Cuboid (pos 1 ∷ pos 0 ∷ []) ≡ Some (record { place = 1; name = Half })
thin = refl

-- four corners of a square
square : accepted kind.Tet (pos 0 ∷ pos 0 ∷ pos 0 ∷ pos 1 ∷ pos 0 ∷ pos 0 ∷ pos 0 ∷ pos 1 ∷ pos 0 ∷ pos 1 ∷ pos 1 ∷ pos 0 ∷ []) ≡ Err (Whole Flat)
square = refl

-- a square of 20 by 20 at heights -5 and 5, there with a scale
abbrev prism : ℤ → ℤ → List ℤ
prism num den =
    pos 4 ∷ neg_ℤ (pos 10) ∷ neg_ℤ (pos 10) ∷ pos 10 ∷ neg_ℤ (pos 10) ∷ pos 10 ∷ pos 10 ∷ neg_ℤ (pos 10) ∷ pos 10
    ∷ pos 2 ∷ neg_ℤ (pos 5) ∷ pos 0 ∷ pos 0 ∷ pos 1 ∷ pos 1 ∷ pos 5 ∷ pos 0 ∷ pos 0 ∷ num ∷ den ∷ []

abbrev base : List V3
base = point (neg_ℤ (pos 10)) (neg_ℤ (pos 10)) (pos 0) ∷ point (pos 10) (neg_ℤ (pos 10)) (pos 0) ∷ point (pos 10) (pos 10) (pos 0) ∷ point (neg_ℤ (pos 10)) (pos 10) (pos 0) ∷ []

frustum : accepted kind.Extruded (prism (pos 1) (pos 2)) ≡ Ok (figure.Extruded base (record { z = neg_ℤ (pos 5); x = pos 0; y = pos 0; scale = record { num = pos 1; den = pos 1 } }) (record { z = pos 5; x = pos 0; y = pos 0; scale = record { num = pos 1; den = pos 2 } }))
unfolding collect_from
frustum = refl

-- ten thirds of a step are no corner
thirds : first_fault kind.Extruded (prism (pos 1) (pos 3)) ≡ Some (record { place = 17; name = Scale })
unfolding collect_from
thirds = refl

two_corners : first_fault kind.Extruded (pos 2 ∷ []) ≡ Some (record { place = 0; name = Count })
two_corners = refl

seventeen_corners : first_fault kind.Extruded (pos 17 ∷ []) ≡ Some (record { place = 0; name = Vertices })
seventeen_corners = refl

-- ---- solids
-- TRD 5 8 5 5 10: the end of 5 by 5 at -10, that of 8 by 5 at 10
vertices : vertices_of (figure.Trd (pos 5) (pos 8) (pos 5) (pos 5) (pos 10)) ≡ point (neg_ℤ (pos 5)) (neg_ℤ (pos 5)) (neg_ℤ (pos 10)) ∷ point (pos 5) (neg_ℤ (pos 5)) (neg_ℤ (pos 10)) ∷ point (neg_ℤ (pos 5)) (pos 5) (neg_ℤ (pos 10)) ∷ point (pos 5) (pos 5) (neg_ℤ (pos 10)) ∷ point (neg_ℤ (pos 8)) (neg_ℤ (pos 5)) (pos 10) ∷ point (pos 8) (neg_ℤ (pos 5)) (pos 10) ∷ point (neg_ℤ (pos 8)) (pos 5) (pos 10) ∷ point (pos 8) (pos 5) (pos 10) ∷ []
vertices = refl

-- half-way up TRD 4 8 4 8 40 the half-width is 6: (6, 0, 0) is on the surface, (7, 0, 0) is out
on_side : is_in (solid_of (figure.Trd (pos 4) (pos 8) (pos 4) (pos 8) (pos 40))) (record { x = pos 6; y = pos 0; z = pos 0; w = pos 1 }) ≡ true
on_side = refl

not_inside : is_inside (solid_of (figure.Trd (pos 4) (pos 8) (pos 4) (pos 8) (pos 40))) (record { x = pos 6; y = pos 0; z = pos 0; w = pos 1 }) ≡ false
not_inside = refl

out_of_side : is_in (solid_of (figure.Trd (pos 4) (pos 8) (pos 4) (pos 8) (pos 40))) (record { x = pos 7; y = pos 0; z = pos 0; w = pos 1 }) ≡ false
out_of_side = refl

-- (1/5, 1/5, 1/5) is inside the corner of a cube, in whichever order its points are given
inside_corner : is_inside (solid_of (figure.Tet (point (pos 0) (pos 0) (pos 0)) (point (pos 1) (pos 0) (pos 0)) (point (pos 0) (pos 1) (pos 0)) (point (pos 0) (pos 0) (pos 1)))) (record { x = pos 1; y = pos 1; z = pos 1; w = pos 5 }) ≡ true
inside_corner = refl

inside_turned : is_inside (solid_of (figure.Tet (point (pos 0) (pos 0) (pos 0)) (point (pos 0) (pos 1) (pos 0)) (point (pos 1) (pos 0) (pos 0)) (point (pos 0) (pos 0) (pos 1)))) (record { x = pos 1; y = pos 1; z = pos 1; w = pos 5 }) ≡ true
inside_turned = refl
