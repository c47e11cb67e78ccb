-- Texts worked by hand.
use Rattle.std.proofs.Common.{◌≡◌, ℕ, ℤ, pos, neg_ℤ, List, [], ◌∷◌, ◌++◌, codes, map, flat_map, Option, Some, None, refl}
use Rattle.std.specs.Fmt.{digits}
use Rattle.gx_num.specs.declared.vector.V3.{V3}
use Rattle.gx_num.specs.declared.ray.Ray.{Ray}
use Rattle.gx_rotation.specs.Matrix.{identity}
use Rattle.gx_rotation.specs.Rotation.{matrix_of, number_of}
use Rattle.gx_shapes.specs.declared.section.Section.{Section}
use Rattle.gx_shapes.specs.declared.facet.Facet.{Facet}
use Rattle.gx_shapes.specs.declared.figure.Figure.{Figure}
use Rattle.gx_shapes.specs.declared.figure.Figure.TheVariants as figure
use Rattle.gx_shapes.specs.Space.{point}
use Rattle.gx_tree.specs.declared.placement.Placement.{Placement}
use Rattle.gx_tree.specs.declared.placement.Placement.TheVariants as placement
use Rattle.gx_tree.specs.Volume.{Volume}
use Rattle.gx_tree.specs.Hierarchy.{Hierarchy}
use Rattle.gx_decl.specs.declared.declaration.Declaration.{Declaration}
use Rattle.gx_decl.specs.declared.declaration.Declaration.TheVariants as declaration
use Rattle.gx_decl.specs.declared.declaration.Form.{Form}
use Rattle.gx_decl.specs.declared.declaration.Form.TheVariants as form
use Rattle.gx_canon.specs.Text.{joined}
use Rattle.gx_canon.specs.Words.{words_of}
use Rattle.gx_canon.specs.Canonical.{turns, canonical}

-- ---- a whole text: two small boxes beside each other, and a ray through both

abbrev box : ℤ → List ℕ → List ℕ → List Placement → Volume
box half name material placements = record { name = name; solid = figure.Cuboid half half half; material = material; placements = placements }

abbrev pair : Hierarchy
pair = record {
  volumes =
      box (pos 20) (codes "world") (codes "Air") (placement.Single 1 (pos 1) identity (point (neg_ℤ (pos 5)) (pos 0) (pos 0)) ∷ placement.Single 1 (pos 2) identity (point (pos 5) (pos 0) (pos 0)) ∷ [])
      ∷ box (pos 5) (codes "b") (codes "Lead") [] ∷ [];
  world = 0;
}

abbrev ray : Ray
ray = record { o = point (neg_ℤ (pos 30)) (pos 0) (pos 0); d = point (pos 1) (pos 0) (pos 0) }

pair_text : canonical pair (ray ∷ []) ≡ flat_map (λ line. line ++ 10 ∷ []) (
    codes ":ROTM R0 1 0 0 0 1 0 0 0 1"
    ∷ codes ":VOLU world BOX 20 20 20 Air"
    ∷ codes ":VOLU b BOX 5 5 5 Lead"
    ∷ codes ":PLACE b 1 world R0 -5 0 0"
    ∷ codes ":PLACE b 2 world R0 5 0 0"
    ∷ codes ":RAY -30 0 0 1 0 0" ∷ []
    )
unfolding digits matrix_of number_of
pair_text = refl

-- ---- rotations: each once, in the order of their numbers; a quarter turn about z is number 10

abbrev turned : ℕ → Placement
turned k = placement.Linear 0 0 (matrix_of k) 2 (pos 4) (pos 0)

rotations : map (λ d. joined (words_of d)) (turns (box (pos 1) (codes "a") (codes "m") (turned 10 ∷ placement.Replica 0 1 2 (pos 4) ∷ turned 0 ∷ []) ∷ box (pos 1) (codes "b") (codes "m") (turned 10 ∷ []) ∷ [])) ≡ codes ":ROTM R0 1 0 0 0 1 0 0 0 1" ∷ codes ":ROTM R10 0 -1 0 1 0 0 0 0 1" ∷ []
unfolding digits matrix_of number_of
rotations = refl

-- ---- a line of each kind of solid and of placement

abbrev volume : Figure → Declaration
volume solid = declaration.Volume (codes "v") solid (codes "Iron")

abbrev place : Option (List ℕ) → Form → Declaration
place rotation form = declaration.Place (codes "v") (codes "m") rotation form

abbrev end : ℤ → ℤ → Section
end z den = record { z = z; x = pos 0; y = pos 3; scale = record { num = pos 1; den = den } }

abbrev facet : Option V3 → Facet
facet d = record { a = point (pos 0) (pos 0) (pos 0); b = point (pos 9) (pos 0) (pos 0); c = point (pos 0) (pos 9) (pos 0); d = d }

solids : map (λ f. joined (words_of (volume f))) (
    figure.Trd (pos 1) (pos 2) (pos 3) (pos 4) (pos 5)
    ∷ figure.Tet (point (pos 0) (pos 0) (pos 0)) (point (pos 1) (pos 0) (pos 0)) (point (pos 0) (pos 2) (pos 0)) (point (pos 0) (pos 0) (neg_ℤ (pos 16)))
    ∷ figure.Extruded (point (pos 0) (pos 0) (pos 0) ∷ point (pos 8) (pos 0) (pos 0) ∷ point (pos 0) (pos 8) (pos 0) ∷ []) (end (neg_ℤ (pos 5)) (pos 1)) (end (pos 5) (pos 2))
    ∷ figure.Tessellated (facet None ∷ facet (Some (point (pos 9) (pos 9) (pos 0))) ∷ []) ∷ []
    ) ≡ codes ":VOLU v TRD 1 2 3 4 5 Iron" ∷ codes ":VOLU v TET 0 0 0 1 0 0 0 2 0 0 0 -16 Iron" ∷ codes ":VOLU v EXTRUDED 3 0 0 8 0 0 8 2 -5 0 3 1 5 0 3 1/2 Iron" ∷ codes ":VOLU v TESSELLATED 2 3 0 0 0 9 0 0 0 9 0 4 0 0 0 9 0 0 0 9 0 9 9 0 Iron" ∷ []
unfolding digits
solids = refl

placements : map (λ d. joined (words_of d)) (
    place None (form.Replica 2 4 (pos 10)) ∷ place (Some (codes "R3")) (form.Linear 1 3 (pos 20) (neg_ℤ (pos 20))) ∷ place (Some (codes "R3")) (form.Square 1 2 3 (pos 4) (pos 5) (neg_ℤ (pos 6)) (pos 7)) ∷ []
    ) ≡ codes ":REPL v m Z 4 10" ∷ codes ":PLACE_PARAM v 0 m LINEAR_Y R3 3 20 -20" ∷ codes ":PLACE_PARAM v 0 m SQUARE_XZ R3 2 3 4 5 -6 7" ∷ []
unfolding digits
placements = refl
