-- What the lines of a sample text declare together.
use Rattle.std.proofs.Common.{◌≡◌, ℕ, ◌+◌, ◌≤◌, pos, neg_ℤ, codes, List, [], ◌∷◌, ◌++◌, drop, slice_index_or, Some, Ok, refl, ap, ◌∙◌}
use Rattle.gx_num.specs.declared.ray.Ray.{Ray}
use Rattle.gx_text.specs.Lines.{ended}
use Rattle.gx_expr.specs.Param.{Param}
use Rattle.gx_shapes.specs.Space.{point}
use Rattle.gx_rotation.specs.Matrix.{Matrix, identity}
use Rattle.gx_decl.specs.declared.declaration.Form.TheVariants.{Single, Square}
use Rattle.gx_gather.specs.declared.item.Item.{Item}
use Rattle.gx_gather.specs.declared.item.Item.TheVariants.{Volume, Place}
use Rattle.gx_gather.specs.declared.item.Shape.TheVariants.{Own}
use Rattle.gx_gather.specs.Table.{Table, empty}
use Rattle.gx_gather.specs.Declarations.{Declarations, nothing_declared}
use Rattle.gx_canon.specs.Canonical.{millimetre}
use Rattle.gx_reader.specs.Reading.{with_line, read_lines, text_lines}
use Rattle.gx_sample.specs.Text.{fixed_lines, sample_text}
use Rattle.gx_sample_clean.specs.Sample.{first, start, world_solid, cell_solid, core_solid, ray, sample_rays}
use Rattle.gx_sample_clean.proofs.Values.{one, both}
use Rattle.gx_sample_clean.proofs.Text.{head, second, first_ended, second_ended, all_lines}
use Rattle.gx_sample_clean.proofs.Lines.{count_line, half_line, turn_line, world_line, cell_line, core_line, cells_line, core_placed, first_ray, second_ray, third_ray}

-- ---- one line more

step : (d e : Declarations) (number : ℕ) (bytes : List ℕ) (rest : List (List ℕ)) → with_line millimetre d (ended number bytes) ≡ Ok e → read_lines millimetre d number (bytes ∷ rest) ≡ read_lines millimetre e (number + 1) rest
step d e number bytes rest is = rw is refl

-- the k-th of the lines that are the same for each n, and those from it on
abbrev line_at : ℕ → List ℕ
line_at k = slice_index_or fixed_lines k []

abbrev from : ℕ → List (List ℕ)
from k = drop k fixed_lines ++ [] ∷ []

-- ---- what is declared after each line

abbrev state : List Param → ℕ → Table Matrix → List Item → List Ray → Declarations
state params lines turns items rays = record { params = params; param_lines = lines; solids = empty; turns = turns; items = items; rays = rays }

abbrev turned : Table Matrix
turned = record { names = codes "r0" ∷ []; values = identity ∷ [] }

abbrev world : ℕ → Item
world n = Volume 5 (codes "world") (Own (world_solid n)) (codes "Air")

abbrev cell : Item
cell = Volume 6 (codes "cell") (Own cell_solid) (codes "Lead")

abbrev core : Item
core = Volume 7 (codes "core") (Own core_solid) (codes "Wax")

abbrev cells : ℕ → Item
cells n = Place 8 (codes "cell") (codes "world") (Some (codes "r0")) (Square 0 n n (pos 20) (pos 20) (first n) (first n))

abbrev core_in_cell : Item
core_in_cell = Place 9 (codes "core") (codes "cell") (Some (codes "r0")) (Single (pos 1) (point (pos 0) (pos 0) (pos 0)))

abbrev pub declared : ℕ → List Item → List Ray → Declarations
declared n items rays = state (both n) 2 turned items rays

abbrev pub items : ℕ → List Item
items n = world n ∷ cell ∷ core ∷ cells n ∷ core_in_cell ∷ []

abbrev along_x : ℕ → Ray
along_x n = ray (point (start n) (pos 0) (pos 0)) (point (pos 1) (pos 0) (pos 0))

abbrev diagonal : ℕ → Ray
diagonal n = ray (point (start n) (start n) (pos 0)) (point (pos 1) (pos 1) (pos 0))

abbrev along_z : Ray
along_z = ray (point (pos 0) (pos 5) (neg_ℤ (pos 120))) (point (pos 0) (pos 0) (pos 1))

-- ---- all lines

module _ (n : ℕ) (some : 1 ≤ n) (few : n ≤ 64) where
  params_read : read_lines millimetre nothing_declared 1 (head n ∷ second n ∷ from 0) ≡ read_lines millimetre (declared n [] []) 5 (from 2)
  params_read =
      step nothing_declared nothing_declared 1 (head n) (second n ∷ from 0) (rw (first_ended n few) refl)
      ∙ step nothing_declared (state (one n) 1 empty [] []) 2 (second n) (from 0) (rw (second_ended n few, count_line n few) refl)
      ∙ step (state (one n) 1 empty [] []) (state (both n) 2 empty [] []) 3 (line_at 0) (from 1) (rw (half_line n few) refl)
      ∙ step (state (both n) 2 empty [] []) (declared n [] []) 4 (line_at 1) (from 2) (rw (turn_line n) refl)

  volumes_read : read_lines millimetre (declared n [] []) 5 (from 2) ≡ read_lines millimetre (declared n (world n ∷ cell ∷ core ∷ []) []) 8 (from 5)
  volumes_read =
      step (declared n [] []) (declared n (world n ∷ []) []) 5 (line_at 2) (from 3) (rw (world_line n few) refl)
      ∙ step (declared n (world n ∷ []) []) (declared n (world n ∷ cell ∷ []) []) 6 (line_at 3) (from 4) (rw (cell_line n) refl)
      ∙ step (declared n (world n ∷ cell ∷ []) []) (declared n (world n ∷ cell ∷ core ∷ []) []) 7 (line_at 4) (from 5) (rw (core_line n) refl)

  placements_read : read_lines millimetre (declared n (world n ∷ cell ∷ core ∷ []) []) 8 (from 5) ≡ read_lines millimetre (declared n (items n) []) 10 (from 7)
  placements_read =
      step (declared n (world n ∷ cell ∷ core ∷ []) []) (declared n (world n ∷ cell ∷ core ∷ cells n ∷ []) []) 8 (line_at 5) (from 6) (rw (cells_line n some few) refl)
      ∙ step (declared n (world n ∷ cell ∷ core ∷ cells n ∷ []) []) (declared n (items n) []) 9 (line_at 6) (from 7) (rw (core_placed n) refl)

  rays_read : read_lines millimetre (declared n (items n) []) 10 (from 7) ≡ Ok (declared n (items n) (sample_rays n))
  rays_read =
      step (declared n (items n) []) (declared n (items n) (along_x n ∷ [])) 10 (line_at 7) (from 8) (rw (first_ray n few) refl)
      ∙ step (declared n (items n) (along_x n ∷ [])) (declared n (items n) (along_x n ∷ diagonal n ∷ [])) 11 (line_at 8) (from 9) (rw (second_ray n few) refl)
      ∙ step (declared n (items n) (along_x n ∷ diagonal n ∷ [])) (declared n (items n) (sample_rays n)) 12 (line_at 9) (from 10) (rw (third_ray n) refl)

  pub lines_read : text_lines millimetre (sample_text n) ≡ Ok (declared n (items n) (sample_rays n))
  lines_read = ap (read_lines millimetre nothing_declared 1) (all_lines n few) ∙ params_read ∙ volumes_read ∙ placements_read ∙ rays_read
