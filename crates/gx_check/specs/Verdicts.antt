-- The verdicts of a hierarchy, each with what shows it; their order is this project's own.
use Rattle.std.specs.Prelude.{ℕ, ◌+◌, ◌-◌, Bool, true, false, not, List, [], ◌++◌, length, map, filter, flat_map, count_by, slice_index_or, Option, None, Some, unwrap_or}
use Rattle.std.specs.List.{range_with_len}
use Rattle.gx_num.specs.declared.vector.V3.{V3}
use Rattle.gx_num.specs.Space.{HalfSpace}
use Rattle.gx_num.specs.Vector4.{Vec4}
use Rattle.gx_convex.specs.Points.{distinct}
use Rattle.gx_shapes.specs.Solid.{vertices_of}
use Rattle.gx_rotation.specs.Place.{placed_point}
use Rattle.gx_contain.specs.Outside.{first_outside}
use Rattle.gx_separate.specs.Between.{first_between}
use Rattle.gx_common.specs.Common.{common_of}
use Rattle.gx_tree.specs.declared.instance.Instance.{Instance}
use Rattle.gx_tree.specs.Hierarchy.{Hierarchy, volume_at, instances, numbers}
use Rattle.gx_check.specs.declared.counts.Counts.{Counts}
use Rattle.gx_check.specs.declared.selection.Selection.{Selection}
use Rattle.gx_check.specs.declared.selection.Selection.TheVariants as selection
use Rattle.gx_check.specs.declared.verdict.Verdict.{Verdict}
use Rattle.gx_check.specs.declared.verdict.Verdict.TheVariants.{Inner, Outer, Apart, Overlap}

-- the vertices of a volume's solid, each once
abbrev pub solid_vertices : Hierarchy → ℕ → List V3
solid_vertices h v = distinct (vertices_of (volume_at h.volumes v).solid)

-- those of a daughter's, in her mother's frame
abbrev pub placed_vertices : Hierarchy → Instance → List V3
placed_vertices h i = map (placed_point i.rotation i.offset) (solid_vertices h i.volume)

-- the vertices of each of a volume's daughters, by their ordinals
abbrev pub placed_daughters : Hierarchy → ℕ → List (List V3)
placed_daughters h v = map (placed_vertices h) (instances h v)

-- in, where no vertex is outside, else out with this vertex
abbrev pub contained : ℕ → ℕ → Option V3 → Verdict
contained mother ordinal None = Inner mother ordinal
contained mother ordinal (Some point) = Outer mother ordinal point

-- apart, where a plane is between the two, else overlapping at these points
abbrev pub parted : ℕ → ℕ → ℕ → Option HalfSpace → List Vec4 → Verdict
parted mother first second (Some plane) points = Apart mother first second plane
parted mother first second None points = Overlap mother first second points

-- a daughter against her mother, by the first of her vertices that is outside; the lists are the vertices of the mother and of each daughter
unfoldable pub daughter_verdict : ℕ → List V3 → List (List V3) → ℕ → Verdict
daughter_verdict mother outer daughters k = contained mother k (first_outside outer (slice_index_or daughters k []))

-- two daughters, by the first plane between them, else by their common points
unfoldable pub pair_verdict : ℕ → List (List V3) → ℕ → ℕ → Verdict
pair_verdict mother daughters i j =
    let a = slice_index_or daughters i [] in
    let b = slice_index_or daughters j [] in
    parted mother i j (first_between a b) (unwrap_or (common_of a b) [])

-- the ordinals of daughters from one on
abbrev pub ordinals_from : ℕ → List (List V3) → List ℕ
ordinals_from k daughters = range_with_len k (length daughters - k)

-- each daughter
unfoldable pub daughter_verdicts : ℕ → List V3 → List (List V3) → List Verdict
daughter_verdicts mother outer daughters = map (daughter_verdict mother outer daughters) (ordinals_from 0 daughters)

-- one daughter with each later one
unfoldable pub verdicts_with : ℕ → List (List V3) → ℕ → List Verdict
verdicts_with mother daughters i = map (pair_verdict mother daughters i) (ordinals_from (i + 1) daughters)

-- each daughter with each later one
unfoldable pub pair_verdicts : ℕ → List (List V3) → List Verdict
pair_verdicts mother daughters = flat_map (verdicts_with mother daughters) (ordinals_from 0 daughters)

-- in one mother: each daughter, then each pair
unfoldable pub verdicts_in : Hierarchy → ℕ → List Verdict
verdicts_in h v = daughter_verdicts v (solid_vertices h v) (placed_daughters h v) ++ pair_verdicts v (placed_daughters h v)

-- in each volume, in their order
unfoldable pub verdicts : Hierarchy → List Verdict
verdicts h = flat_map (verdicts_in h) (numbers h.volumes)

-- it says that the hierarchy isn't clean
abbrev pub refutes : Verdict → Bool
refutes (Inner mother ordinal) = false
refutes (Outer mother ordinal point) = true
refutes (Apart mother first second plane) = false
refutes (Overlap mother first second points) = true

-- it is of one daughter
abbrev pub is_of_daughter : Verdict → Bool
is_of_daughter (Inner mother ordinal) = true
is_of_daughter (Outer mother ordinal point) = true
is_of_daughter (Apart mother first second plane) = false
is_of_daughter (Overlap mother first second points) = false

-- the verdicts that are given
abbrev pub chosen : Selection → List Verdict → List Verdict
chosen selection.All given = given
chosen selection.Refuting given = filter refutes given

-- how many are of daughters, how many of pairs, and how many refute
abbrev pub counts_of : List Verdict → Counts
counts_of given = record {
  daughters = count_by is_of_daughter given;
  pairs = count_by (λ v. not (is_of_daughter v)) given;
  refuted = count_by refutes given;
}
