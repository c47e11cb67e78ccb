-- The laws of cells.
use Rattle.std.specs.Prelude.{◌≡◌, ◌≢◌, ℕ, pos, ◌<ℤ◌, List, [], ◌∷◌, length, Some}
use Rattle.std.specs.List.{All}
use Rattle.std.proofs.Common.{inr}
use Rattle.gx_num.specs.Vector4.{Vec4}
use Rattle.gx_num.specs.declared.extent.Extent.{Extent}
use Rattle.gx_offers.specs.Offers.{AnyByRecursion, IsOneOf}
use Rattle.gx_boxes.specs.Boxes.{IsProper, IsWithinOpen}
use Rattle.gx_voxel.specs.Cut.{Cut, cut_of}
use Rattle.gx_voxel.specs.Cells.{IsInBox, cells}
use Rattle.gx_voxel.specs.Proxy.{content_of, list_of, AreRuns, StandsWithin, StandsFor, boxes_within}
use Rattle.gx_voxel.specs.declared.proxy.Proxy.{Proxy}
use Rattle.gx_voxel.specs.declared.proxy.Header.{Header}

-- a point in a member's open extent is in a box of the cells that has the member
abbrev pub CellsCover : Type 0
CellsCover = (at : ℕ → Extent) (ks axes : List ℕ) (k : ℕ) (p : Vec4) → pos 0 <ℤ p.w → IsOneOf k ks → IsWithinOpen (at k) p
    → AnyByRecursion (λ c. IsInBox p c.box × IsOneOf k c.members) (cells at ks axes)

-- the boxes of a proxy that stands for cells are these cells
abbrev pub FlatOfTreeIsCells : Type 0
FlatOfTreeIsCells = (at : ℕ → Extent) (p : Proxy) (ks axes : List ℕ) → StandsFor at p ks axes → boxes_within (length axes) [] p ≡ cells at ks axes

-- P holds of each element and the next
abbrev pub EachNext : {X : Type 0} → (X → X → Type 0) → List X → Type 0
EachNext R [] = Unit {0}
EachNext R (x ∷ []) = Unit {0}
EachNext R (x ∷ y ∷ xs) = R x y × EachNext R (y ∷ xs)

-- two adjacent runs of a cut have different members
abbrev pub AdjacentRunsDiffer : Type 0
AdjacentRunsDiffer = (at : ℕ → Extent) (ks axes : List ℕ) (cut : Cut) → cut_of at ks axes ≡ Some cut → EachNext (λ run next. run.members ≢ next.members) cut.runs

-- The runs of a header that stands for members begin at slice 0 and follow one another, where no member is empty on an axis.
abbrev pub HeadersHaveRuns : Type 0
HeadersHaveRuns = (at : ℕ → Extent) (n : ℕ) (p : Proxy) (ks axes : List ℕ) (h : Header) → All (λ k. IsProper (at k)) ks → StandsWithin at n p ks axes → content_of p ≡ inr h → AreRuns (list_of h)
