-- The boxes of a tree that stands for cells.
use Rattle.std.proofs.Common.{◌≡◌, ◌⊎◌, inl, inr, ℕ, zero, suc, List, [], ◌∷◌, length, refl, ap, ◌∙◌, Option, None, Some}
use Rattle.std.specs.Prelude.{flat_map}
use Rattle.gx_num.specs.declared.extent.Extent.{Extent}
use Rattle.gx_voxel.specs.Cut.{Cut, cut_of}
use Rattle.gx_voxel.specs.Members.{Held}
use Rattle.gx_voxel.specs.Cells.{Side, Cell, side_of, without, cells_within}
use Rattle.gx_voxel.specs.Proxy.{low_of, high_of, proxy_of, axis_of, list_of, content_of, Alike, IsRun, StandsAs, StandsWithin, boxes_within}
use Rattle.gx_voxel.specs.Laws.{FlatOfTreeIsCells}
use Rattle.gx_voxel.specs.declared.proxy.Proxy.{Proxy}
use Rattle.gx_voxel.specs.declared.proxy.Header.{Header}
use Rattle.gx_voxel.specs.declared.proxy.Run.{Run}

flat_map-alike : {X Y A : Type 0} (R : X → Y → Type 0) (f : X → List A) (g : Y → List A) → ((x : X) (y : Y) → R x y → f x ≡ g y) → (xs : List X) (ys : List Y) → Alike R xs ys → flat_map f xs ≡ flat_map g ys
flat_map-alike R f g each [] [] all = refl
flat_map-alike R f g each [] (y ∷ ys) all = absurd all
flat_map-alike R f g each (x ∷ xs) [] all = absurd all
flat_map-alike R f g each (x ∷ xs) (y ∷ ys) all = let one = each x y all.0 in let rest = flat_map-alike R f g each xs ys all.1 in cc

-- a header's run as a side of boxes
abbrev side : ℕ → Run → Side
side axis r = record { axis = axis; low = low_of r; high = high_of r }

abbrev boxes_by : (Header → List Cell) → List Side → Held ⊎ Header → List Cell
boxes_by deeper box (inl held) = record { box = box; members = held.numbers } ∷ []
boxes_by deeper box (inr h) = deeper h

flat-within : (at : ℕ → Extent) (n : ℕ) (box : List Side) (p : Proxy) (ks axes : List ℕ) → StandsWithin at n p ks axes → boxes_within n box p ≡ cells_within at n box ks axes
unfolding boxes_within StandsWithin cells_within
flat-within at zero box p ks axes stands = ap (λ c. boxes_by (λ h. []) box c) stands.is ∙ ap (λ ms. record { box = box; members = ms } ∷ []) stands.numbers
flat-within at (suc n) box p ks axes stands = go (cut_of at ks axes) stands (λ box q members axis. flat-within at n box q members (without axis axes))
  where
    go : (o : Option Cut) → StandsAs at (λ axis q members. StandsWithin at n q members (without axis axes)) p ks o
        → ((box : List Side) (q : Proxy) (members : List ℕ) (axis : ℕ) → StandsWithin at n q members (without axis axes) → boxes_within n box q ≡ cells_within at n box members (without axis axes))
        → boxes_by (λ h. flat_map (λ r. boxes_within n (side (axis_of h) r ∷ box) (proxy_of r)) (list_of h)) box (content_of p) ≡ elim o as (λ _. List Cell) [
          | None ↦ record { box = box; members = ks } ∷ []
          | Some cut ↦ flat_map (λ run. cells_within at n (side_of cut.axis run ∷ box) run.members (without cut.axis axes)) cut.runs
        ]
    go None stands deeper = ap (λ c. boxes_by (λ h. flat_map (λ r. boxes_within n (side (axis_of h) r ∷ box) (proxy_of r)) (list_of h)) box c) stands.is ∙ ap (λ ms. record { box = box; members = ms } ∷ []) stands.numbers
    go (Some cut) stands deeper =
        ap (λ c. boxes_by (λ h. flat_map (λ r. boxes_within n (side (axis_of h) r ∷ box) (proxy_of r)) (list_of h)) box c) stands.1
        ∙ flat_map-alike (IsRun (λ q members. StandsWithin at n q members (without cut.axis axes))) (λ r. boxes_within n (side (axis_of stands.0) r ∷ box) (proxy_of r))
        (λ run. cells_within at n (side_of cut.axis run ∷ box) run.members (without cut.axis axes))
        (λ r run is. let e : side (axis_of stands.0) r ≡ side_of cut.axis run = cc (stands.2, is.low, is.high) in
        ap (λ s. boxes_within n (s ∷ box) (proxy_of r)) e ∙ deeper (side_of cut.axis run ∷ box) (proxy_of r) run.members cut.axis is.proxy)
        (list_of stands.0) cut.runs stands.3

pub flat : FlatOfTreeIsCells
flat at p ks axes stands = flat-within at (length axes) [] p ks axes stands
