-- The daughters that are kept for each volume.
use Rattle.std.proofs.Common.{◌≡◌, ◌∙◌, ℕ, ◌+◌, ◌<◌, List, [], ◌∷◌, ◌++◌, length, take, map, get_or, slice_get, Some, sym, ap, subst, arith}
use Rattle.std.specs.Option.{option_map}
use Rattle.std.proofs.lemmas.List.{length-map, get_or-map, take_more}
use Rattle.std.proofs.lemmas.List.FromFn.{length-map-range_with_len, get_or-map-range_with_len}
use Rattle.std.proofs.lemmas.Option.{slice_get-get_or, slice_get-map, get_or_from_slice_get}
use Rattle.gx_num.specs.declared.extent.Extent.{Extent}
use Rattle.gx_convex.specs.Extent.{extent_of}
use Rattle.gx_tree.specs.declared.instance.Instance.{Instance}
use Rattle.gx_tree.specs.Hierarchy.{Hierarchy, instances, IsInstance}
use Rattle.gx_tree.specs.Fault.{IsTree}
use Rattle.gx_check.specs.Verdicts.{placed_vertices}
use Rattle.gx_sealed.specs.declared.placed.Daughter.{Daughter}
use Rattle.gx_sealed.specs.Placed.{daughter_of, daughters_of, all_daughters, IsDaughter}

-- a front of a list, and the next element
pub one_more : {X : Type 0} (all front : List X) (k : ℕ) (x : X) → k < length all → front ≡ take k all → slice_get all k ≡ Some x → front ++ x ∷ [] ≡ take (k + 1) all
one_more all front k x less same at = ap (λ f. f ++ x ∷ []) same ∙ ap (λ y. take k all ++ y ∷ []) (sym (get_or_from_slice_get all k x x at)) ∙ sym (take_more all k x less)

pub length-daughters_of : (h : Hierarchy) (v : ℕ) → length (daughters_of h v) ≡ length (instances h v)
unfolding daughters_of
length-daughters_of h v = length-map (instances h v) (daughter_of h)

pub placed_at : (h : Hierarchy) (v k : ℕ) (i : Instance) (extent : Extent) → slice_get (instances h v) k ≡ Some i → extent ≡ extent_of (placed_vertices h i) → slice_get (daughters_of h v) k ≡ Some (record { instance = i; extent = extent })
unfolding daughters_of
placed_at h v k i extent at is = slice_get-map (daughter_of h) (instances h v) k ∙ ap (option_map (daughter_of h)) at ∙ ap (λ (e : Extent). Some (record { instance = i; extent = e })) (sym is)

pub length-all_daughters : (h : Hierarchy) → length (all_daughters h) ≡ length h.volumes
length-all_daughters h = length-map-range_with_len (daughters_of h) 0 (length h.volumes)

pub all_daughters_at : (h : Hierarchy) (v : ℕ) → v < length h.volumes → slice_get (all_daughters h) v ≡ Some (daughters_of h v)
all_daughters_at h v below =
    slice_get-get_or (all_daughters h) v [] (omega (arith, length-all_daughters h))
    ∙ ap Some (get_or-map-range_with_len (daughters_of h) 0 (length h.volumes) v v [] below (omega arith))

-- those of a volume
module _ {E : Type 0} (items : E → List Daughter) (all : List E) (h : Hierarchy) (same : map items all ≡ all_daughters h) where
  pub length-all : length all ≡ length h.volumes
  length-all = sym (length-map all items) ∙ ap length same ∙ length-all_daughters h

  pub items_at : (v : ℕ) (e : E) → v < length h.volumes → e ≡ get_or all v e → items e ≡ daughters_of h v
  items_at v e below at =
      ap items at
      ∙ sym (get_or-map items all v e [] (omega (arith, length-all)))
      ∙ ap (λ l. get_or l v []) same
      ∙ get_or_from_slice_get (all_daughters h) v (daughters_of h v) [] (all_daughters_at h v below)

pub daughter_at : (h : Hierarchy) → IsTree h → (v k : ℕ) (d : Daughter) → k < length (instances h v) → d ≡ get_or (daughters_of h v) k d → IsDaughter h v k d
unfolding daughters_of
daughter_at h tree v k d less at =
    let i = get_or (instances h v) k d.instance in
    let own : d ≡ daughter_of h i = at ∙ get_or-map (daughter_of h) (instances h v) k d.instance d less in
    let same : i ≡ d.instance = sym (ap (λ (d : Daughter). d.instance) own) in
    record {
      at = slice_get-get_or (instances h v) k d.instance less ∙ ap Some same;
      extent = own ∙ ap (daughter_of h) same;
      instance = subst (IsInstance h) same (tree.placed v k d.instance less);
    }
